-- The fields of any bytes are small. Assumes nothing.
use mathlib.Core.Bool.{Bool, true, false, cond}
use mathlib.Core.List.{List}
use Prim.Native.Nat.{ℕ, ◌≤◌, ◌<◌}
use lib.Dec.{eqb}
use lib.IntN.{nat_abs}
use Rattle.octets.specs.Bytes.{AreBytes, le16}
use Rattle.octets.proofs.ByteLaws.{le16_small, signed16_small}
use Rattle.watchfile.specs.Format.{body_of}
use Rattle.watchfile.specs.declared.Body.{Body}
use Rattle.watchfile.specs.declared.Body.TheVariants.{Pressure, Tendency, Wind, Humidity}

-- each number of a body fits its bytes
abbrev pub Small : Body → Type 0
Small (Pressure p) = p < 65536
Small (Tendency change absent) = (nat_abs change.v ≤ 32768) × (absent < 256)
Small (Wind speed direction) = (speed < 65536) × (direction < 65536)
Small (Humidity e saturation deficit relative dew) =
    (e < 65536) × (saturation < 65536) × (deficit < 65536) × (relative < 256) × (nat_abs dew.v ≤ 32768)

small_either : (t : Bool) (x y : Body) → Small x → Small y → Small (cond t x y)
small_either true x y p q = p
small_either false x y p q = q

pub small_body : (kind : ℕ) (s : List ℕ) → AreBytes s → Small (body_of kind s)
small_body kind s b =
    small_either (eqb kind 1) _ _ (le16_small s 0 b)
    (small_either (eqb kind 2) _ _ (signed16_small (le16 s 0) (le16_small s 0 b), b 2)
    (small_either (eqb kind 3) _ _ (le16_small s 0 b, le16_small s 2 b)
    (le16_small s 0 b, le16_small s 2 b, le16_small s 4 b, b 6, signed16_small (le16 s 7) (le16_small s 7 b))))
