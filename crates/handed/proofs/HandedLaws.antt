-- What is made of records that are handed over. Assumes nothing.
use mathlib.Core.Path.{◌≡◌, refl}
use mathlib.Core.Bool.{true, false, and-false}
use Prim.Native.Nat.{ℕ, ◌<◌}
use native.Mathlib.Omega.{arith}
use lib.IntN.{ℤ, pos}
use borrow.Author.Tests.{le-leb}
use Rattle.number.specs.declared.Kept.{Kept}
use Rattle.watchfile.specs.Rules.{pressure_right, change_right, absent_right, speed_right, direction_right, e_right}
use Rattle.watchfile.specs.Format.{body_figures, figures_of, body_right}
use Rattle.watchfile.specs.declared.Body.{Body}
use Rattle.watchfile.specs.declared.Body.TheVariants.{Pressure, Tendency, Wind, Humidity}
use Rattle.watchfile.specs.declared.Record.{Record}
use Rattle.watchfile.proofs.SmallLaws.{Small}
use Rattle.handed.specs.Handed.{half, octet, misfit, record_of}

half_whole : (n : ℕ) → n < 65536 → half (pos n) ≡ true
half_whole n h = rw (le-leb 0 n (omega arith), le-leb n 65535 (omega arith))

octet_whole : (n : ℕ) → n < 256 → octet (pos n) ≡ true
octet_whole n h = rw (le-leb 0 n (omega arith), le-leb n 255 (omega arith))

body_back : (m : ℕ) (b : Body) → Small b → record_of (body_figures m b) ≡ record { minute = m; body = b }
body_back m (Pressure p) h = rw (half_whole p h)
body_back m (Tendency change absent) h = rw (octet_whole absent h.1)
body_back m (Wind speed direction) h = rw (half_whole speed h.0, half_whole direction h.1)
body_back m (Humidity e saturation deficit relative dew) h = rw (half_whole e h.0, half_whole saturation h.1, half_whole deficit h.2, octet_whole relative h.3)

-- a record whose fields are small comes back from its figures
pub of_figures : (r : Record) → Small r.body → record_of (figures_of r) ≡ r
of_figures r h = body_back r.minute r.body h

-- what stands for a body that does not fit its bytes, or is of no kind, breaks the file rules
pub misfit_refused : (rule : ℕ → ℤ) → body_right rule misfit ≡ false
unfolding pressure_right
misfit_refused rule = refl

pub tendency_misfit : (rule : ℕ → ℤ) (change : Kept) → body_right rule (Tendency change 255) ≡ false
unfolding absent_right
tendency_misfit rule change = and-false (change_right change.v)

pub wind_misfit : (rule : ℕ → ℤ) → body_right rule (Wind 0 1) ≡ false
unfolding direction_right
wind_misfit rule = and-false (speed_right 0)

pub humidity_misfit : (rule : ℕ → ℤ) (dew : Kept) → body_right rule (Humidity 0 0 0 0 dew) ≡ false
unfolding e_right
humidity_misfit rule dew = refl
