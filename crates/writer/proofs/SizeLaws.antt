-- The numbers of bytes: of a body by its kind, of the contents, of the file. Assumes nothing.
use mathlib.Core.Path.{◌≡◌, refl, ◌∙◌}
use mathlib.Core.List.{List, [], ◌∷◌}
use Prim.Native.Nat.{ℕ, ◌+◌, ◌*◌}
use native.Mathlib.Omega.{arith}
use lib.ListN.{length, length-append}
use Rattle.watchfile.specs.Rules.{size_of}
use Rattle.watchfile.specs.Format.{kind_of, body_bytes, row_bytes, rows_bytes, bodies_bytes, file_of, start_of}
use Rattle.watchfile.specs.declared.Body.{Body}
use Rattle.watchfile.specs.declared.Body.TheVariants.{Pressure, Tendency, Wind, Humidity}
use Rattle.watchfile.specs.declared.Record.{Record}

pub length_body : (b : Body) → length (body_bytes b) ≡ size_of (kind_of b)
length_body (Pressure p) = refl
length_body (Tendency change absent) = refl
length_body (Wind speed direction) = refl
length_body (Humidity e saturation deficit relative dew) = refl

pub length_rows : (rs : List Record) (next : ℕ) → length (rows_bytes rs next) ≡ 8 * length rs
unfolding rows_bytes
length_rows [] next = refl
length_rows (r ∷ rs) next =
    length-append (row_bytes r next) (rows_bytes rs (next + size_of (kind_of r.body)))
    ∙ omega (arith, length_rows rs (next + size_of (kind_of r.body)))

pub length_file : (rs : List Record) → length (file_of rs) ≡ 4 + 8 * length rs + length (bodies_bytes rs)
length_file rs =
    omega (arith, length-append (rows_bytes rs (start_of (length rs))) (bodies_bytes rs), length_rows rs (start_of (length rs)))
