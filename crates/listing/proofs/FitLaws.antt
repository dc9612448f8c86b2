-- Every listing fits: the fields of any bytes have few digits, a good file has at most 48 records, and the place where a broken one
-- is wrong lies within it. Assumes nothing.
use mathlib.Core.Path.{◌≡◌, refl, sym, ap, ◌∙◌}
use mathlib.Core.List.{List, ◌++◌}
use Prim.Native.Nat.{ℕ, zero, suc, ◌+◌, ◌*◌, ◌^◌, ◌≤◌, ◌<◌}
use native.Mathlib.Omega.{arith}
use lib.IntN.{ℤ}
use lib.ListN.{length, get_or, drop, length-append}
use borrow.Author.Tests.{leb-true}
use Rattle.number.specs.Refusal.{Answer, refused, given}
use Rattle.number.proofs.RefusalLaws.{given_is}
use Rattle.text.proofs.DecimalLaws.{decimal_length, decimal_of-length}
use Rattle.octets.specs.Bytes.{AreBytes, le32}
use Rattle.octets.proofs.ByteLaws.{bytes_drop, le32_small}
use Rattle.watchfile.specs.Rules.{size_of}
use Rattle.watchfile.specs.Fields.{field_tests}
use Rattle.watchfile.specs.Format.{body_of, fields, count_of, start_of, records_from, records, reading}
use Rattle.watchfile.specs.declared.Body.{Body}
use Rattle.watchfile.specs.declared.Body.TheVariants.{Pressure, Tendency, Wind, Humidity}
use Rattle.watchfile.specs.declared.Record.{Record}
use Rattle.watchfile.proofs.FieldLaws.{given_passed}
use Rattle.watchfile.proofs.SmallLaws.{Small, small_body}
use Rattle.listing.specs.Listing.{letter, body_text, record_line, record_lines, head_line, listing_of, LINE, TEXT}
use Rattle.listing.proofs.PlaceLaws.{place_inside}

-- ---- a line fits

body_fits : (b : Body) → Small b → length (body_text b) ≤ 34
body_fits (Pressure p) h = omega (arith, decimal_length 4 p (omega arith))
body_fits (Tendency change absent) h =
    simp length-append (omega (arith, decimal_of-length 4 change.v (omega (arith, h.0)), decimal_length 2 absent (omega (arith, h.1))))
body_fits (Wind speed direction) h =
    simp length-append (omega (arith, decimal_length 4 speed (omega (arith, h.0)), decimal_length 4 direction (omega (arith, h.1))))
body_fits (Humidity e saturation deficit relative dew) h =
    simp length-append
    (omega (
      arith,
      decimal_length 4 e (omega (arith, h.0)),
      decimal_length 4 saturation (omega (arith, h.1)),
      decimal_length 4 deficit (omega (arith, h.2)),
      decimal_length 2 relative (omega (arith, h.3)),
      decimal_of-length 4 dew.v (omega (arith, h.4)),
    ))

letter_fits : (b : Body) → length (letter b) ≡ 1
letter_fits (Pressure p) = refl
letter_fits (Tendency change absent) = refl
letter_fits (Wind speed direction) = refl
letter_fits (Humidity e saturation deficit relative dew) = refl

line_fits : (r : Record) → r.minute < 4294967296 → Small r.body → length (record_line r) ≤ LINE
line_fits r h l =
    simp length-append
    (omega (arith, decimal_length 9 r.minute (omega arith), body_fits r.body l, letter_fits r.body))

lines_fit : (s : List ℕ) → AreBytes s → (n row at : ℕ) → length (record_lines (records_from s n row at)) ≤ n * LINE
unfolding record_lines records_from
lines_fit s b zero row at = omega arith
lines_fit s b (suc n) row at =
    let r : Record = record { minute = le32 (drop row s) 4; body = body_of (get_or (drop row s) 0 0) (drop at s) } in
    let l = line_fits r (le32_small (drop row s) 4 (bytes_drop s row b)) (small_body (get_or (drop row s) 0 0) (drop at s) (bytes_drop s at b)) in
    let ih = lines_fit s b n (row + 8) (at + size_of (get_or (drop row s) 0 0)) in
    omega (arith, length-append (record_line r) (record_lines (records_from s n (row + 8) (at + size_of (get_or (drop row s) 0 0)))))

count_is : (s : List ℕ) (n row at : ℕ) → length (records_from s n row at) ≡ n
unfolding records_from
count_is s zero row at = refl
count_is s (suc n) row at = ap suc (count_is s n (row + 8) (at + size_of (get_or (drop row s) 0 0)))

-- ---- every listing fits

head_fits : (n : ℕ) → n ≤ 48 → length (head_line n) ≤ 8
head_fits n h = simp length-append (omega (arith, decimal_length 1 n (omega arith)))

module _ (dew : ℕ → ℤ) (s : List ℕ) (rs : List Record) (e : reading dew s ≡ given rs) where
  they_are : records s ≡ rs
  unfolding reading
  they_are = given_is (field_tests (length s) (fields dew s)) (records s) rs e

  count_known : (length rs ≡ count_of s) × (count_of s ≤ 48)
  unfolding reading
  count_known =
      let p = given_passed (length s) (fields dew s) (records s) rs e in
      (ap length (sym they_are) ∙ count_is s (count_of s) 4 (start_of (count_of s)), leb-true (count_of s) 48 p.2.2.1)

  -- a good file has at most 48 records
  pub count_fits : length rs ≤ 48
  count_fits = let c = count_known in omega arith

  good_fits : AreBytes s → length (head_line (length rs) ++ record_lines rs) ≤ TEXT
  good_fits b =
      let l = lines_fit s b (count_of s) 4 (start_of (count_of s)) in
      let c = count_known in
      let w : length (record_lines rs) ≤ count_of s * LINE = rw (sym they_are) l in
      omega (arith, head_fits (length rs) count_fits, length-append (head_line (length rs)) (record_lines rs))

pub listing_fits : (dew : ℕ → ℤ) (s : List ℕ) → AreBytes s → length s < 10 ^ 20 → length (listing_of (reading dew s)) ≤ TEXT
unfolding listing_of
listing_fits dew s b h = go (reading dew s) refl
  where
    go : (a : Answer ℕ (List Record)) → reading dew s ≡ a → length (listing_of a) ≤ TEXT
    go (given rs) e = good_fits dew s rs e b
    go (refused k) e = simp length-append (omega (arith, decimal_length 19 k (omega (arith, place_inside dew s k e))))
