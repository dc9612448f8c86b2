-- Laws of hex: two digits at a time, from a place on; and the text of bytes, read back, is those bytes. Assumes nothing.
use mathlib.Core.Path.{◌≡◌, refl, ap, ◌∙◌}
use mathlib.Core.Bool.{Bool, true, false, ◌&&◌, cond}
use mathlib.Core.List.{List, [], ◌∷◌}
use Prim.Native.Nat.{ℕ, suc, ◌+◌, ◌*◌, ◌/◌, ◌%◌, ◌≤◌, ◌<◌}
use native.Mathlib.Omega.{arith}
use native.Mathlib.Nat.{zero-add}
use native.Mathlib.Numerals.{add-one}
use lib.Dec.{leb, ltb, eqb}
use lib.ListN.{length, get_or, set, drop, length-drop, drop_of_length-le}
use lib.Seq.{drop-cons, sets, sets-eq}
use borrow.Author.Tests.{le-leb, lt-leb, eqb-true, eqb-false, lt-ltb, le-ltb, ltb-true, ltb-false}
use Rattle.number.proofs.Sizes.{and_true}
use Rattle.text.specs.Text.{Puts}
use Rattle.text.specs.declared.Page.{Page}
use Rattle.text.proofs.PutLaws.{then}
use Rattle.hexadecimal.specs.Row.{row}
use Rattle.hexadecimal.specs.Hex.{hex_digit, hex_value, is_hex, hex_bytes, Unhexes, digit16, hex_of, hex}
use Rattle.std.specs.Prelude.{Ok, Err}
use Rattle.hexadecimal.specs.declared.HexRefusal.TheVariants.{NotHex, NoRoom}

-- whether a byte lies in a range
pub range_in : (low b high : ℕ) → low ≤ b → b ≤ high → (leb low b && leb b high) ≡ true
range_in low b high h l = rw (le-leb low b h, le-leb b high l)

pub range_low : (low b high : ℕ) → b < low → (leb low b && leb b high) ≡ false
range_low low b high h = rw (lt-leb low b h)

pub range_high : (low b high : ℕ) → high < b → (leb low b && leb b high) ≡ false
range_high low b high h = rw (lt-leb b high h) (go (leb low b))
  where
    go : (t : Bool) → (t && false) ≡ false
    go true = refl
    go false = refl

-- two more bytes
pair : (s : List ℕ) (i : ℕ) → i + 1 < length s → drop i s ≡ get_or s i 0 ∷ get_or s (i + 1) 0 ∷ drop (i + 2) s
pair s i h =
    let e : i + 2 ≡ suc (suc i) = omega arith in
    let l : suc i < length s = omega arith in
    rw (e, add-one i, drop-cons s i 0 (omega arith), drop-cons s (suc i) 0 l)

pub hex_on : (s : List ℕ) (i : ℕ) → i + 1 < length s → hex_digit (get_or s i 0) ≡ true → hex_digit (get_or s (i + 1) 0) ≡ true → is_hex (drop i s) ≡ is_hex (drop (i + 2) s)
unfolding is_hex
hex_on s i h e f = rw (pair s i h, e, f)

pub hex_first : (s : List ℕ) (i : ℕ) → i + 1 < length s → hex_digit (get_or s i 0) ≡ false → is_hex (drop i s) ≡ false
unfolding is_hex
hex_first s i h e = rw (pair s i h, e)

pub hex_second : (s : List ℕ) (i : ℕ) → i + 1 < length s → hex_digit (get_or s i 0) ≡ true → hex_digit (get_or s (i + 1) 0) ≡ false → is_hex (drop i s) ≡ false
unfolding is_hex
hex_second s i h e f = rw (pair s i h, e, f)

-- at most one byte is left: none, or it stands alone
pub hex_left : (s : List ℕ) (i : ℕ) → i ≤ length s → length s ≤ i + 1 → is_hex (drop i s) ≡ eqb i (length s)
unfolding is_hex
hex_left s i h l = go (eqb i (length s)) refl
  where
    go : (t : Bool) → eqb i (length s) ≡ t → is_hex (drop i s) ≡ t
    go true e =
        let b : length s ≤ i = omega (arith, eqb-true i (length s) e) in
        rw (drop_of_length-le s b)
    go false e =
        let d = eqb-false i (length s) e in
        let a : i < length s = omega arith in
        let b : length s ≤ suc i = omega arith in
        rw (drop-cons s i 0 a, drop_of_length-le s b)

-- two digits of a word in hex, and what stands behind them
pub digits_here : (s : List ℕ) (i : ℕ) → i + 1 < length s → is_hex (drop i s) ≡ true
    → (hex_value (get_or s i 0) < 16) × (hex_value (get_or s (i + 1) 0) < 16) × (is_hex (drop (i + 2) s) ≡ true)
unfolding is_hex
digits_here s i h e =
    let p = and_true (hex_digit (get_or s i 0)) (hex_digit (get_or s (i + 1) 0) && is_hex (drop (i + 2) s)) (rw (pair s i h) at e) in
    let q = and_true (hex_digit (get_or s (i + 1) 0)) (is_hex (drop (i + 2) s)) p.1 in
    (ltb-true (hex_value (get_or s i 0)) 16 p.0, ltb-true (hex_value (get_or s (i + 1) 0)) 16 q.0, q.1)

-- ---- the bytes

pub bytes_on : (s : List ℕ) (i : ℕ) → i + 1 < length s → hex_bytes (drop i s) ≡ (16 * hex_value (get_or s i 0) + hex_value (get_or s (i + 1) 0)) ∷ hex_bytes (drop (i + 2) s)
unfolding hex_bytes
bytes_on s i h = rw (pair s i h)

-- one byte is laid, and those behind it
pub lay_on : (word bytes : List ℕ) (i v : ℕ) → 2 * i + 1 < length word → v ≡ 16 * hex_value (get_or word (2 * i) 0) + hex_value (get_or word (2 * i + 1) 0)
    → sets bytes i (hex_bytes (drop (2 * i) word)) ≡ sets (set bytes i v) (i + 1) (hex_bytes (drop (2 * (i + 1)) word))
lay_on word bytes i v h e =
    let on : 2 * (i + 1) ≡ 2 * i + 2 = omega arith in
    rw (on, bytes_on word (2 * i) h, add-one i, e)

short : (s : List ℕ) → length s ≤ 1 → hex_bytes s ≡ []
unfolding hex_bytes
short [] h = refl
short (a ∷ []) h = refl
short (a ∷ b ∷ s) h = absurd (omega arith)

pub bytes_end : (s : List ℕ) (i : ℕ) → length s ≤ i + 1 → hex_bytes (drop i s) ≡ []
bytes_end s i h = short (drop i s) (omega (arith, length-drop i s))

pub bytes_length : (s : List ℕ) → length (hex_bytes s) ≡ length s / 2
unfolding hex_bytes
bytes_length [] = refl
bytes_length (a ∷ []) = refl
bytes_length (a ∷ b ∷ s) = omega (arith, bytes_length s)

-- ---- what a word in hex comes to

pub not_hex : (word bytes : List ℕ) → is_hex word ≡ false → Unhexes word bytes bytes (Err NotHex)
not_hex word bytes e = record { answer = rw e; bytes = rw e }

pub no_room : (word bytes : List ℕ) (count : ℕ) → is_hex word ≡ true → count ≡ length word / 2 → length bytes < count → Unhexes word bytes bytes (Err NoRoom)
no_room word bytes count e n h =
    let l : leb (length (hex_bytes word)) (length bytes) ≡ false = lt-leb (length (hex_bytes word)) (length bytes) (omega (arith, bytes_length word)) in
    record { answer = rw (e, l); bytes = rw (e, l) }

pub all_laid : (word before after : List ℕ) (count : ℕ) → is_hex word ≡ true → count ≡ length word / 2 → count ≤ length before → after ≡ sets before 0 (hex_bytes word) → Unhexes word before after (Ok count)
all_laid word before after count e n h a =
    let c : count ≡ length (hex_bytes word) = omega (arith, bytes_length word) in
    let l : leb (length (hex_bytes word)) (length before) ≡ true = le-leb (length (hex_bytes word)) (length before) (omega arith) in
    record {
      answer = rw (e, l) (ap Ok c);
      bytes = rw (e, l) (a ∙ sets-eq (hex_bytes word) before 0 (omega arith) ∙ rw (zero-add (length (hex_bytes word))));
    }

-- ---- the text of bytes

pub digit16_low : (d : ℕ) → d < 10 → digit16 d ≡ 48 + d
digit16_low d h = rw (lt-ltb d 10 h)

pub digit16_high : (d : ℕ) → 10 ≤ d → digit16 d ≡ 87 + d
digit16_high d h = rw (le-ltb d 10 h)

-- a digit that is written stands for its number when it is read
value_digit16 : (d : ℕ) → d < 16 → hex_value (digit16 d) ≡ d
unfolding hex_value
value_digit16 d h = go (ltb d 10) refl
  where
    go : (t : Bool) → ltb d 10 ≡ t → hex_value (cond t (48 + d) (87 + d)) ≡ d
    go true e =
        let l = ltb-true d 10 e in
        rw (range_in 0x30 (48 + d) 0x39 (omega arith) (omega arith)) (omega arith)
    go false e =
        let l = ltb-false d 10 e in
        rw (
          range_high 0x30 (87 + d) 0x39 (omega arith),
          range_high 0x41 (87 + d) 0x46 (omega arith),
          range_in 0x61 (87 + d) 0x66 (omega arith) (omega arith),
        )
        (omega arith)

-- the text of bytes is a word in hex, and says those bytes
pub hex_read_back : (bytes : List ℕ) → ((i : ℕ) → get_or bytes i 0 < 256) → (is_hex (hex bytes) ≡ true) × (hex_bytes (hex bytes) ≡ bytes)
unfolding row is_hex hex_bytes
hex_read_back [] h = (refl, refl)
hex_read_back (b ∷ bytes) h =
    let small : b < 256 = h 0 in
    let first = value_digit16 (b / 16) (omega arith) in
    let second = value_digit16 (b % 16) (omega arith) in
    let rest = hex_read_back bytes (λ i. h (suc i)) in
    let e : 16 * (b / 16) + b % 16 ≡ b = omega arith in
    (rw (first, second, lt-ltb (b / 16) 16 (omega arith), lt-ltb (b % 16) 16 (omega arith)) rest.0, rw (first, second, e, rest.1))

-- the two digits of a byte, one behind the other
pub put_byte : {p q r : Page} {first second : ℕ} (n : ℕ) → first ≡ digit16 (n / 16) → second ≡ digit16 (n % 16)
    → Puts p q (first ∷ []) → Puts q r (second ∷ []) → Puts p r (hex_of n)
put_byte n e f p q = rw (← e, ← f) (then p q)
