-- Numbers and their bytes, there and back; signed numbers in two bytes, where they fit; how large a number in so many bytes is.
-- Assumes nothing.
use mathlib.Core.Path.{◌≡◌, refl, ap, ◌∙◌}
use mathlib.Core.Bool.{Bool, true, false}
use mathlib.Core.List.{List, [], ◌∷◌}
use Prim.Native.Nat.{ℕ, suc, ◌+◌, ◌-◌, ◌*◌, ◌/◌, ◌%◌, ◌≤◌, ◌<◌}
use native.Mathlib.Omega.{arith}
use native.Mathlib.Decide.{dec_lt}
use lib.Dec.{ltb, lit<}
use lib.IntN.{ℤ, pos, negsuc, nat_abs, -ℤ-+ℤ_cancel}
use lib.ListN.{length, get_or, take, drop, length-take, get_or-eq_default}
use lib.Seq.{get_or-take, get_or-drop}
use borrow.Author.Tests.{lt-ltb, le-ltb, ltb-true, ltb-false}
use Rattle.octets.specs.Bytes.{AreBytes, le16, le32, bytes16, bytes32, signed16, unsigned16}

-- ---- written and read

abbrev pub read16 : ℕ → ℕ
read16 n = le16 (bytes16 n) 0

abbrev pub read32 : ℕ → ℕ
read32 n = le32 (bytes32 n) 0

pub read16_is : (n : ℕ) → read16 n ≡ n
read16_is n = omega arith

pub read32_is : (n : ℕ) → read32 n ≡ n
read32_is n = omega arith

-- ---- read and written

pub bytes16_back : (a b : ℕ) → a < 256 → bytes16 (a + 256 * b) ≡ a ∷ b ∷ []
bytes16_back a b h =
    let low : (a + 256 * b) % 256 ≡ a = omega arith in
    let high : (a + 256 * b) / 256 ≡ b = omega arith in
    rw (low, high)

pub bytes32_back : (a b c d : ℕ) → a < 256 → b < 256 → c < 256 → bytes32 (a + 256 * b + 65536 * c + 16777216 * d) ≡ a ∷ b ∷ c ∷ d ∷ []
bytes32_back a b c d ha hb hc =
    let n : ℕ = a + 256 * b + 65536 * c + 16777216 * d in
    let e0 : n % 256 ≡ a = omega arith in
    let q1 : n / 256 ≡ b + 256 * c + 65536 * d = omega arith in
    let q2 : n / 65536 ≡ c + 256 * d = omega arith in
    let e1 : n / 256 % 256 ≡ b = ap (λ (x : ℕ). x % 256) q1 ∙ third b c d hb in
    let e2 : n / 65536 % 256 ≡ c = ap (λ (x : ℕ). x % 256) q2 ∙ second c d hc in
    let e3 : n / 16777216 ≡ d = omega arith in
    rw (e0, e1, e2, e3)
  where
    third : (b c d : ℕ) → b < 256 → (b + 256 * c + 65536 * d) % 256 ≡ b
    third b c d h = omega arith

    second : (c d : ℕ) → c < 256 → (c + 256 * d) % 256 ≡ c
    second c d h = omega arith

-- ---- signed numbers

minus : (n m : ℕ) → n + suc m ≡ 65536 → 32768 ≤ n → signed16 n ≡ negsuc m
minus n m e h =
    let z : 65536 - suc n ≡ m = omega arith in
    rw (le-ltb n 32768 h, lt-ltb n 65536 (omega arith), z)

pub signed_is : (z : ℤ) → nat_abs z ≤ 32767 → signed16 (unsigned16 z) ≡ z
signed_is (pos m) h = let e : (m + 65536) % 65536 ≡ m = omega arith in rw (e, lt-ltb m 32768 (omega arith))
signed_is (negsuc m) h =
    let f : (65536 - suc m) % 65536 ≡ 65535 - m = omega arith in
    let e : unsigned16 (negsuc m) ≡ 65535 - m = rw (le-ltb 65536 (suc m) (omega arith)) f in
    ap signed16 e ∙ minus (65535 - m) m (omega arith) (omega arith)

pub unsigned_is : (n : ℕ) → n < 65536 → unsigned16 (signed16 n) ≡ n
unsigned_is n h = go (ltb n 32768) refl
  where
    go : (b : Bool) → ltb n 32768 ≡ b → unsigned16 (signed16 n) ≡ n
    go true e = let f : (n + 65536) % 65536 ≡ n = omega arith in rw e f
    go false e =
        let f : n % 65536 ≡ n = omega arith in
        rw e (ap (λ (z : ℤ). nat_abs z % 65536) (-ℤ-+ℤ_cancel (pos n) (pos 65536)) ∙ f)

-- ---- a part of bytes is bytes

pub bytes_drop : (s : List ℕ) (n : ℕ) → AreBytes s → AreBytes (drop n s)
bytes_drop s n are i = rw (get_or-drop n s i 0) (are (n + i))

pub bytes_take : (s : List ℕ) (n : ℕ) → AreBytes s → AreBytes (take n s)
bytes_take s n are i = go (dec_lt i n)
  where
    go : Dec (i < n) → get_or (take n s) i 0 < 256
    go (yes y) = rw (get_or-take n s i 0 y) (are i)
    go (no z) = rw (get_or-eq_default (take n s) 0 (short_front (omega arith))) (lit< tt)
      where
        short_front : n ≤ i → length (take n s) ≤ i
        short_front l = omega (arith, length-take n s)

-- ---- how large

pub le16_small : (s : List ℕ) (k : ℕ) → AreBytes s → le16 s k < 65536
le16_small s k are = omega (arith, are k, are (k + 1))

pub le32_small : (s : List ℕ) (k : ℕ) → AreBytes s → le32 s k < 4294967296
le32_small s k are = omega (arith, are k, are (k + 1), are (k + 2), are (k + 3))

pub signed16_small : (n : ℕ) → n < 65536 → nat_abs (signed16 n) ≤ 32768
signed16_small n h = go (ltb n 32768) refl
  where
    go : (t : Bool) → ltb n 32768 ≡ t → nat_abs (signed16 n) ≤ 32768
    go true e = rw e (omega (arith, ltb-true n 32768 e))
    go false e =
        let high = ltb-false n 32768 e in
        rw (minus n (65535 - n) (omega arith) high) (omega arith)
