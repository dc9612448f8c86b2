-- Laws of numbers as text: the digits step by step, how many there are, and that they say the number. The digits of a number do not
-- depend on how many are allowed, where that is enough. Assumes nothing.
use mathlib.Core.Path.{◌≡◌, refl, sym, ap}
use mathlib.Core.Bool.{Bool, true, false, cond}
use mathlib.Core.List.{List, [], ◌∷◌, ◌++◌}
use Prim.Native.Nat.{ℕ, zero, suc, ◌+◌, ◌-◌, ◌*◌, ◌/◌, ◌%◌, ◌^◌, ◌≤◌, ◌<◌}
use native.Mathlib.Omega.{arith}
use native.Mathlib.Nat.{pow-suc}
use lib.Dec.{ltb}
use lib.IntN.{ℤ, pos, negsuc, nat_abs}
use lib.Signed.{lt_z}
use lib.ListN.{length, length-append}
use borrow.Author.Tests.{ltb-true, ltb-false, lt-ltb, le-ltb}
use Rattle.number.proofs.Sizes.{impossible}
use Rattle.text.specs.declared.Page.{Page}
use Rattle.text.specs.Text.{digit, digits, decimal, decimal_of, said, Puts}
use Rattle.text.proofs.PutLaws.{then}

-- a digit more is allowed than n says: the text is the same
enough : (j k n : ℕ) → n < j → n < k → digits j n ≡ digits k n
unfolding digits
enough zero k n h l = absurd (omega arith)
enough (suc j) zero n h l = absurd (omega arith)
enough (suc j) (suc k) n h l = go (λ g. enough j k (n / 10) (omega arith) (omega arith)) (ltb n 10) refl
  where
    go : (10 ≤ n → digits j (n / 10) ≡ digits k (n / 10)) → (t : Bool) → ltb n 10 ≡ t
        → cond t (digit n ∷ []) (digits j (n / 10) ++ (digit (n % 10) ∷ []))
        ≡ cond t (digit n ∷ []) (digits k (n / 10) ++ (digit (n % 10) ∷ []))
    go ih true e = refl
    go ih false e = ap (λ (x : List ℕ). x ++ (digit (n % 10) ∷ [])) (ih (ltb-false n 10 e))

pub decimal_one : (n : ℕ) → n < 10 → decimal n ≡ digit (n % 10) ∷ []
unfolding decimal digits
decimal_one n h =
    let e : n % 10 ≡ n = omega arith in
    rw (lt-ltb n 10 h, e)

pub decimal_more : (n : ℕ) → 10 ≤ n → decimal n ≡ decimal (n / 10) ++ (digit (n % 10) ∷ [])
unfolding decimal digits
decimal_more n h =
    rw (le-ltb n 10 h) (ap (λ (x : List ℕ). x ++ (digit (n % 10) ∷ [])) (enough n (suc (n / 10)) (n / 10) (omega arith) (omega arith)))

-- the same, put
pub put_one_digit : {p q : Page} {d : ℕ} (n : ℕ) → n < 10 → d ≡ digit (n % 10) → Puts p q (d ∷ []) → Puts p q (decimal n)
put_one_digit n h e a = rw (decimal_one n h, sym e) a

pub put_last_digit : {p q r : Page} {d : ℕ} (n : ℕ) → 10 ≤ n → d ≡ digit (n % 10)
    → Puts p q (decimal (n / 10)) → Puts q r (d ∷ []) → Puts p r (decimal n)
put_last_digit n h e a b = rw (decimal_more n h, sym e) (then a b)

-- a number below 10^k has at most k digits
pub decimal_length : (k n : ℕ) → n < 10 ^ suc k → length (decimal n) ≤ suc k
decimal_length zero n h = rw (decimal_one n (omega (arith, pow-suc 10 0))) (omega arith)
decimal_length (suc k) n h = go (decimal_length k (n / 10) (omega (arith, pow-suc 10 (suc k)))) (ltb n 10) refl
  where
    go : length (decimal (n / 10)) ≤ suc k → (t : Bool) → ltb n 10 ≡ t → length (decimal n) ≤ suc (suc k)
    go ih true e = rw (decimal_one n (ltb-true n 10 e)) (omega arith)
    go ih false e = rw (decimal_more n (ltb-false n 10 e), length-append (decimal (n / 10)) (digit (n % 10) ∷ [])) (omega arith)

-- with its sign
pub decimal_of-length : (k : ℕ) (z : ℤ) → nat_abs z < 10 ^ suc k → length (decimal_of z) ≤ suc (suc k)
unfolding decimal_of
decimal_of-length k (pos n) h = omega (arith, decimal_length k n h)
decimal_of-length k (negsuc n) h = omega (arith, decimal_length k (suc n) h)

pub put_minus : {p q r : Page} {n : ℕ} (z : ℤ) → lt_z z (pos 0) ≡ true → n ≡ nat_abs z
    → Puts p q (45 ∷ []) → Puts q r (decimal n) → Puts p r (decimal_of z)
unfolding decimal_of
put_minus (pos n) t e a b = absurd (omega (arith, ltb-true n 0 t))
put_minus (negsuc n) t e a b = rw (sym e) (then a b)

pub put_plain : {p q : Page} {n : ℕ} (z : ℤ) → lt_z z (pos 0) ≡ false → n ≡ nat_abs z → Puts p q (decimal n) → Puts p q (decimal_of z)
unfolding decimal_of
put_plain (pos n) t e a = rw (sym e) a
put_plain (negsuc n) t e a = impossible (cc)

-- ---- the digits say the number

said_last : (n : ℕ) (xs : List ℕ) (x : ℕ) → said n (xs ++ (x ∷ [])) ≡ 10 * said n xs + (x - 48)
said_last n [] x = refl
said_last n (y ∷ xs) x = said_last (10 * n + (y - 48)) xs x

said_digits : (k n : ℕ) → n < k → said 0 (digits k n) ≡ n
unfolding digits
said_digits zero n h = absurd (omega arith)
said_digits (suc k) n h = go (λ l. said_digits k (n / 10) (omega arith)) (ltb n 10) refl
  where
    go : (10 ≤ n → said 0 (digits k (n / 10)) ≡ n / 10) → (t : Bool) → ltb n 10 ≡ t
        → said 0 (cond t (digit n ∷ []) (digits k (n / 10) ++ (digit (n % 10) ∷ []))) ≡ n
    go ih true e = omega arith
    go ih false e = omega (arith, said_last 0 (digits k (n / 10)) (digit (n % 10)), ih (ltb-false n 10 e))

pub said_decimal : (n : ℕ) → said 0 (decimal n) ≡ n
unfolding decimal
said_decimal n = said_digits (suc n) n (omega arith)
