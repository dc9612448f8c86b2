-- Signed numbers in a word of 32 bits, where they fit. Assumes nothing.
use mathlib.Core.Path.{◌≡◌, ap, ◌∙◌}
use Prim.Native.Nat.{ℕ, suc, ◌+◌, ◌-◌, ◌%◌, ◌≤◌, ◌<◌}
use native.Mathlib.Omega.{arith}
use lib.IntN.{ℤ, pos, negsuc}
use mir.Syntax.{w32}
use mir.Val.{SFits}
use borrow.Author.Tests.{lt-ltb, le-ltb}
use Rattle.octets.specs.Bytes.{signed32, word_of}

-- ---- a number with a sign there and back

negative : (n m : ℕ) → n + suc m ≡ 4294967296 → 2147483648 ≤ n → signed32 n ≡ negsuc m
negative n m e h =
    let z : 4294967296 - suc n ≡ m = omega arith in
    rw (le-ltb n 2147483648 h, lt-ltb n 4294967296 (omega arith), z)

pub word_back : (z : ℤ) → SFits w32 z → signed32 (word_of z) ≡ z
word_back (pos m) f =
    let h : m < 2147483648 = f.sfits in
    let e : (m + 4294967296) % 4294967296 ≡ m = omega arith in
    rw (e, lt-ltb m 2147483648 h)
word_back (negsuc m) f =
    let h : m < 2147483648 = f.sfits in
    let g : (4294967296 - suc m) % 4294967296 ≡ 4294967295 - m = omega arith in
    let e : word_of (negsuc m) ≡ 4294967295 - m = rw (le-ltb 4294967296 (suc m) (omega arith)) g in
    ap signed32 e ∙ negative (4294967295 - m) m (omega arith) (omega arith)

-- and one without
pub word_whole : (n : ℕ) → n < 2147483648 → (word_of (pos n) ≡ n) × (signed32 n ≡ pos n)
word_whole n h = (omega arith, rw (lt-ltb n 2147483648 h))
