-- Records lent as words: how many there are, and each at its place. Assumes nothing.
use mathlib.Core.Path.{◌≡◌, refl, sym, ap, ◌∙◌}
use mathlib.Core.Bool.{true}
use mathlib.Core.List.{List, [], ◌∷◌}
use Prim.Native.Nat.{ℕ, zero, suc, ◌+◌, ◌-◌, ◌*◌, ◌≤◌, ◌<◌}
use native.Mathlib.Omega.{arith}
use native.Mathlib.Nat.{not-suc-le-zero}
use lib.IntN.{ℤ, pos, negsuc, nat_abs}
use lib.ListN.{length, get_or, take, drop, length-drop}
use lib.Seq.{take_all, get_or-drop, get_or-take}
use mir.Syntax.{w32}
use mir.Val.{SFits}
use borrow.Author.Tests.{lt-ltb, le-leb}
use Rattle.octets.specs.Bytes.{signed32, word_of}
use Rattle.octets.proofs.WordLaws.{word_back, word_whole}
use Rattle.watchfile.specs.Format.{blank, figures, figures_of}
use Rattle.number.specs.declared.Kept.{Kept}
use Rattle.watchfile.specs.declared.Body.{Body}
use Rattle.watchfile.specs.declared.Body.TheVariants.{Pressure, Tendency, Wind, Humidity}
use Rattle.watchfile.specs.declared.Record.{Record}
use Rattle.watchfile.proofs.SmallLaws.{Small}
use Rattle.handed.specs.Handed.{half, octet, record_of}
use Rattle.handed.specs.Words.{words_of, AreWords, figures_in, held, record_at, records_from, records_in}

length_from : (w : List ℕ) (i n : ℕ) → length (records_from w i n) ≡ n
unfolding records_from
length_from w i zero = refl
length_from w i (suc n) = ap suc (length_from w (suc i) n)

pub length_records : (w : List ℕ) → length (records_in w) ≡ held w
length_records w = length_from w 0 (held w)

from_at : (w : List ℕ) (i n k : ℕ) → k < n → get_or (records_from w i n) k blank ≡ record_at w (i + k)
unfolding records_from
from_at w i zero k h = absurd (not-suc-le-zero h)
from_at w i (suc n) zero h = ap (record_at w) (omega arith)
from_at w i (suc n) (suc k) h = from_at w (suc i) n k (omega arith) ∙ ap (record_at w) (omega arith)

-- the record at a place is that of the list
pub records_at : (w : List ℕ) (k : ℕ) → k < length (records_in w) → get_or (records_in w) k blank ≡ record_at w k
records_at w k h = from_at w 0 (held w) k (omega (arith, h, length_records w)) ∙ ap (record_at w) (omega arith)

-- ---- the part of words from a place on, as the code takes it

abbrev part : List ℕ → ℕ → List ℕ
part w at = take (length w - at) (drop at w)

pub part_all : (w : List ℕ) (at : ℕ) → part w at ≡ drop at w
part_all w at = take_all (length w - at) (drop at w) (omega (arith, length-drop at w))

pub length_part : (w : List ℕ) (at : ℕ) → length (part w at) ≡ length w - at
length_part w at = ap length (part_all w at) ∙ length-drop at w

-- ---- bodies there and back: what fits its bytes

pub half_fits : (n : ℕ) → n < 65536 → half (signed32 n) ≡ true
half_fits n h = rw (lt-ltb n 2147483648 (omega arith), le-leb 0 n (omega arith), le-leb n 65535 (omega arith))

pub octet_fits : (n : ℕ) → n < 256 → octet (signed32 n) ≡ true
octet_fits n h = rw (lt-ltb n 2147483648 (omega arith), le-leb 0 n (omega arith), le-leb n 255 (omega arith))

pub whole_size : (n : ℕ) → n < 2147483648 → nat_abs (signed32 n) ≡ n
whole_size n h = rw (lt-ltb n 2147483648 h)

pub pressure_are : (m p : ℕ) → p < 65536 → AreWords (Pressure p) m (1 ∷ m ∷ p ∷ 0 ∷ 0 ∷ 0 ∷ 0 ∷ [])
pressure_are m p h =
    record {
      exact = ap (λ (k : ℕ). 1 ∷ m ∷ k ∷ 0 ∷ 0 ∷ 0 ∷ 0 ∷ []) (sym (word_whole p (omega arith)).0);
      back = rw (half_fits p h, whole_size p (omega arith));
    }

pub tendency_are : (m : ℕ) (change : Kept) (w absent : ℕ) → w ≡ word_of change.v → signed32 w ≡ change.v → absent < 256
    → AreWords (Tendency change absent) m (2 ∷ m ∷ w ∷ absent ∷ 0 ∷ 0 ∷ 0 ∷ [])
tendency_are m change w absent e s h =
    record {
      exact = ap (λ (k : ℕ). 2 ∷ m ∷ k ∷ absent ∷ 0 ∷ 0 ∷ 0 ∷ []) e ∙ ap (λ (k : ℕ). 2 ∷ m ∷ word_of change.v ∷ k ∷ 0 ∷ 0 ∷ 0 ∷ []) (sym (word_whole absent (omega arith)).0);
      back = rw (s, octet_fits absent h, whole_size absent (omega arith));
    }

pub wind_are : (m v d : ℕ) → v < 65536 → d < 65536 → AreWords (Wind v d) m (3 ∷ m ∷ v ∷ d ∷ 0 ∷ 0 ∷ 0 ∷ [])
wind_are m v d hv hd =
    record {
      exact = ap (λ (k : ℕ). 3 ∷ m ∷ k ∷ d ∷ 0 ∷ 0 ∷ 0 ∷ []) (sym (word_whole v (omega arith)).0) ∙ ap (λ (k : ℕ). 3 ∷ m ∷ word_of (pos v) ∷ k ∷ 0 ∷ 0 ∷ 0 ∷ []) (sym (word_whole d (omega arith)).0);
      back = rw (half_fits v hv, half_fits d hd, whole_size v (omega arith), whole_size d (omega arith));
    }

pub humidity_are : (m a b c d w : ℕ) (dew : Kept) → a < 65536 → b < 65536 → c < 65536 → d < 256 → w ≡ word_of dew.v → signed32 w ≡ dew.v
    → AreWords (Humidity a b c d dew) m (4 ∷ m ∷ a ∷ b ∷ c ∷ d ∷ w ∷ [])
humidity_are m a b c d w dew ha hb hc hd e s =
    record {
      exact = same (sym (word_whole a (omega arith)).0) (sym (word_whole b (omega arith)).0) (sym (word_whole c (omega arith)).0) (sym (word_whole d (omega arith)).0) e;
      back = rw (half_fits a ha, half_fits b hb, half_fits c hc, octet_fits d hd, whole_size a (omega arith), whole_size b (omega arith), whole_size c (omega arith), whole_size d (omega arith), s);
    }
  where
    same : {a' b' c' d' w' : ℕ} → a ≡ a' → b ≡ b' → c ≡ c' → d ≡ d' → w ≡ w'
        → ◌≡◌ {A = List ℕ} (4 ∷ m ∷ a ∷ b ∷ c ∷ d ∷ w ∷ []) (4 ∷ m ∷ a' ∷ b' ∷ c' ∷ d' ∷ w' ∷ [])
    same p q r t u = rw (p, q, r, t, u)

-- ---- figures by their seven words

pub figures_by_lem : (w w' : List ℕ) (i j : ℕ) → ((k : ℕ) → k < 7 → get_or w (i + k) 0 ≡ get_or w' (j + k) 0) → figures_in (drop i w) ≡ figures_in (drop j w')
figures_by_lem w w' i j e =
    let same : (k : ℕ) → k < 7 → get_or (drop i w) k 0 ≡ get_or (drop j w') k 0 = λ k h. get_or-drop i w k 0 ∙ e k h ∙ sym (get_or-drop j w' k 0) in
    all (same 0 (omega arith)) (same 1 (omega arith)) (same 2 (omega arith)) (same 3 (omega arith)) (same 4 (omega arith)) (same 5 (omega arith)) (same 6 (omega arith))
  where
    all : {a a' b b' c c' d d' f f' g g' h h' : ℕ} → a ≡ a' → b ≡ b' → c ≡ c' → d ≡ d' → f ≡ f' → g ≡ g' → h ≡ h'
        → figures a b (signed32 c) (signed32 d) (signed32 f) (signed32 g) (signed32 h) ≡ figures a' b' (signed32 c') (signed32 d') (signed32 f') (signed32 g') (signed32 h')
    all p q r s t u v = rw (p, q, r, s, t, u, v)

-- lists of one length with the same entries
pub same_entries : (xs ys : List Record) → length xs ≡ length ys → ((k : ℕ) → k < length xs → get_or xs k blank ≡ get_or ys k blank) → xs ≡ ys
same_entries [] [] n e = refl
same_entries [] (y ∷ ys) n e = cc
same_entries (x ∷ xs) [] n e = cc
same_entries (x ∷ xs) (y ∷ ys) n e =
    let first : x ≡ y = e 0 (omega arith) in
    rw first (ap (λ (l : List Record). y ∷ l) (same_entries xs ys (omega (arith, n)) (λ k h. e (suc k) (omega (arith, h)))))

-- ---- the words of a record whose fields are small

small_fits : (z : ℤ) → nat_abs z ≤ 32768 → SFits w32 z
small_fits (pos n) h = record { sfits = omega arith }
small_fits (negsuc n) h = record { sfits = omega arith }

body_words : (m : ℕ) (b : Body) → Small b → (w : List ℕ) × AreWords b m w
body_words m (Pressure p) h = (_, pressure_are m p h)
body_words m (Tendency change absent) h = (_, tendency_are m change (word_of change.v) absent refl (word_back change.v (small_fits change.v h.0)) h.1)
body_words m (Wind v d) h = (_, wind_are m v d h.0 h.1)
body_words m (Humidity a b c d dew) h =
    (_, humidity_are m a b c d (word_of dew.v) dew h.0 h.1 h.2 h.3 refl (word_back dew.v (small_fits dew.v h.4)))

-- it comes back from them
pub words_back : (r : Record) → Small r.body → record_of (figures_in (words_of (figures_of r))) ≡ r
words_back r h =
    let are = (body_words r.minute r.body h).1 in
    ap (λ (w : List ℕ). record_at w 0) (sym are.exact) ∙ are.back

-- words that hold the words of a record's figures at a place hold it there
pub held_there : (w : List ℕ) (i : ℕ) (r : Record) → i < held w → Small r.body → take 7 (drop (7 * i) w) ≡ words_of (figures_of r) → record_at w i ≡ r
held_there w i r h small e =
    let same = figures_by_lem w (words_of (figures_of r)) (7 * i) 0 word in
    rw (lt-ltb i (held w) h) (ap record_of same ∙ words_back r small)
  where
    word : (k : ℕ) → k < 7 → get_or w (7 * i + k) 0 ≡ get_or (words_of (figures_of r)) (0 + k) 0
    word k l =
        let z : k ≡ 0 + k = omega arith in
        sym (get_or-drop (7 * i) w k 0) ∙ sym (get_or-take 7 (drop (7 * i) w) k 0 l) ∙ ap (λ (x : List ℕ). get_or x k 0) e ∙ ap (λ (j : ℕ). get_or (words_of (figures_of r)) j 0) z
