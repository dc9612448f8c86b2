-- A body whose fields are right is whole, and its fields stand in order. By its kind. Assumes nothing.
use mathlib.Core.Path.{◌≡◌, refl, sym, subst}
use mathlib.Core.Bool.{Bool, true, false, cond}
use mathlib.Core.List.{List}
use Prim.Native.Nat.{ℕ, ◌≤◌, ◌<◌}
use native.Mathlib.Omega.{arith}
use lib.Dec.{eqb, leb, lit≤}
use lib.IntN.{ℤ}
use borrow.Author.Tests.{ne_eqb, eqb-true, eqb-false, leb-true}
use Rattle.number.proofs.Sizes.{either_way, and_true}
use Rattle.watchfile.specs.Rules.{kind_right, size_of}
use Rattle.watchfile.specs.Format.{pressure_fields, tendency_fields, wind_fields, humidity_fields, body_fields, body_of, figures, body_figures}
use Rattle.watchfile.proofs.FieldLaws.{Passed, Ordered}
use Rattle.reader.specs.Work.{first_of, second_of, third_of, fourth_of, fifth_of}

module _ (rule : ℕ → ℤ) (s : List ℕ) where
  whole_by : (n : ℕ) (a b c : Bool) → Passed n (cond a (pressure_fields s) (cond b (tendency_fields s) (cond c (wind_fields s) (humidity_fields rule s))))
      → cond a 2 (cond b 3 (cond c 4 9)) ≤ n
  whole_by n true b c p = p.0
  whole_by n false true c p = p.2.0
  whole_by n false false true p = p.2.0
  whole_by n false false false p = p.2.2.2.2.0

  pub body_whole : (n kind : ℕ) → Passed n (body_fields rule kind s) → size_of kind ≤ n
  body_whole n kind p = whole_by n (eqb kind 1) (eqb kind 2) (eqb kind 3) p

  pub body_ordered : (kind : ℕ) → Ordered (body_fields rule kind s)
  body_ordered kind =
      either_way Ordered (eqb kind 1) _ _ (omega arith, tt)
      (either_way Ordered (eqb kind 2) _ _ (omega arith, (omega arith, tt))
      (either_way Ordered (eqb kind 3) _ _ (omega arith, (omega arith, tt)) (omega arith, (omega arith, (omega arith, (omega arith, (omega arith, tt)))))))

pub size_least : (kind : ℕ) → 2 ≤ size_of kind
size_least kind =
    either_way (λ n. 2 ≤ n) (eqb kind 1) _ _ (lit≤ tt)
    (either_way (λ n. 2 ≤ n) (eqb kind 2) _ _ (lit≤ tt)
    (either_way (λ n. 2 ≤ n) (eqb kind 3) _ _ (lit≤ tt) (lit≤ tt)))

-- behind the first two kinds a body has two bytes more
pub size_two : (kind : ℕ) → 2 < kind → 4 ≤ size_of kind
size_two kind h =
    subst (λ (b : Bool). 4 ≤ cond b 2 (cond (eqb kind 2) 3 (cond (eqb kind 3) 4 9))) (sym (ne_eqb kind 1 (λ e. omega arith)))
    (subst (λ (b : Bool). 4 ≤ cond b 3 (cond (eqb kind 3) 4 9)) (sym (ne_eqb kind 2 (λ e. omega arith)))
    (either_way (λ n. 4 ≤ n) (eqb kind 3) _ _ (lit≤ tt) (lit≤ tt)))

-- ---- the figures of a body, by its kind

abbrev ByKind : ℕ → List ℕ → ℕ → Type 0
ByKind m s kind =
    figures kind m (first_of kind s) (second_of kind s) (third_of kind s) (fourth_of kind s) (fifth_of kind s) ≡ body_figures m (body_of kind s)

kind_by : (m kind : ℕ) (s : List ℕ) (a b c : Bool) → eqb kind 1 ≡ a → eqb kind 2 ≡ b → eqb kind 3 ≡ c
    → 1 ≤ kind → kind ≤ 4 → ByKind m s kind
kind_by m kind s true b c x y z low high = subst (ByKind m s) (sym (eqb-true kind 1 x)) refl
kind_by m kind s false true c x y z low high = subst (ByKind m s) (sym (eqb-true kind 2 y)) refl
kind_by m kind s false false true x y z low high = subst (ByKind m s) (sym (eqb-true kind 3 z)) refl
kind_by m kind s false false false x y z low high =
    let last : kind ≡ 4 = omega (arith, eqb-false kind 1 x, eqb-false kind 2 y, eqb-false kind 3 z) in
    subst (ByKind m s) (sym last) refl

pub figures_by_kind : (m kind : ℕ) (s : List ℕ) → kind_right kind ≡ true → ByKind m s kind
unfolding kind_right
figures_by_kind m kind s right =
    let r = and_true (leb 1 kind) (leb kind 4) right in
    kind_by m kind s (eqb kind 1) (eqb kind 2) (eqb kind 3) refl refl refl (leb-true 1 kind r.0) (leb-true kind 4 r.1)
