-- The contract of `record` allows a single answer, and a single content of the lent words: the station's answer is one, and it makes one
-- entry. Assumes nothing.
use mathlib.Core.Path.{◌≡◌, refl, sym, ap, ◌∙◌}
use mathlib.Core.Bool.{Bool, true, false}
use mathlib.Core.List.{List, [], ◌∷◌}
use Prim.Native.Nat.{ℕ}
use Rattle.number.specs.Single.{Single, SingleLeft}
use Rattle.store.specs.Block.{no_store}
use Rattle.station.specs.Source.{held}
use Rattle.station.specs.Questions.{Asked, Reply, question, foreign_to}
use Rattle.station.proofs.SingleAnswers.{one_reply}
use Rattle.watchfile.specs.Rules.{kind_right}
use Rattle.told.specs.declared.Refusal.{Refusal}
use Rattle.entered.specs.Entered.{asked_by, entry_of, refusal_for, words_for, RecordedAs, RecordedBy}
use Rattle.entered.proofs.record.Reads as recording

module _ (q : Asked) (s : List ℕ) (m : ℕ) (before : List ℕ) where
  one_recorded : (l l' : List ℕ) (r r' : Refusal) → RecordedAs q s m before l r → RecordedAs q s m before l' r' → (r ≡ r') × (l ≡ l')
  one_recorded l l' r r' v w =
      let same = one_reply q (no_store s ∷ []) (foreign_to q (held s) m) (held s) m v.answer w.answer v.right w.right in (
        v.told ∙ ap (λ (a : Reply q). refusal_for (entry_of q m a) ((question q).told a)) same ∙ sym w.told,
        v.words ∙ ap (λ (a : Reply q). words_for (entry_of q m a) before) same ∙ sym w.words,
      )

pub one_by : (kind : ℕ) (s : List ℕ) (m : ℕ) (before l l' : List ℕ) (r r' : Refusal) → RecordedBy kind s m before l r → RecordedBy kind s m before l' r'
    → (r ≡ r') × (l ≡ l')
one_by kind s m before l l' r r' v w = go (kind_right kind) refl
  where
    go : (b : Bool) → kind_right kind ≡ b → (r ≡ r') × (l ≡ l')
    go true e = one_recorded (asked_by kind) s m before l l' r r' (v.of_kind e) (w.of_kind e)
    go false e =
        let a = v.no_kind e in
        let b = w.no_kind e in
        (a.0 ∙ sym b.0, a.1 ∙ sym b.1)

pub single_record : Single recording.Post
single_record κs a r r' s s' p q =
    (one_by a.1.0 a.0.now a.1.1.0 a.1.1.1.0.now s.1.1.1.0.now s'.1.1.1.0.now r r' p.0 q.0).0

pub single_record_left : SingleLeft recording.Post (λ κs s. s.1.1.1.0.now)
single_record_left κs a r r' s s' p q =
    (one_by a.1.0 a.0.now a.1.1.0 a.1.1.1.0.now s.1.1.1.0.now s'.1.1.1.0.now r r' p.0 q.0).1
