-- A question that is answered with figures has found every minute that it reads; so one that reads a missing minute is refused, and
-- the minute stays missing. Assumes nothing.
use mathlib.Core.Path.{◌≡◌, refl, sym, ap, subst, ◌∙◌}
use mathlib.Core.Bool.{Bool, true, false, ◌||◌}
use mathlib.Core.List.{List, [], ◌∷◌, ◌++◌}
use Prim.Native.Nat.{ℕ, ◌-◌}
use lib.Dec.{eqb, ltb}
use borrow.Author.Tests.{eqb-true, ltb-true, not-false}
use Rattle.number.specs.Refusal.{Numbered, Answer, refused, given}
use Rattle.number.proofs.Sizes.{and_true, impossible, never}
use Rattle.quantity.specs.Limits.{three_hours}
use Rattle.settings.specs.declared.Settings.{Settings}
use Rattle.cell.specs.Cells.{CHANNELS, absent, recalled_as, is_present}
use Rattle.std.specs.Prelude.{Option, Some, None}
use Rattle.message.specs.declared.Reading.{Reading}
use Rattle.store.specs.Block.{recall_of}
use Rattle.store.proofs.HistoryLaws.{store_remembers}
use Rattle.store.proofs.StoreTheorems.{stays_absent_on}
use Rattle.vapour.specs.Vapour.{Tables}
use Rattle.vapour.proofs.TablesExist.{the_tables}
use Rattle.store.specs.History.{Sent}
use Rattle.station.specs.Source.{Source, heard}
use Rattle.station.specs.Questions.{Asked, pressure, tendency, wind, humidity, question, Reply, is_in, reads, Answers, Tells}
use Rattle.station.proofs.AnswerLaws.{passed}
use Rattle.demands.specs.Working.{Working, Replies, Recalls}
use Rattle.demands.specs.Demands.{Passed}
use Rattle.demands.proofs.WorkingLaws.{good, block, replies}

-- ---- what holds of each of a list holds of what is in it

abbrev Each : (ℕ → Type 0) → List ℕ → Type 0
Each P [] = Unit
Each P (d ∷ ds) = P d × Each P ds

in_each : (P : ℕ → Type 0) (ds : List ℕ) (c : ℕ) → is_in ds c ≡ true → Each P ds → P c
in_each P [] c i all = never i
in_each P (d ∷ ds) c i all = go (eqb c d) refl i (in_each P ds c)
  where
    go : (b : Bool) → eqb c d ≡ b → (b || is_in ds c) ≡ true → (is_in ds c ≡ true → Each P ds → P c) → P c
    go true h i rest = subst P (sym (eqb-true c d h)) all.0
    go false h i rest = rest i all.1

-- ---- figures were worked from what is there

module _ (S : Source) (m : ℕ) (tables : Tables) where
  abbrev There : ℕ → ℕ → Type 0
  There c j = is_present (S.recall c j) ≡ true

  there : (q : Asked) (f : (question q).Figures) → Answers ((question q).tests [] tables S m) ((question q).Rule S m) (given f)
      → (c j : ℕ) → reads q m c j ≡ true → There c j
  there pressure f w c j r =
      let R = (question pressure).Rule S m in
      let t = passed _ _ R f w in
      let a = passed _ _ R f t.1 in
      let b = passed _ _ R f a.1 in
      let i = and_true (is_in (question pressure).channels c) (is_in ((question pressure).minutes m) j) r in
      let k : is_in (m ∷ []) j ≡ true = rw t.0 at i.1 in
      in_each (λ (d : ℕ). There d j) (0 ∷ 1 ∷ []) c i.0
      (in_each (There 0) (m ∷ []) j k (not-false _ a.0, tt), (in_each (There 1) (m ∷ []) j k (not-false _ b.0, tt), tt))
  there tendency f w c j r =
      let R = (question tendency).Rule S m in
      let t = passed _ _ R f w in
      let u = passed _ _ R f t.1 in
      let a = passed _ _ R f u.1 in
      let b = passed _ _ R f a.1 in
      let d = passed _ _ R f b.1 in
      let e = passed _ _ R f d.1 in
      let i = and_true (is_in (question tendency).channels c) (is_in ((question tendency).minutes m) j) r in
      let k : is_in (m ∷ (m - three_hours) ∷ []) j ≡ true = rw (t.0, u.0) at i.1 in
      in_each (λ (x : ℕ). There x j) (0 ∷ 1 ∷ []) c i.0 (
        in_each (There 0) (m ∷ (m - three_hours) ∷ []) j k (not-false _ d.0, (not-false _ a.0, tt)),
        (in_each (There 1) (m ∷ (m - three_hours) ∷ []) j k (not-false _ e.0, (not-false _ b.0, tt)), tt),
      )
  there wind f w c j r =
      let R = (question wind).Rule S m in
      let t = passed _ _ R f w in
      let a = passed _ _ R f t.1 in
      let b = passed _ _ R f a.1 in
      let i = and_true (is_in (question wind).channels c) (is_in ((question wind).minutes m) j) r in
      let k : is_in (m ∷ []) j ≡ true = rw t.0 at i.1 in
      in_each (λ (d : ℕ). There d j) (2 ∷ 3 ∷ []) c i.0
      (in_each (There 2) (m ∷ []) j k (not-false _ a.0, tt), (in_each (There 3) (m ∷ []) j k (not-false _ b.0, tt), tt))
  there humidity f w c j r =
      let R = (question humidity).Rule S m in
      let t = passed _ _ R f w in
      let a = passed _ _ R f t.1 in
      let b = passed _ _ R f a.1 in
      let d = passed _ _ R f b.1 in
      let i = and_true (is_in (question humidity).channels c) (is_in ((question humidity).minutes m) j) r in
      let k : is_in (m ∷ []) j ≡ true = rw t.0 at i.1 in
      in_each (λ (x : ℕ). There x j) (0 ∷ 4 ∷ 5 ∷ []) c i.0
      (in_each (There 0) (m ∷ []) j k (not-false _ a.0, tt), (in_each (There 4) (m ∷ []) j k (not-false _ b.0, tt), (in_each (There 5) (m ∷ []) j k (not-false _ d.0, tt), tt)))

-- a question that reads a missing minute is refused
refused_there : (q : Asked) (S : Source) (m : ℕ) (x : Reply q) → Tells q S m x → (c j : ℕ) → reads q m c j ≡ true → S.recall c j ≡ absent
    → (n : Numbered) × ((question q).told x ≡ refused n)
refused_there q S m x w c j r e = go ((question q).told x) (w the_tables.0 the_tables.1)
  where
    go : (a : Answer Numbered (question q).Figures) → Answers ((question q).tests [] the_tables.0 S m) ((question q).Rule S m) a → (n : Numbered) × (a ≡ refused n)
    go (refused n) v = (n, refl)
    go (given f) v = (never (ap is_present (sym e) ∙ there S m the_tables.0 q f v c j r))

-- ---- it stays missing

module _ (g : Settings) (M N : List Sent) (c j : ℕ) (p : Passed g M c j) where
  pub missing : (heard g (N ++ M)).recall c j ≡ absent
  missing = stays_absent_on g c N M j p.missing p.later

  pub answer_missing : (q : Asked) (m : ℕ) → reads q m c j ≡ true → (x : Reply q) → Replies q g (N ++ M) m x → (n : Numbered) × ((question q).told x ≡ refused n)
  answer_missing q m r x w = refused_there q (heard g (N ++ M)) m x (replies q g (N ++ M) m x w) c j r missing

  recall_absent : (b : List ℕ) → Working g (N ++ M) b → recall_of b c j ≡ absent
  unfolding recall_of
  recall_absent b w = go (ltb c CHANNELS) refl
    where
      go : (low : Bool) → ltb c CHANNELS ≡ low → recall_of b c j ≡ absent
      go true h =
          ap (λ (s : List ℕ). recall_of s c j) (block g (N ++ M) b w)
          ∙ (store_remembers g (good g (N ++ M) b w) (N ++ M)).cells c (ltb-true c CHANNELS h) j ∙ missing
      go false h = rw h

  only_missing : (x : Option Reading) → recalled_as j x ≡ absent → x ≡ None
  only_missing None e = refl
  only_missing (Some r) e = impossible (cc)

  pub recall_missing : (b : List ℕ) → Working g (N ++ M) b → (x : Option Reading) → Recalls b c j x → x ≡ None
  recall_missing b w x v =
      let which = v.5 in
      let at = v.1 in
      let is : recalled_as j x ≡ recall_of b c j = rw (sym which.0, sym which.1, sym which.2, sym which.3) v.4 in
      only_missing x (is ∙ recall_absent b w)
