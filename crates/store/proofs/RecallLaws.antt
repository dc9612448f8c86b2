-- What is kept in a block is of its channel's kind, whatever the block: a cell outside its limits counts as absent. By the definition of
-- what a cell says. Assumes nothing.
use mathlib.Core.Path.{◌≡◌, refl, sym, ap, ◌∙◌}
use mathlib.Core.Bool.{Bool, true, false, not, ◌&&◌, cond}
use mathlib.Core.List.{List, [], ◌∷◌}
use mathlib.Core.Logic.{inl, inr}
use Prim.Native.Nat.{ℕ, ◌<◌}
use types.Run.{OneOf}
use Rattle.std.specs.Prelude.{Option, Some, None}
use denote.Enum.Declared.{tag_of}
use lib.Dec.{eqb}
use lib.ListN.{get_or}
use borrow.Author.Tests.{lt-ltb, eq-eqb, not-true}
use Rattle.number.proofs.Sizes.{and_true, never}
use Rattle.quantity.specs.declared.BarometerUnit.{BarometerUnit}
use Rattle.message.specs.Receive.{Entry, entry_of}
use Rattle.message.specs.declared.Reading.{Reading}
use Rattle.message.specs.declared.Reading.TheVariants as reading
use Rattle.message.specs.contracts.Reading.{the_type}
use Rattle.window.specs.Window as window
use Rattle.cell.specs.Cells.{CHANNELS, entry_in, sound_in, Recall, absent, recalled, recalled_as, is_present}
use Rattle.block.specs.Words.{unit_of, window_of}
use Rattle.store.specs.Block.{recall_in, recall_of}

-- what a present cell says
pub record Sound (u : BarometerUnit) (c m : ℕ) (x : Recall) : Type 0 where
  pub cell : ℕ
  pub sound : sound_in u c cell ≡ true
  pub is : x ≡ recalled (entry_in u c m cell)

sound_in_lem : (u : BarometerUnit) (c m : ℕ) (f : Option ℕ) → is_present (recall_in u c m f) ≡ true → Sound u c m (recall_in u c m f)
sound_in_lem u c m None e = never e
sound_in_lem u c m (Some v) e = go (sound_in u c v) refl e
  where
    go : (b : Bool) → sound_in u c v ≡ b → is_present (cond b (recalled (entry_in u c m v)) absent) ≡ true → Sound u c m (cond b (recalled (entry_in u c m v)) absent)
    go true s e = record { cell = v; sound = s; is = refl }
    go false s e = never e

module _ (s : List ℕ) (c m : ℕ) (low : c < CHANNELS) (there : is_present (recall_of s c m) ≡ true) where
  pub kept : Sound (unit_of s) c m (recall_of s c m)
  unfolding recall_of
  kept =
      let here : is_present (recall_in (unit_of s) c m (window.kept (window_of c s) m)) ≡ true = rw (lt-ltb c CHANNELS low) at there in
      rw (lt-ltb c CHANNELS low) (sound_in_lem (unit_of s) c m (window.kept (window_of c s) m) here)

  -- It is a reading of its channel.
  pub channel_is : (e : Entry) → recall_of s c m ≡ recalled e → e.channel ≡ c
  channel_is e i = let j = sym i ∙ kept.is in cc

-- ---- what a recall comes to

-- the channel of each case of a reading, in the order of the cases
abbrev channel_at : ℕ → ℕ
channel_at k = get_or (0 ∷ 0 ∷ 1 ∷ 2 ∷ 3 ∷ 4 ∷ 5 ∷ []) k CHANNELS

case_channel : (t : ℕ) (r : Reading) → (entry_of t r).channel ≡ channel_at (tag_of the_type r)
case_channel t (reading.Hectopascals p) = refl
case_channel t (reading.Millimetres p) = refl
case_channel t (reading.Wheelhouse x) = refl
case_channel t (reading.ApparentWind v d) = refl
case_channel t (reading.ShipMotion v d) = refl
case_channel t (reading.DryBulb x) = refl
case_channel t (reading.WetBulb s x) = refl

-- whether these cases are of other channels than c
abbrev others : ℕ → List ℕ → Bool
others c [] = true
others c (k ∷ ks) = not (eqb (channel_at k) c) && others c ks

not_this : (c n k : ℕ) → not (eqb (channel_at k) c) ≡ true → n ≡ k → channel_at n ≡ c → ⊥
not_this c n k h i e = never (sym (not-true _ h) ∙ eq-eqb (channel_at k) c (sym (ap channel_at i) ∙ e))

none_of : (c n : ℕ) (ks : List ℕ) → others c ks ≡ true → OneOf ks n → channel_at n ≡ c → ⊥
none_of c n [] o i e = i
none_of c n (k ∷ []) o i e = not_this c n k (and_true (not (eqb (channel_at k) c)) true o).0 i e
none_of c n (k ∷ l ∷ ks) o (inl i) e = not_this c n k (and_true (not (eqb (channel_at k) c)) (others c (l ∷ ks)) o).0 i e
none_of c n (k ∷ l ∷ ks) o (inr i) e = none_of c n (l ∷ ks) (and_true (not (eqb (channel_at k) c)) (others c (l ∷ ks)) o).1 i e

module _ (s : List ℕ) (c m : ℕ) {x : Option Reading} (told : recalled_as m x ≡ recall_of s c m) where
  pub not_kept : x ≡ None → is_present (recall_of s c m) ≡ false
  not_kept e = ap is_present (sym told ∙ ap (recalled_as m) e)

  pub is_kept : {r : Reading} → x ≡ Some r → recall_of s c m ≡ recalled (entry_of m r)
  is_kept e = sym told ∙ ap (recalled_as m) e

  -- A reading of another channel's kind never comes of it.
  pub no_other : {A : Type 0} (r : Reading) → c < CHANNELS → x ≡ Some r → (ks : List ℕ) → others c ks ≡ true → OneOf ks (tag_of the_type r) → A
  no_other r low e ks o i =
      let is = is_kept e in
      absurd (none_of c (tag_of the_type r) ks o i (sym (case_channel m r) ∙ channel_is s c m low (ap is_present is) (entry_of m r) is))
