-- A minute is marked exactly when its reading is given, and the newest minute of a store is the newest that its channel accepted.
-- Assumes nothing.
use mathlib.Core.Path.{◌≡◌, refl, sym, ap, ◌∙◌}
use mathlib.Core.Bool.{Bool, true, false}
use mathlib.Core.List.{List, [], ◌∷◌}
use mathlib.Core.Logic.{◌↔◌}
use Prim.Native.Nat.{ℕ, ◌+◌, ◌-◌, ◌<◌}
use native.Mathlib.Omega.{arith}
use lib.Dec.{leb}
use borrow.Author.Tests.{leb-true, leb-false}
use Rattle.number.specs.Refusal.{numbered, refused, given}
use Rattle.number.proofs.RefusalLaws.{refused_not_given}
use Rattle.quantity.specs.Limits.{last_minute}
use Rattle.message.specs.Receive.{Entry}
use Rattle.cell.specs.Cells.{CHANNELS, Recall, is_present}
use Rattle.settings.specs.declared.Settings.{Settings}
use Rattle.block.specs.Words.{is_store}
use Rattle.store.specs.Block.{recall_of}
use Rattle.store.specs.History.{Sent, next_of, history, Remembers}
use Rattle.kept.specs.Kept.{newest_of, reading_of, marked}
use Rattle.kept.proofs.KeptLaws.{newest_none, newest_is, reading_late, reading_absent, reading_there}

module _ (s : List ℕ) (c m : ℕ) (on : is_store s ≡ true) (low : c < CHANNELS) where
  abbrev pub MarkedExactly : Type 0
  MarkedExactly = (marked s c m ≡ 1) ↔ ((x : Recall) × (reading_of s c m ≡ given x))

  -- a minute that is not marked has no reading
  apart : {n : ℕ} {extra : List ℕ} → marked s c m ≡ 0 → reading_of s c m ≡ refused (numbered n extra) → MarkedExactly
  apart z r = (λ e. absurd (omega (arith, z, e)), λ w. refused_not_given (sym r ∙ w.1))

  pub marked_exactly : MarkedExactly
  marked_exactly = go (leb m last_minute) refl (is_present (recall_of s c m)) refl
    where
      go : (b : Bool) → leb m last_minute ≡ b → (p : Bool) → is_present (recall_of s c m) ≡ p → MarkedExactly
      go false h p e = apart (rw h) (reading_late s c on low m (leb-false m last_minute h))
      go true h false e = apart (rw (h, e)) (reading_absent s c on low m (leb-true m last_minute h) e)
      go true h true e = (λ q. (recall_of s c m, reading_there s c on low m (leb-true m last_minute h) e), λ w. rw (h, e))

module _ (s : List ℕ) (g : Settings) (M : List Sent) (c : ℕ) (means : Remembers s g M) (low : c < CHANNELS) where
  pub newest_heard : (e : Entry) (H : List Entry) → history g c M ≡ e ∷ H → newest_of s c ≡ given e.minute
  newest_heard e H is =
      let next = means.newest c low ∙ ap next_of is in
      let less : e.minute + 1 - 1 ≡ e.minute = omega arith in
      newest_is s c means.is_a_store low (λ z. omega (arith, next, z)) ∙ ap (λ (n : ℕ). given (n - 1)) next ∙ ap given less

  pub nothing_heard : history g c M ≡ [] → newest_of s c ≡ refused (numbered 11 [])
  nothing_heard is = newest_none s c means.is_a_store low (means.newest c low ∙ ap next_of is)
