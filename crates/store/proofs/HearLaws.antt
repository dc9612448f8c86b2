-- From what the window answers to what the store answers, and what the block then holds. Assumes nothing.
use mathlib.Core.Path.{◌≡◌, refl, sym, ap, ◌∙◌}
use mathlib.Core.Bool.{Bool, true, false}
use mathlib.Core.List.{List}
use Prim.Native.Nat.{ℕ, ◌≤◌, ◌<◌}
use native.Mathlib.Omega.{arith}
use lib.ListN.{length}
use Rattle.number.specs.Refusal.{refused, given, answer}
use Rattle.wire.specs.Decode.{number_of}
use Rattle.message.specs.Receive.{Entry, received}
use Rattle.wire.specs.declared.MessageRefusal.{MessageRefusal}
use Rattle.window.specs.Window.{takes, accepted, Taken}
use Rattle.window.proofs.AcceptLaws.{takes_not}
use Rattle.cell.specs.Cells.{CHANNELS, cell_of}
use Rattle.block.specs.Layout.{WORDS}
use Rattle.block.specs.Words.{is_store, unit_of, window_of, replaced}
use Rattle.store.specs.Block.{newest_tests, next_in, kept_by, hearing, heard_by, heard_as, outcome, offered, Keeps, Hears}
use Rattle.std.specs.Prelude.{Result, Ok, Err}
use Rattle.store.specs.declared.HearingRefusal.{HearingRefusal}
use Rattle.store.specs.declared.HearingRefusal.TheVariants.{Message, NoStore}
use Rattle.block.proofs.BlockLaws.{window_long}
use Rattle.store.proofs.NewestLaws.{later, not_later}
use Rattle.store.proofs.HearingLaws.{hears_nothing, hearing_refused, hearing_given}

-- ---- one cell

module _ (s : List ℕ) (c t v : ℕ) (long : length s ≡ WORDS) (low : c < CHANNELS) (l : next_in s c ≤ t) where
  -- a window of a block takes a minute that is later than its newest
  is_taken : takes (window_of c s) t ≡ true
  is_taken = go (takes (window_of c s) t) refl
    where
      go : (b : Bool) → takes (window_of c s) t ≡ b → takes (window_of c s) t ≡ true
      go true h = h
      go false h = absurd (omega (arith, takes_not (window_of c s) t (window_long s c long low) h))

  pub cell_kept : (w : List ℕ) (r : Bool) → Taken (window_of c s) w t v r → replaced s c w ≡ replaced s c (accepted (window_of c s) t v)
  cell_kept w r took = ap (replaced s c) (rw is_taken at took.words)

-- ---- one entry, whose channel, minute and cell were worked out apart

module _ (s : List ℕ) (e : Entry) (c t : ℕ) (p : c ≡ e.channel) (q : t ≡ e.minute) where
  pub offered_heard : (v : ℕ) → v ≡ cell_of e → next_in s c ≤ t → Keeps s (replaced s c (accepted (window_of c s) t v)) e (Ok tt)
  offered_heard v k l =
      let is : offered s e ≡ given e = later (next_in s e.channel) e.minute e (rw (p, q) at l) in
      record { answer = rw is; block = rw is (rw (p, q, k)) }

  pub offered_refused : (h : Result (Unit {0}) HearingRefusal) → t < next_in s c → heard_as h ≡ outcome (answer (newest_tests (next_in s c) t) e) → Keeps s s e h
  offered_refused h l told =
      let is = not_later (next_in s e.channel) e.minute e (rw (p, q) at l) in
      record { answer = rw (p, q) at told; block = sym (ap (kept_by s) is.1) }

-- ---- a message

pub hears_unopened : (s m : List ℕ) → is_store s ≡ false → Hears s s m (Err NoStore)
unfolding heard_by
hears_unopened s m is = let h = hears_nothing s m is in record { answer = rw h; block = rw h }

module _ (s m : List ℕ) (is : is_store s ≡ true) where
  pub hears_refused : (r : MessageRefusal) → received (unit_of s) m ≡ refused (number_of r) → Hears s s m (Err (Message r))
  unfolding heard_by
  hears_refused r e = let h = hearing_refused s m is (number_of r) e in record { answer = rw h; block = rw h }

  pub hears_kept : (s' : List ℕ) (e : Entry) (h : Result (Unit {0}) HearingRefusal) → received (unit_of s) m ≡ given e → Keeps s s' e h → Hears s s' m h
  unfolding heard_by
  hears_kept s' e h g k =
      let a : hearing s m ≡ offered s e = hearing_given s m is e g in
      record { answer = k.answer ∙ sym (ap outcome a); block = k.block ∙ sym (ap (kept_by s) a) }
