-- What is accepted stays the same: a message is kept exactly when it was before 8 and 19 were told apart, with the same block then; and
-- it is refused as before, but that a minute earlier than the newest is 19 where it was 8. Assumes nothing.
use mathlib.Core.Path.{◌≡◌, refl, sym, ap, ◌∙◌}
use mathlib.Core.Bool.{Bool, true, false, not, cond}
use mathlib.Core.List.{List, [], ◌∷◌}
use mathlib.Core.Logic.{◌↔◌}
use Prim.Native.Nat.{ℕ, ◌+◌, ◌-◌, ◌<◌}
use native.Mathlib.Omega.{arith}
use native.Mathlib.Decide.{ℕ_discrete}
use lib.Dec.{eqb}
use lib.ListN.{length}
use borrow.Author.Tests.{ne_eqb}
use Rattle.number.specs.Refusal.{Numbered, numbered, Test, plain, Answer, refused, given, answer}
use Rattle.number.proofs.RefusalLaws.{refused_not_given, refused_then, refused_stays, given_goes_on, given_is, plain_refused}
use Rattle.message.specs.Receive.{Entry, tests, received}
use Rattle.window.proofs.AcceptLaws.{takes_later, takes_not}
use Rattle.cell.specs.Cells.{CHANNELS}
use Rattle.cell.proofs.CellLaws.{received_back}
use Rattle.block.specs.Layout.{WORDS, NO_STORE}
use Rattle.block.specs.Words.{is_store, unit_of, window_of}
use Rattle.block.proofs.BlockLaws.{window_long}
use Rattle.store.specs.Block.{entry_of_bytes, next_in, hearing, kept_by, heard_by, offered}
use Rattle.store.specs.Before.{is_later, tests_before, hearing_before, told_before}
use Rattle.store.proofs.NewestLaws.{later, repeated, late}
use Rattle.store.proofs.HearingLaws.{hears_nothing, hearing_refused, hearing_given}
use Rattle.store.proofs.RefusalsInOrder.{not_among}

-- ---- the rule before, by what the message alone comes to

abbrev last_before : Bool → List (Test ℕ)
last_before is_later = record { refusal = 8; holds = not is_later } ∷ []

last_before_lem : (b : Bool) (a : Entry) → answer (last_before b) a ≡ cond b (given a) (refused 8)
unfolding answer
last_before_lem true a = refl
last_before_lem false a = refl

module _ (s m : List ℕ) where
  heard_before : is_store s ≡ true → hearing_before s m ≡ answer (tests_before s m) (entry_of_bytes s m)
  unfolding hearing_before answer
  heard_before is = rw is

  nothing_before : is_store s ≡ false → hearing_before s m ≡ refused NO_STORE
  unfolding hearing_before answer
  nothing_before not_is = rw not_is

  refused_before : is_store s ≡ true → (n : ℕ) → received (unit_of s) m ≡ refused n → hearing_before s m ≡ refused n
  unfolding received
  refused_before is n r =
      heard_before is
      ∙ refused_stays (tests (unit_of s) m) (last_before (is_later s (entry_of_bytes s m))) (entry_of_bytes s m) (entry_of_bytes s m) n r

  given_before : is_store s ≡ true → (e : Entry) → received (unit_of s) m ≡ given e → hearing_before s m ≡ cond (is_later s e) (given e) (refused 8)
  unfolding received
  given_before is e r =
      heard_before is
      ∙ given_goes_on (tests (unit_of s) m) (last_before (is_later s (entry_of_bytes s m))) (entry_of_bytes s m) e (entry_of_bytes s m) r
      ∙ last_before_lem (is_later s (entry_of_bytes s m)) (entry_of_bytes s m)
      ∙ ap (λ (z : Entry). cond (is_later s z) (given z) (refused 8)) (given_is (tests (unit_of s) m) (entry_of_bytes s m) e r)

  -- 19 is none of the refusals 1 to 7
  not_nineteen : (n : ℕ) → received (unit_of s) m ≡ refused n → n ≡ 19 → ⊥
  unfolding received
  not_nineteen n r q =
      let seen : answer (tests (unit_of s) m) (entry_of_bytes s m) ≡ refused 19 = r ∙ ap refused q in
      let first = refused_then (entry_of_bytes s m) (plain (tests (unit_of s) m)) (numbered 19 []) (plain_refused (entry_of_bytes s m) (tests (unit_of s) m) 19 seen) in
      not_among (numbered 19 []) (plain (tests (unit_of s) m)) tt first.0 first.1

-- ---- beside the newest

module _ (s : List ℕ) (e : Entry) (long : length s ≡ WORDS) (low : e.channel < CHANNELS) where
  offered_before : cond (is_later s e) (given e) (refused 8) ≡ told_before (offered s e)
  offered_before = go (is_later s e) refl
    where
      earlier : e.minute < next_in s e.channel → Dec (e.minute + 1 ≡ next_in s e.channel) → refused 8 ≡ told_before (offered s e)
      earlier l (yes q) = sym (ap told_before (repeated (next_in s e.channel) e.minute e q))
      earlier l (no q) = sym (ap told_before (late (next_in s e.channel) e.minute e (omega arith)))

      go : (b : Bool) → is_later s e ≡ b → cond b (given e) (refused 8) ≡ told_before (offered s e)
      go true t = sym (ap told_before (later (next_in s e.channel) e.minute e (takes_later (window_of e.channel s) e.minute t)))
      go false t =
          earlier (takes_not (window_of e.channel s) e.minute (window_long s e.channel long low) t) (ℕ_discrete (e.minute + 1) (next_in s e.channel))

-- ---- the theorem

module _ (s m : List ℕ) (long : length s ≡ WORDS) where
  -- EVERY ANSWER IS THAT OF BEFORE, but for 19, which was 8.
  pub as_before : hearing_before s m ≡ told_before (hearing s m)
  as_before = by_block (is_store s) refl
    where
      by_message : is_store s ≡ true → (a : Answer ℕ Entry) → received (unit_of s) m ≡ a → hearing_before s m ≡ told_before (hearing s m)
      by_message is (refused n) r =
          let same : cond (eqb n 19) 8 n ≡ n = rw (ne_eqb n 19 (not_nineteen s m n r)) in
          refused_before s m is n r ∙ sym (ap told_before (hearing_refused s m is n r) ∙ ap refused same)
      by_message is (given e) r =
          given_before s m is e r
          ∙ offered_before s e long (received_back (unit_of s) m e r).1
          ∙ sym (ap told_before (hearing_given s m is e r))

      by_block : (b : Bool) → is_store s ≡ b → hearing_before s m ≡ told_before (hearing s m)
      by_block true is = by_message is (received (unit_of s) m) refl
      by_block false is = nothing_before s m is ∙ sym (ap told_before (hears_nothing s m is))

  -- A MESSAGE IS KEPT EXACTLY WHEN IT WAS KEPT BEFORE,
  pub kept_as_before : (e : Entry) → (hearing s m ≡ given e) ↔ (hearing_before s m ≡ given e)
  kept_as_before e = (λ h. as_before ∙ ap told_before h, λ h. back (hearing s m) (sym as_before ∙ h))
    where
      back : (a : Answer Numbered Entry) → told_before a ≡ given e → a ≡ given e
      back (refused n) q = refused_not_given q
      back (given x) q = let same : x ≡ e = cc in ap given same

  -- and the block is then the same.
  pub block_as_before : heard_by s m ≡ kept_by s (hearing_before s m)
  unfolding heard_by
  block_as_before = go (hearing s m) ∙ sym (ap (kept_by s) as_before)
    where
      go : (a : Answer Numbered Entry) → kept_by s a ≡ kept_by s (told_before a)
      go (refused n) = refl
      go (given e) = refl
