-- What hearing a message comes to. A block that is no store hears nothing; a store goes by what the message alone comes to: a
-- refusal of 1 to 7 stays, otherwise the channel's newest decides. Assumes nothing.
use mathlib.Core.Path.{◌≡◌, refl, sym, ap, ◌∙◌}
use mathlib.Core.Bool.{Bool, true, false}
use mathlib.Core.List.{List, []}
use Prim.Native.Nat.{ℕ}
use Rattle.number.specs.Refusal.{Numbered, numbered, Test, plain, Answer, refused, given, answer}
use Rattle.number.proofs.RefusalLaws.{refused_not_given, refused_stays, given_goes_on, given_is, plain_refused, plain_given}
use Rattle.message.specs.Receive.{Entry, tests, received}
use Rattle.block.specs.Layout.{NO_STORE}
use Rattle.block.specs.Words.{is_store, unit_of}
use Rattle.store.specs.Block.{entry_of_bytes, newest_tests, next_in, hear_tests, hearing, kept, kept_by, heard_by, offered}

abbrev last : List ℕ → Entry → List (Test Numbered)
last s e = newest_tests (next_in s e.channel) e.minute

module _ (s m : List ℕ) where
  -- a store puts the message to the tests of the documents
  pub store_hears : is_store s ≡ true → hearing s m ≡ answer (hear_tests s m) (entry_of_bytes s m)
  unfolding hearing answer
  store_hears is = rw is

  pub hears_nothing : is_store s ≡ false → hearing s m ≡ refused (numbered NO_STORE [])
  unfolding hearing answer
  hears_nothing not_is = rw not_is

  pub hearing_refused : is_store s ≡ true → (n : ℕ) → received (unit_of s) m ≡ refused n → hearing s m ≡ refused (numbered n [])
  unfolding received
  hearing_refused is n r =
      store_hears is
      ∙ refused_stays (plain (tests (unit_of s) m)) (last s (entry_of_bytes s m)) (entry_of_bytes s m) (entry_of_bytes s m) (numbered n [])
      (plain_refused (entry_of_bytes s m) (tests (unit_of s) m) n r)

  pub hearing_given : is_store s ≡ true → (e : Entry) → received (unit_of s) m ≡ given e → hearing s m ≡ offered s e
  unfolding received
  hearing_given is e r =
      store_hears is
      ∙ given_goes_on (plain (tests (unit_of s) m)) (last s (entry_of_bytes s m)) (entry_of_bytes s m) e (entry_of_bytes s m)
      (plain_given (entry_of_bytes s m) (tests (unit_of s) m) e r)
      ∙ ap (offered s) (given_is (tests (unit_of s) m) (entry_of_bytes s m) e r)

  -- what was kept had been received, by a store
  pub hearing_was : (e : Entry) → hearing s m ≡ given e → received (unit_of s) m ≡ given e
  hearing_was e h = by_block (is_store s) refl
    where
      by_message : is_store s ≡ true → (a : Answer ℕ Entry) → received (unit_of s) m ≡ a → received (unit_of s) m ≡ given e
      by_message is (refused n) r = refused_not_given (sym (hearing_refused is n r) ∙ h)
      by_message is (given x) r = r ∙ ap given (given_is (last s x) x e (sym (hearing_given is x r) ∙ h))

      by_block : (b : Bool) → is_store s ≡ b → received (unit_of s) m ≡ given e
      by_block true is = by_message is (received (unit_of s) m) refl
      by_block false is = refused_not_given (sym (hears_nothing is) ∙ h)

  -- the block after it
  pub heard_refused : (n : Numbered) → hearing s m ≡ refused n → heard_by s m ≡ s
  unfolding heard_by
  heard_refused n h = rw h

  pub heard_given : (e : Entry) → hearing s m ≡ given e → heard_by s m ≡ kept s e
  unfolding heard_by
  heard_given e h = ap (kept_by s) h
