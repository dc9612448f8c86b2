-- What the store's laws say of the watch's messages: each is heard, and what is then recalled, by computation. Assumes nothing.
use mathlib.Core.Path.{◌≡◌, refl, sym, ap, ◌∙◌, subst}
use mathlib.Core.Bool.{Bool, true, false, not}
use mathlib.Core.List.{List, [], ◌∷◌}
use Prim.Native.Nat.{ℕ, ◌<◌}
use Rattle.std.specs.Prelude.{Option, Some, None, is_some, Result, Ok, Err, is_ok}
use lib.Dec.{leb, lit<}
use lib.Ieee.{of_bits}
use lib.IntN.{pos}
use borrow.Author.Tests.{leb-true}
use Rattle.number.specs.Round.{nearest}
use Rattle.number.specs.Refusal.{Numbered, Answer, refused, given, answer}
use Rattle.number.proofs.Sizes.{impossible, never}
use Rattle.quantity.specs.Limits.{minutes_between}
use Rattle.quantity.specs.declared.BarometerUnit.TheVariants.{Hectopascals}
use Rattle.message.specs.Value.{to_whole}
use Rattle.message.specs.Receive.{hPa, °C, none, Entry, received}
use Rattle.settings.specs.Settings.{every, certificate_holds, anemometer_holds, others_hold, checked}
use Rattle.window.specs.Window.{absents}
use Rattle.cell.specs.Cells.{CHANNELS, is_present}
use Rattle.store.specs.Block.{opened_by, is_given, heard_as, outcome, Hears, recall_of, absent_of}
use Rattle.cell.specs.Cells.{Recall, recalled_as}
use Rattle.store.specs.History.{Sent, bytes, next_of, history, remembered, Remembers}
use Rattle.settings.specs.Settings.{checked_as}
use Rattle.settings.specs.declared.SettingsRefusal.{SettingsRefusal}
use Rattle.settings.specs.declared.SettingsRefusal.TheVariants.{OutsideLimits, CertificateBroken, AnemometerBroken}
use Rattle.message.specs.declared.Reading.{Reading}
use Rattle.store.specs.declared.HearingRefusal.{HearingRefusal}
use Rattle.store.proofs.NewestLaws.{later}
use Rattle.store.proofs.OpenLaws.{opens}
use Rattle.store.proofs.HistoryLaws.{opened_remembers, heard_remembers, by_newest}
use Rattle.store.proofs.StoreTheorems.{absent_count}
use Rattle.gap.specs.Watch.{ship, sent, to_100, to_280, to_400, pressure_in, temperature_in}

-- ---- what the library's tests say

good_is_ok : (r : Result (Unit {0}) SettingsRefusal) → is_given (checked_as r) ≡ true → is_ok r ≡ true
good_is_ok (Ok u) e = refl
good_is_ok (Err OutsideLimits) g = g
good_is_ok (Err CertificateBroken) g = g
good_is_ok (Err AnemometerBroken) g = g

heard_is_ok : (h : Result (Unit {0}) HearingRefusal) → is_given (heard_as h) ≡ true → is_ok h ≡ true
heard_is_ok (Ok u) e = refl
heard_is_ok (Err r) e = e

is_none_by : (x : Option Reading) (m : ℕ) (r : Bool) → not (is_present (recalled_as m x)) ≡ true → is_some x ≡ not r → r ≡ true
is_none_by None m true h k = refl
is_none_by None m false h k = k
is_none_by (Some x) m r h k = never h

pub missing_is_none : (x : Option Reading) (m : ℕ) {y : Recall} {r : Bool} → recalled_as m x ≡ y → not (is_present y) ≡ true → is_some x ≡ not r → r ≡ true
missing_is_none x m {y} {r} e h k = is_none_by x m r (ap (λ (z : Recall). not (is_present z)) e ∙ h) k

-- ---- any messages

-- Each setting lies within its limits, by computation.
pub good : checked ship ≡ given tt
unfolding every certificate_holds anemometer_holds others_hold checked answer
good = refl

pub good_opens : (r : Result (Unit {0}) SettingsRefusal) → checked_as r ≡ checked ship → is_ok r ≡ true
good_opens r e = good_is_ok r (ap is_given (e ∙ good))

-- The opened station remembers nothing.
pub opened_well : (s : List ℕ) → Remembers (opened_by s ship) ship []
opened_well s = subst (λ (x : List ℕ). Remembers x ship []) (opens s ship good) (opened_remembers ship)

-- After the messages M: "A message must be later than its channel's newest."
abbrev is_later_than : List Sent → Answer ℕ Entry → Bool
is_later_than M (refused n) = false
is_later_than M (given e) = leb (next_of (history ship e.channel M)) e.minute

abbrev pub is_new : List Sent → List ℕ → Bool
is_new M m = is_later_than M (received Hectopascals m)

module _ {s s' m : List ℕ} {h : Result (Unit {0}) HearingRefusal} {M : List Sent} (heard : Hears s s' m h) (r : Remembers s ship M) where
  pub is_heard : is_new M m ≡ true → is_ok h ≡ true
  is_heard new = heard_is_ok h (go (received Hectopascals m) refl new)
    where
      go : (a : Answer ℕ Entry) → received Hectopascals m ≡ a → is_later_than M a ≡ true → is_given (heard_as h) ≡ true
      go (refused n) g t = impossible (cc)
      go (given e) g t =
          let n = next_of (history ship e.channel M) in
          ap is_given heard.answer
          ∙ ap (λ (a : Answer Numbered Entry). is_given (outcome a))
          (by_newest ship s M m r e g ∙ later n e.minute e (leb-true n e.minute t))

  pub goes_on : Remembers s' ship (bytes m ∷ M)
  goes_on = subst (λ (x : List ℕ). Remembers x ship (bytes m ∷ M)) (sym heard.block) (heard_remembers ship s M m r)

-- ---- this watch

-- Each of the six messages is later than what its channel heard.
pub barometer_new_100 : is_new [] (sent 0 100 0x447d_4ccd) ≡ true
unfolding history received answer to_whole nearest of_bits
barometer_new_100 = refl

pub thermometer_new_100 : is_new (bytes (sent 0 100 0x447d_4ccd) ∷ []) (sent 1 100 0x4148_0000) ≡ true
unfolding history received answer to_whole nearest of_bits
thermometer_new_100 = refl

pub barometer_new_280 : is_new to_100 (sent 0 280 0x447c_6ccd) ≡ true
unfolding history received answer to_whole nearest of_bits
barometer_new_280 = refl

pub thermometer_new_280 : is_new (bytes (sent 0 280 0x447c_6ccd) ∷ to_100) (sent 1 280 0x4150_0000) ≡ true
unfolding history received answer to_whole nearest of_bits
thermometer_new_280 = refl

pub barometer_new_400 : is_new to_280 (sent 0 400 0x447c_199a) ≡ true
unfolding history received answer to_whole nearest of_bits
barometer_new_400 = refl

pub thermometer_new_400 : is_new (bytes (sent 0 400 0x447c_199a) ∷ to_280) (sent 1 400 0x4158_0000) ≡ true
unfolding history received answer to_whole nearest of_bits
thermometer_new_400 = refl

-- What each channel accepted, newest first.
abbrev pressure : ℕ → ℕ → Entry
pressure t tenths = record { channel = 0; minute = t; first = hPa (pos tenths); second = none }

abbrev temperature : ℕ → ℕ → Entry
temperature t tenths = record { channel = 1; minute = t; first = °C (pos tenths); second = none }

abbrev pressures_280 : List Entry
pressures_280 = pressure 280 10097 ∷ pressure 100 10132 ∷ []

abbrev temperatures_280 : List Entry
temperatures_280 = temperature 280 130 ∷ temperature 100 125 ∷ []

pressures_to_280 : history ship 0 to_280 ≡ pressures_280
unfolding history received answer to_whole nearest of_bits
pressures_to_280 = refl

temperatures_to_280 : history ship 1 to_280 ≡ temperatures_280
unfolding history received answer to_whole nearest of_bits
temperatures_to_280 = refl

pressures_to_400 : history ship 0 to_400 ≡ pressure 400 10084 ∷ pressures_280
unfolding history received answer to_whole nearest of_bits
pressures_to_400 = refl

temperatures_to_400 : history ship 1 to_400 ≡ temperature 400 135 ∷ temperatures_280
unfolding history received answer to_whole nearest of_bits
temperatures_to_400 = refl

-- A minute and a count of absent minutes, of a channel whose history is known.
module _ {s : List ℕ} {M : List Sent} {H : List Entry} (r : Remembers s ship M)
    (c : ℕ) (l : c < CHANNELS) (e : history ship c M ≡ H) where
  recalls : (j : ℕ) → recall_of s c j ≡ remembered H j
  recalls j = r.cells c l j ∙ ap (λ (K : List Entry). remembered K j) e

  counts : (t : ℕ) → absent_of s c t ≡ absents (λ j. is_present (remembered H j)) t minutes_between
  counts t = absent_count s ship M c t r l ∙ ap (λ (K : List Entry). absents (λ j. is_present (remembered K j)) t minutes_between) e

-- "Barometer and thermometer at 100 and 280 only: tendency at 280, 179 absent."
module _ {s : List ℕ} (r : Remembers s ship to_280) where
  pub pressures_absent_280 : absent_of s 0 280 ≡ 179
  unfolding remembered absents
  pressures_absent_280 = counts r 0 (lit< tt) pressures_to_280 280

  pub temperatures_absent_280 : absent_of s 1 280 ≡ 179
  unfolding remembered absents
  temperatures_absent_280 = counts r 1 (lit< tt) temperatures_to_280 280

  pub pressure_at_100 : pressure_in (recall_of s 0 100) ≡ 10132
  unfolding remembered
  pressure_at_100 = ap pressure_in (recalls r 0 (lit< tt) pressures_to_280 100)

  pub pressure_at_280 : pressure_in (recall_of s 0 280) ≡ 10097
  unfolding remembered
  pressure_at_280 = ap pressure_in (recalls r 0 (lit< tt) pressures_to_280 280)

  pub temperature_at_100 : temperature_in (recall_of s 1 100) ≡ 125
  unfolding remembered
  temperature_at_100 = ap temperature_in (recalls r 1 (lit< tt) temperatures_to_280 100)

  pub temperature_at_280 : temperature_in (recall_of s 1 280) ≡ 130
  unfolding remembered
  temperature_at_280 = ap temperature_in (recalls r 1 (lit< tt) temperatures_to_280 280)

-- "Then both at 400: minute 220 is absent." Minute 280 is still kept, minute 100 is gone.
abbrev is_missing : Recall → Bool
is_missing x = not (is_present x)

module _ {s : List ℕ} (r : Remembers s ship to_400) where
  recalls_0 : (j : ℕ) → recall_of s 0 j ≡ remembered (pressure 400 10084 ∷ pressures_280) j
  recalls_0 = recalls r 0 (lit< tt) pressures_to_400

  recalls_1 : (j : ℕ) → recall_of s 1 j ≡ remembered (temperature 400 135 ∷ temperatures_280) j
  recalls_1 = recalls r 1 (lit< tt) temperatures_to_400

  pub pressure_missing_220 : not (is_present (recall_of s 0 220)) ≡ true
  unfolding remembered
  pressure_missing_220 = ap is_missing (recalls_0 220)

  pub temperature_missing_220 : not (is_present (recall_of s 1 220)) ≡ true
  unfolding remembered
  temperature_missing_220 = ap is_missing (recalls_1 220)

  pub pressure_gone_100 : not (is_present (recall_of s 0 100)) ≡ true
  unfolding remembered
  pressure_gone_100 = ap is_missing (recalls_0 100)

  pub temperature_gone_100 : not (is_present (recall_of s 1 100)) ≡ true
  unfolding remembered
  temperature_gone_100 = ap is_missing (recalls_1 100)

  pub pressure_still_280 : pressure_in (recall_of s 0 280) ≡ 10097
  unfolding remembered
  pressure_still_280 = ap pressure_in (recalls_0 280)

  pub temperature_still_280 : temperature_in (recall_of s 1 280) ≡ 130
  unfolding remembered
  temperature_still_280 = ap temperature_in (recalls_1 280)
