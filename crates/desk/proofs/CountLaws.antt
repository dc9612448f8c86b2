-- Messages cut from a text, and what hearing one more of them does to the block and to the counts: what is left to be heard from here
-- comes to the same as what was to be heard at the start. Assumes nothing.
use mathlib.Core.Path.{◌≡◌, refl, sym, ap, ◌∙◌}
use mathlib.Core.Bool.{Bool, true, false, cond}
use mathlib.Core.List.{List, [], ◌∷◌, ◌++◌, append-nil}
use Prim.Native.Nat.{ℕ, suc, ◌+◌, ◌-◌, ◌/◌, ◌^◌, ◌≤◌, ◌<◌, min}
use native.Mathlib.Omega.{arith}
use lib.Dec.{eqb, lit<}
use lib.ListN.{length, get_or, take, drop, set, length-drop, length-append, drop_of_length-le}
use lib.Seq.{take_at, drop_at, take_all, lt-length-set, get_or-set_same, get_or-set_other}
use borrow.Author.Tests.{eqb-true, eqb-false}
use Rattle.number.specs.Refusal.{Numbered, Answer, refused, given, numbered_in}
use Rattle.wire.specs.declared.MessageRefusal.{MessageRefusal}
use Rattle.wire.specs.declared.MessageRefusal.TheVariants.{NotSixteenBytes, NoSuchChannel, ByteNotZero, NoSuchState, MinuteTooLate, NotFinite, OutsideLimits}
use Rattle.message.specs.Receive.{Entry}
use Rattle.settings.specs.declared.Settings.{Settings}
use Rattle.store.specs.Block.{hearing, heard_by, heard_as, outcome, Hears}
use Rattle.store.specs.History.{Sent, bytes, store_of}
use Rattle.store.specs.declared.HearingRefusal.{HearingRefusal}
use Rattle.store.specs.declared.HearingRefusal.TheVariants.{Message, Repeated, Late, OutsideDial, NoCourse, OutsideAnemometer, NoStore}
use Rattle.std.specs.Prelude.{Result, Ok, Err}
use Rattle.desk.specs.Counting.{cut, messages, heard_all, one_more, counted_all}

-- ---- cutting

pub messages_none : (s : List ℕ) → length s ≡ 0 → messages s ≡ []
unfolding messages cut
messages_none [] h = refl
messages_none (x ∷ s) h = absurd (omega (arith, h))

pub messages_on : (s : List ℕ) → 0 < length s → messages s ≡ take 16 s ∷ messages (drop 16 s)
unfolding messages cut
messages_on s h =
    let n : (length s + 15) / 16 ≡ suc ((length (drop 16 s) + 15) / 16) = omega (arith, length-drop 16 s) in
    ap (λ (k : ℕ). cut k s) n

-- OF WHOLE MESSAGES LAID ONE BEHIND THE OTHER THE MESSAGES ARE THOSE.
pub message_then : (m rest : List ℕ) → length m ≡ 16 → messages (m ++ rest) ≡ m ∷ messages rest
message_then m rest h =
    messages_on (m ++ rest) (omega (arith, length-append m rest))
    ∙ ap (λ (x : List ℕ). x ∷ messages (drop 16 (m ++ rest))) (take_at m rest 16 h)
    ∙ ap (λ (x : List ℕ). m ∷ messages x) (drop_at m rest 16 h)

-- the next chunk, of 16 bytes or all that are left, is the next message
pub chunk_is : (s m rest : List ℕ) → s ≡ m ++ rest → length m ≡ min 16 (length s) → 0 < length s → messages s ≡ m ∷ messages rest
chunk_is s m [] e l h =
    let whole : s ≡ m = e ∙ append-nil m in
    let few : length s ≤ 16 = omega (arith, ap length whole) in
    messages_on s h
    ∙ ap (λ (x : List ℕ). x ∷ messages (drop 16 s)) (take_all 16 s few ∙ whole)
    ∙ ap (λ (x : List ℕ). m ∷ messages x) (drop_of_length-le s few)
chunk_is s m (x ∷ rest) e l h = ap messages e ∙ message_then m (x ∷ rest) (omega (arith, ap length e, length-append m (x ∷ rest)))

-- ---- numbers

-- each has a place among the counts
pub number_small : (h : Result (Unit {0}) HearingRefusal) → numbered_in (heard_as h) < 256
number_small (Ok u) = lit< tt
number_small (Err (Message r)) = go r
  where
    go : (r : MessageRefusal) → numbered_in (heard_as (Err (Message r))) < 256
    go NotSixteenBytes = lit< tt
    go NoSuchChannel = lit< tt
    go ByteNotZero = lit< tt
    go NoSuchState = lit< tt
    go MinuteTooLate = lit< tt
    go NotFinite = lit< tt
    go OutsideLimits = lit< tt
number_small (Err Repeated) = lit< tt
number_small (Err (Late minutes)) = lit< tt
number_small (Err OutsideDial) = lit< tt
number_small (Err (NoCourse m)) = lit< tt
number_small (Err OutsideAnemometer) = lit< tt
number_small (Err NoStore) = lit< tt

same_number : (a : Answer Numbered Entry) → numbered_in (outcome a) ≡ numbered_in a
same_number (refused n) = refl
same_number (given e) = refl

-- ---- hearing one more

-- a message was heard, and its number counted: what is left comes to the same
module _ (s s' m counts : List ℕ) (M : List (List ℕ)) (h : Result (Unit {0}) HearingRefusal) (n k : ℕ)
    (hears : Hears s s' m h) (number : n ≡ numbered_in (heard_as h)) (more : k ≡ min (get_or counts n 0 + 1) (2 ^ 64 - 1)) where
  pub heard_on : heard_all s' M ≡ heard_all s (m ∷ M)
  unfolding heard_all
  heard_on = ap (λ (b : List ℕ). heard_all b M) hears.block

  counted_one : set counts n k ≡ one_more counts (numbered_in (hearing s m))
  unfolding one_more
  counted_one =
      let e : n ≡ numbered_in (hearing s m) = number ∙ ap numbered_in hears.answer ∙ same_number (hearing s m) in
      ap (set counts n) more ∙ ap (λ (j : ℕ). set counts j (min (get_or counts j 0 + 1) (2 ^ 64 - 1))) e

  pub counted_on : counted_all s' M (set counts n k) ≡ counted_all s (m ∷ M) counts
  unfolding counted_all
  counted_on = ap (λ (b : List ℕ). counted_all b M (set counts n k)) hears.block ∙ ap (counted_all (heard_by s m) M) counted_one

pub heard_none : (s : List ℕ) → heard_all s [] ≡ s
unfolding heard_all
heard_none s = refl

pub counted_none : (s counts : List ℕ) → counted_all s [] counts ≡ counts
unfolding counted_all
counted_none s counts = refl

-- ---- what the counts say

-- How many messages came to a number, each heard by the block that those before it left.
unfoldable pub how_many : ℕ → List ℕ → List (List ℕ) → ℕ
how_many n s [] = 0
how_many n s (m ∷ M) = cond (eqb n (numbered_in (hearing s m))) 1 0 + how_many n (heard_by s m) M

one_counted : (n k : ℕ) (counts : List ℕ) → n < length counts → get_or counts n 0 + cond (eqb n k) 1 0 < 2 ^ 64
    → get_or (one_more counts k) n 0 ≡ get_or counts n 0 + cond (eqb n k) 1 0
unfolding one_more
one_counted n k counts inside room = go (eqb n k) refl room
  where
    go : (b : Bool) → eqb n k ≡ b → get_or counts n 0 + cond b 1 0 < 2 ^ 64 → get_or (one_more counts k) n 0 ≡ get_or counts n 0 + cond b 1 0
    go true e room =
        let same : k ≡ n = sym (eqb-true n k e) in
        let fits : min (get_or counts n 0 + 1) (2 ^ 64 - 1) ≡ get_or counts n 0 + 1 = omega arith in
        ap (λ (j : ℕ). get_or (set counts j (min (get_or counts j 0 + 1) (2 ^ 64 - 1))) n 0) same
        ∙ get_or-set_same counts n (min (get_or counts n 0 + 1) (2 ^ 64 - 1)) 0 inside
        ∙ fits
    go false e room =
        get_or-set_other counts k n (min (get_or counts k 0 + 1) (2 ^ 64 - 1)) 0 (eqb-false n k e)
        ∙ (omega arith)

still_inside : (n k : ℕ) (counts : List ℕ) → n < length counts → n < length (one_more counts k)
unfolding one_more
still_inside n k counts h = lt-length-set counts k (min (get_or counts k 0 + 1) (2 ^ 64 - 1)) h

-- EACH COUNT GROWS BY THE NUMBER OF MESSAGES THAT CAME TO IT, as long as it is below 2 to the 64.
pub counts_added : (n : ℕ) (s : List ℕ) (M : List (List ℕ)) (counts : List ℕ) → n < length counts → get_or counts n 0 + how_many n s M < 2 ^ 64
    → get_or (counted_all s M counts) n 0 ≡ get_or counts n 0 + how_many n s M
unfolding counted_all how_many
counts_added n s [] counts inside room = omega arith
counts_added n s (m ∷ M) counts inside room =
    let k = numbered_in (hearing s m) in
    let one = one_counted n k counts inside (omega arith) in
    let long : n < length (one_more counts k) = still_inside n k counts inside in
    counts_added n (heard_by s m) M (one_more counts k) long (omega arith) ∙ (omega arith)

-- ---- a station

-- messages heard behind what was heard before, which stands newest first
abbrev pub behind : List (List ℕ) → List Sent → List Sent
behind [] M = M
behind (m ∷ N) M = behind N (bytes m ∷ M)

-- THE BLOCK OF A STATION THAT HEARD A WHOLE TEXT IS THAT OF ITS MESSAGES.
pub heard_by_station : (g : Settings) (N : List (List ℕ)) (M : List Sent) → heard_all (store_of g M) N ≡ store_of g (behind N M)
unfolding heard_all
heard_by_station g [] M = refl
heard_by_station g (m ∷ N) M = heard_by_station g N (bytes m ∷ M)
