-- None of the five empty programs meets the contracts. The block of a program that meets them is what settings and messages make, so its
-- answers on a watch are known: every question gets figures, and others at 280 than at 100; the last message turns a refusal into a
-- pressure, though one of its channel was heard before it; and with one reading more between, one minute fewer is absent and all else is
-- the same. Assumes nothing.
use mathlib.Core.Path.{◌≡◌, refl, sym, ap, subst, ◌∙◌}
use mathlib.Core.Bool.{true}
use mathlib.Core.List.{List, [], ◌∷◌}
use Prim.Native.Nat.{ℕ}
use native.Mathlib.Omega.{arith}
use lib.IntN.{pos, neg_ℤ, nat_abs}
use lib.ListN.{replicate}
use Rattle.number.specs.Refusal.{Answer, given}
use Rattle.number.proofs.Sizes.{impossible}
use Rattle.settings.specs.Settings.{checked}
use Rattle.settings.specs.declared.Settings.{Settings}
use Rattle.cell.specs.Cells.{is_present}
use Rattle.block.specs.Layout.{WORDS}
use Rattle.store.specs.Block.{hearing, heard_by, outcome, recall_of}
use Rattle.store.specs.Noting.{noted_by}
use Rattle.store.specs.History.{Sent, bytes, note, store_of}
use Rattle.store.proofs.OpenLaws.{opens}
use Rattle.wind.specs.declared.Wind.{Wind}
use Rattle.humidity.specs.declared.HumidityFigures.{HumidityFigures}
use Rattle.station.specs.Source.{heard}
use Rattle.station.specs.Questions.{Asked, pressure, tendency, wind, humidity, question, Reply, Tells, TellsOf}
use Rattle.station.specs.Told.{Change}
use Rattle.heard.proofs.StoreLaws.{by_messages}
use Rattle.station.proofs.SingleAnswers.{one_reply}
use Rattle.demands.specs.EmptyPrograms.{Program, Meets, Use, block_of, opening_in, hearing_in, answer_in, change_of, change_in, Refuses, Constant, StoresNothing, StoresOnlyTheFirst, InventsTheCount}
use Rattle.demands.proofs.WorkingLaws.{lent, lent_mut}
use Rattle.demands.proofs.WatchAnswers as watch
use Rattle.demands.proofs.WatchAnswers.{ship, good, others, at_100, at_280, quiet, busier, falling, pressed, missing, changed, blown, moist}

-- A program is none of the five.
pub record NoEmptyProgram (p : Program) : Type 0 where
  -- "one that refuses everything"
  pub opening_not_refused : Refuses (opening_in p) → ⊥
  pub hearing_not_refused : ((m : List ℕ) → Refuses (hearing_in p m)) → ⊥
  pub not_refused : (q : Asked) → Refuses (answer_in q p) → ⊥
  -- "one with a constant answer"
  pub not_constant : (q : Asked) → Constant (answer_in q p) → ⊥
  pub change_not_constant : Constant (change_in p) → ⊥
  -- "one that stores nothing", "one that stores only the first message and merely says yes to the rest"
  pub stores_something : StoresNothing p → ⊥
  pub stores_more_than_the_first : StoresOnlyTheFirst p → ⊥
  -- "one that invents the absent count"
  pub counts_the_absent : InventsTheCount p → ⊥

-- the ship's store, opened where all words were 0, after these messages, asked for this minute
memory : List ℕ
memory = replicate WORDS 0

abbrev after : List Sent → ℕ → Use
after M m = record { memory = memory; settings = ship; messages = M; minute = m }

given_once : {R A : Type 0} (ask : Use → Answer R A) (u : Use) (x : A) → ask u ≡ given x → Refuses ask → ⊥
given_once ask u x e r = let f = (r u).1 in impossible (cc)

-- figures to tell two answers apart by
apart : pos 10 ≡ neg_ℤ (pos 10) → ⊥
apart e = impossible (cc)

abbrev speed : Wind → ℕ
speed w = w.speed.0

abbrev absent : Change → ℕ
absent t = t.absent

abbrev relative : HumidityFigures → ℕ
relative h = h.relative

-- ---- a program that meets the contracts

module _ (p : Program) (meets : Meets p) where
  block_is : (s : List ℕ) (g : Settings) → checked g ≡ given tt → (M : List Sent) → block_of p s g M ≡ store_of g M
  unfolding block_of
  block_is s g is [] = (meets.opens ([], tt) (lent_mut s, (g, tt))).1 ∙ sym (opens s g is)
  block_is s g is (note n ∷ M) = (meets.notes ([], tt) (lent_mut (block_of p s g M), (n, tt))).block ∙ ap (λ (b : List ℕ). noted_by b n) (block_is s g is M)
  block_is s g is (bytes m ∷ M) = (meets.hears ([], ([], tt)) (lent_mut (block_of p s g M), (lent m, tt))).block ∙ ap (λ (b : List ℕ). heard_by b m) (block_is s g is M)

  module _ (M : List Sent) (m : ℕ) where
    b : List ℕ
    b = block_of p memory ship M

    is : b ≡ store_of ship M
    unfolding b
    is = block_is memory ship good M

    -- what it answers after any messages is what they come to
    told_of : (q : Asked) → TellsOf q b m (p.asks q b m)
    told_of pressure = (meets.asks pressure ([], tt) (lent b, (m, tt))).0
    told_of tendency = (meets.asks tendency ([], tt) (lent b, (m, tt))).0
    told_of wind = (meets.asks wind ([], tt) (lent b, (m, tt))).0
    told_of humidity = (meets.asks humidity ([], tt) (lent b, (m, tt))).0

    answer_is : (q : Asked) (r : Reply q) → Tells q (heard ship M) m r → answer_in q p (after M m) ≡ (question q).told r
    unfolding b
    answer_is q r w =
        let x = p.asks q b m in
        let told = subst (λ (s : List ℕ). TellsOf q s m x) is (told_of q) in
        ap (question q).told (one_reply q [] [] (heard ship M) m x r (by_messages ship good M m q x told) w)

    hearing_is : (n : List ℕ) → hearing_in p n (after M m) ≡ outcome (hearing (store_of ship M) n)
    unfolding b
    hearing_is n = (meets.hears ([], ([], tt)) (lent_mut b, (lent n, tt))).answer ∙ ap (λ (x : List ℕ). outcome (hearing x n)) is

  -- ---- on the watch

  opening_given : opening_in p (after [] 0) ≡ given tt
  opening_given = (meets.opens ([], tt) (lent_mut memory, (ship, tt))).0 ∙ good

  hearing_given : hearing_in p at_100 (after others 280) ≡ given tt
  hearing_given = hearing_is others 280 at_100 ∙ watch.hears_at_100

  pressure_100 : answer_in pressure p (after quiet 100) ≡ (question pressure).told (pressed (pos 10000))
  pressure_100 = answer_is quiet 100 pressure (pressed (pos 10000)) (watch.pressures).0

  pressure_280 : answer_in pressure p (after quiet 280) ≡ (question pressure).told (pressed (pos 10010))
  pressure_280 = answer_is quiet 280 pressure (pressed (pos 10010)) (watch.pressures).1

  no_pressure_280 : answer_in pressure p (after (bytes at_100 ∷ others) 280) ≡ (question pressure).told (missing 0 280)
  no_pressure_280 = answer_is (bytes at_100 ∷ others) 280 pressure (missing 0 280) (watch.pressures).2

  rise : answer_in tendency p (after quiet 280) ≡ (question tendency).told (changed (pos 10) 179)
  rise = answer_is quiet 280 tendency (changed (pos 10) 179) (watch.tendencies).0

  busier_rise : answer_in tendency p (after busier 280) ≡ (question tendency).told (changed (pos 10) 178)
  busier_rise = answer_is busier 280 tendency (changed (pos 10) 178) (watch.tendencies).1

  fall : answer_in tendency p (after falling 280) ≡ (question tendency).told (changed (neg_ℤ (pos 10)) 179)
  fall = answer_is falling 280 tendency (changed (neg_ℤ (pos 10)) 179) (watch.tendencies).2

  wind_100 : answer_in wind p (after others 100) ≡ (question wind).told (blown 48 60)
  wind_100 = answer_is others 100 wind (blown 48 60) (watch.winds).0

  wind_280 : answer_in wind p (after others 280) ≡ (question wind).told (blown 51 210)
  wind_280 = answer_is others 280 wind (blown 51 210) (watch.winds).1

  humidity_100 : answer_in humidity p (after quiet 100) ≡ (question humidity).told (moist 1366 2335 969 59 (pos 116))
  humidity_100 = answer_is quiet 100 humidity (moist 1366 2335 969 59 (pos 116)) (watch.humidities).0

  humidity_280 : answer_in humidity p (after quiet 280) ≡ (question humidity).told (moist 611 611 0 100 (pos 0))
  humidity_280 = answer_is quiet 280 humidity (moist 611 611 0 100 (pos 0)) (watch.humidities).1

  -- ---- the five

  -- the last message turned a refusal into a pressure
  one_more : answer_in pressure p (after quiet 280) ≡ answer_in pressure p (after (bytes at_100 ∷ others) 280) → ⊥
  one_more e =
      let z : (question pressure).told (pressed (pos 10010)) ≡ (question pressure).told (missing 0 280) = sym pressure_280 ∙ e ∙ no_pressure_280 in
      impossible (cc)

  -- settings, minute and change are the same, and the counts are not
  one_fewer : InventsTheCount p → ⊥
  one_fewer i = let z : ◌≡◌ {A = ℕ} 179 178 = i.1 (after quiet 280) _ rise ∙ sym (i.1 (after busier 280) _ busier_rise) in omega arith

  -- By its blocks: it does not leave each as it was that keeps a reading already, still less each there is.
  pub stores_in_the_block : ((s m : List ℕ) (c t : ℕ) → is_present (recall_of s c t) ≡ true → (p.hears s m).1 ≡ s) → ⊥
  unfolding block_of
  stores_in_the_block h =
      let s = block_of p memory ship (bytes at_100 ∷ others) in
      let kept : is_present (recall_of s 0 100) ≡ true = ap (λ (x : List ℕ). is_present (recall_of x 0 100)) (block_is memory ship good (bytes at_100 ∷ others)) ∙ watch.kept_at_100 in
      one_more (ap (λ (x : List ℕ). (question pressure).told (p.asks pressure x 280)) (h s at_280 0 100 kept))

  answers : (q : Asked) → Refuses (answer_in q p) → ⊥
  answers pressure = given_once (answer_in pressure p) (after quiet 100) _ pressure_100
  answers tendency = given_once (answer_in tendency p) (after quiet 280) _ rise
  answers wind = given_once (answer_in wind p) (after others 100) _ wind_100
  answers humidity = given_once (answer_in humidity p) (after quiet 100) _ humidity_100

  varies : (q : Asked) → Constant (answer_in q p) → ⊥
  varies pressure c = omega (arith, ap nat_abs (c (after quiet 100) (after quiet 280) _ _ pressure_100 pressure_280))
  varies tendency c = omega (arith, ap absent (c (after quiet 280) (after busier 280) _ _ rise busier_rise))
  varies wind c = omega (arith, ap speed (c (after others 100) (after others 280) _ _ wind_100 wind_280))
  varies humidity c = omega (arith, ap relative (c (after quiet 100) (after quiet 280) _ _ humidity_100 humidity_280))

  pub no_empty_program : NoEmptyProgram p
  no_empty_program =
      record {
        opening_not_refused = given_once (opening_in p) (after [] 0) tt opening_given;
        hearing_not_refused = λ r. given_once (hearing_in p at_100) (after others 280) tt hearing_given (r at_100);
        not_refused = answers;
        not_constant = varies;
        change_not_constant = λ c. apart (c (after quiet 280) (after falling 280) _ _ (ap change_of rise) (ap change_of fall));
        stores_something = λ s. one_more (s (after (bytes at_100 ∷ others) 280) at_280);
        stores_more_than_the_first = λ s. one_more (s (after others 280) at_100 at_280 refl hearing_given);
        counts_the_absent = one_fewer;
      }
