-- An entry by what was heard before: the block works it as the history does, and what is taken of it is a reading of channel 2 that is
-- later than the newest and is read back from its cell. Assumes nothing.
use mathlib.Core.Path.{◌≡◌, refl, sym, ap, subst, ◌∙◌}
use mathlib.Core.Bool.{Bool, true, false, not, cond}
use mathlib.Core.List.{List, [], ◌∷◌}
use Prim.Native.Nat.{ℕ, ◌+◌, ◌-◌, ◌<◌, ◌≤◌}
use native.Mathlib.Omega.{arith}
use native.Mathlib.Decide.{dec_lt}
use lib.Dec.{T, eqb, ltb, leb, lit<}
use lib.IntN.{pos}
use borrow.Author.Tests.{leb-true, ltb-true, ltb-false, le-ltb, eqb-false, ne_eqb, not-false}
use Rattle.number.specs.Refusal.{Numbered, numbered, refused, given, answer}
use Rattle.number.proofs.RefusalLaws.{given_then, given_is}
use Rattle.number.proofs.Sizes.{and_true, fails}
use Rattle.quantity.specs.Limits.{inside, degrees, last_minute}
use Rattle.message.specs.Receive.{Entry}
use Rattle.settings.specs.Settings.{checked}
use Rattle.settings.specs.declared.Settings.{Settings}
use Rattle.cell.specs.Cells.{CHANNELS, is_present, in_degrees}
use Rattle.cell.proofs.CellLaws.{Back, wind_back}
use Rattle.anemometer.specs.Anemometer.{certificate_in, certificate_held, dial_holds, outside, from_bow}
use Rattle.anemometer.specs.declared.Note.{Note}
use Rattle.anemometer.proofs.CertificateLaws.{alike_speed, held_alike, never_beyond, as_outside}
use Rattle.store.specs.Block.{next_in, wind_channel, course_channel}
use Rattle.store.specs.Noting.{wind_entry, noting}
use Rattle.store.specs.History.{Sent, next_of, remembered, entry_tests, entered, history, Remembers}
use Rattle.store.proofs.NotingLaws.{store_notes}

-- an entry is kept in channel 2
pub entered_channel : (g : Settings) (wind course : List Entry) (n : Note) (e : Entry) → entered g wind course n ≡ given e → e.channel ≡ wind_channel
unfolding entered
entered_channel g wind course n e h = ap (λ (x : Entry). x.channel) (sym (given_is (entry_tests g wind course n) _ e h))

-- and is later than the newest there
pub entered_later : (g : Settings) (wind course : List Entry) (n : Note) (e : Entry) → entered g wind course n ≡ given e
    → (e.channel ≡ wind_channel) × (next_of wind ≤ e.minute) × (e.minute ≡ n.minute)
unfolding entered
entered_later g wind course n e q =
    let would = wind_entry (certificate_in g) (remembered course n.minute) n in
    let is : would ≡ e = given_is (entry_tests g wind course n) would e q in
    let passes = given_then would (entry_tests g wind course n) (q ∙ ap given (sym is)) in
    let same = fails _ (λ h. passes (numbered 8 []) (2, (h, refl))) in
    let early = fails _ (λ h. passes _ (3, (h, refl))) in (
      entered_channel g wind course n e q,
      subst (λ (x : Entry). next_of wind ≤ x.minute) is (omega (arith, ltb-false (n.minute + 1) (next_of wind) early, eqb-false (n.minute + 1) (next_of wind) same)),
      ap (λ (x : Entry). x.minute) (sym is),
    )

-- "then 11 for the course, then 24": without a course it is 11, whatever the rate.
pub no_course_first : (g : Settings) (wind course : List Entry) (n : Note) → ltb last_minute n.minute ≡ false → inside degrees (pos n.direction) ≡ true
    → next_of wind ≤ n.minute → dial_holds n ≡ true → is_present (remembered course n.minute) ≡ false
    → entered g wind course n ≡ refused (numbered 11 (course_channel ∷ n.minute ∷ []))
unfolding entered answer
no_course_first g wind course n time way later dial none =
    rw (time, way, ne_eqb (n.minute + 1) (next_of wind) (λ q. omega arith), le-ltb (n.minute + 1) (next_of wind) (omega arith), dial, none)

module _ (g : Settings) (good : checked g ≡ given tt) where
  -- The block works an entry as what was heard does.
  pub by_history : (s : List ℕ) (M : List Sent) (n : Note) → Remembers s g M
      → noting s n ≡ entered g (history g wind_channel M) (history g course_channel M) n
  unfolding entered
  by_history s M n r =
      store_notes s n r.is_a_store
      ∙ rw (
        r.newest wind_channel (lit< tt),
        r.cells course_channel (lit< tt) n.minute,
        as_outside g good s r.settings n,
        alike_speed (certificate_held s) (certificate_in g) (held_alike g good s r.settings) n,
      )

  -- ---- what is taken of it

  pub record Taken (wind course : List Entry) (n : Note) (e : Entry) : Type 0 where
    pub is : e ≡ wind_entry (certificate_in g) (remembered course n.minute) n
    pub channel : e.channel ≡ wind_channel
    pub later : next_of wind ≤ e.minute
    pub back : Back g.unit e

  -- a direction less a course, brought round the circle
  turned : (d c : ℕ) → d ≤ 360 → (b : Bool) → ltb d c ≡ b → cond b (d + 360 - c) (d - c) ≤ 360
  turned d c h true e = omega (arith, ltb-true d c e)
  turned d c h false e = omega arith

  pub taken : (wind course : List Entry) (n : Note) (e : Entry) → entered g wind course n ≡ given e → Taken wind course n e
  unfolding entered from_bow
  taken wind course n e q =
      let would = wind_entry (certificate_in g) (remembered course n.minute) n in
      let is : would ≡ e = given_is (entry_tests g wind course n) would e q in
      let passes = given_then would (entry_tests g wind course n) (q ∙ ap given (sym is)) in
      let way : inside degrees (pos n.direction) ≡ true = not-false _ (fails _ (λ h. passes (numbered 7 []) (1, (h, refl)))) in
      let small : n.direction ≤ 360 = leb-true n.direction 360 (and_true (leb 0 n.direction) (leb n.direction 360) way).1 in
      let there : outside (certificate_in g) n ≡ false = fails _ (λ h. passes (numbered 24 []) (6, (h, refl))) in
      let c = in_degrees (remembered course n.minute) in
      record {
        is = sym is;
        channel = entered_channel g wind course n e q;
        later = (entered_later g wind course n e q).1;
        back = subst (Back g.unit) is (wind_back g.unit n.minute _ _ (never_beyond g good n there) (turned n.direction c small (ltb n.direction c) refl));
      }
