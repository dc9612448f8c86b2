-- A record that may stand in a watch file has figures that fit its fields: an answer whose record is right is entered as that record.
-- Assumes nothing.
use mathlib.Core.Path.{◌≡◌, refl, subst}
use mathlib.Core.Bool.{Bool, true, false, ◌&&◌, cond}
use Prim.Native.Nat.{ℕ, ◌≤◌}
use native.Mathlib.Omega.{arith}
use lib.Dec.{leb, eqb}
use lib.IntN.{ℤ, pos, negsuc, neg_ℤ, nat_abs}
use Rattle.std.specs.Prelude.{Some, Ok}
use borrow.Author.Tests.{le-leb, leb-true, eqb-true}
use Rattle.number.specs.Whole.{within}
use Rattle.number.proofs.Sizes.{and_true, both, natural, within_size}
use Rattle.quantity.specs.Limits.{inside, recorded_pressure, highest_wind, degrees, minutes_between}
use Rattle.quantity.proofs.LimitLaws.{up_to}
use Rattle.quantity.specs.declared.Hectopascals.{Hectopascals}
use Rattle.vapour.specs.Vapour.{lowest_vapour, relative_humidity, vapour_deficit}
use Rattle.vapour.proofs.RangeLaws.{range_then, relative_most}
use Rattle.wind.specs.declared.Wind.{Wind}
use Rattle.humidity.specs.declared.HumidityFigures.{HumidityFigures}
use Rattle.station.specs.declared.PressureTendency.{PressureTendency}
use Rattle.watchfile.specs.Rules.{minute_right, change_right, absent_right, speed_right, direction_right, e_right, saturation_right, deficit_right, relative_right, dew_right}
use Rattle.watchfile.specs.Format.{DewRule, kind_of, body_right, record_right}
use Rattle.watchfile.specs.declared.Record.{Record}
use Rattle.writer.proofs.RightLaws.{change_fits, dew_fits}
use Rattle.desk.specs.Records.{pressure_record, tendency_record, wind_record, humidity_record}
use Rattle.desk.specs.Entries.{fits16, fits8, fits_signed, fits_pressure, entered, pressure_entry, tendency_entry, wind_entry, humidity_entry}

in_word : (n : ℕ) (z : ℤ) → pos n ≡ z → n ≤ 65535 → within (pos 0) (pos 65535) z ≡ true
in_word n z e h = subst (λ (x : ℤ). within (pos 0) (pos 65535) x ≡ true) e (both (le-leb 0 n (omega arith)) (le-leb n 65535 h))

in_signed : (z : ℤ) → nat_abs z ≤ 32767 → within (neg_ℤ (pos 32768)) (pos 32767) z ≡ true
in_signed (pos n) h = le-leb n 32767 h
in_signed (negsuc n) h = both (le-leb n 32767 (omega arith)) refl

-- the rules of a body are what is left of those of its record
body : (rule : ℕ → ℤ) (before : ℕ) (r : Record) → record_right rule before r ≡ true → body_right rule r.body ≡ true
body rule before r h = (and_true (minute_right before (kind_of r.body) r.minute) (body_right rule r.body) h).1

-- a figure that fits makes a record
fits : (b : Bool) (r : Record) → b ≡ true → entered b r ≡ Some r
fits b r h = rw h

-- A PRESSURE WITHIN THE LIMITS OF A FILE IS ENTERED WITH ITS OWN SIGN.
pub pressure_fits : (m : ℕ) (p : Hectopascals) → inside recorded_pressure p.0.v ≡ true → pressure_entry m (Ok p) ≡ Some (pressure_record m p.0.v)
pressure_fits m p h =
    let z = p.0.v in
    let small = within_size (pos 8000) (pos 11500) z 11500 (omega arith) (omega arith) h in
    fits (fits_pressure z) (pressure_record m z) (in_word (nat_abs z) z (natural 8000 (pos 11500) z h) (omega arith))

-- A TENDENCY, A WIND AND A HUMIDITY WHOSE RECORD IS RIGHT ARE ENTERED AS THAT RECORD.
module _ (rule : ℕ → ℤ) (before m : ℕ) where
  pub tendency_fits : (t : PressureTendency) → record_right rule before (tendency_record m (record { change = t.change.0.v; absent = t.absent })) ≡ true
      → tendency_entry m (Ok t) ≡ Some (tendency_record m (record { change = t.change.0.v; absent = t.absent }))
  unfolding absent_right
  tendency_fits t h =
      let it = tendency_record m (record { change = t.change.0.v; absent = t.absent }) in
      let b = and_true (change_right t.change.0.v) (absent_right t.absent) (body rule before it h) in
      fits (fits_signed t.change.0.v && fits8 t.absent) it
      (both (in_signed t.change.0.v (change_fits t.change.0.v b.0)) (le-leb t.absent 255 (omega (arith, leb-true t.absent minutes_between b.1))))

  direction_most : (speed direction : ℕ) → direction_right speed direction ≡ true → direction ≤ nat_abs degrees.high
  unfolding direction_right
  direction_most speed direction h = go (eqb speed 0) h
    where
      go : (b : Bool) → cond b (eqb direction 0) (leb 1 direction && inside degrees (pos direction)) ≡ true → direction ≤ nat_abs degrees.high
      go true h = omega (arith, eqb-true direction 0 h)
      go false h = up_to direction (nat_abs degrees.high) (and_true (leb 1 direction) (inside degrees (pos direction)) h).1

  pub wind_fits : (w : Wind) → record_right rule before (wind_record m w.speed w.direction) ≡ true → wind_entry m (Ok w) ≡ Some (wind_record m w.speed w.direction)
  unfolding speed_right
  wind_fits w h =
      let v = w.speed.0 in
      let d = w.direction.0 in
      let b = and_true (speed_right v) (direction_right v d) (body rule before (wind_record m w.speed w.direction) h) in
      fits (fits16 v && fits16 d) (wind_record m w.speed w.direction)
      (both (le-leb v 65535 (omega (arith, up_to v highest_wind b.0))) (le-leb d 65535 (omega (arith, direction_most v d b.1))))

  pub humidity_fits : DewRule rule → (h : HumidityFigures) → record_right rule before (humidity_record m h) ≡ true
      → humidity_entry m (Ok h) ≡ Some (humidity_record m h)
  unfolding e_right saturation_right deficit_right relative_right
  humidity_fits ruled h right =
      let e = h.e.0 in
      let s = h.saturation.0 in
      let d = h.deficit.0 in
      let b = body rule before (humidity_record m h) right in
      let b4 = and_true (e_right s e && saturation_right s && deficit_right e s d && relative_right e s h.relative) (dew_right rule e h.dew.0.v) b in
      let b3 = and_true (e_right s e && saturation_right s && deficit_right e s d) (relative_right e s h.relative) b4.0 in
      let b2 = and_true (e_right s e && saturation_right s) (deficit_right e s d) b3.0 in
      let b1 = and_true (e_right s e) (saturation_right s) b2.0 in
      let under = leb-true e s (and_true (leb lowest_vapour e) (leb e s) b1.0).1 in
      let range = range_then s b1.1 in
      let left = eqb-true d (vapour_deficit e s) b2.1 in
      let percent = eqb-true h.relative (relative_humidity e s) b3.1 in
      let hundred = relative_most e s (omega arith) under in
      fits (fits16 e && fits16 s && fits16 d && fits8 h.relative && fits_signed h.dew.0.v) (humidity_record m h)
      (both (both (both (both (le-leb e 65535 (omega arith)) (le-leb s 65535 (omega arith))) (le-leb d 65535 (omega arith))) (le-leb h.relative 255 (omega arith)))
      (in_signed h.dew.0.v (dew_fits rule ruled e h.dew.0.v b4.1)))
