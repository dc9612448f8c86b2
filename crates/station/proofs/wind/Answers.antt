-- `wind` meets its contract: each step's tests, then those of the next; the work refuses nothing. Assumes nothing.
use mathlib.Core.Path.{◌≡◌, refl, sym, ap, ◌∙◌}
use mathlib.Core.List.{List, []}
use Prim.Native.Nat.{ℕ}
use Rattle.std.specs.Prelude.{Option, Some, None, Result}
use Rattle.std.specs.Option.{ok_or}
use Rattle.std.proofs.lemmas.Result.{err_from_is_err_and}
use Rattle.number.proofs.Sizes.{never}
use Rattle.message.specs.Receive.{entry_of}
use Rattle.cell.specs.Cells.{recalled, is_present, in_degrees}
use Rattle.quantity.specs.declared.Degrees.{Degrees}
use Rattle.quantity.specs.declared.Knots.{Knots}
use Rattle.quantity.specs.declared.MetresPerSecond.{MetresPerSecond}
use Rattle.store.specs.Block.{recall_of}
use Rattle.wind.specs.Answer.{IsWind}
use Rattle.wind.specs.declared.Wind.{Wind}
use Rattle.station.specs.Source.{held, in_metres_per_second, in_knots}
use Rattle.station.specs.Questions.{Answers, WindRule}
use Rattle.station.specs.Told.{wind_as}
use Rattle.station.specs.Parts.{felt_is, motion_is}
use Rattle.station.specs.declared.QuestionRefusal.{QuestionRefusal}
use Rattle.station.specs.declared.QuestionRefusal.TheVariants.{OutsideLimits}
use Rattle.station.proofs.AnswerLaws.{refuses, goes_on, by_rule, end}
use Rattle.station.proofs.KindLaws.{reads_kind}
use Rattle.station.proofs.WindLaws.{kept_within, wind_of}
use Rattle.station.proofs.wind.Goals as goal

-- the wind of both readings
worked : (s : List ℕ) (m : ℕ) (felt : MetresPerSecond × Degrees) (motion : Knots × Degrees) (w : Option Wind)
    → recall_of s 2 m ≡ recalled (entry_of m (felt_is felt)) → recall_of s 3 m ≡ recalled (entry_of m (motion_is motion))
    → IsWind motion.1.0 motion.0.0 felt.0.0 felt.1.0 w → (r : Result Wind QuestionRefusal) → r ≡ ok_or w OutsideLimits
    → Answers [] (WindRule (held s) m) (wind_as r)
worked s m felt motion (Some w) x y is r e =
    rw e (end _ _ (wind_of (Some w) (sym (ap in_degrees y)) (sym (ap in_knots y)) (sym (ap in_metres_per_second x)) (sym (ap in_degrees x)) is))
worked s m felt motion None x y is r e =
    never (sym (wind_of None (sym (ap in_degrees y)) (sym (ap in_knots y)) (sym (ap in_metres_per_second x)) (sym (ap in_degrees x)) is) ∙ kept_within s m (ap is_present x) (ap is_present y))

pub returns-in_err-begin : goal.returns-in_err-begin
returns-in_err-begin c =
    let p = err_from_is_err_and c.from_residual.result c.from_residual.ensures.1 in
    rw (p.1, p.2) (λ tables tabled. refuses _ _ _ _ _ c.in_err-begin.ensures, refl)

pub returns-in_err-apparent : goal.returns-in_err-apparent
returns-in_err-apparent c =
    let p = err_from_is_err_and c.from_residual-in_err-apparent.result c.from_residual-in_err-apparent.ensures.1 in
    let felt = reads_kind c.args.store.now 2 c.args.minute felt_is _ c.felt_at.ensures _ c.in_err-apparent.ensures.value in
    rw (p.1, p.2) (λ tables tabled. goes_on _ _ _ _ _ _ c.in_ok-begin.ensures (refuses _ _ _ _ _ felt), refl)

pub returns-in_err-ship : goal.returns-in_err-ship
returns-in_err-ship c =
    let p = err_from_is_err_and c.from_residual-in_err-ship.result c.from_residual-in_err-ship.ensures.1 in
    let felt = reads_kind c.args.store.now 2 c.args.minute felt_is _ c.felt_at.ensures _ c.in_ok-apparent.ensures.value in
    let motion = reads_kind c.args.store.now 3 c.args.minute motion_is _ c.motion_at.ensures _ c.in_err-ship.ensures.value in
    rw (p.1, p.2) (λ tables tabled. goes_on _ _ _ _ _ _ c.in_ok-begin.ensures (goes_on _ _ _ _ _ _ felt (refuses _ [] _ _ _ motion)), refl)

pub returns : goal.returns
returns c =
    let s = c.args.store.now in
    let m = c.args.minute in
    let felt = reads_kind s 2 m felt_is _ c.felt_at.ensures _ c.in_ok-apparent.ensures.value in
    let motion = reads_kind s 3 m motion_is _ c.motion_at.ensures _ c.in_ok-ship.ensures.value in
    let blows = worked s m (c.in_ok-apparent.apparent, c.in_ok-apparent.from_bow) (c.in_ok-ship.ship, c.in_ok-ship.course) c.true_wind.result (by_rule _ _ _ felt) (by_rule _ _ _ motion) c.true_wind.ensures c.ok_or-3.result c.ok_or-3.ensures.value in
    (λ tables tabled. goes_on _ _ _ _ _ _ c.in_ok-begin.ensures (goes_on _ _ _ _ _ _ felt (goes_on _ [] _ _ _ _ motion blows)), refl)
