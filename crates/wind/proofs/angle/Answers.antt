-- `angle` meets its contract: N is ahead or astern by the code's test, and the marks of one quarter turn decide. Assumes nothing.
use mathlib.Core.Path.{sym, ap, ◌∙◌}
use Prim.Native.Nat.{ℕ, ◌+◌, ◌*◌, ◌≤◌}
use native.Mathlib.Nat.{mul-le-mul}
use native.Mathlib.Omega.{arith}
use Rattle.sine.proofs.SineLaws.{size_small}
use Rattle.wind.specs.Work.{most_ship, most_apparent}
use Rattle.wind.proofs.SpeedLaws.{cosine_most}
use Rattle.wind.proofs.AngleLaws.{N_ahead, N_astern, M_is, angle_ahead, angle_astern}
use Rattle.wind.proofs.angle.Goals as goal
use Rattle.wind.proofs.angle.Goals.{After-size}

-- the products, in their limits
record Bounds (s k sines up down : ℕ) : Type 0 where
  size : sines ≤ 1000000
  across : s * sines ≤ most_ship * 1000000
  along : s * up ≤ most_ship * 1000000
  against : s * down ≤ most_ship * 1000000
  wind : k ≤ most_apparent

bounds : (c : After-size) → Bounds c.args.s c.args.k c.size.result c.cosine-c.result.up c.cosine-c.result.down
bounds c =
    let a = c.args in
    let ship = c.requires.0 in
    let most = cosine_most a.s a.k a.r c.cosine-c.ensures in
    let sines : c.size.result ≤ 1000000 = omega (arith, c.size.ensures, size_small (2 * a.r)) in
    record {
      size = sines;
      across = mul-le-mul ship sines;
      along = mul-le-mul {m₂ = 1000000} ship (omega arith);
      against = mul-le-mul {m₂ = 1000000} ship (omega arith);
      wind = c.requires.1;
    }

pub overflow_mul-across : goal.overflow_mul-across
overflow_mul-across c = omega (arith, bounds (goal.at.overflow_mul-across c).After-size)

pub overflow_mul-along : goal.overflow_mul-along
overflow_mul-along c = omega (arith, bounds (goal.at.overflow_mul-along c).After-size)

pub overflow_mul-ahead-2 : goal.overflow_mul-ahead-2
overflow_mul-ahead-2 c = omega (arith, bounds (goal.at.overflow_mul-ahead-2 c).After-size)

pub overflow_add-ahead : goal.overflow_add-ahead
overflow_add-ahead c = omega (arith, bounds (goal.at.overflow_add-ahead c).After-size)

pub quarter-requires : goal.quarter-requires
quarter-requires c = omega (arith, bounds (goal.at.quarter-requires c).After-size)

pub returns-then-along-ahead : goal.returns-then-along-ahead
returns-then-along-ahead c =
    let a = c.args in
    let ahead = N_ahead a.s a.k a.r c.cosine-c.ensures (omega (arith, c.if-along-ahead.true)) in
    (c.quarter.ensures.0 ∙ sym (angle_ahead a.s a.k a.r _ _ (M_is a.s a.r c.size.ensures) ahead (omega (arith, c.if-along-ahead.true))), omega arith)

pub quarter-requires-2 : goal.quarter-requires-2
quarter-requires-2 c = omega (arith, bounds (goal.at.quarter-requires-2 c).After-size)

pub returns : goal.returns
returns c =
    let a = c.args in
    let astern = N_astern a.s a.k a.r c.cosine-c.ensures c.if-along-ahead.false in
    (ap (λ (n : ℕ). 90 + n) c.quarter-2.ensures.0 ∙ sym (angle_astern a.s a.k a.r _ _ (M_is a.s a.r c.size.ensures) astern), omega arith)
