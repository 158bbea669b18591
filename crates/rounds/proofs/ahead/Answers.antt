-- `rounds::ahead` meets its contract. The loop's invariant: so many steps lead to the field at
-- hand.
use Rattle.std.proofs.Common.{refl, arith}
use Rattle.rounds.specs.Stepping.{ahead}
use Rattle.rounds.specs.Laws.{ahead-next}
use Rattle.rounds.proofs.ahead.Goals as goal

pub loop-step-init : goal.loop-step-init
unfolding ahead
loop-step-init c = refl

pub u32_at-at-requires : goal.u32_at-at-requires
u32_at-at-requires c = omega (arith, c.loop-step.invariant, c.requires c.loop-step._step (omega arith))

pub loop-step-preserved : goal.loop-step-preserved
loop-step-preserved c = ahead-next _ _ _ c.loop-step.invariant c.u32_at-at.ensures
