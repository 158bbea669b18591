-- `rounds::find` meets its contract. The loop's invariant is `Marked`.
use Rattle.std.proofs.Common.{arith}
use Rattle.rounds.specs.Laws.{marked_start, marked_next, marked-renewed, marked-round}
use Rattle.rounds.proofs.find.Goals as goal
use Rattle.rounds.proofs.find.Goals.{then-start-step, else-start-step}

pub loop-done-init : goal.loop-done-init
loop-done-init c = marked_start _ _ c.requires.0

pub returns-then-at-mark-clause-runs : goal.returns-then-at-mark-clause-runs
returns-then-at-mark-clause-runs c =
    let stepped = marked_next _ _ c.loop-done.invariant c.u32_at-at.ensures c.if-cache-at.false in
    marked-round _ _ stepped (omega arith) c.if-at-mark.true

pub loop-done-preserved : goal.loop-done-preserved
loop-done-preserved c =
    let stepped = marked_next _ _ c.loop-done.invariant c.u32_at-at.ensures c.if-cache-at.false in
    elim c.if-start-step.branch [
      | then-start-step w ↦ rw (w.mark-is, w.start-is) (marked-renewed _ _ stepped)
      | else-start-step w ↦ rw (w.mark-is, w.start-is) stepped
    ]
