-- `rounds::lead_in` meets its contract. The loop's invariant: the slow record is so many steps on,
-- and the fast one the round's steps further; from no step before does the round run.
use Rattle.std.proofs.Common.{◌≡◌, ◌+◌, refl, sym, ◌∙◌, zero-add, arith, below_more}
use Rattle.rounds.specs.Stepping.{ahead}
use Rattle.rounds.specs.Laws.{ahead-next}
use Rattle.rounds.proofs.lead_in.Goals as goal

pub loop-step-init : goal.loop-step-init
unfolding ahead
loop-step-init c = record { slow = refl; fast = rw zero-add c.ahead-fast.ensures; first = λ i g. absurd (omega arith) }

pub loop-step-preserved : goal.loop-step-preserved
loop-step-preserved c =
    let steps = c.args.round.steps in
    let l = c.loop-step in
    let later : l.step + steps + 1 ≡ l.step + 1 + steps = omega arith in
    record {
      slow = ahead-next _ _ _ l.invariant.slow c.u32_at-slow.ensures;
      fast = rw later at (ahead-next _ _ _ l.invariant.fast c.u32_at-fast.ensures);
      first = below_more _ _ l.invariant.first (λ e. c.if-slow-fast.false (l.invariant.slow ∙ sym e ∙ sym l.invariant.fast));
    }
