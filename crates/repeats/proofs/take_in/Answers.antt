-- `repeats::take_in` meets its contract: before each turn the names of the records passed are in
-- the index, and none of them is a repeat.
use mathlib.Core.Path.{refl}
use native.Mathlib.Omega.{arith}
use Rattle.names.specs.Laws.Repeat.{taken_none, taken_more, taken-again}
use Rattle.rounds.specs.Stepping.{ahead}
use Rattle.rounds.specs.Laws.{ahead-next}
use Rattle.repeats.proofs.Laws.{name-read}
use Rattle.repeats.proofs.take_in.Goals as goal

pub loop-i-init : goal.loop-i-init
unfolding ahead
loop-i-init c = record { lent = refl; here = refl; taken = taken_none _ }

pub returns-then-met : goal.returns-then-met
returns-then-met c =
    let taken = c.loop-i.invariant.taken in
    let is = name-read _ _ c.loop-i.i (ahead-next _ _ _ c.loop-i.invariant.here c.read_record-next.ensures.0) c.read_record-next.ensures.1 in
    taken-again taken is (c.met.ensures _ (taken.known refl)) c.if-met.true (omega arith)

pub loop-i-preserved : goal.loop-i-preserved
loop-i-preserved c =
    let taken = c.loop-i.invariant.taken in
    let there = ahead-next _ _ _ c.loop-i.invariant.here c.read_record-next.ensures.0 in
    let is = name-read _ _ c.loop-i.i there c.read_record-next.ensures.1 in
    record { lent = omega arith; here = there; taken = taken_more taken is (c.met.ensures _ (taken.known refl)) c.if-met.false }
