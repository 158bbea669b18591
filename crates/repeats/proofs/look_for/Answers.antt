-- `repeats::look_for` meets its contract: before each turn none of the names passed is in the
-- index.
use mathlib.Core.Path.{refl}
use native.Mathlib.Omega.{arith}
use Rattle.names.specs.Laws.Repeat.{looked-none, looked-more, looked-found}
use Rattle.rounds.specs.Stepping.{ahead}
use Rattle.rounds.specs.Laws.{ahead-next}
use Rattle.repeats.proofs.Laws.{name-read}
use Rattle.repeats.proofs.look_for.Goals as goal

pub loop-i-init : goal.loop-i-init
unfolding ahead
loop-i-init c = record { here = refl; looked = λ before known. looked-none }

pub returns-then-holds : goal.returns-then-holds
returns-then-holds c = λ before known.
    let is = name-read _ _ c.loop-i.i (ahead-next _ _ _ c.loop-i.invariant.here c.read_record-next.ensures.0) c.read_record-next.ensures.1 in
    looked-found (c.loop-i.invariant.looked before known) is (c.holds.ensures before known) c.if-holds.true (omega arith)

pub loop-i-preserved : goal.loop-i-preserved
loop-i-preserved c =
    let there = ahead-next _ _ _ c.loop-i.invariant.here c.read_record-next.ensures.0 in
    let is = name-read _ _ c.loop-i.i there c.read_record-next.ensures.1 in
    record { here = there; looked = λ before known. looked-more (c.loop-i.invariant.looked before known) is (c.holds.ensures before known) c.if-holds.false }
