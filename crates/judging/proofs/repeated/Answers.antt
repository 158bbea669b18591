-- `judging::repeated` meets its contract: each turn is one of the laws of `Passed`.
use Rattle.judging.specs.Laws.Repeating.{passed_first, passed_none, passed-inside, passed-repeat, passed_on}
use Rattle.judging.proofs.repeated.Goals as goal

pub loop-i-init : goal.loop-i-init
loop-i-init c = passed_first _ _ _ _

pub returns-then-met : goal.returns-then-met
returns-then-met c =
    let p = c.loop-i.invariant in
    rw (← (passed-repeat _ _ _ p c.loop-i-test.true (c.met.ensures p.before p.known) c.if-met.true))

pub icon_end-here-requires : goal.icon_end-here-requires
icon_end-here-requires c = passed-inside _ _ _ c.loop-i.invariant c.loop-i-test.true c.requires.0

pub loop-i-preserved : goal.loop-i-preserved
loop-i-preserved c =
    let p = c.loop-i.invariant in
    passed_on _ _ _ p c.loop-i-test.true (c.met.ensures p.before p.known) c.if-met.false c.icon_end-here.ensures

pub returns : goal.returns
returns c = rw (← (passed_none _ _ _ c.loop-i.invariant c.loop-i-test.false))
