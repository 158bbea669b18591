-- `repeats::first` meets its contract: the first repeat of the names left is that of all.
use mathlib.Core.Path.{◌≡◌}
use native.Mathlib.Omega.{arith}
use Rattle.repeats.proofs.Laws.{inside-later, passed-repeat, passed-all, passed-block}
use Rattle.repeats.proofs.first.Goals as goal

pub returns-then-taken-size : goal.returns-then-taken-size
returns-then-taken-size c =
    passed-repeat c.loop-left.invariant.passed c.take_in-taken.ensures.first c.if-taken-size.true (omega arith)

pub look_for-left-requires : goal.look_for-left-requires
look_for-left-requires c =
    (inside-later _ _ _ c.ahead-at.ensures c.loop-left.invariant.passed.inside (omega arith), omega arith)

pub loop-left-preserved : goal.loop-left-preserved
loop-left-preserved c =
    let taken = c.take_in-taken.ensures in
    let all : c.take_in-taken.result ≡ c.min-size.result = omega (arith, taken.first.within) in
    let looked = c.look_for-left.ensures _ (taken.known all) in
    record { lent = omega arith; passed = passed-block c.loop-left.invariant.passed (rw all at taken) c.ahead-at.ensures (omega arith) looked }

pub returns : goal.returns
returns c = passed-all c.loop-left.invariant.passed (omega arith)
