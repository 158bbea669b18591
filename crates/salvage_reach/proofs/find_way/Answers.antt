-- `salvage_reach::find_way` meets its contract. The loop's invariant is `Ahead`: so many records
-- are left behind, and what is known of the marked one. Each way out is a law of it (`ahead-ended`,
-- `ahead-outside`, `ahead-misnamed`, `ahead-round`), and one more turn is `ahead-again`. The
-- measure counts down from 5 L.
use mathlib.Core.Path.{◌∙◌}
use native.Mathlib.Omega.{arith}
use Rattle.format.specs.Words.{link_field}
use Rattle.tables.specs.Laws.{valid-header, same-field, field-inside}
use Rattle.salvage_reach.specs.Laws.Marks.{marks-start, marks-few}
use Rattle.salvage_reach.specs.Laws.Ahead.{ahead-ended, ahead-outside, ahead-misnamed, ahead-round, ahead-again}
use Rattle.salvage_reach.proofs.find_way.Goals as goal

pub loop-record-init : goal.loop-record-init
unfolding link_field
loop-record-init c =
    let field = c.bucket_field-field.ensures ∙ same-field c.requires.0 _ in record {
      here = omega (arith, field-inside c.requires.0 _ c.requires.1);
      ahead = record { field = field; passes = λ m l. absurd (omega arith); marks = marks-start _ _ };
    }

pub returns-in-Ended : goal.returns-in-Ended
returns-in-Ended c = ahead-ended c.loop-record.invariant.ahead c.in-Ended.ensures

pub returns-in-Outside : goal.returns-in-Outside
returns-in-Outside c = ahead-outside c.loop-record.invariant.ahead c.in-Outside.ensures

pub overflow_add-result : goal.overflow_add-result
overflow_add-result c = omega (arith, marks-few c.loop-record.invariant.ahead.marks, valid-header c.requires.0)

pub returns-in-Misnamed : goal.returns-in-Misnamed
returns-in-Misnamed c = ahead-misnamed c.loop-record.invariant.ahead c.in-Misnamed.ensures

pub returns-then-record-mark : goal.returns-then-record-mark
returns-then-record-mark c = ahead-round c.loop-record.invariant.ahead c.in-Passes.ensures c.if-record-mark.true

pub move_up-mark-requires : goal.move_up-mark-requires
move_up-mark-requires c = omega (arith, marks-few c.loop-record.invariant.ahead.marks, valid-header c.requires.0)

pub loop-record-preserved : goal.loop-record-preserved
loop-record-preserved c =
    let told = c.in-Passes.ensures in record {
      here = omega (arith, told.0, told.1);
      ahead = rw c.move_up-mark.ensures (ahead-again c.loop-record.invariant.ahead told c.if-record-mark.false);
    }
