-- `keys::compare` meets its contract: one offset has one key, and the library compares numbers as
-- keys are.
use mathlib.Core.Path.{sym, ◌∙◌}
use Rattle.keys.proofs.Laws.{order-itself, by_number, by_numbers}
use Rattle.keys.proofs.compare.Goals as goal

pub returns-then-a-b : goal.returns-then-a-b
returns-then-a-b c = rw c.if-a-b.true (sym (order-itself _))

pub returns-in-Counted : goal.returns-in-Counted
returns-in-Counted c =
    rw c.in-Counted.is (c.cmp.ensures ∙ by_numbers c.name_after.result.now c.name_after-in-Counted.result.now ∙ rw (c.name_after.ensures, c.name_after-in-Counted.ensures))

pub returns-in-Offset : goal.returns-in-Offset
returns-in-Offset c = rw c.in-Offset.is (c.cmp-in-Offset.ensures ∙ by_number _ _)

pub returns-in-Images : goal.returns-in-Images
returns-in-Images c =
    rw c.in-Images.is (c.cmp-in-Images.ensures ∙ by_numbers c.list_from.result.now c.list_from-in-Images.result.now ∙ rw (c.list_from.ensures, c.list_from-in-Images.ensures))
