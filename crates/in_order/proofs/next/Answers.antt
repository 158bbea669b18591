-- `in_order::next` meets its contract: the field of the record at hand leads on.
use Rattle.std.proofs.Common.{arith}
use Rattle.tables.specs.Laws.{valid-header}
use Rattle.in_order.specs.Laws.{records-few, behind, here-below}
use Rattle.in_order.proofs.next.Goals as goal

pub overflow_add-cursor : goal.overflow_add-cursor
overflow_add-cursor c =
    let here = c.requires.1.here c.requires.2 in
    let acc = c.requires.0.accepted in
    omega (arith, here-below acc here, records-few acc, valid-header c.requires.0.tables)

pub settle-requires : goal.settle-requires
settle-requires c =
    (c.requires.0, behind c.requires.0.accepted (c.requires.1.here c.requires.2) c.u32_at.ensures)
