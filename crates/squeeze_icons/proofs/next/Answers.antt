-- `squeeze_icons::next` meets its contract: one icon more stays.
use Rattle.std.proofs.Common.{arith}
use Rattle.tables.specs.Laws.{valid-header}
use Rattle.squeeze_icons.specs.Laws.Seeking.{seeking-behind}
use Rattle.squeeze_icons.specs.Laws.Icon.{icon-at, icons-few}
use Rattle.squeeze_icons.proofs.next.Goals as goal

pub overflow_add-icons : goal.overflow_add-icons
overflow_add-icons c =
    let acc = c.requires.0.accepted in
    omega (arith, (icon-at acc c.requires.2 c.requires.3).below, icons-few acc, valid-header c.requires.0.tables)

pub seek-requires : goal.seek-requires
seek-requires c =
    let h = c.requires.2 in
    (c.requires.0, c.requires.1, seeking-behind c.args.icons.at c.next-cursor.ensures.0 c.next-cursor.ensures.1 h.icons (h.stays c.requires.3))
