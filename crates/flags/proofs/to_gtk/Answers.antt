-- `flags::to_gtk` meets its contract: its result is computed at each of the flags 0 to 15.
use Rattle.std.proofs.Common.{◌*◌, ◌/◌, ◌%◌, bit_and, bit_or, refl, arith}
use Rattle.flags.specs.declared.Numbering.TheVariants.{Freedesktop, Gtk}
use Rattle.flags.specs.Flags.{renumbered}
use Rattle.flags.proofs.Laws.{agree}
use Rattle.flags.proofs.to_gtk.Goals as goal

pub returns : goal.returns
unfolding renumbered
returns c =
    agree 16 (λ x. bit_or (bit_or (bit_and x 6 / 2) (bit_and x 1 * 4 % 65536)) (bit_and x 8)) (renumbered Freedesktop Gtk) refl c.args.flags (omega arith)
