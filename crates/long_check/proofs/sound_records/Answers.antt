-- `long_check::sound_records` meets its contract.
use Rattle.std.proofs.Common.{arith}
use Rattle.long_check.specs.Check.{sound_records}
use Rattle.long_check.proofs.sound_records.Goals as goal

pub returns : goal.returns
unfolding sound_records
returns c = omega (arith, c.saturating_sub.ensures, c.unsound.ensures)
