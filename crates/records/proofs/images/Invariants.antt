use Rattle.std.proofs.Common.{◌≡◌, ◌+◌, ◌-◌, ◌*◌}
use Rattle.format.specs.Record.{images_fault}
use Rattle.records.proofs.images.Given as goal

abbrev pub invariant-loop-i : goal.invariant-loop-i
invariant-loop-i l = images_fault (l.m - l.i) l.cache (l.at + 8 * l.i) ≡ images_fault l.m l.cache l.at
