use Rattle.std.proofs.Common.{◌≡◌, ◌*◌, ◌≤◌, length}
use Rattle.format.specs.Bytes.{joined}
use Rattle.export.specs.Parts.{path_piece}
use Rattle.export.proofs.sizes.paths.Given as goal

abbrev pub invariant-loop-i : goal.invariant-loop-i
invariant-loop-i l = record { sum : l.size ≡ length (joined (path_piece l.cache) l.i); few : l.size ≤ 1025 * l.i }
