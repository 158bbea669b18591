use Rattle.std.proofs.Common.{◌≡◌, ◌-◌}
use Rattle.format.specs.Header.{directories, paths_fault}
use Rattle.tables.proofs.paths.Given as goal

abbrev pub invariant-loop-i : goal.invariant-loop-i
invariant-loop-i l = paths_fault (directories l.cache - l.i) l.cache l.i ≡ paths_fault (directories l.cache) l.cache 0
