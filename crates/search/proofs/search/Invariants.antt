use Rattle.std.proofs.Common.{suc, ◌-◌}
use Rattle.search.proofs.Searching.{Searching}
use Rattle.search.proofs.search.Given as goal

abbrev pub invariant-loop-record : goal.invariant-loop-record
invariant-loop-record l = Searching l.cache l.name l.bucket l.field l.opened l.stop l.far

abbrev pub decreases-loop-record : goal.decreases-loop-record
decreases-loop-record l = suc l.most - l.stop
