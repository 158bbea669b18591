use Rattle.std.proofs.Common.{◌*◌}
use Rattle.name_hash.specs.Reached.{Reached}
use Rattle.name_hash.proofs.measured.Given as goal

-- the string is read as far as the word at hand
abbrev pub invariant-loop-k : goal.invariant-loop-k
invariant-loop-k l = Reached l.part (8 * l.k) l.hash
