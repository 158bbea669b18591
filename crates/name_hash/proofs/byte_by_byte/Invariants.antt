use Rattle.name_hash.specs.Reached.{Reached}
use Rattle.name_hash.proofs.byte_by_byte.Given as goal

-- the string is read as far as the byte at hand
abbrev pub invariant-loop-i : goal.invariant-loop-i
invariant-loop-i l = Reached l.part l.i l.hash
