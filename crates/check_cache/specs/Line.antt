-- The line that the check program prints.
use Rattle.std.specs.Prelude.{ℕ, List, length, ltb, eqb, if◌then◌else◌}
use Rattle.format.specs.Call.{check}
use Rattle.format.specs.declared.CheckAnswer.{CheckAnswer}
use Rattle.format.specs.declared.Reading.TheVariants.{Short}
use Rattle.check_cache.specs.declared.Line.{Line}
use Rattle.check_cache.specs.declared.Line.TheVariants.{Accepted, Refused, TooLarge}

-- the line for an answer of the check: number 0 is the accepted cache's
abbrev pub line_of : CheckAnswer → Line
line_of a = if eqb a.number 0 then Accepted a.icons a.directories a.longest else Refused a.number a.place a.opened

-- the line for what was read: a cache of more than 65,536 bytes is not judged
abbrev pub line_for : List ℕ → Line
line_for s = if ltb 65536 (length s) then TooLarge else line_of (check Short s)
