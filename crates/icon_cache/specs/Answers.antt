-- The answers of document 01 that the results of the directory calls are: the numbers of a refusal,
-- or number 0 and what there is beside it.
use Rattle.std.specs.Prelude.{Result, Ok, Err}
use Rattle.format.specs.Answer.{directory_is, part_is}
use Rattle.format.specs.declared.DirectoryAnswer.{DirectoryAnswer}
use Rattle.format.specs.declared.DirectoryPart.{DirectoryPart}
use Rattle.format.specs.declared.Fault.{Fault}
use Rattle.tables.specs.declared.PathPart.{PathPart}

abbrev pub directory_answer : Result Unit Fault → DirectoryAnswer
directory_answer (Ok done) = directory_is 0 0
directory_answer (Err v) = directory_is v.number v.place

abbrev pub part_answer : Result PathPart Fault → DirectoryPart
part_answer (Ok part) = part_is 0 0 part.start part.length
part_answer (Err v) = part_is v.number v.place 0 0
