-- The plain lookup, which ignores the hash: document 02, request 13.
use Rattle.std.specs.Prelude.{ℕ, List, length}
use Rattle.format.specs.Fault.{fault, unless, ◌or_else◌, if_kept}
use Rattle.format.specs.String.{allowed}
use Rattle.format.specs.Chain.{all_records}
use Rattle.format.specs.Answer.{unfound}
use Rattle.format.specs.Call.{check, first_named, with_images, answer_words}
use Rattle.format.specs.declared.Fault.{Fault}
use Rattle.format.specs.declared.Found.{Found}
use Rattle.format.specs.declared.LookupAnswer.{LookupAnswer}
use Rattle.format.specs.declared.Reading.TheVariants.{Short}

-- what is refused before a record is tried: 13, then what the check refuses
unfoldable pub plain_fault : List ℕ → List ℕ → Fault
plain_fault s name = unless (allowed name) 13 0 or_else fault (check Short s).number (check Short s).place

-- the first of all records to bear the name, in the check's order; 30 after all, if none does
unfoldable pub try_all : List ℕ → List ℕ → Found
try_all s name = first_named s name (all_records Short s) 0 (unfound 30 0 (length (all_records Short s)))

-- the record that bears the name, without its images; what is refused before has opened 0
unfoldable pub plain_find : List ℕ → List ℕ → Found
plain_find s name =
    let v = plain_fault s name in
    if_kept v (try_all s name) (unfound v.number v.place 0)

-- the lookup: the record, then its images; and the lent words after it
unfoldable pub plain_lookup : List ℕ → List ℕ → ℕ → LookupAnswer
plain_lookup s name room = with_images s room (plain_find s name)

abbrev pub plain_words : List ℕ → List ℕ → List ℕ → List ℕ
plain_words s name words = answer_words s words (plain_lookup s name (length words))
