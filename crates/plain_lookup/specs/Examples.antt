-- The plain lookup on the farm cache of document 01: what it answers where P2 to P8 ask the ordinary
-- one.
use Rattle.std.specs.Prelude.{ℕ, List, [], ◌∷◌, Bool, true, ◌&&◌, length, T}
use Rattle.format.specs.Number.{be}
use Rattle.format.specs.Bytes.{put}
use Rattle.format.specs.Fault.{◌or_else◌, first_fault}
use Rattle.format.specs.String.{string, extent, is_whole, string_fault, same_bytes, signed, hash_from, hash_numbers, hash, allowed}
use Rattle.format.specs.Segments.{segments, first_segment, later_segments, valid_segment, all_valid}
use Rattle.format.specs.Header.{header_fault, path_fault, tables_fault}
use Rattle.format.specs.Record.{name_fault, list_fault, record_fault, image_words}
use Rattle.format.specs.Chain.{link_fault, follow, chain, records_below, longest_below}
use Rattle.format.specs.Answer.{looked_up}
use Rattle.format.specs.Call.{check, check_buckets, first_named, with_images, found_answer, answer_words}
use Rattle.format.specs.Farm.{farm, looped, cow, oat, pig, ewe, lent, same_lookup}
use Rattle.format.specs.declared.LookupAnswer.{LookupAnswer}
use Rattle.plain_lookup.specs.Plain.{plain_fault, try_all, plain_find, plain_lookup, plain_words}

unfoldable tries : List ℕ → List ℕ → List ℕ → LookupAnswer → List ℕ → Bool
tries s name words a after = same_lookup (plain_lookup s name (length words)) a && same_bytes (plain_words s name words) after

unfoldable all : List Bool → Bool
all [] = true
all (b ∷ bs) = b && all bs

unfoldable examples : List Bool
examples =
    -- cow is the third record, and oat the second
    tries farm cow (lent 5) (looked_up 0 52 2 3) (1 ∷ 0 ∷ 65540 ∷ 0 ∷ 7 ∷ []) ∷
    tries farm oat (lent 5) (looked_up 0 40 1 2) (1 ∷ 0 ∷ 7 ∷ 7 ∷ 7 ∷ []) ∷
    -- absent, after all three; too little room; no name
    tries farm pig (lent 5) (looked_up 30 0 0 3) (lent 5) ∷
    tries farm ewe (lent 5) (looked_up 30 0 0 3) (lent 5) ∷
    tries farm (97 ∷ []) (lent 5) (looked_up 30 0 0 3) (lent 5) ∷
    tries farm cow (lent 3) (looked_up 14 76 2 3) (lent 3) ∷
    tries farm [] (lent 3) (looked_up 13 0 0 0) (lent 3) ∷
    -- a cache with a loop is refused, though the ordinary lookup finds oat there
    tries looped oat (lent 5) (looked_up 12 16 0 0) (lent 5) ∷
    -- and a name that may not be asked for is refused before it
    tries looped [] (lent 3) (looked_up 13 0 0 0) (lent 3) ∷
    []

examples-hold : T (all examples)
unfolding all examples tries lent looped put farm cow oat pig ewe same_lookup plain_fault try_all plain_find plain_lookup check check_buckets first_named with_images found_answer answer_words link_fault follow chain records_below longest_below record_fault name_fault list_fault image_words header_fault segments first_segment later_segments valid_segment all_valid path_fault tables_fault ◌or_else◌ first_fault extent string is_whole string_fault same_bytes signed hash_from hash_numbers hash allowed be
examples-hold = tt
