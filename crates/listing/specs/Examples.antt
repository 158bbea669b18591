-- Steps in the farm cache of document 01, computed.
use Rattle.std.specs.Prelude.{ℕ, List, [], ◌∷◌, Bool, true, ◌&&◌, take, T, eqb}
use Rattle.format.specs.Number.{be}
use Rattle.format.specs.Bytes.{put}
use Rattle.format.specs.Fault.{◌or_else◌, first_fault}
use Rattle.format.specs.String.{string, extent, is_whole, string_fault, same_bytes, signed, hash_from, hash_numbers, hash}
use Rattle.format.specs.Header.{header_fault}
use Rattle.format.specs.Record.{name_fault, list_fault, record_fault}
use Rattle.format.specs.Chain.{link_fault, follow, chain}
use Rattle.format.specs.Farm.{farm, looped}
use Rattle.listing.specs.Listing.{StepAnswer, position, hands_back, stays, position_fault, onward, step}
use Rattle.listing.specs.declared.Position.{Position}

unfoldable pub same_position : Position → Position → Bool
same_position q b = eqb q.bucket b.bucket && eqb q.count b.count

-- the step from q answers b
unfoldable pub answers : List ℕ → Position → StepAnswer → Bool
answers s q b =
    let a = step s q in
    eqb a.number b.number && eqb a.place b.place && eqb a.«record» b.«record» && same_position a.next b.next

unfoldable pub all : List Bool → Bool
all [] = true
all (b ∷ bs) = b && all bs

unfoldable pub examples : List Bool
examples =
    -- hen and oat of bucket 0, none of bucket 1, cow of bucket 2, then done
    answers farm (position 0 0) (hands_back 28 (position 0 1)) ∷
    answers farm (position 0 1) (hands_back 40 (position 0 2)) ∷
    answers farm (position 0 2) (hands_back 52 (position 2 1)) ∷
    answers farm (position 2 1) (stays 28 0 (position 2 1)) ∷
    -- made up: the largest count and one more, with L = 126; an empty bucket; past the last bucket
    answers farm (position 0 115) (hands_back 52 (position 2 1)) ∷
    answers farm (position 0 116) (stays 26 0 (position 0 116)) ∷
    answers farm (position 1 0) (hands_back 52 (position 2 1)) ∷
    answers farm (position 2 115) (stays 28 0 (position 2 115)) ∷
    answers farm (position 3 0) (stays 26 0 (position 3 0)) ∷
    -- a chain without an end: round and round
    answers looped (position 0 2) (hands_back 28 (position 0 3)) ∷
    answers looped (position 0 115) (hands_back 40 (position 0 116)) ∷
    answers looped (position 0 116) (stays 26 0 (position 0 116)) ∷
    -- the name of cow is cut off: it is judged when it is its turn
    answers (take 125 farm) (position 0 1) (hands_back 40 (position 0 2)) ∷
    answers (take 125 farm) (position 0 2) (stays 17 56 (position 0 2)) ∷
    -- a header of eleven bytes
    answers (take 11 farm) (position 0 0) (stays 1 0 (position 0 0)) ∷
    []

examples-hold : T (all examples)
unfolding all answers same_position examples looped put farm step onward position_fault link_fault follow chain record_fault name_fault list_fault header_fault ◌or_else◌ first_fault extent string is_whole string_fault same_bytes signed hash_from hash_numbers hash be
examples-hold = tt
