-- The farm cache squeezes to itself, and so do its copies with dead bytes; equal names, a path that
-- is a name, tails, and refusals: computed.
use Rattle.std.specs.Prelude.{ℕ, Bool, ◌&&◌, length, take, T}
use mathlib.Core.List.{List, [], ◌∷◌, ◌++◌, flat_map}
use Rattle.format.specs.Number.{be}
use Rattle.format.specs.Fault.{◌or_else◌, first_fault}
use Rattle.format.specs.String.{string, extent, is_whole, string_fault, same_bytes, signed, hash_from, hash_numbers, hash}
use Rattle.format.specs.Segments.{segments, first_segment, later_segments, valid_segment, all_valid}
use Rattle.format.specs.Header.{header_fault, path_fault, tables_fault}
use Rattle.format.specs.Record.{name_fault, list_fault, record_fault}
use Rattle.format.specs.Chain.{link_fault, follow, chain, longest_below, records_below}
use Rattle.format.specs.Call.{check, check_buckets}
use Rattle.format.specs.Farm.{farm, patched, looped, cow, oat, lent}
use Rattle.format.specs.Bytes.{bytes, joined, put}
use Rattle.catalogue.specs.Row.{row}
use Rattle.catalogue.specs.LaidOut.{first_in}
use Rattle.catalogue.specs.Listed.{firsts}
use Rattle.catalogue.specs.Call.{WriteAnswer, write_is}
use Rattle.catalogue.specs.Examples.Catalogues.{hen, farm_written, same_answer, all}
use Rattle.squeeze_spec.specs.Uses.{first_with, added}
use Rattle.squeeze_spec.specs.Packed.{packed}
use Rattle.squeeze_spec.specs.Squeezed.{kept_records, contents, squeezed}
use Rattle.squeeze_spec.specs.Call.{data_fault, squeeze_fault, squeeze, squeeze_leaves}

-- the call answers a and leaves `after`
unfoldable pub squeezes : List ℕ → List ℕ → WriteAnswer → List ℕ → Bool
squeezes s out a after = same_answer (squeeze s (length out)) a && same_bytes (squeeze_leaves s out) after

unfoldable pub refused : List ℕ → ℕ → ℕ → ℕ → Bool
refused s room n p = squeezes s (lent room) (write_is n p 0) (lent room)

-- the farm cache without oat, and the later hen: header and hash, two records, the image lists, the
-- directory list and the strings
unfoldable pub without_oat : List ℕ
without_oat =
    0 ∷ 1 ∷ 0 ∷ 0 ∷ 0 ∷ 0 ∷ 0 ∷ 12 ∷ 0 ∷ 0 ∷ 0 ∷ 84 ∷
    0 ∷ 0 ∷ 0 ∷ 3 ∷ 0 ∷ 0 ∷ 0 ∷ 28 ∷ 255 ∷ 255 ∷ 255 ∷ 255 ∷ 0 ∷ 0 ∷ 0 ∷ 40 ∷
    255 ∷ 255 ∷ 255 ∷ 255 ∷ 0 ∷ 0 ∷ 0 ∷ 102 ∷ 0 ∷ 0 ∷ 0 ∷ 52 ∷
    255 ∷ 255 ∷ 255 ∷ 255 ∷ 0 ∷ 0 ∷ 0 ∷ 106 ∷ 0 ∷ 0 ∷ 0 ∷ 64 ∷
    0 ∷ 0 ∷ 0 ∷ 1 ∷ 0 ∷ 0 ∷ 0 ∷ 1 ∷ 0 ∷ 0 ∷ 0 ∷ 0 ∷
    0 ∷ 0 ∷ 0 ∷ 2 ∷ 0 ∷ 0 ∷ 0 ∷ 1 ∷ 0 ∷ 0 ∷ 0 ∷ 0 ∷ 0 ∷ 1 ∷ 0 ∷ 4 ∷ 0 ∷ 0 ∷ 0 ∷ 0 ∷
    0 ∷ 0 ∷ 0 ∷ 2 ∷ 0 ∷ 0 ∷ 0 ∷ 96 ∷ 0 ∷ 0 ∷ 0 ∷ 99 ∷
    49 ∷ 54 ∷ 0 ∷ 54 ∷ 52 ∷ 0 ∷ 104 ∷ 101 ∷ 110 ∷ 0 ∷ 99 ∷ 111 ∷ 119 ∷ 0 ∷
    []

unfoldable pub examples : List Bool
examples =
    squeezes farm (lent 128) (write_is 0 0 126) (farm ++ lent 2) ∷
    squeezes farm (lent 126) (write_is 0 0 126) farm ∷
    -- the cache of 138 bytes that is written from the farm's catalogue; dead bytes behind the farm
    -- cache
    squeezes farm_written (lent 126) (write_is 0 0 126) farm ∷
    squeezes (farm ++ (9 ∷ 9 ∷ 9 ∷ [])) (lent 126) (write_is 0 0 126) farm ∷
    -- oat is named hen too, so the later hen goes
    squeezes (patched 118 hen farm) (lent 112) (write_is 0 0 110) (without_oat ++ lent 2) ∷
    squeezes without_oat (lent 110) (write_is 0 0 110) without_oat ∷
    -- and with it the list that it alone has
    squeezes (patched 48 (0 ∷ 0 ∷ 0 ∷ 126 ∷ []) (patched 118 hen farm) ++ (0 ∷ 0 ∷ 0 ∷ 1 ∷ 0 ∷ 0 ∷ 0 ∷ 2 ∷ 0 ∷ 0 ∷ 0 ∷ 0 ∷ [])) (lent 110) (write_is 0 0 110) without_oat ∷
    -- the second path is "cow", so the name uses its bytes; in the next it is "at", the tail of a
    -- name, and is written out
    squeezes (patched 107 (122 ∷ []) farm) (lent 123) (write_is 0 0 123)
    (patched 35 (115 ∷ []) (patched 47 (119 ∷ []) (patched 59 (111 ∷ []) (take 111 farm))) ++ cow ++ (0 ∷ []) ++ hen ++ (0 ∷ []) ++ oat ++ (0 ∷ [])) ∷
    squeezes (patched 107 (119 ∷ []) farm) (lent 126) (write_is 0 0 126) (patched 111 (97 ∷ 116 ∷ []) farm) ∷
    -- refused: a loop, cut off; the image that hen and oat share has image data, and cow's second
    -- has
    refused looped 9 12 16 ∷
    refused (take 125 farm) 9 17 56 ∷
    refused (patched 75 (1 ∷ []) farm) 126 25 68 ∷
    refused (patched 95 (1 ∷ []) farm) 126 25 88 ∷
    refused (patched 95 (1 ∷ []) (patched 75 (1 ∷ []) farm)) 9 25 68 ∷
    -- the later hen has a list of its own, whose image has data: it is judged though it goes
    refused (patched 48 (0 ∷ 0 ∷ 0 ∷ 126 ∷ []) (patched 118 hen farm) ++ (0 ∷ 0 ∷ 0 ∷ 1 ∷ 0 ∷ 0 ∷ 0 ∷ 1 ∷ 0 ∷ 0 ∷ 0 ∷ 1 ∷ [])) 138 25 130 ∷
    -- a byte too few
    refused farm 125 19 0 ∷
    []

examples-hold : T (all examples)
unfolding all examples squeezes refused hen without_oat farm_written farm looped cow oat same_answer lent flat_map bytes joined put row first_in firsts first_with added packed kept_records contents squeezed data_fault squeeze_fault squeeze squeeze_leaves records_below link_fault follow chain longest_below check check_buckets record_fault name_fault list_fault header_fault first_fault segments first_segment later_segments valid_segment all_valid path_fault tables_fault ◌or_else◌ extent string is_whole string_fault same_bytes signed hash_from hash_numbers hash be
examples-hold = tt
