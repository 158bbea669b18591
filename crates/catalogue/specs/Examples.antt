-- The farm's catalogue written and listed again, other caches, and every kind of refusal, computed;
-- what is too large to compute is said of every catalogue of that size.
use Rattle.std.specs.Prelude.{ℕ, ◌≡◌, Bool, ◌&&◌, length, take, T}
use mathlib.Core.List.{List, [], ◌∷◌, ◌++◌, flat_map}
use Rattle.std.proofs.Common.{le_refl}
use borrow.Author.Tests.{le-leb}
use Rattle.format.specs.Number.{be}
use Rattle.format.specs.Bytes.{bytes, joined, put}
use Rattle.format.specs.Fault.{◌or_else◌, first_fault, no_fault}
use Rattle.format.specs.String.{string, extent, is_whole, string_fault, same_bytes, among, signed, hash_from, hash_numbers, hash, allowed}
use Rattle.format.specs.Segments.{segments, first_segment, later_segments, valid_segment, all_valid, allowed_path}
use Rattle.format.specs.Header.{header_fault, path_fault, tables_fault}
use Rattle.format.specs.Record.{name_fault, list_fault, record_fault}
use Rattle.format.specs.Chain.{link_fault, follow, chain, longest_below, records_below, all_records}
use Rattle.format.specs.Answer.{accepted}
use Rattle.format.specs.Call.{check, check_buckets}
use Rattle.format.specs.Farm.{farm, cow, oat, lent}
use Rattle.format.specs.declared.Reading.TheVariants.{Short}
use Rattle.catalogue.specs.Row.{row_end, row}
use Rattle.catalogue.specs.Catalogue.{catalogue_bytes}
use Rattle.catalogue.specs.Fields.{catalogue_in}
use Rattle.catalogue.specs.Judgement.{path_fields_fault, icon_fields_fault, fields_fault}
use Rattle.catalogue.specs.Repeats.{repeat_fault, catalogue_fault}
use Rattle.catalogue.specs.LaidOut.{first_in}
use Rattle.catalogue.specs.Written.{written_size, written}
use Rattle.catalogue.specs.Listed.{has, rising, firsts, listed, record_uses}
use Rattle.catalogue.specs.Call.{write_is, write_fault, write, write_leaves, listed_bytes, listing_fault, catalogue_of, catalogue_leaves}
use Rattle.catalogue.specs.Examples.Catalogues.{hen, farm_catalogue, farm_bytes, farm_written, pair_bytes, pair_written, path_of_bytes, same_answer, writes, lists, write_refuses, list_refuses, judged_good, refused18, all}
use Rattle.catalogue.specs.Examples.Judged.{judged_examples}
pub mod Catalogues
pub mod Judged
pub mod Shared

unfoldable pub write_examples : List Bool
write_examples =
    same_bytes (catalogue_bytes farm_catalogue) farm_bytes ∷
    writes farm_bytes 3 (lent 140) (write_is 0 0 138) (farm_written ++ lent 2) ∷
    writes pair_bytes 2 (lent 72) (write_is 0 0 72) pair_written ∷
    -- the least catalogue
    writes (0 ∷ 0 ∷ 0 ∷ 0 ∷ []) 1 (lent 24) (write_is 0 0 24)
    (0 ∷ 1 ∷ 0 ∷ 0 ∷ 0 ∷ 0 ∷ 0 ∷ 12 ∷ 0 ∷ 0 ∷ 0 ∷ 20 ∷ 0 ∷ 0 ∷ 0 ∷ 1 ∷ 255 ∷ 255 ∷ 255 ∷ 255 ∷ 0 ∷ 0 ∷ 0 ∷ 0 ∷ []) ∷
    -- exact room, and one byte less
    writes farm_bytes 3 (lent 138) (write_is 0 0 138) farm_written ∷
    writes farm_bytes 3 (lent 137) (write_is 19 0 0) (lent 137) ∷
    -- 18 of a field, then 20 where the later name begins, then 18 for the bucket count, then 19
    write_refuses (put (farm_bytes ++ (0 ∷ [])) 27 hen) 0 18 62 ∷
    write_refuses (put farm_bytes 27 hen) 0 20 27 ∷
    write_refuses (put farm_bytes 41 hen) 3 20 41 ∷
    writes farm_bytes 0 [] (write_is 18 0 0) [] ∷
    write_refuses farm_bytes 4097 18 0 ∷
    write_refuses farm_bytes 4096 19 0 ∷
    []

unfoldable pub list_examples : List Bool
list_examples =
    lists farm_written (lent 64) (write_is 0 0 62) (farm_bytes ++ lent 2) ∷
    -- the farm cache, in which hen and oat share an image list, is listed as the same catalogue
    lists farm (lent 62) (write_is 0 0 62) farm_bytes ∷
    lists farm (lent 61) (write_is 19 0 0) (lent 61) ∷
    -- by rising offset, where the check's order is another
    lists pair_written (lent 20) (write_is 0 0 20) pair_bytes ∷
    -- the check's own refusal, and 20 at the later name in the check's order: oat called hen, and
    -- the same with oat before hen on their chain
    list_refuses (take 125 farm) 17 56 ∷
    list_refuses (put farm 44 (0 ∷ 0 ∷ 0 ∷ 114 ∷ [])) 20 44 ∷
    list_refuses (put (put (put (put farm 44 (0 ∷ 0 ∷ 0 ∷ 114 ∷ [])) 19 (40 ∷ [])) 28 (255 ∷ 255 ∷ 255 ∷ 255 ∷ [])) 40 (0 ∷ 0 ∷ 0 ∷ 28 ∷ [])) 20 32 ∷
    []

examples-hold : T (all judged_examples && all write_examples && all list_examples)
unfolding all judged_examples write_examples list_examples judged_good refused18 write_refuses list_refuses writes lists same_answer lent hen farm_catalogue farm_bytes farm_written pair_bytes pair_written path_of_bytes farm put cow oat flat_map bytes joined allowed_path row_end row path_fields_fault icon_fields_fault fields_fault among repeat_fault catalogue_fault first_in written has rising firsts listed record_uses write_fault listing_fault write write_leaves catalogue_of catalogue_leaves records_below link_fault follow chain longest_below check check_buckets record_fault name_fault list_fault header_fault first_fault segments first_segment later_segments valid_segment all_valid path_fault tables_fault ◌or_else◌ extent string is_whole string_fault same_bytes signed hash_from hash_numbers hash allowed be
examples-hold = tt

-- with room enough, a cache of 16,777,216 bytes is written, and one of 16,777,217 is refused
largest : (c : List ℕ) → catalogue_fault c ≡ no_fault → written_size (catalogue_in c) 1 ≡ 16777216 → write c 1 16777216 ≡ write_is 0 0 16777216
unfolding write write_fault ◌or_else◌
largest c good e = simp (good, e)

too_large : (c : List ℕ) → catalogue_fault c ≡ no_fault → written_size (catalogue_in c) 1 ≡ 16777217 → write c 1 16777217 ≡ write_is 19 0 0
unfolding write write_fault ◌or_else◌
too_large c good e = simp (good, e)

-- with room enough, 65,535 icons are listed, and one more is refused
module _ (s : List ℕ) (m n l : ℕ) (e : check Short s ≡ accepted m n l) (apart : repeat_fault [] (record_uses s) ≡ no_fault) where
  abbrev room : ℕ
  room = length (listed_bytes s)

  most-icons : length (all_records Short s) ≡ 65535 → catalogue_of s room ≡ write_is 0 0 room
  unfolding catalogue_of listing_fault ◌or_else◌
  most-icons count = simp (e, apart, count, le-leb room room (le_refl room))

  too_many : length (all_records Short s) ≡ 65536 → catalogue_of s room ≡ write_is 21 0 0
  unfolding catalogue_of listing_fault ◌or_else◌
  too_many count = simp (e, apart, count)
