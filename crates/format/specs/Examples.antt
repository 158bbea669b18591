-- More examples, under one proved statement: rules at their limits (the most directories and images
-- stand in the program `cases`), parts in the header, loops, the paths of request 4, and the
-- image data of request 10. Every answer was worked out from the documents.
use Rattle.std.specs.Prelude.{ℕ, ◌≡◌, List, ◌&&◌, length, T}
use Rattle.format.specs.Layout.{major_field}
use Rattle.format.specs.Number.{be}
use Rattle.format.specs.Bytes.{put}
use Rattle.format.specs.Fault.{◌or_else◌, first_fault}
use Rattle.format.specs.String.{string, extent, is_whole, string_fault, same_bytes, signed, hash_from, hash_numbers, hash, allowed}
use Rattle.format.specs.Segments.{segments, first_segment, later_segments, valid_segment, all_valid}
use Rattle.format.specs.Header.{header_fault, path_fault, tables_fault}
use Rattle.format.specs.Record.{name_fault, list_fault, record_fault, image_words}
use Rattle.format.specs.Notes.{note_fault, display_name_fault, pixel_data_fault, rectangle_fault, points_fault, names_fault, meta_data_fault, image_data_fault}
use Rattle.format.specs.Chain.{link_fault, follow, chain, longest_below}
use Rattle.format.specs.Answer.{refused}
use Rattle.format.specs.Call.{check, check_buckets, first_named, search_bucket, query_fault, find, with_images, lookup, found_answer, answer_words, directory_fault, directory, directory_path}
use Rattle.format.specs.Farm.{farm, looped, same_check, same_lookup, same_directory, holds, all, cow, oat, pig, lent}
use Rattle.format.specs.Examples.Caches.{small, none, with_field, header, start, bare, hash_last, two_in_header, named, pathed, undirected, record_last}
use Rattle.format.specs.Examples.Tables.{table_examples, header_examples}
use Rattle.format.specs.Examples.Records.{record_examples, loop_examples, path_examples}
use Rattle.format.specs.Examples.Long.{noted, long_examples}
use Rattle.format.specs.declared.Reading.TheVariants.{Short}
pub mod Caches
pub mod Tables
pub mod Records
pub mod Notes
pub mod Long

examples-hold : T (all table_examples && all header_examples && all record_examples && all loop_examples && all path_examples && all long_examples)
unfolding all holds table_examples header_examples record_examples loop_examples path_examples long_examples noted small none with_field header start bare hash_last two_in_header named pathed undirected record_last lent looped put farm cow oat pig same_check same_lookup same_directory check check_buckets first_named search_bucket query_fault find with_images lookup found_answer answer_words directory_fault directory directory_path link_fault follow chain longest_below record_fault name_fault list_fault image_data_fault pixel_data_fault meta_data_fault rectangle_fault points_fault names_fault display_name_fault note_fault image_words header_fault segments first_segment later_segments valid_segment all_valid path_fault tables_fault ◌or_else◌ first_fault extent string is_whole string_fault same_bytes signed hash_from hash_numbers hash allowed be
examples-hold = tt

-- every buffer of 16,777,217 bytes is refused with 2, and of 16,777,216 with 3 where MAJOR is 2
too_long : (s : List ℕ) → length s ≡ 16777217 → check Short s ≡ refused 2 0 0
unfolding check tables_fault header_fault ◌or_else◌
too_long s e = simp e

longest : (s : List ℕ) → length s ≡ 16777216 → be 2 s major_field ≡ 2 → check Short s ≡ refused 3 0 0
unfolding check tables_fault header_fault ◌or_else◌
longest s e v = simp (e, v)
