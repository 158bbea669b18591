-- The farm cache of document 01, and its examples P1 to P12 as one list.
use Rattle.std.specs.Prelude.{ℕ, List, [], ◌∷◌, Bool, true, ◌&&◌, length, take, replicate, T, eqb}
use Rattle.format.specs.Number.{be}
use Rattle.format.specs.Bytes.{put}
use Rattle.format.specs.Fault.{◌or_else◌, first_fault}
use Rattle.format.specs.String.{string, extent, is_whole, string_fault, same_bytes, signed, hash_from, hash_numbers, hash, allowed}
use Rattle.format.specs.Segments.{segments, first_segment, later_segments, valid_segment, all_valid}
use Rattle.format.specs.Header.{header_fault, path_fault, tables_fault}
use Rattle.format.specs.Record.{name_fault, list_fault, record_fault, image_words}
use Rattle.format.specs.Chain.{link_fault, follow, chain, longest_below}
use Rattle.format.specs.Answer.{checked, accepted, refused, looked_up, directory_is}
use Rattle.format.specs.Call.{check, check_buckets, first_named, search_bucket, query_fault, find, with_images, lookup, found_answer, answer_words, lookup_words, directory_fault, directory, directory_path}
use Rattle.format.specs.declared.CheckAnswer.{CheckAnswer}
use Rattle.format.specs.declared.LookupAnswer.{LookupAnswer}
use Rattle.format.specs.declared.DirectoryAnswer.{DirectoryAnswer}
use Rattle.format.specs.declared.Reading.TheVariants.{Short, Long}

unfoldable pub farm : List ℕ
farm =
    0 ∷ 1 ∷ 0 ∷ 0 ∷ 0 ∷ 0 ∷ 0 ∷ 12 ∷ 0 ∷ 0 ∷ 0 ∷ 96 ∷
    0 ∷ 0 ∷ 0 ∷ 3 ∷ 0 ∷ 0 ∷ 0 ∷ 28 ∷ 255 ∷ 255 ∷ 255 ∷ 255 ∷ 0 ∷ 0 ∷ 0 ∷ 52 ∷
    0 ∷ 0 ∷ 0 ∷ 40 ∷ 0 ∷ 0 ∷ 0 ∷ 114 ∷ 0 ∷ 0 ∷ 0 ∷ 64 ∷
    255 ∷ 255 ∷ 255 ∷ 255 ∷ 0 ∷ 0 ∷ 0 ∷ 118 ∷ 0 ∷ 0 ∷ 0 ∷ 64 ∷
    255 ∷ 255 ∷ 255 ∷ 255 ∷ 0 ∷ 0 ∷ 0 ∷ 122 ∷ 0 ∷ 0 ∷ 0 ∷ 76 ∷
    0 ∷ 0 ∷ 0 ∷ 1 ∷ 0 ∷ 0 ∷ 0 ∷ 1 ∷ 0 ∷ 0 ∷ 0 ∷ 0 ∷
    0 ∷ 0 ∷ 0 ∷ 2 ∷ 0 ∷ 0 ∷ 0 ∷ 1 ∷ 0 ∷ 0 ∷ 0 ∷ 0 ∷ 0 ∷ 1 ∷ 0 ∷ 4 ∷ 0 ∷ 0 ∷ 0 ∷ 0 ∷
    0 ∷ 0 ∷ 0 ∷ 2 ∷ 0 ∷ 0 ∷ 0 ∷ 108 ∷ 0 ∷ 0 ∷ 0 ∷ 111 ∷
    49 ∷ 54 ∷ 0 ∷ 54 ∷ 52 ∷ 0 ∷ 104 ∷ 101 ∷ 110 ∷ 0 ∷ 111 ∷ 97 ∷ 116 ∷ 0 ∷ 99 ∷ 111 ∷ 119 ∷ 0 ∷
    []

-- the bytes vs from p on
abbrev pub patched : ℕ → List ℕ → List ℕ → List ℕ
patched p vs s = put s p vs

-- a call and what it has to answer
pub data Example : Type 0 where
  checks : List ℕ → CheckAnswer → Example
  checks_long : List ℕ → CheckAnswer → Example
  looks_up : List ℕ → List ℕ → List ℕ → LookupAnswer → List ℕ → Example
  names : List ℕ → ℕ → DirectoryAnswer → List ℕ → Example

unfoldable pub same_check : CheckAnswer → CheckAnswer → Bool
same_check a b =
    eqb a.number b.number && eqb a.place b.place && eqb a.directories b.directories && eqb a.icons b.icons
    && eqb a.opened b.opened && eqb a.longest b.longest

unfoldable pub same_lookup : LookupAnswer → LookupAnswer → Bool
same_lookup a b = eqb a.number b.number && eqb a.place b.place && eqb a.images b.images && eqb a.opened b.opened

unfoldable pub same_directory : DirectoryAnswer → DirectoryAnswer → Bool
same_directory a b = eqb a.number b.number && eqb a.place b.place

unfoldable pub holds : Example → Bool
holds (checks s a) = same_check (check Short s) a
holds (checks_long s a) = same_check (check Long s) a
holds (looks_up s name words a after) = same_lookup (lookup s name (length words)) a && same_bytes (lookup_words s name words) after
holds (names s i a path) = same_directory (directory s i) a && same_bytes (directory_path s i) path

unfoldable pub all : List Example → Bool
all [] = true
all (e ∷ es) = holds e && all es

unfoldable pub cow : List ℕ
cow = 99 ∷ 111 ∷ 119 ∷ []

unfoldable pub oat : List ℕ
oat = 111 ∷ 97 ∷ 116 ∷ []

unfoldable pub pig : List ℕ
pig = 112 ∷ 105 ∷ 103 ∷ []

unfoldable pub ewe : List ℕ
ewe = 101 ∷ 119 ∷ 101 ∷ []

-- the words lent: each 7
unfoldable pub lent : ℕ → List ℕ
lent n = replicate n 7

-- oat's CHAIN_OFFSET leads back to hen
unfoldable pub looped : List ℕ
looped = patched 40 (0 ∷ 0 ∷ 0 ∷ 28 ∷ []) farm

unfoldable pub examples : List Example
examples =
    -- P1 to P7
    checks farm (accepted 2 3 2) ∷
    looks_up farm cow (lent 5) (looked_up 0 52 2 1) (1 ∷ 0 ∷ 65540 ∷ 0 ∷ 7 ∷ []) ∷
    looks_up farm oat (lent 5) (looked_up 0 40 1 2) (1 ∷ 0 ∷ 7 ∷ 7 ∷ 7 ∷ []) ∷
    looks_up farm pig (lent 5) (looked_up 30 0 0 1) (lent 5) ∷
    looks_up farm ewe (lent 5) (looked_up 30 0 0 2) (lent 5) ∷
    looks_up farm (97 ∷ []) (lent 5) (looked_up 30 0 0 0) (lent 5) ∷
    looks_up farm cow (lent 3) (looked_up 14 76 2 1) (lent 3) ∷
    -- P8
    checks looped (checked 12 16 0 0 116 0) ∷
    looks_up looped oat (lent 5) (looked_up 0 40 1 2) (1 ∷ 0 ∷ 7 ∷ 7 ∷ 7 ∷ []) ∷
    looks_up looped ewe (lent 5) (looked_up 12 16 0 116) (lent 5) ∷
    -- P9 to P11
    checks (patched 20 (0 ∷ 0 ∷ 0 ∷ 28 ∷ []) farm) (refused 9 32 3) ∷
    checks (take 125 farm) (refused 17 56 3) ∷
    checks (patched 88 (0 ∷ 2 ∷ []) farm) (refused 11 88 3) ∷
    -- P12
    names farm 1 (directory_is 0 0) (54 ∷ 52 ∷ []) ∷
    names farm 2 (directory_is 15 0) [] ∷
    []

examples-hold : T (all examples)
unfolding all holds examples lent looped put farm cow oat pig ewe same_check same_lookup same_directory check check_buckets first_named search_bucket query_fault find with_images lookup found_answer answer_words directory_fault directory directory_path link_fault follow chain longest_below record_fault name_fault list_fault image_words header_fault segments first_segment later_segments valid_segment all_valid path_fault tables_fault ◌or_else◌ first_fault extent string is_whole string_fault same_bytes signed hash_from hash_numbers hash allowed be
examples-hold = tt
