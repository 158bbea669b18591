-- What request 11 promises of the definitions.
use Rattle.std.specs.Prelude.{ℕ, suc, ◌+◌, ◌≤◌, ◌<◌, ◌≡◌, ◌↔◌, ◌⊎◌, List, [], ◌∷◌, ◌++◌, map, Bool, true, not, length, drop, get_or, eqb}
use Rattle.format.specs.Layout.{end_value}
use Rattle.format.specs.Fault.{fault, no_fault}
use Rattle.format.specs.Header.{header_fault, directories, buckets, bucket_field, path_of, path_fault}
use Rattle.format.specs.Record.{name_of, images_at, name_fault, valid_image_list}
use Rattle.format.specs.Chain.{all_records}
use Rattle.format.specs.Words.{link, link_field, Inside, OnChain, Accepted}
use Rattle.format.specs.declared.Fault.{Fault}
use Rattle.format.specs.declared.Reading.TheVariants.{Short}
use Rattle.format.specs.Listed.{listed}
use Rattle.catalogue.specs.Catalogue.{Good, catalogue_is}
use Rattle.catalogue.specs.Fields.{AreBytes}
use Rattle.catalogue.specs.Serves.{Serves}
use Rattle.catalogue.specs.Written.{places, written}
use Rattle.catalogue.specs.Listed.{firsts, icon_of}
use Rattle.catalogue.specs.Call.{write, write_leaves}
use Rattle.catalogue.specs.Promise.{Taken}
use Rattle.salvage_spec.specs.Lists.{those, AnyTwo}
use Rattle.salvage_spec.specs.Meetings.{Meeting, met, cut, fate, meetings}
use Rattle.salvage_spec.specs.Salvage.{new_index, icon, icons, catalogue, Entry, of_path, of_meeting, of_image, of_cut, row, path_entries, entries}
use Rattle.salvage_spec.specs.Call.{salvage_bytes, salvage}

-- the record before step n, if there is one, has a name without a fault
abbrev pub Passed : List ℕ → ℕ → ℕ → Type 0
Passed s k n = (m : ℕ) → n ≡ suc m → (name_fault s k (link s k m)).number ≡ 0

-- no step below n names the record of step n
abbrev pub Fresh : List ℕ → ℕ → ℕ → Type 0
Fresh s k n = (m : ℕ) → m < n → link s k m ≡ link s k n → ⊥

-- the walk of bucket k's chain meets a record at step n
pub record MeetsAt (s : List ℕ) (k n : ℕ) : Type 0 where
  pub passed : Passed s k n
  pub real : link s k n ≡ end_value → ⊥
  pub inside : Inside s (link s k n)
  pub fresh : Fresh s k n

-- How the walk ends after n records, and the row that stands for it: with a record whose name has a
-- fault, which has its own row, at the end value, at a record not inside, or before a record that
-- was met.
pub data Ends (s : List ℕ) (k n : ℕ) : Fault → Type 0 where
  misnamed : (m : ℕ) → n ≡ suc m → ((name_fault s k (link s k m)).number ≡ 0 → ⊥) → Ends s k n no_fault
  ended : Passed s k n → link s k n ≡ end_value → Ends s k n no_fault
  outside : Passed s k n → (link s k n ≡ end_value → ⊥) → (Inside s (link s k n) → ⊥) → Ends s k n (fault 7 (link_field s k n))
  looped : Passed s k n → (m : ℕ) → m < n → link s k m ≡ link s k n → Ends s k n (fault 12 (bucket_field s k))

-- the record met, whether it is kept, and the row that it has if not
abbrev pub met_record : List ℕ → Meeting → ℕ
met_record s m = link s m.bucket m.step

abbrev pub fate_of : List ℕ → Meeting → Fault
fate_of s m = fate s m.bucket m.step

abbrev pub is_kept : List ℕ → Meeting → Bool
is_kept s m = eqb (fate_of s m).number 0

abbrev pub is_gone : List ℕ → Meeting → Bool
is_gone s m = not (is_kept s m)

-- the meetings that have an entry in a report, in its order
unfoldable pub meetings_in : List Entry → List Meeting
meetings_in [] = []
meetings_in (of_path i ∷ es) = meetings_in es
meetings_in (of_meeting m ∷ es) = m ∷ meetings_in es
meetings_in (of_image p ∷ es) = meetings_in es
meetings_in (of_cut k ∷ es) = meetings_in es

-- the numbers of a meeting's row
abbrev pub meeting_numbers : List ℕ
meeting_numbers = 8 ∷ 9 ∷ 10 ∷ 17 ∷ 20 ∷ []

unfoldable pub meeting_number : ℕ → Bool
meeting_number n = listed n meeting_numbers

-- the rows after those of the paths, and those of them that have such a number
abbrev pub rows_after_paths : List ℕ → List Fault
rows_after_paths s = map (row s) (drop (length (path_entries s)) (entries s))

abbrev pub rows_of_meetings : List ℕ → List Fault
rows_of_meetings s = those (λ (v : Fault). meeting_number v.number) (rows_after_paths s)

-- Each meeting is kept or has exactly one row, never both. A meeting stands once in the list of
-- all. The icons are those of the kept meetings, one for each and in their order; the other
-- meetings are those that the report has an entry for, one for each and in their order. So the two
-- counts add up to the meetings, by the entries, and by the numbers of the rows too.
pub record Accounts (s : List ℕ) : Type 0 where
  pub once : AnyTwo (λ x y. x ≡ y → ⊥) (meetings s)
  pub kept : icons s ≡ map (λ m. icon s (met_record s m)) (those (is_kept s) (meetings s))
  pub gone : meetings_in (entries s) ≡ those (is_gone s) (meetings s)
  pub rows : rows_of_meetings s ≡ map (fate_of s) (those (is_gone s) (meetings s))
  pub total : length (icons s) + length (meetings_in (entries s)) ≡ length (meetings s)
  pub total-by-number : length (icons s) + length (rows_of_meetings s) ≡ length (meetings s)

-- a record with this name is kept before step n of bucket k's chain, on whatever chain
pub record KeptBefore (s : List ℕ) (k n : ℕ) (name : List ℕ) : Type 0 where
  pub bucket : ℕ
  pub step : ℕ
  pub before : (bucket < k) ⊎ ((bucket ≡ k) × (step < n))
  pub met : step < met s bucket
  pub kept : (fate s bucket step).number ≡ 0
  pub same : name_of s (link s bucket step) ≡ name

-- no two records of chains bear one name
abbrev pub NoEqualNames : List ℕ → Type 0
NoEqualNames s = (j k m n r q : ℕ) → j < buckets s → k < buckets s → OnChain s j m r → OnChain s k n q → name_of s r ≡ name_of s q → r ≡ q

-- of an accepted cache without equal names: there are no rows, and the catalogue holds its paths,
-- and its icons in the check's order with all their images
pub record KeepsAll (s : List ℕ) : Type 0 where
  pub no_rows : entries s ≡ []
  pub all : catalogue s ≡ catalogue_is (firsts (path_of s) (directories s)) (map (icon_of s) (all_records Short s))

-- of a call that answers 0: the writer answers 0 or 19 to its catalogue, for an allowed bucket
-- count; and with 0 it writes a cache that serves the catalogue: the check accepts it, and a lookup
-- gives each kept name its kept images
pub record Repairs (s : List ℕ) : Type 0 where
  pub taken : Taken (salvage_bytes s)
  pub served : (b : ℕ) (lent : List ℕ) → (write (salvage_bytes s) b (length lent)).number ≡ 0
      → let cache = written (catalogue s) b in
      (write_leaves (salvage_bytes s) b lent ≡ cache ++ drop (length cache) lent) × Serves cache (catalogue s) b (places (catalogue s) b)

pub record Salvages (s : List ℕ) : Type 0 where
  -- how far the walk of a chain goes, in words that know nothing of a bound
  pub meets : (k n : ℕ) → (n < met s k) ↔ ((m : ℕ) → m ≤ n → MeetsAt s k m)
  -- how it ends: a loop is cut before the first record that is named again
  pub ends : (k : ℕ) → Ends s k (met s k) (cut s k)
  -- names without a fault that are equal are met on one chain
  pub one-chain : (j k m n : ℕ) → (name_fault s j (link s j m)).number ≡ 0 → (name_fault s k (link s k n)).number ≡ 0
      → name_of s (link s j m) ≡ name_of s (link s k n) → j ≡ k
  -- a name equal to a kept one goes, asked after 8 to 10: it is enough to look for it on the same
  -- chain, as `fate` does
  pub equal : (k n : ℕ) → n < met s k → (name_fault s k (link s k n)).number ≡ 0 → valid_image_list s (images_at s (link s k n)) ≡ true
      → ((fate s k n).number ≡ 20) ↔ KeptBefore s k n (name_of s (link s k n))
  -- each meeting is kept or has one row
  pub accounts : Accounts s
  -- the meetings of an accepted cache are all its records in the check's order
  pub meets-all : Accepted Short s → map (met_record s) (meetings s) ≡ all_records Short s
  pub keeps-all : Accepted Short s → NoEqualNames s → KeepsAll s
  -- the indexes of directories close up: the path of one that is kept stands at its new index
  pub closes-up : (i : ℕ) → i < directories s → (path_fault s i).number ≡ 0 → get_or (catalogue s).paths (new_index s i) [] ≡ path_of s i
  -- the catalogue is good, and so a cache can be written from it
  pub good : (header_fault s).number ≡ 0 → AreBytes s → Good (catalogue s)
  pub repairs : (room words : ℕ) → AreBytes s → (salvage s room words).number ≡ 0 → Repairs s
