-- The numbers of the rules on tables and records, which of the rules on tables is broken first, and
-- what a record that keeps the rules tells.
use Rattle.std.specs.Prelude.{ℕ, ◌+◌, ◌*◌, ◌≤◌, ◌≡◌, List, Bool, true, false, length, if◌then◌else◌}
use Rattle.std.proofs.Math.Path.{refl}
use Rattle.std.proofs.Common.{sym, ◌∙◌, leb-true}
use Rattle.std.proofs.Math.Bool.{and-eq-true_iff}
use Rattle.format.specs.Layout.{entries_at}
use Rattle.format.specs.Fault.{no_fault, ◌or_else◌}
use Rattle.format.specs.String.{is_whole}
use Rattle.format.specs.ImageData.{there}
use Rattle.format.specs.Notes.{if_there, note_fault, display_name_fault, pixel_data_fault, rectangle_fault, points_fault, names_fault, meta_data_fault, image_data_fault, notes_fault}
use Rattle.format.specs.Header.{directories, header_fault, path_fault, paths_fault, tables_fault}
use Rattle.format.specs.Record.{name_of, bucket_of, images_at, images, name_fault, list_fault, record_fault, images_fault, name_extent}
use Rattle.format.specs.declared.Fault.{Fault}
use Rattle.format.specs.declared.Reading.{Reading}
use Rattle.format.specs.declared.Reading.TheVariants.{Short, Long}
use Rattle.format.proofs.Laws.Faults.{same_number, unless-none, or_else-first, or_else-next, or_else-none, or_else-assoc}
use Rattle.format.proofs.Laws.Numbers.{OneOf, tables_numbers, record_numbers, unless-one, or_else-one, first_one, widened}
use Rattle.format.proofs.Laws.Extents.{string-one}
use Rattle.format.proofs.Laws.Header.{header-number}
use Rattle.format.proofs.Laws.Reads.{list-ends}
use Rattle.format.proofs.Laws.Records.{name-valid}

-- what a record tells that keeps rules 8 to 11 and 17: its name is whole and stands in its own
-- bucket, its images lie inside, and each keeps rule 11
pub record ValidRecord (s : List ℕ) (k r : ℕ) : Type 0 where
  pub named : is_whole (name_extent s r) ≡ true
  pub home : bucket_of s (name_of s r) ≡ k
  pub listed : images_at s r + 4 + 8 * images s r ≤ length s
  pub few : images s r ≤ 1024
  pub images-kept : (images_fault (images s r) s (images_at s r + 4)).number ≡ 0

-- a part that is not there breaks no rule
there-one : {ns : List ℕ} (p : ℕ) (v : Fault) → OneOf ns v.number → OneOf ns (if_there p v).number
there-one {ns} p v h = go (there p)
  where
    go : (b : Bool) → OneOf ns (if b then v else no_fault).number
    go true = h
    go false = record { one = refl }

module _ (s : List ℕ) where
  path-number : (i : ℕ) → OneOf tables_numbers (path_fault s i).number
  unfolding path_fault
  path-number i = search (or_else-one, unless-one, string-one)

  pub tables-number : OneOf tables_numbers (tables_fault s).number
  unfolding tables_fault
  tables-number = or_else-one _ _ (widened refl (header-number s)) (first_one _ _ _ _ path-number)

  pub tables-header : ((header_fault s).number ≡ 0 → ⊥) → tables_fault s ≡ header_fault s
  unfolding tables_fault
  tables-header h = or_else-first _ _ h

  pub tables-paths : (header_fault s).number ≡ 0 → tables_fault s ≡ paths_fault (directories s) s 0
  unfolding tables_fault
  tables-paths h = or_else-next _ _ h

  pub tables-keep-header : (tables_fault s).number ≡ 0 → (header_fault s).number ≡ 0
  unfolding tables_fault
  tables-keep-header e = (or_else-none _ _ e).0

  -- behind an image
  note-number : (f : ℕ) → OneOf (record_numbers Long) (note_fault s f).number
  unfolding note_fault
  note-number f = search unless-one

  names-number : (f : ℕ) → OneOf (record_numbers Long) (names_fault s f).number
  unfolding names_fault display_name_fault
  names-number f = search (there-one, or_else-one, unless-one, first_one, note-number)

  meta-data-number : (f : ℕ) → OneOf (record_numbers Long) (meta_data_fault s f).number
  unfolding meta_data_fault rectangle_fault points_fault
  meta-data-number f = search (there-one, or_else-one, unless-one, names-number) depth 8

  image-data-number : (f : ℕ) → OneOf (record_numbers Long) (image_data_fault s f).number
  unfolding image_data_fault pixel_data_fault
  image-data-number f = search (there-one, or_else-one, unless-one, meta-data-number) depth 8

pub record-number : (ρ : Reading) (s : List ℕ) (k r : ℕ) → OneOf (record_numbers ρ) (record_fault ρ s k r).number
unfolding record_fault name_fault list_fault
record-number Short s k r = search (or_else-one, unless-one, first_one, string-one)
record-number Long s k r = search (or_else-one, unless-one, first_one, string-one, image-data-number)

-- the long reading asks what is behind the images after the rules of the short one
pub record-long : (s : List ℕ) (k r : ℕ) → record_fault Long s k r ≡ record_fault Short s k r or_else notes_fault (images s r) s (entries_at (images_at s r))
unfolding record_fault
record-long s k r = sym (or_else-assoc _ _ _)

pub keeps-short : (ρ : Reading) (s : List ℕ) (k r : ℕ) → (record_fault ρ s k r).number ≡ 0 → (record_fault Short s k r).number ≡ 0
keeps-short Short s k r e = e
keeps-short Long s k r e = (or_else-none _ _ (sym (same_number (record-long s k r)) ∙ e)).0

pub long-notes : (s : List ℕ) (k r : ℕ) → (record_fault Short s k r).number ≡ 0 → record_fault Long s k r ≡ notes_fault (images s r) s (entries_at (images_at s r))
long-notes s k r e = record-long s k r ∙ or_else-next _ _ e

pub record-valid : (ρ : Reading) (s : List ℕ) (k r : ℕ) → (record_fault ρ s k r).number ≡ 0 → ValidRecord s k r
unfolding record_fault list_fault
record-valid ρ s k r kept =
    let e = keeps-short ρ s k r kept in
    let name = name-valid s k r (or_else-none _ _ e).0 in
    let list = or_else-none _ _ (or_else-none _ _ e).1 in
    let inside-few = (and-eq-true_iff _ _).0 (unless-none _ _ _ list.0) in
    record {
      named = name.named;
      home = name.home;
      listed = list-ends s (images_at s r) 8 inside-few.0;
      few = leb-true _ _ inside-few.1;
      images-kept = list.1;
    }
