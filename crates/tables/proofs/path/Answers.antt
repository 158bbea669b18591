-- `tables::path` meets its contract. The field, the part that starts with the path, the answer on
-- the string and that on its segments are those of the definitions (`Read`), and each `return` is
-- one of the laws `path-not-whole`, `path-absolute`, `path-segments` and `path-kept`. A whole string
-- has a first byte.
use Prim.Native.Nat.{ℕ, ◌≤◌}
use mathlib.Core.Path.{◌≡◌, ◌∙◌, sym, ap}
use mathlib.Core.List.{List}
use mathlib.Core.Bool.{Bool, true, false}
use Rattle.std.specs.Prelude.{Err}
use native.Mathlib.Omega.{arith}
use borrow.Author.Tests.{not-true, not-false}
use lib.ListN.{length, drop, take}
use Rattle.std.proofs.lemmas.Result.{err_from_is_err_and}
use Rattle.format.specs.Number.{be}
use Rattle.format.specs.String.{string, extent, is_whole, string_fault}
use Rattle.format.specs.Fault.{outcome}
use Rattle.format.specs.declared.Fault.{Fault}
use Rattle.format.specs.declared.Extent.{Extent}
use Rattle.format.specs.declared.Extent.TheVariants.{Whole}
use Rattle.format.specs.Segments.{valid_segments}
use Rattle.format.specs.Header.{path_field, path_part, path_of, path_fault}
use Rattle.format.proofs.Laws.Extents.{string-broken}
use Rattle.format.proofs.Laws.Paths.{path-not-whole, path-absolute, path-segments, path-kept}
use Rattle.format.proofs.Laws.Strings.{whole-string, whole_length, whole-is-whole, whole-within}
use Rattle.tables.specs.Laws.{valid-header}
use Rattle.tables.specs.Tables.{TablesOf, path_field_of, part_of}
use Rattle.tables.specs.declared.Tables.{Tables}
use Rattle.tables.specs.declared.PathPart.{PathPart}
use Rattle.tables.proofs.Handed.{breaks, keeps}
use Rattle.tables.proofs.path.Goals as goal

-- what is read of the path of directory i
record Read (s : List ℕ) (i field start : ℕ) (part : List ℕ) (e : Extent) : Type 0 where
  pub field-is : field ≡ path_field s i
  pub start-is : start ≡ be 4 s (path_field s i)
  pub part-is : part ≡ path_part s i
  pub extent-is : e ≡ extent 1023 (path_part s i)

read-is : (s : List ℕ) (i : ℕ) {t : Tables} {field start : ℕ} {part : List ℕ} {e : Extent} → TablesOf s t → field ≡ path_field_of t i → start ≡ be 4 s field → part ≡ drop start s → e ≡ extent 1023 part → Read s i field start part e
read-is s i {t} {field} {start} of f b p x =
    let field-is : field ≡ path_field s i = f ∙ ap (λ t. path_field_of t i) of.tables in
    let start-is : start ≡ be 4 s (path_field s i) = b ∙ ap (be 4 s) field-is in
    let part-is = p ∙ ap (λ n. drop n s) start-is in
    record { field-is = field-is; start-is = start-is; part-is = part-is; extent-is = x ∙ ap (extent 1023) part-is }

-- a whole path has a first byte, and its segments are read to its end
module _ {s : List ℕ} {i field start n : ℕ} {part : List ℕ} {e : Extent} (r : Read s i field start part e) (here : e ≡ Whole n) where
  told : extent 1023 (path_part s i) ≡ Whole n
  told = sym r.extent-is ∙ here

  whole : is_whole (extent 1023 (path_part s i)) ≡ true
  whole = whole-is-whole 1023 _ _ told

  has-first : 1 ≤ length part
  has-first = omega (arith, whole-string 1023 _ whole, ap length r.part-is)

  segments-are : {v : Bool} → v ≡ valid_segments (take 1023 (string part)) → v ≡ valid_segments (path_of s i)
  segments-are q = q ∙ ap valid_segments (whole-within 1023 r.part-is whole)

  part-kept : ◌≡◌ {A = PathPart} (record { start = start; length = n }) (part_of s i)
  part-kept = rw (r.start-is, whole_length 1023 _ _ told)

-- where it is not whole
module _ {s : List ℕ} {i field start : ℕ} {part : List ℕ} {e : Extent} (r : Read s i field start part e) (broken : is_whole e ≡ false) where
  not-whole : {f : Fault} → f ≡ string_fault e 6 field → Err f ≡ outcome (path_fault s i) (part_of s i)
  not-whole q =
      let same = ap is_whole (sym r.extent-is) ∙ broken in
      rw (q, r.extent-is, r.field-is) (breaks _ (path-not-whole s i same) (string-broken _ _ _ same))

pub u32_at-start-requires : goal.u32_at-start-requires
u32_at-start-requires c =
    let field-is = c.path_field-field.ensures ∙ ap (λ t. path_field_of t c.args.i) c.requires.tables_of.tables in
    omega (arith, valid-header c.requires.tables_of, field-is, c.requires.i_bound)

pub returns-in_err-length : goal.returns-in_err-length
returns-in_err-length c =
    let r = read-is _ c.args.i c.requires.tables_of c.path_field-field.ensures c.u32_at-start.ensures c.from-part.ensures c.read_path-read.ensures.extent in
    let p = err_from_is_err_and c.from_residual.result c.from_residual.ensures.1 in
    rw (p.1, p.2) (not-whole r c.in_err-length.ensures.0 c.in_err-length.ensures.1)

pub bounds-part-0 : goal.bounds-part-0
bounds-part-0 c =
    let r = read-is _ c.args.i c.requires.tables_of c.path_field-field.ensures c.u32_at-start.ensures c.from-part.ensures c.read_path-read.ensures.extent in
    has-first r c.in_ok-length.ensures

pub returns-then-part-eq47 : goal.returns-then-part-eq47
returns-then-part-eq47 c =
    let r = read-is _ c.args.i c.requires.tables_of c.path_field-field.ensures c.u32_at-start.ensures c.from-part.ensures c.read_path-read.ensures.extent in
    let slash = rw r.part-is at c.if-part-eq47.true in
    rw r.field-is (breaks _ (path-absolute _ _ (whole r c.in_ok-length.ensures) slash) (λ z. omega arith))

pub returns-then-not-read : goal.returns-then-not-read
returns-then-not-read c =
    let r = read-is _ c.args.i c.requires.tables_of c.path_field-field.ensures c.u32_at-start.ensures c.from-part.ensures c.read_path-read.ensures.extent in
    let no_slash = rw r.part-is at c.if-part-eq47.false in
    let wrong = sym (segments-are r c.in_ok-length.ensures c.read_path-read.ensures.segments) ∙ not-true _ c.if-not-read.true in
    rw r.field-is (breaks _ (path-segments _ _ (whole r c.in_ok-length.ensures) no_slash wrong) (λ z. omega arith))

pub returns : goal.returns
returns c =
    let r = read-is _ c.args.i c.requires.tables_of c.path_field-field.ensures c.u32_at-start.ensures c.from-part.ensures c.read_path-read.ensures.extent in
    let no_slash = rw r.part-is at c.if-part-eq47.false in
    let all_valid = sym (segments-are r c.in_ok-length.ensures c.read_path-read.ensures.segments) ∙ not-false _ c.if-not-read.false in
    rw (part-kept r c.in_ok-length.ensures) (keeps _ (path-kept _ _ (whole r c.in_ok-length.ensures) no_slash all_valid))
