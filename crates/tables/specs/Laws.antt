-- What the tables of a cache tell: their counts and fields are those of the definitions, and a path
-- that keeps the rules lies inside.
use Rattle.std.specs.Prelude.{ℕ, ◌+◌, ◌≤◌, ◌<◌, ◌≡◌, List, ◌++◌, length, take, drop, Ok}
use Rattle.std.proofs.Common.{ap, ◌∙◌, arith}
use Rattle.format.specs.Number.{be}
use Rattle.format.specs.Bytes.{bytes}
use Rattle.format.specs.Fault.{outcome}
use Rattle.format.specs.Header.{buckets, bucket_field, directories, path_field, path_part, path_of, path_fault}
use Rattle.format.proofs.Laws.Faults.{or_else-none}
use Rattle.format.proofs.Laws.Outcomes.{kept-by}
use Rattle.format.proofs.Laws.Extents.{string-whole}
use Rattle.format.proofs.Laws.Strings.{whole-string, string-front}
use Rattle.format.proofs.Laws.Texts.{whole-inside}
use Rattle.format.proofs.Laws.Header.{ValidHeader, header-valid}
use Rattle.tables.specs.Tables.{TablesOf, bucket_field_of, part_of}
use Rattle.tables.specs.declared.Tables.{Tables}
use Rattle.tables.specs.declared.PathPart.{PathPart}

module _ {s : List ℕ} {t : Tables} (r : TablesOf s t) where
  pub valid-header : ValidHeader s
  valid-header = header-valid s r.header

  pub same-buckets : t.buckets ≡ buckets s
  same-buckets = ap (λ (t : Tables). t.buckets) r.tables

  pub same-directories : t.directories ≡ directories s
  same-directories = ap (λ (t : Tables). t.directories) r.tables

  pub same-field : (k : ℕ) → bucket_field_of t k ≡ bucket_field s k
  same-field k = ap (λ (t : Tables). bucket_field_of t k) r.tables

  pub field-inside : (k : ℕ) → k < buckets s → bucket_field s k + 4 ≤ length s
  field-inside k l = omega (arith, valid-header)

-- the path of directory i keeps the rules, lies inside and is short
pub record PathInside (s : List ℕ) (i : ℕ) : Type 0 where
  pub kept : (path_fault s i).number ≡ 0
  pub inside : be 4 s (path_field s i) + length (path_of s i) ≤ length s
  pub short : length (path_of s i) ≤ 1023

pub path_inside : (s : List ℕ) (i : ℕ) → (path_fault s i).number ≡ 0 → PathInside s i
unfolding path_fault
path_inside s i e =
    let whole = string-whole _ _ _ (or_else-none _ _ e).0 in
    record { kept = e; inside = whole-inside 1023 s (be 4 s (path_field s i)) whole; short = (whole-string 1023 (path_part s i) whole).within }

-- what is read of one that keeps the rules
module _ {s : List ℕ} {i : ℕ} {p : PathPart} (read : Ok p ≡ outcome (path_fault s i) (part_of s i)) (h : PathInside s i) where
  path-part : p ≡ part_of s i
  path-part = (kept-by (path_fault s i) (part_of s i) p read).1

  pub path-start : p.start ≡ be 4 s (path_field s i)
  path-start = ap (λ (p : PathPart). p.start) path-part

  pub path-size : p.length ≡ length (path_of s i)
  path-size = ap (λ (p : PathPart). p.length) path-part

  pub path-text : take p.length (drop p.start s) ≡ path_of s i
  path-text = rw (path-size, path-start) (string-front (path_part s i))

  -- and its bytes behind their count
  pub path-is : bytes 2 p.length ++ take p.length (drop p.start s) ≡ bytes 2 (length (path_of s i)) ++ path_of s i
  path-is = ap (λ n. bytes 2 n ++ take p.length (drop p.start s)) path-size ∙ ap (λ t. bytes 2 (length (path_of s i)) ++ t) path-text
