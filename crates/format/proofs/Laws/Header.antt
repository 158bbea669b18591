-- What a header that breaks none of the rules 1 to 5 tells, and that such a one breaks none; and
-- which numbers a header can be refused with.
use Rattle.std.specs.Prelude.{ℕ, ◌+◌, ◌*◌, ◌≤◌, ◌<◌, ◌≡◌, List, true, length}
use Rattle.std.proofs.Common.{◌∙◌, ltb-true, leb-true, lt-ltb, le-leb}
use Rattle.std.proofs.Math.Bool.{and-eq-true_iff}
use Rattle.format.specs.Fault.{no_fault}
use Rattle.format.specs.Header.{valid_version, valid_directories, valid_buckets, header_fault, buckets_at, buckets, directories_at, directories}
use Rattle.format.proofs.Laws.Faults.{or_else-none, unless-none, unless-kept, kept-passes, also}
use Rattle.format.proofs.Laws.Numbers.{OneOf, header_numbers, unless-one, or_else-one}
use Rattle.format.proofs.Laws.Reads.{list-ends, list_inside_lem}

-- where the tables end, and how many entries they have
pub record ValidHeader (s : List ℕ) : Type 0 where
  pub header-inside : 12 ≤ length s
  pub not-too-long : length s ≤ 16777216
  pub directories-end : directories_at s + 4 + 4 * directories s ≤ length s
  pub directories-few : directories s ≤ 65535
  pub buckets-end : buckets_at s + 4 + 4 * buckets s ≤ length s
  pub buckets-some : 0 < buckets s

pub header-valid : (s : List ℕ) → (header_fault s).number ≡ 0 → ValidHeader s
unfolding header_fault
header-valid s h =
    let after1 = or_else-none _ _ h in
    let after2 = or_else-none _ _ after1.1 in
    let after3 = or_else-none _ _ after2.1 in
    let after4 = or_else-none _ _ after3.1 in
    let list = (and-eq-true_iff _ _).0 (unless-none _ _ _ after4.0) in
    let hash = (and-eq-true_iff _ _).0 (unless-none _ _ _ after4.1) in
    record {
      header-inside = leb-true _ _ (unless-none _ _ _ after1.0);
      not-too-long = leb-true _ _ (unless-none _ _ _ after2.0);
      directories-end = list-ends _ _ _ list.0;
      directories-few = leb-true _ _ list.1;
      buckets-end = list-ends _ _ _ hash.0;
      buckets-some = ltb-true _ _ hash.1;
    }

pub header-kept : (s : List ℕ) → valid_version s ≡ true → ValidHeader s → header_fault s ≡ no_fault
unfolding header_fault
header-kept s version h =
    let list : valid_directories s ≡ true = also (list_inside_lem s _ _ h.directories-end) (le-leb _ _ h.directories-few) in
    let table : valid_buckets s ≡ true = also (list_inside_lem s _ _ h.buckets-end) (lt-ltb _ _ h.buckets-some) in
    kept-passes _ 1 0 _ (le-leb _ _ h.header-inside)
    ∙ kept-passes _ 2 0 _ (le-leb _ _ h.not-too-long)
    ∙ kept-passes _ 3 0 _ version
    ∙ kept-passes _ 4 8 _ list
    ∙ unless-kept _ 5 4 table

pub header-number : (s : List ℕ) → OneOf header_numbers (header_fault s).number
unfolding header_fault
header-number s = search (or_else-one, unless-one) depth 8
