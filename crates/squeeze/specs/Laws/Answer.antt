-- The answer of squeeze, and the lent bytes after it, by what is refused first.
use Rattle.std.specs.Prelude.{ℕ, ◌≤◌, ◌<◌, ◌≡◌, List, ◌++◌, length, drop, leb, Result, Ok, Err, IfErr}
use Rattle.std.proofs.Math.Path.{sym}
use Rattle.std.proofs.Common.{ap, ◌∙◌, arith}
use Rattle.std.proofs.Math.Bool.{and-eq-true_iff}
use borrow.Author.Tests.{le-leb, lt-leb}
use Rattle.format.specs.Chain.{all_records}
use Rattle.format.specs.Call.{check}
use Rattle.format.specs.Fault.{fault, unless}
use Rattle.format.specs.Header.{buckets}
use Rattle.format.specs.declared.Fault.{Fault}
use Rattle.format.specs.declared.CheckAnswer.{CheckAnswer}
use Rattle.format.specs.declared.Reading.TheVariants.{Short}
use Rattle.format.proofs.Laws.Demand.{demand3}
use Rattle.format.proofs.Laws.Faults.{same_number, or_else-first, or_else-next, kept-passes, broken-speaks, unless-kept, unless-broken}
use Rattle.tables.specs.Laws.{same-buckets, same-directories}
use Rattle.tables.specs.declared.Tables.{Tables}
use Rattle.catalogue.specs.Call.{write_is, write_answer, answer_to, left_by, allowed_size}
use Rattle.catalogue.proofs.Laws.Call.{answered, leaves-written, refused}
use Rattle.tables.specs.Tables.{Sound}
use Rattle.squeeze_spec.specs.Squeezed.{squeezed}
use Rattle.squeeze_spec.specs.Call.{data_fault, squeezed_size, squeeze_fault, squeeze, squeeze_leaves}
use Rattle.squeeze_spec.proofs.Laws.Contents.{path-count}
use Rattle.squeeze.specs.Sizes.{SizesOf, size_of}
use Rattle.squeeze.specs.declared.Sizes.{Sizes}

-- the answer and the bytes after it are those of squeeze, and a refusal has a number
pub record Told (s lent : List ℕ) (r : Result ℕ Fault) (after : List ℕ) : Type 0 where
  pub answer : write_answer r ≡ squeeze s (length lent)
  pub refused : IfErr r (λ v. 0 < v.number)
  pub leaves : after ≡ squeeze_leaves s lent

-- how many bytes there are, by what is measured
pub size-measured : {s : List ℕ} {t : Tables} {x : Sizes} → Sound s t → SizesOf s x → size_of t x ≡ squeezed_size s
size-measured {s} h x = omega (arith, same-buckets h.tables, same-directories h.tables, x.icons, x.lists, x.strings, path-count s)

pub sound-checked : {s : List ℕ} {t : Tables} → Sound s t → (check Short s).number ≡ 0
sound-checked {s} h = (demand3 Short s).checks.accepted.1 h.accepted

module _ (s lent : List ℕ) where
  refuses : {v : Fault} → squeeze_fault s (length lent) ≡ v → (v.number ≡ 0 → ⊥) → Told s lent (Err v) lent
  unfolding squeeze squeeze_leaves
  refuses {v} e some =
      let nothing = refused v (squeezed s) lent (squeezed_size s) some in
      record {
        answer = sym (ap (λ w. answer_to w (squeezed_size s)) e ∙ (λ j. write_is v.number v.place (nothing.0 j)));
        refused = omega (arith, some);
        leaves = sym (ap (λ w. left_by w (squeezed s) lent) e ∙ nothing.1);
      }

  pub check-refuses : {a : CheckAnswer} → a ≡ check Short s → (a.number ≡ 0 → ⊥) → Told s lent (Err (fault a.number a.place)) lent
  unfolding squeeze_fault
  check-refuses e some =
      let broken : (check Short s).number ≡ 0 → ⊥ = λ z. some (ap (λ (a : CheckAnswer). a.number) e ∙ z) in
      rw e (refuses (or_else-first _ _ broken) broken)

  module _ (kept : (check Short s).number ≡ 0) where
    pub buckets-refused : 4096 < buckets s → Told s lent (Err (fault 25 4)) lent
    unfolding squeeze_fault
    buckets-refused l = refuses (or_else-next _ _ kept ∙ broken-speaks _ 24 4 _ (lt-leb _ _ l)) (λ z. omega arith)

    module _ (few : buckets s ≤ 4096) where
      pub data-refused : {v : Fault} → v ≡ data_fault s (all_records Short s) → (v.number ≡ 0 → ⊥) → Told s lent (Err v) lent
      unfolding squeeze_fault
      data-refused e some =
          let broken : (data_fault s (all_records Short s)).number ≡ 0 → ⊥ = λ z. some (same_number e ∙ z) in
          rw e (refuses (or_else-next _ _ kept ∙ kept-passes _ 25 4 _ (le-leb _ _ few) ∙ or_else-first _ _ broken) broken)

      module _ (plain : (data_fault s (all_records Short s)).number ≡ 0) where
        size-decides : squeeze_fault s (length lent) ≡ unless (allowed_size (squeezed_size s) (length lent)) 19 0
        unfolding squeeze_fault
        size-decides = or_else-next _ _ kept ∙ kept-passes _ 25 4 _ (le-leb _ _ few) ∙ or_else-next _ _ plain

        pub short-refused : length lent < squeezed_size s → Told s lent (Err (fault 19 0)) lent
        short-refused l = refuses (size-decides ∙ unless-broken (allowed_size (squeezed_size s) (length lent)) 19 0 (rw (lt-leb _ _ l))) (λ z. omega arith)

        pub long-refused : squeezed_size s ≤ length lent → 16777216 < squeezed_size s → Told s lent (Err (fault 19 0)) lent
        long-refused g l = refuses (size-decides ∙ unless-broken (allowed_size (squeezed_size s) (length lent)) 19 0 (rw (le-leb _ _ g, lt-leb _ _ l))) (λ z. omega arith)

        pub squeezed-told : squeezed_size s ≤ length lent → squeezed_size s ≤ 16777216 → {l : ℕ} {after : List ℕ} → l ≡ squeezed_size s
            → after ≡ squeezed s ++ drop (length (squeezed s)) lent → Told s lent (Ok l) after
        unfolding squeeze squeeze_leaves
        squeezed-told fits short size this =
            let none = size-decides ∙ unless-kept _ 19 0 ((and-eq-true_iff (leb (squeezed_size s) (length lent)) _).1 (le-leb _ _ fits, le-leb _ _ short)) in
            record { answer = (λ j. write_is 0 0 (size j)) ∙ sym (answered none); refused = tt; leaves = this ∙ sym (leaves-written (squeezed s) lent none) }
