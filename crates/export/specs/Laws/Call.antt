-- The reader's answer, and the lent bytes after it, by what is refused first.
use Rattle.std.specs.Prelude.{ℕ, ◌≤◌, ◌<◌, ◌≡◌, length, leb, Result, Ok, Err, IfErr}
use Rattle.std.proofs.Math.Path.{sym, ap}
use Rattle.std.proofs.Common.{◌∙◌, zero-add, arith, le-leb}
use mathlib.Core.List.{List, [], ◌++◌}
use Rattle.std.proofs.lemmas.Bool.{lt-leb}
use Rattle.std.proofs.Math.ListN.{drop}
use Rattle.format.specs.Fault.{fault, unless, verdict}
use Rattle.format.specs.Bytes.{put}
use Rattle.format.specs.Chain.{all_records}
use Rattle.format.specs.Call.{check}
use Rattle.format.specs.declared.Fault.{Fault}
use Rattle.format.specs.declared.CheckAnswer.{CheckAnswer}
use Rattle.format.proofs.Laws.Demand.{demand3}
use Rattle.format.proofs.Laws.Outcomes.{broken-by}
use Rattle.format.proofs.Laws.Faults.{or_else-first, or_else-next, kept-passes, broken-speaks, unless-kept, unless-broken}
use Rattle.format.specs.declared.Reading.TheVariants.{Short}
use Rattle.tables.specs.declared.Tables.{Tables}
use Rattle.catalogue.specs.Repeats.{repeat_fault}
use Rattle.catalogue.specs.Listed.{record_uses}
use Rattle.catalogue.specs.Call.{write_is, write_answer, answer_to, left_by, listed_bytes, listing_fault, catalogue_of, catalogue_leaves}
use Rattle.catalogue.proofs.Laws.Call.{answered, leaves-written, refused}
use Rattle.tables.specs.Tables.{Sound}

-- the answer and the bytes after it are the reader's, and a refusal has a number
pub record Told (s lent : List ℕ) (r : Result ℕ Fault) (after : List ℕ) : Type 0 where
  pub answer : write_answer r ≡ catalogue_of s (length lent)
  pub refused : IfErr r (λ v. 0 < v.number)
  pub leaves : after ≡ catalogue_leaves s lent

pub sound-checked : {s : List ℕ} {t : Tables} → Sound s t → (check Short s).number ≡ 0
sound-checked {s} h = (demand3 Short s).checks.accepted.1 h.accepted

module _ (s lent : List ℕ) where
  refuses : {v : Fault} → listing_fault s (length lent) ≡ v → (v.number ≡ 0 → ⊥) → Told s lent (Err v) lent
  unfolding catalogue_of catalogue_leaves
  refuses {v} e some =
      let nothing = refused v (listed_bytes s) lent (length (listed_bytes s)) some in
      record {
        answer = sym (ap (λ w. answer_to w (length (listed_bytes s))) e ∙ (λ j. write_is v.number v.place (nothing.0 j)));
        refused = omega (arith, some);
        leaves = sym (ap (λ w. left_by w (listed_bytes s) lent) e ∙ nothing.1);
      }

  pub check-refuses : {a : CheckAnswer} → a ≡ check Short s → (a.number ≡ 0 → ⊥) → Told s lent (Err (fault a.number a.place)) lent
  unfolding listing_fault
  check-refuses e some =
      let broken : (check Short s).number ≡ 0 → ⊥ = λ z. some (ap (λ (a : CheckAnswer). a.number) e ∙ z) in
      rw e (refuses (or_else-first _ _ broken) broken)

  module _ (kept : (check Short s).number ≡ 0) where
    pub name-refuses : {v : Fault} → Err v ≡ verdict (repeat_fault [] (record_uses s)) → Told s lent (Err v) lent
    unfolding listing_fault
    name-refuses {v} told =
        let (repeated, e) = broken-by (repeat_fault [] (record_uses s)) tt v told in
        rw e (refuses (or_else-next _ _ kept ∙ or_else-first _ _ repeated) repeated)

    module _ (apart : (repeat_fault [] (record_uses s)).number ≡ 0) where
      pub many-refused : 65535 < length (all_records Short s) → Told s lent (Err (fault 21 0)) lent
      unfolding listing_fault
      many-refused l =
          refuses (or_else-next _ _ kept ∙ or_else-next _ _ apart ∙ broken-speaks _ 20 0 _ (lt-leb _ _ l)) (λ z. omega arith)

      module _ (few : length (all_records Short s) ≤ 65535) where
        size-decides : listing_fault s (length lent) ≡ unless (leb (length (listed_bytes s)) (length lent)) 19 0
        unfolding listing_fault
        size-decides = or_else-next _ _ kept ∙ or_else-next _ _ apart ∙ kept-passes _ 21 0 _ (le-leb _ _ few)

        pub short-refused : length lent < length (listed_bytes s) → Told s lent (Err (fault 19 0)) lent
        short-refused l = refuses (size-decides ∙ unless-broken _ 19 0 (lt-leb _ _ l)) (λ z. omega arith)

        pub listed-whole : length (listed_bytes s) ≤ length lent → {l : ℕ} {after : List ℕ} → l ≡ length (listed_bytes s) → after ≡ put lent 0 (listed_bytes s)
            → Told s lent (Ok l) after
        unfolding catalogue_of catalogue_leaves put
        listed-whole fits size this =
            let none = size-decides ∙ unless-kept _ 19 0 (le-leb _ _ fits) in
            record {
              answer = (λ j. write_is 0 0 (size j)) ∙ sym (answered none);
              refused = tt;
              leaves = this ∙ ap (λ n. listed_bytes s ++ drop n lent) (zero-add (length (listed_bytes s))) ∙ sym (leaves-written (listed_bytes s) lent none);
            }
