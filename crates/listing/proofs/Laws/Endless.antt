-- A step tells of a chain whether it never ends: only then is there a record after the largest
-- count that a position may have.
use Rattle.std.specs.Prelude.{ℕ, suc, ◌<◌, ◌≡◌, List, ◌↔◌}
use Rattle.std.proofs.Common.{sym, ap, ◌∙◌, le_refl, arith}
use Rattle.format.specs.Header.{header_fault, buckets}
use Rattle.format.specs.Chain.{most_records}
use Rattle.format.specs.Words.{KeepsBelow, Turns}
use Rattle.format.proofs.Laws.Faults.{same_number}
use Rattle.format.proofs.Laws.Links.{round}
use Rattle.format.proofs.Laws.Apart.{apart_none, repeats}
use Rattle.format.proofs.Laws.Verdict.{turns, turns-keep}
use Rattle.format.specs.declared.Reading.TheVariants.{Short}
use Rattle.listing.specs.Paging.{GoesOn, here, on, HasRecord, RecordAnswers, largest, AtTheLargestCount}
use Rattle.listing.proofs.Laws.Steps.{position-valid, step-number, step-next}
use Rattle.listing.proofs.Laws.Ahead.{Ahead, record-ahead, break-ahead, nothing-ahead, ahead, goes-up, step-answers}
use Rattle.listing.specs.declared.Position.{Position}

module _ (s : List ℕ) (header : (header_fault s).number ≡ 0) (k : ℕ) (l : k < buckets s) where
  answers : RecordAnswers s (largest s k)
  answers = (step-answers s (largest s k)).goes (same_number (position-valid s (largest s k) header l (le_refl (most_records s))))

  -- as many records that keep the rules as there cannot be
  turns-on : KeepsBelow Short s k (suc (most_records s)) → Turns Short s k
  turns-on keeps = turns (round (repeats (apart_none s k) (omega arith) keeps) keeps)

  own : {r : Position} → GoesOn s (largest s k) r → HasRecord s r → r.bucket ≡ k → Turns Short s k
  own here a e = turns-on a.1
  own (on h c g) a e = absurd (omega (arith, goes-up g))

  tells : Ahead s (largest s k) → AtTheLargestCount s k → Turns Short s k
  tells (record-ahead g a) t = own g a (sym (ap (λ (p : Position). p.bucket) (step-next (answers.gives g a))) ∙ t.1)
  tells (break-ahead g i c b) t = absurd (omega (arith, b.some, step-number (answers.refuses-record g i c b), t.0))
  tells (nothing-ahead g e) t = absurd (omega (arith, step-number (answers.done g e), t.0))

  pub endless : AtTheLargestCount s k ↔ Turns Short s k
  endless = (
    tells (ahead s (largest s k) (omega arith)),
    λ t.
        let e = answers.gives here (l, λ m i. turns-keep t m) in
        (step-number e, ap (λ (p : Position). p.bucket) (step-next e)),
  )
