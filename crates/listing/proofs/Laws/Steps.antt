-- A step, one law for each way it can go.
use Rattle.std.specs.Prelude.{ℕ, suc, ◌-◌, ◌≤◌, ◌<◌, ◌≡◌, List}
use Rattle.std.proofs.Common.{ap, ◌∙◌}
use Rattle.std.proofs.Math.Bool.{and-eq-true_iff}
use borrow.Author.Tests.{lt-ltb, le-ltb, le-leb, lt-leb, ltb-true, leb-true}
use Rattle.format.specs.Fault.{fault, no_fault}
use Rattle.format.specs.Header.{header_fault, buckets}
use Rattle.format.specs.Chain.{chain_of, most_records}
use Rattle.format.specs.declared.Fault.{Fault}
use Rattle.format.specs.declared.Next.TheVariants.{End, Broken, Record}
use Rattle.format.proofs.Laws.Faults.{or_else-first, or_else-next, or_else-none, unless-none, kept-takes, broken-takes}
use Rattle.format.specs.declared.Reading.TheVariants.{Short}
use Rattle.listing.specs.Listing.{StepAnswer, position, hands_back, stays, position_fault, onward, step}
use Rattle.listing.specs.declared.Position.{Position}

pub step-number : {a b : StepAnswer} → a ≡ b → a.number ≡ b.number
step-number e = ap (λ (a : StepAnswer). a.number) e

pub step-next : {a b : StepAnswer} → a ≡ b → a.next ≡ b.next
step-next e = ap (λ (a : StepAnswer). a.next) e

-- one bucket, by what comes after the records to be passed on its chain
module _ (s : List ℕ) (q : Position) (n k c : ℕ) where
  pub onward-ends : (chain_of Short s k c).after ≡ End → onward (suc n) s q k c ≡ onward n s q (suc k) 0
  unfolding onward
  onward-ends e = rw (onward, e)

  pub onward-breaks : {x p : ℕ} → (chain_of Short s k c).after ≡ Broken x p → onward (suc n) s q k c ≡ stays x p q
  unfolding onward
  onward-breaks e = rw (onward, e)

  pub onward-gives : {r : ℕ} → (chain_of Short s k c).after ≡ Record r → onward (suc n) s q k c ≡ hands_back r (position k (suc c))
  unfolding onward
  onward-gives e = rw (onward, e)

module _ (s : List ℕ) (q : Position) where
  pub position-header : ((header_fault s).number ≡ 0 → ⊥) → position_fault s q ≡ header_fault s
  unfolding position_fault
  position-header h = or_else-first _ _ h

  -- where the header breaks no rule
  module _ (h : (header_fault s).number ≡ 0) where
    pub position-no-bucket : buckets s ≤ q.bucket → position_fault s q ≡ fault 26 0
    unfolding position_fault
    position-no-bucket l = or_else-next _ _ h ∙ rw (le-ltb q.bucket (buckets s) l)

    pub position-counts-too-far : q.bucket < buckets s → most_records s < q.count → position_fault s q ≡ fault 26 0
    unfolding position_fault
    position-counts-too-far l g = or_else-next _ _ h ∙ rw (lt-ltb q.bucket (buckets s) l, lt-leb q.count (most_records s) g)

    pub position-valid : q.bucket < buckets s → q.count ≤ most_records s → position_fault s q ≡ no_fault
    unfolding position_fault
    position-valid l g = or_else-next _ _ h ∙ rw (lt-ltb q.bucket (buckets s) l, le-leb q.count (most_records s) g)

  -- what a position tells that is valid
  pub position-tells : (position_fault s q).number ≡ 0 → ((header_fault s).number ≡ 0) × (q.bucket < buckets s) × (q.count ≤ most_records s)
  unfolding position_fault
  position-tells e =
      let kept = or_else-none _ _ e in
      let both = (and-eq-true_iff _ _).0 (unless-none _ _ _ kept.1) in
      (kept.0, ltb-true _ _ both.0, leb-true _ _ both.1)

  pub step-refuses : {v : Fault} → position_fault s q ≡ v → (v.number ≡ 0 → ⊥) → step s q ≡ stays v.number v.place q
  unfolding step
  step-refuses {v} e some = rw e (broken-takes v _ _ some)

  pub step-goes : (position_fault s q).number ≡ 0 → step s q ≡ onward (buckets s - q.bucket) s q q.bucket q.count
  unfolding step
  step-goes e = kept-takes (position_fault s q) _ _ e
