-- What lies ahead of a position: one of three ways, and one is always at hand. Each gives the
-- step's answer, and so which numbers it can have.
use Rattle.std.specs.Prelude.{ℕ, zero, suc, ◌-◌, ◌≤◌, ◌<◌, ◌≡◌, refl, List, ◌∷◌, ◌++◌}
use Rattle.std.proofs.Common.{◌∙◌}
use native.Mathlib.Omega.{arith}
use Rattle.format.specs.Header.{buckets}
use Rattle.format.specs.Words.{link, Holds, Breaks}
use Rattle.format.proofs.Laws.Numbers.{OneOf, header_numbers, link_numbers, unless-one, or_else-one, widened}
use Rattle.format.proofs.Laws.Header.{header-number}
use Rattle.format.proofs.Laws.Links.{broken-number}
use Rattle.format.proofs.Laws.Along.{after_is, holds-chain, breaks-chain, keeps-chain}
use Rattle.format.proofs.Laws.Course.{Course, ends, breaks, goes_on, course}
use Rattle.format.specs.declared.Reading.TheVariants.{Short}
use Rattle.listing.specs.Listing.{position, hands_back, stays, valid_position, position_fault, onward, step}
use Rattle.listing.specs.Paging.{GoesOn, here, on, HasRecord, StepAnswers}
use Rattle.listing.proofs.Laws.Steps.{onward-ends, onward-breaks, onward-gives, position-tells, step-refuses, step-goes}
use Rattle.listing.specs.declared.Position.{Position}

pub data Ahead (s : List ℕ) (q : Position) : Type 0 where
  record-ahead : {r : Position} → GoesOn s q r → HasRecord s r → Ahead s q
  break-ahead : {r : Position} {n x p : ℕ} → GoesOn s q r → r.bucket < buckets s → n ≤ r.count → Breaks Short s r.bucket n x p → Ahead s q
  nothing-ahead : {r : Position} → GoesOn s q r → r.bucket ≡ buckets s → Ahead s q

module _ {s : List ℕ} where
  pub goes-up : {q r : Position} → GoesOn s q r → q.bucket ≤ r.bucket
  goes-up here = omega arith
  goes-up (on h l g) = omega (arith, goes-up g)

  onward-goes : (p : Position) {q r : Position} → GoesOn s q r → r.bucket ≤ buckets s
      → onward (buckets s - q.bucket) s p q.bucket q.count ≡ onward (buckets s - r.bucket) s p r.bucket r.count
  onward-goes p here l = refl
  onward-goes p {q} {r} (on {n = n} h c g) l =
      let more : buckets s - q.bucket ≡ suc (buckets s - suc q.bucket) = omega (arith, goes-up g) in
      rw more (onward-ends s p (buckets s - suc q.bucket) q.bucket q.count (after_is (holds-chain Short s q.bucket c h))) ∙ onward-goes p g l

  -- the answer where the step goes on to a bucket r
  module _ {q r : Position} (valid : (position_fault s q).number ≡ 0) (g : GoesOn s q r) where
    step-on : r.bucket ≤ buckets s → step s q ≡ onward (buckets s - r.bucket) s q r.bucket r.count
    step-on l = step-goes s q valid ∙ onward-goes q g l

    step-to : r.bucket < buckets s → step s q ≡ onward (suc (buckets s - suc r.bucket)) s q r.bucket r.count
    step-to l =
        let more : buckets s - r.bucket ≡ suc (buckets s - suc r.bucket) = omega arith in
        step-on (omega arith) ∙ rw more

    gives : HasRecord s r → step s q ≡ hands_back (link s r.bucket r.count) (position r.bucket (suc r.count))
    gives h = step-to h.0 ∙ onward-gives s q (buckets s - suc r.bucket) r.bucket r.count (after_is (keeps-chain Short s r.bucket h.1))

    refuses-record : {n x p : ℕ} → r.bucket < buckets s → n ≤ r.count → Breaks Short s r.bucket n x p → step s q ≡ stays x p q
    refuses-record l c b = step-to l ∙ onward-breaks s q (buckets s - suc r.bucket) r.bucket r.count (after_is (breaks-chain Short s r.bucket c b))

    done : r.bucket ≡ buckets s → step s q ≡ stays 28 0 q
    unfolding onward
    done e =
        let none : buckets s - r.bucket ≡ 0 = omega arith in
        step-on (omega arith) ∙ rw none

pub step-answers : (s : List ℕ) (q : Position) → StepAnswers s q
step-answers s q = record {
  refuses-position = λ x p e. step-refuses s q e (λ z. omega arith);
  goes = λ valid. record { gives = gives valid; refuses-record = λ g l c b. refuses-record valid g l c b; done = done valid };
}

module _ {s : List ℕ} {q : Position} where
  -- past a chain that has no more
  ahead-on : {n : ℕ} → Holds Short s q.bucket n → n ≤ q.count → Ahead s (position (suc q.bucket) 0) → Ahead s q
  ahead-on h c (record-ahead g t) = record-ahead (on h c g) t
  ahead-on h c (break-ahead g t d b) = break-ahead (on h c g) t d b
  ahead-on h c (nothing-ahead g t) = nothing-ahead (on h c g) t

  ahead-here : q.bucket < buckets s → Course Short s q.bucket q.count → Ahead s (position (suc q.bucket) 0) → Ahead s q
  ahead-here l (ends c h) later = ahead-on h c later
  ahead-here l (breaks c b) later = break-ahead here l c b
  ahead-here l (goes_on keeps) later = record-ahead here (l, keeps)

-- with m buckets left
ahead_of : (s : List ℕ) (m : ℕ) (q : Position) → m ≡ buckets s - q.bucket → q.bucket ≤ buckets s → Ahead s q
ahead_of s zero q e l = nothing-ahead here (omega arith)
ahead_of s (suc m) q e l =
    ahead-here (omega arith) (course Short s q.bucket q.count) (ahead_of s m (position (suc q.bucket) 0) (omega arith) (omega arith))

pub ahead : (s : List ℕ) (q : Position) → q.bucket ≤ buckets s → Ahead s q
ahead s q l = ahead_of s (buckets s - q.bucket) q refl l

-- a step's numbers; so it never answers 6 or 16
abbrev pub step_numbers : List ℕ
step_numbers = 26 ∷ 28 ∷ header_numbers ++ link_numbers Short

position-number : (s : List ℕ) (q : Position) → OneOf step_numbers (position_fault s q).number
unfolding position_fault
position-number s q = or_else-one _ _ (widened refl (header-number s)) (unless-one (valid_position s q) 26 0 refl)

pub step-answer-number : (s : List ℕ) (q : Position) → OneOf step_numbers (step s q).number
step-answer-number s q = go (position_fault s q).number refl
  where
    onward-number : (position_fault s q).number ≡ 0 → Ahead s q → OneOf step_numbers (step s q).number
    onward-number valid (record-ahead g h) = rw (gives valid g h) (record { one = refl })
    onward-number valid (break-ahead {n = n} g l c b) = rw (refuses-record valid g {n = n} l c b) (widened refl (broken-number b))
    onward-number valid (nothing-ahead g e) = rw (done valid g e) (record { one = refl })

    go : (n : ℕ) → (position_fault s q).number ≡ n → OneOf step_numbers (step s q).number
    go zero e = onward-number e (ahead s q (omega (arith, position-tells s q e)))
    go (suc n) e = rw (step-refuses s q refl (λ z. omega arith)) (position-number s q)
