-- What a step from a position answers, the next record in the check's order: document 02,
-- request 2.
use Rattle.std.specs.Prelude.{ℕ, zero, suc, ◌-◌, List, Bool, ◌&&◌, ltb, leb, Result, Ok, Err}
use Rattle.format.specs.Fault.{unless, ◌or_else◌, if_kept}
use Rattle.format.specs.Header.{header_fault, buckets}
use Rattle.format.specs.Chain.{chain_of, most_records}
use Rattle.format.specs.declared.Fault.{Fault}
use Rattle.format.specs.declared.Next.TheVariants.{End, Broken, Record}
use Rattle.format.specs.declared.Reading.TheVariants.{Short}
use Rattle.listing.specs.declared.Position.{Position}
use Rattle.listing.specs.declared.Step.{Step}

abbrev pub position : ℕ → ℕ → Position
position k c = record { bucket = k; count = c }

-- before the first record
abbrev pub start : Position
start = position 0 0

-- What a step answers: with number 0 the next record and the position after it; with any other the
-- record is 0 and the position is as it came.
pub record StepAnswer : Type 0 where
  pub number : ℕ
  pub place : ℕ
  pub «record» : ℕ
  pub next : Position

-- the answer, whole; with a record, and without one
abbrev pub step_is : ℕ → ℕ → ℕ → Position → StepAnswer
step_is n p r q = record { number = n; place = p; «record» = r; next = q }

abbrev pub hands_back : ℕ → Position → StepAnswer
hands_back r q = step_is 0 0 r q

abbrev pub stays : ℕ → ℕ → Position → StepAnswer
stays x p q = step_is x p 0 q

-- the position names a bucket, and its count does not pass L - 11
abbrev pub valid_position : List ℕ → Position → Bool
valid_position s q = ltb q.bucket (buckets s) && leb q.count (most_records s)

-- what is judged of a position: 1 to 5, then 26
unfoldable pub position_fault : List ℕ → Position → Fault
position_fault s q = header_fault s or_else unless (valid_position s q) 26 0

-- the answer from the chains of n buckets from bucket k on, past c records of the first; q is the
-- position handed in
unfoldable pub onward : ℕ → List ℕ → Position → ℕ → ℕ → StepAnswer
onward zero s q k c = stays 28 0 q
onward (suc n) s q k c =
    elim (chain_of Short s k c).after [
      | End ↦ onward n s q (suc k) 0
      | Broken x p ↦ stays x p q
      | Record r ↦ hands_back r (position k (suc c))
    ]

-- a step: 1 to 5, then 26, then the next record, with those passed before it on its chain judged
unfoldable pub step : List ℕ → Position → StepAnswer
step s q =
    let v = position_fault s q in
    if_kept v (onward (buckets s - q.bucket) s q q.bucket q.count) (stays v.number v.place q)

-- the step as code hands it on, to a record and the position after it
abbrev pub step_to : ℕ → Position → Step
step_to r q = record { «record» = r; next = q }

-- the answer that a call's result is, from the position q
abbrev pub step_answer : Position → Result Step Fault → StepAnswer
step_answer q (Ok a) = step_is 0 0 a.«record» a.next
step_answer q (Err v) = step_is v.number v.place 0 q
