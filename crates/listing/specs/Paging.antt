-- What a step answers and what a walk from position to position meets, in the words of demand 3.
use Rattle.std.specs.Prelude.{ℕ, zero, suc, ◌+◌, ◌-◌, ◌≤◌, ◌<◌, ◌≡◌, List, ◌↔◌, length, get_or}
use Rattle.format.specs.Fault.{fault}
use Rattle.format.specs.Header.{header_fault, buckets}
use Rattle.format.specs.Chain.{chain_of, most_records, all_records, opened_on}
use Rattle.format.specs.Call.{check}
use Rattle.format.specs.Words.{link, KeepsBelow, Holds, Breaks, OnChain, Turns, Accepted}
use Rattle.listing.specs.Listing.{StepAnswer, position, start, hands_back, stays, position_fault, step}
use Rattle.format.specs.declared.Next.TheVariants.{End, Broken, Record}
use Rattle.format.specs.declared.Reading.TheVariants.{Short}
use Rattle.listing.specs.declared.Position.{Position}

-- where the chain of a position has no more records, a step goes on at the next bucket
pub data GoesOn (s : List ℕ) : Position → Position → Type 0 where
  here : {q : Position} → GoesOn s q q
  on : {q there : Position} {n : ℕ} → Holds Short s q.bucket n → n ≤ q.count → GoesOn s (position (suc q.bucket) 0) there → GoesOn s q there

-- the chain of a position has a record more than are passed, and all of them keep the rules
abbrev pub HasRecord : List ℕ → Position → Type 0
HasRecord s there = (there.bucket < buckets s) × KeepsBelow Short s there.bucket (suc there.count)

-- The answer from a position that is valid, by where the step goes on to.
pub record RecordAnswers (s : List ℕ) (q : Position) : Type 0 where
  pub gives : {there : Position} → GoesOn s q there → HasRecord s there
      → step s q ≡ hands_back (link s there.bucket there.count) (position there.bucket (suc there.count))
  pub refuses-record : {there : Position} {n x p : ℕ} → GoesOn s q there → there.bucket < buckets s → n ≤ there.count → Breaks Short s there.bucket n x p
      → step s q ≡ stays x p q
  pub done : {there : Position} → GoesOn s q there → there.bucket ≡ buckets s → step s q ≡ stays 28 0 q

-- A step's whole answer in these words: the position is refused, or as the chains from it on are.
-- One of the cases always stands (`ahead`).
pub record StepAnswers (s : List ℕ) (q : Position) : Type 0 where
  pub refuses-position : (x p : ℕ) → position_fault s q ≡ fault (suc x) p → step s q ≡ stays (suc x) p q
  pub goes : (position_fault s q).number ≡ 0 → RecordAnswers s q

-- the position after n steps of the walk from q on, and the answer of the step from there
unfoldable pub reached : ℕ → List ℕ → Position → Position
reached zero s q = q
reached (suc n) s q = reached n s (step s q).next

abbrev pub step_at : ℕ → List ℕ → Position → StepAnswer
step_at n s q = step s (reached n s q)

-- the list holds each record of each chain, and none twice
pub record EachOnce (s xs : List ℕ) : Type 0 where
  pub each : (r : ℕ) → ((n : ℕ) × (n < length xs) × (get_or xs n 0 ≡ r)) ↔ ((k m : ℕ) × (k < buckets s) × OnChain s k m r)
  pub once : (m n : ℕ) → m < length xs → n < length xs → get_or xs m 0 ≡ get_or xs n 0 → m ≡ n

-- the step hands back the record r, and the position of r's own bucket with r counted
abbrev pub HandsBack : List ℕ → StepAnswer → ℕ → Type 0
HandsBack s a r = (k m : ℕ) × (k < buckets s) × OnChain s k m r × (a ≡ hands_back r (position k (suc m)))

-- the n-th step of the walk from the start hands back the n-th record of the list; then it is done
pub record Lists (s xs : List ℕ) : Type 0 where
  pub hands-back : (n : ℕ) → n < length xs → HandsBack s (step_at n s start) (get_or xs n 0)
  pub done : (n : ℕ) → length xs ≤ n → step_at n s start ≡ stays 28 0 (reached n s start)

-- how many records a walk hands back at most: of chains that it leaves behind, and of the one where
-- it stays
abbrev pub most_handed : List ℕ → ℕ
most_handed s = most_records s + (length s - 10)

-- from step m on no step of the walk from q hands back a record; all give the same answer
pub record Ends (s : List ℕ) (q : Position) (m : ℕ) : Type 0 where
  pub no_record : (step_at m s q).number ≡ 0 → ⊥
  pub stays : (n : ℕ) → m ≤ n → step_at n s q ≡ step_at m s q

-- the position with the largest count on bucket k's chain
abbrev pub largest : List ℕ → ℕ → Position
largest s k = position k (most_records s)

-- the step from there hands back a record of bucket k's own chain
abbrev pub AtTheLargestCount : List ℕ → ℕ → Type 0
AtTheLargestCount s k = let a = step s (largest s k) in (a.number ≡ 0) × (a.next.bucket ≡ k)

-- how many records are opened on the chains from which `onward` has its answer, and so by a step
-- from a position that is valid
unfoldable pub onward_opens : ℕ → List ℕ → ℕ → ℕ → ℕ
onward_opens zero s k c = 0
onward_opens (suc n) s k c =
    opened_on (chain_of Short s k c) + elim (chain_of Short s k c).after [
      | End ↦ onward_opens n s (suc k) 0
      | Broken x p ↦ 0
      | Record r ↦ 0
    ]

abbrev pub step_opens : List ℕ → Position → ℕ
step_opens s q = onward_opens (buckets s - q.bucket) s q.bucket q.count

-- What request 2 promises: the walk from the start over an accepted cache meets each record once,
-- as many as the check counts; a walk on any buffer, from any position, ends; a chain never ends,
-- each record on it keeping the rules, exactly where the largest count still gives a record of it;
-- and a step opens at most one record more than its count.
pub record Pages (s : List ℕ) : Type 0 where
  pub each-once : Accepted Short s → EachOnce s (all_records Short s)
  pub as_many : Accepted Short s → length (all_records Short s) ≡ (check Short s).icons
  pub lists : Accepted Short s → Lists s (all_records Short s)
  pub ends : (q : Position) → (m : ℕ) × (m ≤ most_handed s) × Ends s q m
  pub endless : (header_fault s).number ≡ 0 → (k : ℕ) → k < buckets s → (AtTheLargestCount s k ↔ Turns Short s k)
  pub opens : (q : Position) → step_opens s q ≤ suc q.count
