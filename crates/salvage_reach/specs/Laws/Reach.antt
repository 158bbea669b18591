-- How far a walk goes, from what the code knows where it stops: the record or the value that ends
-- the chain, or the round that it runs.
use Rattle.std.specs.Prelude.{ℕ, suc, ◌+◌, ◌≤◌, ◌<◌, ◌≡◌, refl, List}
use Rattle.std.proofs.Common.{ap, arith}
use Rattle.format.specs.Fault.{no_fault, fault}
use Rattle.format.specs.Layout.{end_value}
use Rattle.format.specs.Header.{bucket_field}
use Rattle.format.specs.Record.{name_fault}
use Rattle.format.specs.Words.{link, link_field, Inside}
use Rattle.format.proofs.Laws.Below.{below_suc}
use Rattle.format.specs.declared.Fault.{Fault}
use Rattle.salvage_spec.specs.Meetings.{met, cut}
use Rattle.salvage_spec.specs.Promise.{Passed, MeetsAt, misnamed, ended, outside, looped}
use Rattle.salvage_spec.proofs.Laws.Ends.{ends-met}
use Rattle.salvage_reach.specs.Ways.{PassesAt, PassesBelow, Reaches, named_rule, reached_at}
use Rattle.salvage_reach.specs.Laws.Rounds.{round-fresh, passes-met, stop-fresh}

reaches : {s : List ℕ} {k n : ℕ} {x : Fault} → (met s k ≡ n) × (cut s k ≡ x) → Reaches s k (reached_at n x)
reaches (a, b) = record { met = a; cut = ap named_rule b }

module _ (s : List ℕ) (k n : ℕ) (below : PassesBelow s k n) where
  left : Passed s k n
  left m e = (below m (omega arith)).named

  -- the records before a stop are met
  met-before : (PassesAt s k n → ⊥) → (j : ℕ) → j < n → MeetsAt s k j
  met-before stop = passes-met s k n below (λ j l. stop-fresh s k n below stop j (omega arith))

  pub reach-ended : link s k n ≡ end_value → Reaches s k (reached_at n no_fault)
  reach-ended e = reaches (ends-met s k n (met-before (λ p. p.real e)) (ended left e))

  pub reach-outside : (link s k n ≡ end_value → ⊥) → (Inside s (link s k n) → ⊥) → Reaches s k (reached_at n (fault 7 (link_field s k n)))
  reach-outside real out = reaches (ends-met s k n (met-before (λ p. out p.inside)) (outside left real out))

  -- a record whose name has a fault is met, and ends the chain
  pub reach-misnamed : (link s k n ≡ end_value → ⊥) → Inside s (link s k n) → ((name_fault s k (link s k n)).number ≡ 0 → ⊥)
      → Reaches s k (reached_at (suc n) no_fault)
  reach-misnamed real inn bad =
      let stop : PassesAt s k n → ⊥ = λ p. bad p.named in
      let here : MeetsAt s k n = record { passed = left; real = real; inside = inn; fresh = stop-fresh s k n below stop n (omega arith) } in
      reaches (ends-met s k (suc n) (below_suc (met-before stop) here) (misnamed n refl bad))

-- a round of c steps that is the least at some step, and m, the first step that has it
pub record FirstRound (s : List ℕ) (k c m : ℕ) : Type 0 where
  pub elsewhere : ℕ
  pub some : 0 < c
  pub least : (i : ℕ) → 0 < i → i < c → link s k elsewhere ≡ link s k (elsewhere + i) → ⊥
  pub here : link s k m ≡ link s k (m + c)
  pub first : (i : ℕ) → i < m → link s k i ≡ link s k (i + c) → ⊥
  pub before : m ≤ elsewhere

pub reach-looped : (s : List ℕ) (k c m : ℕ) → PassesBelow s k (m + c) → FirstRound s k c m
    → Reaches s k (reached_at (m + c) (fault 12 (bucket_field s k)))
reach-looped s k c m below r =
    let all = passes-met s k (m + c) below (round-fresh s k r.elsewhere c m r.some r.least r.here r.first r.before) in
    reaches (ends-met s k (m + c) all (looped (λ i e. (below i (omega arith)).named) m (omega (arith, r.some)) r.here))
