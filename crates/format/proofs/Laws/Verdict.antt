-- What a cache can be like: one of four ways, and one is always at hand.
use Rattle.std.specs.Prelude.{ℕ, zero, suc, ◌-◌, ◌≤◌, ◌<◌, ◌≡◌, refl, ◌⊎◌, List, length}
use Rattle.std.proofs.Common.{inl, inr, le_refl, arith}
use Rattle.format.specs.Fault.{fault}
use Rattle.format.specs.Header.{buckets, tables_fault}
use Rattle.format.specs.Chain.{most_records}
use Rattle.format.specs.Words.{KeepsAt, KeepsBelow, Breaks, Turns, TablesKept, HeldBefore, Accepted, Loops, Lengths, sum}
use Rattle.format.proofs.Laws.Below.{below_suc}
use Rattle.format.proofs.Laws.Header.{header-valid}
use Rattle.format.proofs.Laws.Rules.{tables-keep-header}
use Rattle.format.proofs.Laws.Links.{round}
use Rattle.format.proofs.Laws.Apart.{repeats}
use Rattle.format.proofs.Laws.Course.{Course, ends, breaks, goes_on, course}
use Rattle.format.proofs.Laws.Buckets.{lengths, chains}
use Rattle.format.specs.declared.Reading.{Reading}

pub data Verdict (ρ : Reading) (s : List ℕ) : Type 0 where
  tables-broken : {x p : ℕ} → tables_fault s ≡ fault (suc x) p → Verdict ρ s
  all_hold : Accepted ρ s → Verdict ρ s
  broken : {k n x p : ℕ} → k < buckets s → HeldBefore ρ s k → Breaks ρ s k n x p → Verdict ρ s
  looped : {k : ℕ} → Loops ρ s k → Verdict ρ s

pub tables-long : (s : List ℕ) → TablesKept s → 12 ≤ length s
tables-long s e = (header-valid s (tables-keep-header s e)).header-inside

pub turns : {ρ : Reading} {s : List ℕ} {k : ℕ} → ((n : ℕ) → KeepsAt ρ s k n) → Turns ρ s k
turns all = record { endless = λ n. ((all n).0, (all n).1.inside); keeps = λ n. (all n).1 }

pub turns-keep : {ρ : Reading} {s : List ℕ} {k : ℕ} → Turns ρ s k → (n : ℕ) → KeepsAt ρ s k n
turns-keep t n = ((t.endless n).0, t.keeps n)

-- a chain with more records that keep the rules than there can be goes on for ever
pub endless : {ρ : Reading} {s : List ℕ} {k : ℕ} (len : ℕ → ℕ) → Lengths ρ s k len → KeepsBelow ρ s k (suc (most_records s - sum len k)) → (n : ℕ) → KeepsAt ρ s k n
endless {s} {k} len h keeps = let (xs, a, e) = chains len k h in round (repeats a (omega arith) keeps) keeps

module _ (ρ : Reading) (s : List ℕ) (tables-kept : TablesKept s) where
  next : {k : ℕ} → k < buckets s → HeldBefore ρ s k → HeldBefore ρ s (suc k) ⊎ Verdict ρ s
  next {k} l held = let (len, h) = lengths held in go len h (course ρ s k (most_records s - sum len k))
    where
      go : (len : ℕ → ℕ) → Lengths ρ s k len → Course ρ s k (most_records s - sum len k) → HeldBefore ρ s (suc k) ⊎ Verdict ρ s
      go len h (ends {n = n} g c) = inl (record { tables-kept = tables-kept; lower = below_suc held.lower (n, c) })
      go len h (breaks g b) = inr (broken l held b)
      go len h (goes_on keeps) = inr (looped (record { bucket = l; held = held; turns = turns (endless len h keeps) }))

  through : (k : ℕ) → k ≤ buckets s → HeldBefore ρ s k ⊎ Verdict ρ s
  through zero l = inl (record { tables-kept = tables-kept; lower = λ j g. absurd (omega arith) })
  through (suc k) l = elim (through k (omega arith)) [ inl held ↦ next l held | inr v ↦ inr v ]

pub verdict : (ρ : Reading) (s : List ℕ) → Verdict ρ s
verdict ρ s = go (tables_fault s).number refl
  where
    go : (m : ℕ) → (tables_fault s).number ≡ m → Verdict ρ s
    go zero e = elim (through ρ s e (buckets s) (le_refl (buckets s))) [ inl held ↦ all_hold held | inr v ↦ v ]
    go (suc x) e = tables-broken {x = x} {p = (tables_fault s).place} (rw (← e))
