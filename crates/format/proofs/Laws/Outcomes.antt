-- Judgements as code hands them on: what an outcome is by its judgement, and the judgement by its
-- outcome.
use Rattle.std.specs.Prelude.{ℕ, ◌≡◌, refl, Result, Ok, Err}
use Rattle.std.proofs.Common.{sym, ◌∙◌, arith}
use Rattle.std.proofs.Math.Decide.{ℕ_discrete}
use Rattle.format.specs.Fault.{no_fault, fault, outcome}
use Rattle.format.specs.declared.Fault.{Fault}
use Rattle.format.proofs.Laws.Faults.{kept-takes, broken-takes}

module _ {A : Type 0} (v : Fault) (a : A) where
  pub outcome-kept : v.number ≡ 0 → outcome v a ≡ Ok a
  outcome-kept h = kept-takes v (Ok a) (Err v) h

  pub outcome-broken : (v.number ≡ 0 → ⊥) → outcome v a ≡ Err v
  outcome-broken h = broken-takes v (Ok a) (Err v) h

  -- an outcome with a value is of a judgement that names no rule, and the value is that
  pub kept-by : (b : A) → Ok b ≡ outcome v a → (v.number ≡ 0) × (b ≡ a)
  kept-by b e = elim (ℕ_discrete v.number 0) [
    | yes h ↦ let same : ◌≡◌ {A = Result A Fault} (Ok b) (Ok a) = e ∙ outcome-kept h in (h, cc)
    | no n ↦ let other : ◌≡◌ {A = Result A Fault} (Ok b) (Err v) = e ∙ outcome-broken n in cc
  ]

  -- one without is of the judgement that it names
  pub broken-by : (f : Fault) → Err f ≡ outcome v a → (v.number ≡ 0 → ⊥) × (f ≡ v)
  broken-by f e = elim (ℕ_discrete v.number 0) [
    | yes h ↦ let other : ◌≡◌ {A = Result A Fault} (Err f) (Ok a) = e ∙ outcome-kept h in cc
    | no n ↦ let same : ◌≡◌ {A = Result A Fault} (Err f) (Err v) = e ∙ outcome-broken n in (n, cc)
  ]
