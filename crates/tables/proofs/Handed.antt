-- What is handed on of a judgement that is known to be another.
use Rattle.std.specs.Prelude.{◌≡◌, Ok, Err}
use Rattle.std.proofs.Common.{sym}
use Rattle.format.specs.Fault.{no_fault, outcome}
use Rattle.format.specs.declared.Fault.{Fault}
use Rattle.format.proofs.Laws.Outcomes.{outcome-broken}

module _ {A : Type 0} {v : Fault} (a : A) where
  -- one that names a rule
  pub breaks : {w : Fault} → v ≡ w → (w.number ≡ 0 → ⊥) → Err w ≡ outcome v a
  breaks {w} e n = rw e (sym (outcome-broken w a n))

  -- one that names none
  pub keeps : v ≡ no_fault → Ok a ≡ outcome v a
  keeps e = rw e
