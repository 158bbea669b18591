-- Judgements on a call's way: which counts, and that one that names no broken rule names no place
-- either.
use Rattle.std.specs.Prelude.{ℕ, suc, ◌≡◌, refl, Bool, true, false, Ok, Err}
use Rattle.std.proofs.Common.{sym, ap, ◌∙◌, arith}
use Rattle.format.specs.Fault.{no_fault, unless, ◌or_else◌, outcome}
use Rattle.format.specs.declared.Fault.{Fault}
use Rattle.format.proofs.Laws.Faults.{or_else-first, or_else-next, or_else-none}
use Rattle.format.proofs.Laws.Outcomes.{outcome-broken, kept-by, broken-by}

abbrev pub Clean : Fault → Type 0
Clean v = v.number ≡ 0 → v ≡ no_fault

pub clean-unless : (b : Bool) (n p : ℕ) → Clean (unless b (suc n) p)
clean-unless true n p e = refl
clean-unless false n p e = absurd (omega arith)

pub clean-or_else : (x y : Fault) → Clean y → Clean (x or_else y)
clean-or_else x y clean e =
    let kept = or_else-none x y e in
    or_else-next x y kept.0 ∙ clean kept.1

-- the way ends with a judgement that names a broken rule, and else goes on
module _ {A B : Type 0} (v w : Fault) (a : A) (b : B) where
  pub way-ends : {f : Fault} → Err f ≡ outcome v a → Err f ≡ outcome (v or_else w) b
  way-ends {f} e =
      let broken = broken-by v a f e in
      rw (or_else-first v w broken.0, outcome-broken v b broken.0, broken.1)

  pub way_on : {x : A} → Ok x ≡ outcome v a → outcome w b ≡ outcome (v or_else w) b
  way_on {x} e = ap (λ u. outcome u b) (sym (or_else-next v w (kept-by v a x e).0))
