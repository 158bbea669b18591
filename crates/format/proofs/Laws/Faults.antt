-- Judgements put one after the other: which of them counts, and what follows where no rule is
-- broken.
use Prim.Native.Nat.{ℕ, zero, suc, ◌+◌, ◌-◌, ◌*◌, ◌<◌}
use Rattle.std.specs.Prelude.{◌≡◌, refl, Bool, true, false, ◌&&◌}
use Rattle.std.proofs.Common.{sym, ap, ◌∙◌}
use Rattle.std.proofs.Math.Bool.{and-eq-true_iff}
use Rattle.std.proofs.Math.Decide.{ℕ_discrete}
use Rattle.std.proofs.Math.Numerals.{add-one}
use native.Mathlib.Omega.{arith}
use Rattle.format.specs.Fault.{fault, no_fault, unless, ◌or_else◌, if_kept, first_fault, step_on}
use Rattle.format.specs.declared.Fault.{Fault}
use Rattle.format.proofs.Laws.First.{at_first, at-later}

pub same_number : {x y : Fault} → x ≡ y → x.number ≡ y.number
same_number e = ap (λ (f : Fault). f.number) e

pub kept-takes : {A : Type 0} (x : Fault) (a b : A) → x.number ≡ 0 → if_kept x a b ≡ a
kept-takes x a b e = rw e

pub broken-takes : {A : Type 0} (x : Fault) (a b : A) → (x.number ≡ 0 → ⊥) → if_kept x a b ≡ b
broken-takes x a b h = let some : x.number ≡ suc (x.number - 1) = omega arith in rw some

pub or_else-first : (x y : Fault) → (x.number ≡ 0 → ⊥) → x or_else y ≡ x
unfolding ◌or_else◌
or_else-first x y h = broken-takes x y x h

pub or_else-next : (x y : Fault) → x.number ≡ 0 → x or_else y ≡ y
unfolding ◌or_else◌
or_else-next x y h = kept-takes x y x h

pub or_else-none : (x y : Fault) → (x or_else y).number ≡ 0 → (x.number ≡ 0) × (y.number ≡ 0)
or_else-none x y h = elim (ℕ_discrete x.number 0) [
  | yes kept ↦ (kept, rw (or_else-next x y kept) at h)
  | no broken ↦ absurd (broken (rw (or_else-first x y broken) at h))
]

pub or_else-assoc : (u v w : Fault) → (u or_else v) or_else w ≡ u or_else (v or_else w)
or_else-assoc u v w = elim (ℕ_discrete u.number 0) [
  | yes e ↦ ap (λ x. x or_else w) (or_else-next u v e) ∙ sym (or_else-next u (v or_else w) e)
  | no a ↦ ap (λ x. x or_else w) (or_else-first u v a) ∙ or_else-first u w a ∙ sym (or_else-first u (v or_else w) a)
]

pub unless-none : (b : Bool) (n p : ℕ) → (unless b (suc n) p).number ≡ 0 → b ≡ true
unless-none true n p h = refl
unless-none false n p h = absurd (omega arith)

-- a test that holds breaks no rule, and two that hold are one
pub unless-kept : (b : Bool) (n p : ℕ) → b ≡ true → unless b n p ≡ no_fault
unless-kept b n p e = rw e

pub also : {a b : Bool} → a ≡ true → b ≡ true → (a && b) ≡ true
also {a} {b} h g = (and-eq-true_iff a b).1 (h, g)

pub unless-broken : (b : Bool) (n p : ℕ) → b ≡ false → unless b n p ≡ fault n p
unless-broken b n p e = rw e

-- a broken rule is the judgement; a kept one leaves it to the rules after it
pub broken-speaks : (b : Bool) (n p : ℕ) (y : Fault) → b ≡ false → unless b (suc n) p or_else y ≡ fault (suc n) p
unfolding ◌or_else◌
broken-speaks b n p y e = rw e

pub kept-passes : (b : Bool) (n p : ℕ) (y : Fault) → b ≡ true → unless b n p or_else y ≡ y
unfolding ◌or_else◌
kept-passes b n p y e = rw e

-- n things judged one after the other: none is left, the first breaks a rule, or it keeps them
module _ (judge : ℕ → Fault) (next : ℕ → ℕ) (p n : ℕ) where
  pub first-end : n ≡ 0 → first_fault judge next n p ≡ no_fault
  unfolding first_fault
  first-end e = rw e

  pub first-stop : 0 < n → ((judge p).number ≡ 0 → ⊥) → first_fault judge next n p ≡ judge p
  unfolding first_fault
  first-stop some broken = let more : n ≡ suc (n - 1) = omega arith in rw more (or_else-first _ _ broken)

  pub first-go-on : (m : ℕ) → n ≡ m + 1 → (judge p).number ≡ 0 → first_fault judge next n p ≡ first_fault judge next m (next p)
  unfolding first_fault
  first-go-on m e kept = rw (e, add-one m) (or_else-next _ _ kept)

  -- where no rule is broken, none is by the first
  pub first-none : (m : ℕ) → n ≡ m + 1 → (first_fault judge next n p).number ≡ 0 → ((judge p).number ≡ 0) × ((first_fault judge next m (next p)).number ≡ 0)
  unfolding first_fault
  first-none m e none = or_else-none _ _ (rw (e, add-one m) at none)

-- the same by the number of a thing, where each stands a step behind the one before
module _ (judge : ℕ → Fault) (step : ℕ) where
  -- thing i is the first that breaks a rule
  pub first-at : (n p i : ℕ) → i < n → ((judge (p + step * i)).number ≡ 0 → ⊥) → ((j : ℕ) → j < i → (judge (p + step * j)).number ≡ 0)
      → first_fault judge (step_on step) n p ≡ judge (p + step * i)
  first-at n p zero below broken before = rw (at_first p step) (first-stop judge (step_on step) p n below (rw (at_first p step) at broken))
  first-at n p (suc i) below broken before =
      first-go-on judge (step_on step) p n (n - 1) (omega arith) (rw (at_first p step) at (before 0 (omega arith)))
      ∙ rw (at-later p step i)
      (first-at (n - 1) (p + step) i (omega arith) (rw (← (at-later p step i)) broken) (λ j l. rw (← (at-later p step j)) (before (suc j) (omega arith))))

  -- each keeps them
  pub first-kept : (n p : ℕ) → ((j : ℕ) → j < n → (judge (p + step * j)).number ≡ 0) → (first_fault judge (step_on step) n p).number ≡ 0
  first-kept zero p kept = same_number (first-end judge (step_on step) p 0 refl)
  first-kept (suc n) p kept =
      rw (first-go-on judge (step_on step) p (suc n) n (omega arith) (rw (at_first p step) at (kept 0 (omega arith))))
      (first-kept n (p + step) (λ j l. rw (← (at-later p step j)) (kept (suc j) (omega arith))))

  pub kept-each : (n p j : ℕ) → j < n → (first_fault judge (step_on step) n p).number ≡ 0 → (judge (p + step * j)).number ≡ 0
  kept-each n p zero l none = rw (at_first p step) (first-none judge (step_on step) p n (n - 1) (omega arith) none).0
  kept-each n p (suc j) l none =
      rw (at-later p step j) (kept-each (n - 1) (p + step) j (omega arith) (first-none judge (step_on step) p n (n - 1) (omega arith) none).1)
