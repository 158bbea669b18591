-- Which rule is broken first, and where: document 01, 'Answer numbers', in the order of checks. A
-- judgement with number 0 says that none is.
use Rattle.std.specs.Prelude.{ℕ, zero, suc, ◌+◌, Bool, true, false, Result, Ok, Err}
use Rattle.format.specs.declared.Fault.{Fault}

abbrev pub fault : ℕ → ℕ → Fault
fault x p = record { number = x; place = p }

abbrev pub no_fault : Fault
no_fault = fault 0 0

-- rule x is broken at p, unless the test holds
abbrev pub unless : Bool → ℕ → ℕ → Fault
unless true x p = no_fault
unless false x p = fault x p

-- a where the judgement names no broken rule, and b where it names one
abbrev pub if_kept : {A : Type 0} → Fault → A → A → A
if_kept {A} v a b = elim v.number as (λ n. A) [ zero ↦ a | suc x ↦ b ]

infixr 20 ◌or_else◌
-- the first of two judgements if it names a broken rule, else the second
unfoldable pub ◌or_else◌ : Fault → Fault → Fault
◌or_else◌ v w = if_kept v w v

-- the first broken rule among n things that are judged one after the other: the first stands at p,
-- and `next` gives where the one behind stands
unfoldable pub first_fault : (ℕ → Fault) → (ℕ → ℕ) → ℕ → ℕ → Fault
first_fault judge next zero p = no_fault
first_fault judge next (suc n) p = judge p or_else first_fault judge next n (next p)

-- a step further
abbrev pub step_on : ℕ → ℕ → ℕ
step_on step p = p + step

-- what code hands on of a judgement: the value that there is where no rule is broken, or the broken
-- rule
abbrev pub outcome : {A : Type 0} → Fault → A → Result A Fault
outcome v a = if_kept v (Ok a) (Err v)

-- where there is no value
abbrev pub verdict : Fault → Result Unit Fault
verdict v = outcome v tt
