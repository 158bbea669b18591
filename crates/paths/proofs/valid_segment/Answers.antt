-- `paths::valid_segment` meets its contract: the definition asks what the arms of the code's
-- `match` on the length ask (`tested`), and each arm knows the answers.
use Prim.Native.Nat.{ℕ, zero, suc, ◌-◌}
use mathlib.Core.Path.{◌≡◌, refl}
use mathlib.Core.List.{List, [], ◌∷◌}
use mathlib.Core.Bool.{Bool, true, false, not, ◌&&◌, and-true, and-false}
use native.Mathlib.Omega.{arith}
use borrow.Author.Tests.{eq-eqb, ne_eqb}
use lib.Dec.{eqb}
use lib.ListN.{length, get_or}
use Rattle.format.specs.String.{same_bytes}
use Rattle.format.specs.Segments.{dot, valid_segment}
use Rattle.paths.proofs.valid_segment.Goals as goal

-- at a length, by the first two bytes
abbrev arms : ℕ → ℕ → ℕ → Bool
arms zero a b = false
arms (suc zero) a b = not (eqb a dot)
arms (suc (suc zero)) a b = not (eqb a dot && eqb b dot)
arms (suc (suc (suc n))) a b = true

tested : (p : List ℕ) → valid_segment p ≡ arms (length p) (get_or p 0 0) (get_or p 1 0)
unfolding valid_segment same_bytes
tested [] = refl
tested (a ∷ []) = simp (and-true, and-false)
tested (a ∷ b ∷ []) = simp (and-true, and-false)
tested (a ∷ b ∷ c ∷ p) = simp and-false

pub returns-in-0 : goal.returns-in-0
returns-in-0 c = rw (tested, c.in-0.is)

pub returns-in-1 : goal.returns-in-1
returns-in-1 c = rw (tested, c.in-1.is)

pub returns-then-segment-ne46 : goal.returns-then-segment-ne46
returns-then-segment-ne46 c = rw (tested, c.in-2.is, ne_eqb _ _ c.if-segment-ne46.true)

pub returns-else-segment-ne46 : goal.returns-else-segment-ne46
returns-else-segment-ne46 c = rw (tested, c.in-2.is, eq-eqb _ _ c.if-segment-ne46.false)

pub returns-in_default : goal.returns-in_default
returns-in_default c =
    let n = length c.args.segment.now in
    let more : n ≡ suc (suc (suc (n - 3))) = omega arith in
    rw (tested, more)
