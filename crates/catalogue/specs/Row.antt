-- Things that stand one after the other in a buffer, as the paths and the icons of a catalogue do:
-- the first begins at p, and `next` gives where the one behind begins. `first_fault` judges them.
use Rattle.std.specs.Prelude.{ℕ, zero, suc, List, [], ◌∷◌}

-- where n of them end, and so where the n-th begins, counted from 0
unfoldable pub row_end : (ℕ → ℕ) → ℕ → ℕ → ℕ
row_end next zero p = p
row_end next (suc n) p = row_end next n (next p)

-- n of them, each as `what` reads it where it begins
unfoldable pub row : {A : Type 0} → (ℕ → A) → (ℕ → ℕ) → ℕ → ℕ → List A
row what next zero p = []
row what next (suc n) p = what p ∷ row what next n (next p)
