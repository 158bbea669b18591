-- The first number that fails a test, the elements that pass one, and what holds of any two of a
-- list.
use Rattle.std.specs.Prelude.{ℕ, zero, suc, List, [], ◌∷◌, ◌++◌, Bool, true, false, if◌then◌else◌}
use Rattle.catalogue.specs.Catalogue.{Each}

-- the first number from n on at which the test fails, looked for m times
unfoldable pub first_failing : ℕ → (ℕ → Bool) → ℕ → ℕ
first_failing zero test n = n
first_failing (suc m) test n = elim (test n) [ true ↦ first_failing m test (suc n) | false ↦ n ]

-- those that pass the test
unfoldable pub those : {A : Type 0} → (A → Bool) → List A → List A
those test [] = []
those test (x ∷ xs) = (if test x then x ∷ [] else []) ++ those test xs

-- R holds of any two, the one before the other
unfoldable pub AnyTwo : {A : Type 0} → (A → A → Type 0) → List A → Type 0
AnyTwo R [] = Unit {0}
AnyTwo R (x ∷ xs) = Each (R x) xs × AnyTwo R xs
