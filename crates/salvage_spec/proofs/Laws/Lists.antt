-- Laws of lists joined step by step, and of those that pass a test.
use Prim.Native.Nat.{ℕ, zero, suc, ◌+◌, ◌≤◌, ◌<◌}
use Rattle.std.specs.Prelude.{◌≡◌, Bool, true, false, not, length, get_or, if◌then◌else◌}
use Rattle.std.proofs.Math.Path.{refl, ap}
use Rattle.std.proofs.Common.{sym, ◌∙◌, arith, length-append}
use mathlib.Core.List.{List, [], ◌∷◌, ◌++◌, append-nil, append_assoc}
use Rattle.std.proofs.Math.Decide.{dec_lt}
use Rattle.catalogue.specs.Catalogue.{Each}
use Rattle.catalogue.proofs.Laws.Allowed.{each_at}
use Rattle.format.specs.Bytes.{joined}
use Rattle.salvage_spec.specs.Lists.{those, AnyTwo}

module _ {A : Type 0} (f : ℕ → List A) where
  pub joined-none : (n : ℕ) → ((i : ℕ) → i < n → f i ≡ []) → joined f n ≡ []
  unfolding joined
  joined-none zero none = refl
  joined-none (suc n) none = rw (joined-none n (λ i l. none i (omega arith)), none n (omega arith))

-- at most one of each step
pub few-joined : {A : Type 0} (f : ℕ → List A) (n : ℕ) → ((i : ℕ) → i < n → length (f i) ≤ 1) → length (joined f n) ≤ n
unfolding joined
few-joined f zero one = omega arith
few-joined f (suc n) one = omega (arith, length-append (joined f n) (f n), few-joined f n (λ i l. one i (omega arith)), one n (omega arith))

-- one thing or none
pub one-or-none : {A : Type 0} (x : ℕ) (a : A) → length {A = A} (elim x as (λ y. List A) [ zero ↦ a ∷ [] | suc y ↦ [] ]) ≤ 1
one-or-none zero a = omega arith
one-or-none (suc x) a = omega arith

-- of more parts no fewer things are joined
pub joined-le : {A : Type 0} (f : ℕ → List A) (m n : ℕ) → m ≤ n → length (joined f m) ≤ length (joined f n)
unfolding joined
joined-le f m zero l = let e : m ≡ 0 = omega arith in rw e (omega arith)
joined-le f m (suc n) l = elim (dec_lt n m) [
  | yes g ↦ let e : m ≡ suc n = omega arith in rw e (omega arith)
  | no g ↦ omega (arith, joined-le f m n (omega arith), length-append (joined f n) (f n))
]

-- what goes through a list piece by piece goes through each step
module _ {A B : Type 0} (h : List A → List B) (none : h [] ≡ []) (pieces : (x y : List A) → h (x ++ y) ≡ h x ++ h y) (f : ℕ → List A) where
  pub through : (n : ℕ) → h (joined f n) ≡ joined (λ i. h (f i)) n
  unfolding joined
  through zero = none
  through (suc n) = pieces (joined f n) (f n) ∙ ap (λ l. l ++ h (f n)) (through n)

module _ {A : Type 0} (test : A → Bool) where
  pub those-append : (x y : List A) → those test (x ++ y) ≡ those test x ++ those test y
  unfolding those
  those-append [] y = refl
  those-append (a ∷ x) y = rw (those-append x y) (sym (append_assoc (if test a then a ∷ [] else []) (those test x) (those test y)))

  pub those-none : those test [] ≡ []
  unfolding those
  those-none = refl

  pub those-one : (a : A) → those test (a ∷ []) ≡ (if test a then a ∷ [] else [])
  unfolding those
  those-one a = append-nil (if test a then a ∷ [] else [])

-- those that pass a test and those that do not are all of them
pub those-or-not : {A : Type 0} (test : A → Bool) (xs : List A) → length (those test xs) + length (those (λ x. not (test x)) xs) ≡ length xs
unfolding those
those-or-not test [] = refl
those-or-not {A} test (x ∷ xs) = go (test x) (those-or-not test xs)
  where
    go : (t : Bool) → length (those test xs) + length (those (λ y. not (test y)) xs) ≡ length xs
        → length ((if t then x ∷ [] else []) ++ those test xs) + length ((if not t then x ∷ [] else []) ++ those (λ y. not (test y)) xs) ≡ length (x ∷ xs)
    go true e = omega arith
    go false e = omega arith

-- what holds of each of two lists holds of each of both together
module _ {A : Type 0} (P : A → Type 0) where
  pub each_append : (x y : List A) → Each P x → Each P y → Each P (x ++ y)
  each_append [] y h g = g
  each_append (a ∷ x) y h g = (h.0, each_append x y h.1 g)

  pub each-joined : (f : ℕ → List A) (n : ℕ) → ((i : ℕ) → i < n → Each P (f i)) → Each P (joined f n)
  unfolding joined
  each-joined f zero h = tt
  each-joined f (suc n) h = each_append (joined f n) (f n) (each-joined f n (λ i l. h i (omega arith))) (h n (omega arith))

module _ {A : Type 0} (R : A → A → Type 0) where
  any-two-append : (x y : List A) → AnyTwo R x → AnyTwo R y → Each (λ a. Each (R a) y) x → AnyTwo R (x ++ y)
  unfolding AnyTwo
  any-two-append [] y h g c = g
  any-two-append (a ∷ x) y h g c = (each_append (R a) x y h.0 c.0, any-two-append x y h.1 g c.1)

  -- any two of one step, and one of a lower step with one of a higher
  pub any-two-joined : (f : ℕ → List A) (n : ℕ) → ((i : ℕ) → i < n → AnyTwo R (f i)) → ((i j : ℕ) → i < j → j < n → Each (λ a. Each (R a) (f j)) (f i))
      → AnyTwo R (joined f n)
  unfolding joined AnyTwo
  any-two-joined f zero h c = tt
  any-two-joined f (suc n) h c =
      any-two-append (joined f n) (f n) (any-two-joined f n (λ i l. h i (omega arith)) (λ i j l g. c i j l (omega arith))) (h n (omega arith))
      (each-joined (λ a. Each (R a) (f n)) f n (λ i l. c i n l (omega arith)))

  pub any-two-at : (x : List A) (d : A) → AnyTwo R x → (i j : ℕ) → i < j → j < length x → R (get_or x i d) (get_or x j d)
  unfolding AnyTwo
  any-two-at [] d h i j l g = absurd (omega arith)
  any-two-at (a ∷ x) d h i zero l g = absurd (omega arith)
  any-two-at (a ∷ x) d h zero (suc j) l g = each_at (R a) x d j h.0 (omega arith)
  any-two-at (a ∷ x) d h (suc i) (suc j) l g = any-two-at x d h.1 i j (omega arith) (omega arith)
