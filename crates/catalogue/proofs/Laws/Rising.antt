-- Lists by number: the first n of what a function gives, and the rising order of a list of numbers.
use Prim.Native.Nat.{ℕ, zero, suc, ◌≤◌, ◌<◌}
use Rattle.std.specs.Prelude.{◌≡◌, List, [], ◌∷◌, ◌++◌, map, Bool, true, false, ◌||◌, length, get_or, take, eqb}
use Rattle.std.proofs.Math.Path.{refl, ap}
use Rattle.std.proofs.Common.{sym, ◌∙◌, eqb-true, eq-eqb, length-append, take-suc}
use Rattle.std.proofs.lemmas.List.{map-append}
use Rattle.std.proofs.lemmas.Bool.{false≢true}
use Rattle.std.proofs.Math.Decide.{dec_lt}
use native.Mathlib.Omega.{arith}
use Rattle.std.proofs.Math.Seq.{take-length}
use Rattle.catalogue.specs.Listed.{has, rising, firsts}

-- a list has what stands in it
pub has_some : (xs : List ℕ) (r : ℕ) → has xs r ≡ true → (n : ℕ) × (n < length xs) × (get_or xs n 0 ≡ r)
unfolding has
has_some [] r e = absurd (false≢true e)
has_some (x ∷ xs) r e = go (eqb x r) refl e (has_some xs r)
  where
    go : (b : Bool) → eqb x r ≡ b → (b || has xs r) ≡ true → (has xs r ≡ true → (n : ℕ) × (n < length xs) × (get_or xs n 0 ≡ r))
        → (n : ℕ) × (n < length (x ∷ xs)) × (get_or (x ∷ xs) n 0 ≡ r)
    go true q h later = (0, omega arith, eqb-true x r q)
    go false q h later = let (n, l, g) = later h in (suc n, omega arith, g)

pub some-has : (xs : List ℕ) (r n : ℕ) → n < length xs → get_or xs n 0 ≡ r → has xs r ≡ true
unfolding has
some-has [] r n l e = absurd (omega arith)
some-has (x ∷ xs) r zero l e = rw (eq-eqb x r e)
some-has (x ∷ xs) r (suc n) l e = go (eqb x r) (some-has xs r n (omega arith) e)
  where
    go : (b : Bool) → has xs r ≡ true → (b || has xs r) ≡ true
    go true h = refl
    go false h = h

-- numbers that rise
abbrev pub Rises : (ℕ → ℕ) → ℕ → Type 0
Rises f n = (i j : ℕ) → i < j → j < n → f i < f j

pub firsts-length : {A : Type 0} (f : ℕ → A) (n : ℕ) → length (firsts f n) ≡ n
unfolding firsts
firsts-length f zero = refl
firsts-length f (suc n) = omega (arith, length-append (firsts f n) (f n ∷ []), firsts-length f n)

-- a list of n elements is the first n of what f gives, if each of it is
pub firsts-are : {A : Type 0} (f : ℕ → A) (xs : List A) (d : A) → ((i : ℕ) → i < length xs → f i ≡ get_or xs i d) → firsts f (length xs) ≡ xs
unfolding firsts
firsts-are f xs d same = go (length xs) (omega arith) ∙ take-length xs
  where
    go : (n : ℕ) → n ≤ length xs → firsts f n ≡ take n xs
    go zero l = refl
    go (suc n) l = rw (go n (omega arith), same n l) (sym (take-suc xs n d l))

pub map-firsts : {A B : Type 0} (g : A → B) (f : ℕ → A) (n : ℕ) → map g (firsts f n) ≡ firsts (λ i. g (f i)) n
unfolding firsts
map-firsts g f zero = refl
map-firsts g f (suc n) = map-append g (firsts f n) (f n ∷ []) ∙ ap (λ l. l ++ (g (f n) ∷ [])) (map-firsts g f n)

rising-with : (xs : List ℕ) (m : ℕ) → has xs m ≡ true → rising xs (suc m) ≡ rising xs m ++ (m ∷ [])
unfolding rising
rising-with xs m e = rw e

rising-without : (xs : List ℕ) (m : ℕ) → has xs m ≡ false → rising xs (suc m) ≡ rising xs m
unfolding rising
rising-without xs m e = rw e

-- The rising order of a list that has just the first n of rising numbers is these: of the numbers
-- below m it has the first j, where those from the j-th on are not below m.
abbrev Below : List ℕ → (ℕ → ℕ) → ℕ → ℕ → Type 0
Below xs f n m = (j : ℕ) → j ≤ n → ((i : ℕ) → i < j → f i < m) → ((i : ℕ) → j ≤ i → i < n → m ≤ f i) → rising xs m ≡ firsts f j

module _ (xs : List ℕ) (f : ℕ → ℕ) (n : ℕ) (rises : Rises f n) (held : (i : ℕ) → i < n → has xs (f i) ≡ true)
    (only : (r : ℕ) → has xs r ≡ true → (i : ℕ) × (i < n) × (r ≡ f i)) where
  below-with : (m : ℕ) → Below xs f n m → has xs m ≡ true → Below xs f n (suc m)
  unfolding firsts
  below-with m h e zero l below above = let (i, g, q) = only m e in absurd (omega (arith, above i (omega arith) g))
  below-with m h e (suc j) l below above =
      let (i, g, q) = only m e in
      let last : f j < suc m = below j (omega arith) in
      let not-before : i < j → ⊥ = λ a. omega (arith, rises i j a l) in
      let not_after : j < i → ⊥ = λ a. omega (arith, above i a g) in
      let same : i ≡ j = omega arith in
      let here : m ≡ f j = q ∙ ap f same in
      let rest : (k : ℕ) → j ≤ k → k < n → m ≤ f k = λ k a d. elim (dec_lt j k) [
        | yes o ↦ omega (arith, above k o d)
        | no o ↦
            let is : k ≡ j = omega arith in rw (is, here) (omega arith)
      ] in
      rising-with xs m e ∙ ap (λ ys. ys ++ (m ∷ [])) (h j (omega arith) (λ k a. omega (arith, rises k j a l)) rest) ∙ ap (λ r. firsts f j ++ (r ∷ [])) here

  below-without : (m : ℕ) → Below xs f n m → has xs m ≡ false → Below xs f n (suc m)
  below-without m h e j l below above =
      let other : (i : ℕ) → i < j → f i ≡ m → ⊥ = λ i a q. false≢true (sym e ∙ ap (has xs) (sym q) ∙ held i (omega arith)) in
      rising-without xs m e ∙ h j l (λ i a. let d = other i a in omega (arith, below i a)) (λ i a d. omega (arith, above i a d))

  below_none : Below xs f n 0
  unfolding rising firsts
  below_none zero l below above = refl
  below_none (suc j) l below above = absurd (omega (arith, below 0 (omega arith)))

  below_all : (m : ℕ) → Below xs f n m
  below_all zero = below_none
  below_all (suc m) = go (has xs m) refl (below_all m)
    where
      go : (b : Bool) → has xs m ≡ b → Below xs f n m → Below xs f n (suc m)
      go true e h = below-with m h e
      go false e h = below-without m h e

  pub rising-are : (m : ℕ) → ((i : ℕ) → i < n → f i < m) → rising xs m ≡ firsts f n
  rising-are m below = below_all m n (omega arith) below (λ i a d. absurd (omega arith))
