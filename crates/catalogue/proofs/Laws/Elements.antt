-- What holds of each element: of the first n that a function gives, of a rising order, and of what
-- a function makes of a list.
use Prim.Native.Nat.{ℕ, zero, suc, ◌≤◌, ◌<◌}
use Rattle.std.specs.Prelude.{◌≡◌, Bool, ◌||◌, length, get_or, eqb, if◌then◌else◌}
use Rattle.std.proofs.Math.Path.{refl}
use Rattle.std.proofs.Common.{sym, ap, ◌∙◌, arith, eqb-true, length-append}
use mathlib.Core.List.{List, [], ◌∷◌, ◌++◌, map}
use Rattle.std.proofs.Math.Bool.{true, false}
use Rattle.std.proofs.Math.Decide.{ℕ_discrete}
use Rattle.std.proofs.Math.ListN.{get_or-append}
use Rattle.std.proofs.lemmas.List.{get_or_at}
use Rattle.catalogue.specs.Catalogue.{Each}
use Rattle.catalogue.specs.Listed.{has, rising, firsts}
use Rattle.catalogue.proofs.Laws.Allowed.{each_at}

each_snoc : {A : Type 0} (P : A → Type 0) (xs : List A) (x : A) → Each P xs → P x → Each P (xs ++ (x ∷ []))
each_snoc P [] x h p = (p, tt)
each_snoc P (y ∷ xs) x h p = (h.0, each_snoc P xs x h.1 p)

pub each_map : {A B : Type 0} (P : B → Type 0) (f : A → B) (xs : List A) → Each (λ x. P (f x)) xs → Each P (map f xs)
each_map P f [] h = tt
each_map P f (x ∷ xs) h = (h.0, each_map P f xs h.1)

pub each_first : {A : Type 0} (P : A → Type 0) (f : ℕ → A) (n : ℕ) → ((i : ℕ) → i < n → P (f i)) → Each P (firsts f n)
unfolding firsts
each_first P f zero h = tt
each_first P f (suc n) h = each_snoc P (firsts f n) (f n) (each_first P f n (λ i l. h i (omega arith))) (h n (omega arith))

module _ (xs : List ℕ) where
  -- a rising order holds numbers of the list that are below its bound
  pub each-rising : (P : ℕ → Type 0) (n : ℕ) → ((r : ℕ) → r < n → has xs r ≡ true → P r) → Each P (rising xs n)
  unfolding rising
  each-rising P zero h = tt
  each-rising P (suc n) h = go (has xs n) refl (each-rising P n (λ r l e. h r (omega arith) e))
    where
      go : (b : Bool) → has xs n ≡ b → Each P (rising xs n) → Each P (if b then rising xs n ++ (n ∷ []) else rising xs n)
      go true e g = each_snoc P (rising xs n) n g (h n (omega arith) e)
      go false e g = g

  -- and each before the next
  pub rising-rises : (n i j : ℕ) → i < j → j < length (rising xs n) → get_or (rising xs n) i 0 < get_or (rising xs n) j 0
  unfolding rising
  rising-rises zero i j l g = absurd (omega arith)
  rising-rises (suc n) i j l g = go (has xs n) g (rising-rises n i j l)
    where
      ys : List ℕ
      ys = rising xs n

      below : {k : ℕ} → k < length ys → get_or ys k 0 < n
      below {k} h = each_at (λ r. r < n) ys 0 k (each-rising (λ r. r < n) n (λ r d e. d)) h

      go : (b : Bool) → j < length (if b then ys ++ (n ∷ []) else ys) → (j < length ys → get_or ys i 0 < get_or ys j 0)
          → get_or (if b then ys ++ (n ∷ []) else ys) i 0 < get_or (if b then ys ++ (n ∷ []) else ys) j 0
      go true h before =
          let size = length-append ys (n ∷ []) in
          let early : get_or (ys ++ (n ∷ [])) i 0 ≡ get_or ys i 0 = get_or-append ys (n ∷ []) 0 i (omega arith) in
          elim (ℕ_discrete j (length ys)) [
            | yes e ↦ let late = get_or_at ys n [] 0 j (sym e) in let b = below {k = i} (omega arith) in omega arith
            | no a ↦ let late = get_or-append ys (n ∷ []) 0 j (omega arith) in let b = before (omega arith) in omega arith
          ]
      go false h before = before h

  -- and all of these
  pub rising-all : (n r : ℕ) → r < n → has xs r ≡ true → (i : ℕ) × (i < length (rising xs n)) × (get_or (rising xs n) i 0 ≡ r)
  unfolding rising
  rising-all zero r l e = absurd (omega arith)
  rising-all (suc n) r l e = go (has xs n) refl (rising-all n r)
    where
      ys : List ℕ
      ys = rising xs n

      go : (b : Bool) → has xs n ≡ b → (r < n → has xs r ≡ true → (i : ℕ) × (i < length ys) × (get_or ys i 0 ≡ r))
          → (i : ℕ) × (i < length (if b then ys ++ (n ∷ []) else ys)) × (get_or (if b then ys ++ (n ∷ []) else ys) i 0 ≡ r)
      go b q before = elim (ℕ_discrete r n) [
        | yes same ↦ let here : b ≡ true = sym q ∙ ap (has xs) (sym same) ∙ e in
            rw here (length ys, omega (arith, length-append ys (n ∷ [])), get_or_at ys n [] 0 (length ys) refl ∙ sym same)
        | no other ↦ let (i, g, h) = before (omega arith) e in further b i g h
      ]
        where
          further : (b : Bool) (i : ℕ) → i < length ys → get_or ys i 0 ≡ r
              → (i : ℕ) × (i < length (if b then ys ++ (n ∷ []) else ys)) × (get_or (if b then ys ++ (n ∷ []) else ys) i 0 ≡ r)
          further true i g h = (i, omega (arith, length-append ys (n ∷ [])), get_or-append ys (n ∷ []) 0 i g ∙ h)
          further false i g h = (i, g, h)

-- a rising order has no more numbers than the list: one number more in the list makes at most one
-- more in it, and none below that number
grown : (x : ℕ) (xs : List ℕ) (n : ℕ)
    → (n ≤ x → length (rising (x ∷ xs) n) ≤ length (rising xs n)) × (length (rising (x ∷ xs) n) ≤ suc (length (rising xs n)))
unfolding rising has
grown x xs zero = (λ l. omega arith, omega arith)
grown x xs (suc n) = go (eqb x n) refl (has xs n) (grown x xs n)
  where
    ys : List ℕ
    ys = rising (x ∷ xs) n

    zs : List ℕ
    zs = rising xs n

    go : (b : Bool) → eqb x n ≡ b → (d : Bool) → (n ≤ x → length ys ≤ length zs) × (length ys ≤ suc (length zs))
        → (suc n ≤ x → length (if b || d then ys ++ (n ∷ []) else ys) ≤ length (if d then zs ++ (n ∷ []) else zs))
        × (length (if b || d then ys ++ (n ∷ []) else ys) ≤ suc (length (if d then zs ++ (n ∷ []) else zs)))
    go true e true h = let q = eqb-true x n e in let a = h.0 (omega arith) in
        (λ l. omega arith, omega (arith, length-append ys (n ∷ []), length-append zs (n ∷ [])))
    go true e false h = let q = eqb-true x n e in let a = h.0 (omega arith) in (λ l. omega arith, omega (arith, length-append ys (n ∷ [])))
    go false e true h = (
      λ l. let a = h.0 (omega arith) in omega (arith, length-append ys (n ∷ []), length-append zs (n ∷ [])),
      omega (arith, length-append ys (n ∷ []), length-append zs (n ∷ []), h.1),
    )
    go false e false h = (λ l. h.0 (omega arith), h.1)

rising_none : (n : ℕ) → rising [] n ≡ []
unfolding rising has
rising_none zero = refl
rising_none (suc n) = rising_none n

pub rising-few : (xs : List ℕ) (n : ℕ) → length (rising xs n) ≤ length xs
rising-few [] n = rw (rising_none n) (omega arith)
rising-few (x ∷ xs) n = omega (arith, (grown x xs n).1, rising-few xs n)
