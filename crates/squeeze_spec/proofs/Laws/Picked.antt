-- The first uses of keys, as a list of their numbers: where each comes from, that their order
-- stays, and that all are there.
use Prim.Native.Nat.{ℕ, zero, suc, ◌<◌}
use Rattle.std.specs.Prelude.{◌≡◌, Bool, true, false, length, get_or}
use Rattle.std.proofs.Math.Path.{refl}
use Rattle.std.proofs.Common.{sym, ap, ◌∙◌, true≢false, arith, length-append}
use mathlib.Core.List.{List, [], ◌∷◌, ◌++◌, append-nil}
use Rattle.std.proofs.Math.Decide.{ℕ_discrete}
use Rattle.std.proofs.Math.ListN.{get_or-append}
use Rattle.std.proofs.lemmas.List.{get_or_at}
use Rattle.format.specs.Bytes.{joined}
use Rattle.catalogue.specs.Listed.{firsts}
use Rattle.squeeze_spec.specs.Uses.{is_first, added, stored_once}
use Rattle.squeeze_spec.proofs.Laws.Uses.{added-first, added-later}

module _ (key : ℕ → List ℕ) (f : ℕ → ℕ) where
  -- x is what the first use i gives
  pub record From (n x i : ℕ) : Type 0 where
    pub below : i < n
    pub first : is_first key i ≡ true
    pub gives : x ≡ f i

  -- xs is what the first uses below n give, in their order
  pub record Picked (n : ℕ) (xs : List ℕ) : Type 0 where
    pub one : (j : ℕ) → j < length xs → (i : ℕ) × From n (get_or xs j 0) i
    pub two : (j k : ℕ) → j < k → k < length xs → (i h : ℕ) × (i < h) × From n (get_or xs j 0) i × From n (get_or xs k 0) h
    pub found : (i : ℕ) → i < n → is_first key i ≡ true → (j : ℕ) × (j < length xs) × (get_or xs j 0 ≡ f i)

  from_suc : {n x i : ℕ} → From n x i → From (suc n) x i
  from_suc h = record { below = omega (arith, h.below); first = h.first; gives = h.gives }

  module _ {n : ℕ} {xs : List ℕ} (p : Picked n xs) where
    passed : is_first key n ≡ false → Picked (suc n) xs
    passed e = record {
      one = λ j l. let (i, h) = p.one j l in (i, from_suc h);
      two = λ j k l g. let (i, h, o, a, d) = p.two j k l g in (i, h, o, from_suc a, from_suc d);
      found = λ i l q. elim (ℕ_discrete i n) [ yes s ↦ absurd (true≢false (sym q ∙ ap (is_first key) s ∙ e)) | no a ↦ p.found i (omega arith) q ];
    }

    taken : is_first key n ≡ true → Picked (suc n) (xs ++ (f n ∷ []))
    taken e = record {
      one = λ j l. elim (ℕ_discrete j (length xs)) [
        | yes s ↦ (n, record { below = omega arith; first = e; gives = last j s })
        | no a ↦ let (i, h) = p.one j (less l a) in (i, rw (early j (less l a)) (from_suc h))
      ];
      two = λ j k l g. elim (ℕ_discrete k (length xs)) [
        | yes s ↦
            let (i, h) = p.one j (omega arith) in
            (i, n, h.below, rw (early j (omega arith)) (from_suc h), record { below = omega arith; first = e; gives = last k s })
        | no a ↦
            let (i, h, o, x, y) = p.two j k l (less g a) in
            (i, h, o, rw (early j (omega (arith, less g a))) (from_suc x), rw (early k (less g a)) (from_suc y))
      ];
      found = λ i l q. elim (ℕ_discrete i n) [
        | yes s ↦ (length xs, omega (arith, size), last (length xs) refl ∙ ap f (sym s))
        | no a ↦ let (j, o, h) = p.found i (omega arith) q in (j, omega (arith, size), early j o ∙ h)
      ];
    }
      where
        size : length (xs ++ (f n ∷ [])) ≡ suc (length xs)
        size = omega (arith, length-append xs (f n ∷ []))

        less : {j : ℕ} → j < length (xs ++ (f n ∷ [])) → (j ≡ length xs → ⊥) → j < length xs
        less l a = omega (arith, size)

        early : (j : ℕ) → j < length xs → get_or (xs ++ (f n ∷ [])) j 0 ≡ get_or xs j 0
        early j l = get_or-append xs (f n ∷ []) 0 j l

        last : (j : ℕ) → j ≡ length xs → get_or (xs ++ (f n ∷ [])) j 0 ≡ f n
        last j e = get_or_at xs (f n) [] 0 j (sym e)

  pub picked : (n : ℕ) → Picked n (stored_once key (λ i. f i ∷ []) n)
  unfolding joined
  picked zero = record { one = λ j l. absurd (omega arith); two = λ j k l g. absurd (omega arith); found = λ i l. absurd (omega arith) }
  picked (suc n) = go (is_first key n) refl (picked n)
    where
      ys : List ℕ
      ys = joined (added key (λ i. f i ∷ [])) n

      go : (b : Bool) → is_first key n ≡ b → Picked n ys → Picked (suc n) (ys ++ added key (λ i. f i ∷ []) n)
      go true e p = rw (added-first key (λ i. f i ∷ []) n e) (taken p e)
      go false e p = rw (added-later key (λ i. f i ∷ []) n e, append-nil ys) (passed p e)

  -- where each is the first use of its key, all stay
  pub all-picked : (n : ℕ) → ((i : ℕ) → i < n → is_first key i ≡ true) → stored_once key (λ i. f i ∷ []) n ≡ firsts f n
  unfolding joined firsts
  all-picked zero all = refl
  all-picked (suc n) all = rw (all-picked n (λ i l. all i (omega arith)), added-first key (λ i. f i ∷ []) n (all n (omega arith)))
