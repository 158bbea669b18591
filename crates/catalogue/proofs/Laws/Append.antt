-- What one icon more changes in the chains: the field that leads to it, and no other. It is its
-- bucket's where the writer remembers no record of the bucket, and else the CHAIN_OFFSET of the
-- record that it remembers.
use Prim.Native.Nat.{ℕ, zero, suc, ◌+◌, ◌-◌, ◌≤◌, ◌<◌}
use Rattle.std.specs.Prelude.{◌≡◌, Bool, true, false, eqb, if◌then◌else◌}
use Rattle.std.proofs.Math.Path.{refl, sym}
use Rattle.std.proofs.Common.{ap, ◌∙◌, eqb-true}
use Rattle.std.proofs.Math.Decide.{ℕ_discrete}
use native.Mathlib.Omega.{arith}
use Rattle.std.proofs.lemmas.Bool.{eqb-false}
use Rattle.format.specs.Layout.{end_value}
use Rattle.catalogue.specs.LaidOut.{first_in}
use Rattle.catalogue.specs.Append.{last_in}
use Rattle.catalogue.proofs.Laws.Chains.{first-here, first-later}

module _ (bucket record-at : ℕ → ℕ) where
  -- none of the icons from the i-th up to the n-th is of bucket k
  abbrev None : ℕ → ℕ → ℕ → Type 0
  None k i n = (j : ℕ) → i ≤ j → j < n → bucket j ≡ k → ⊥

  module _ (k : ℕ) where
    here : (i d : ℕ) → bucket i ≡ k → first_in bucket record-at k i (suc d) ≡ record-at i
    here i d = first-here bucket record-at k i d refl

    later : (i d : ℕ) → (bucket i ≡ k → ⊥) → first_in bucket record-at k i (suc d) ≡ first_in bucket record-at k (suc i) d
    later i d = first-later bucket record-at k i d refl

    -- one icon more, the n-th: of bucket k, where there was none; of another bucket; and where
    -- there was one already
    first-new : (i d : ℕ) {n : ℕ} → i + d ≡ n → None k i n → bucket n ≡ k → first_in bucket record-at k i (suc d) ≡ record-at n
    first-new i zero {n} e none own = let same : i ≡ n = omega arith in here i 0 (ap bucket same ∙ own) ∙ ap record-at same
    first-new i (suc d) e none own =
        later i (suc d) (none i (omega arith) (omega arith)) ∙ first-new (suc i) d (omega arith) (λ j l g. none j (omega arith) g) own

    first-other : (i d : ℕ) {n : ℕ} → i + d ≡ n → (bucket n ≡ k → ⊥) → first_in bucket record-at k i (suc d) ≡ first_in bucket record-at k i d
    unfolding first_in
    first-other i zero {n} e other = let same : i ≡ n = omega arith in later i 0 (rw same other)
    first-other i (suc d) e other = elim (ℕ_discrete (bucket i) k) [
      | yes h ↦ here i (suc d) h ∙ sym (here i d h)
      | no h ↦ later i (suc d) h ∙ first-other (suc i) d (omega arith) other ∙ sym (later i d h)
    ]

    first-stays : (i d j : ℕ) → i ≤ j → j < i + d → bucket j ≡ k → first_in bucket record-at k i (suc d) ≡ first_in bucket record-at k i d
    first-stays i zero j l g own = absurd (omega arith)
    first-stays i (suc d) j l g own = elim (ℕ_discrete (bucket i) k) [
      | yes h ↦ here i (suc d) h ∙ sym (here i d h)
      | no h ↦
          let behind : i ≡ j → ⊥ = λ e. h (ap bucket e ∙ own) in
          later i (suc d) h ∙ first-stays (suc i) d j (omega arith) (omega arith) own ∙ sym (later i d h)
    ]

    -- what the writer remembers of bucket k after n icons: nothing, or the record of the last of
    -- them
    pub data Last (n : ℕ) : ℕ → Type 0 where
      nothing : None k 0 n → Last n end_value
      last : (j : ℕ) → j < n → bucket j ≡ k → None k (suc j) n → Last n (record-at j)

    pub last-is : (n : ℕ) → Last n (last_in bucket record-at k n)
    unfolding last_in
    last-is zero = nothing (λ j l g. absurd (omega arith))
    last-is (suc n) = go (eqb (bucket n) k) refl (last-is n)
      where
        past : {i : ℕ} → (bucket n ≡ k → ⊥) → None k i n → None k i (suc n)
        past other none j g h e = elim (ℕ_discrete j n) [ yes same ↦ other (rw same at e) | no a ↦ none j g (omega arith) e ]

        go : (b : Bool) → eqb (bucket n) k ≡ b → {r : ℕ} → Last n r → Last (suc n) (if b then record-at n else r)
        go true e v = last n (omega arith) (eqb-true _ _ e) (λ j l g. absurd (omega arith))
        go false e (nothing none) = nothing (past (eqb-false _ _ e) none)
        go false e (last j l own none) = last j (omega arith) own (past (eqb-false _ _ e) none)

  -- the chains with the first n icons, and with one more
  abbrev first : ℕ → ℕ → ℕ
  first n k = first_in bucket record-at k 0 n

  abbrev next : ℕ → ℕ → ℕ
  next n j = first_in bucket record-at (bucket j) (suc j) (n - suc j)

  -- the icon begins its chain: the bucket's field leads to it, and all else is as it was
  pub record Begins (n : ℕ) : Type 0 where
    pub own-field : first (suc n) (bucket n) ≡ record-at n
    pub other-fields : (k : ℕ) → (bucket n ≡ k → ⊥) → first (suc n) k ≡ first n k
    pub chains : (j : ℕ) → j < n → next (suc n) j ≡ next n j

  -- it goes behind icon i: the CHAIN_OFFSET of that leads to it, and all else is as it was
  pub record Follows (n i : ℕ) : Type 0 where
    pub fields : (k : ℕ) → first (suc n) k ≡ first n k
    pub own-chain : next (suc n) i ≡ record-at n
    pub other-chains : (j : ℕ) → j < n → (j ≡ i → ⊥) → next (suc n) j ≡ next n j

  -- its own chain ends with it
  pub ends : (n : ℕ) → next (suc n) n ≡ end_value
  unfolding first_in
  ends n = let none : suc n - suc n ≡ 0 = omega arith in rw none

  module _ (n : ℕ) where
    one_more : {j : ℕ} → j < n → suc n - suc j ≡ suc (n - suc j)
    one_more l = omega arith

    other-field : (k : ℕ) → (bucket n ≡ k → ⊥) → first (suc n) k ≡ first n k
    other-field k other = first-other k 0 n (omega arith) other

    other-chain : (j : ℕ) → j < n → (bucket n ≡ bucket j → ⊥) → next (suc n) j ≡ next n j
    other-chain j l other = rw (one_more l) (first-other (bucket j) (suc j) (n - suc j) (omega arith) other)

    pub begins : None (bucket n) 0 n → Begins n
    begins none = record {
      own-field = first-new (bucket n) 0 n (omega arith) none refl;
      other-fields = other-field;
      chains = λ j l. other-chain j l (λ e. none j (omega arith) (omega arith) (sym e));
    }

    pub follows : (i : ℕ) → i < n → bucket i ≡ bucket n → None (bucket n) (suc i) n → Follows n i
    follows i l own none = record {
      fields = λ k. elim (ℕ_discrete (bucket n) k) [
        | yes e ↦ first-stays k 0 n i (omega arith) (omega arith) (own ∙ e)
        | no other ↦ other-field k other
      ];
      own-chain = rw (one_more l, own) (first-new (bucket n) (suc i) (n - suc i) (omega arith) none refl);
      other-chains = λ j g apart. elim (ℕ_discrete (bucket n) (bucket j)) [
        | yes e ↦
            let before : i < j → ⊥ = λ h. none j h (omega arith) (sym e) in
            rw (one_more g) (first-stays (bucket j) (suc j) (n - suc j) i (omega arith) (omega arith) (own ∙ e))
        | no other ↦ other-chain j g other
      ];
    }
