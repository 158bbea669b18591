-- The first use of a key, and that a part that is stored once stands at its first use.
use Prim.Native.Nat.{ℕ, zero, suc, ◌+◌, ◌≤◌, ◌<◌}
use Rattle.std.specs.Prelude.{◌≡◌, Bool, length, if◌then◌else◌}
use Rattle.std.proofs.Math.Path.{refl, ap}
use Rattle.std.proofs.Common.{sym, ◌∙◌, zero-add}
use mathlib.Core.List.{List, [], ◌++◌, append-nil}
use Rattle.std.proofs.Math.Bool.{true, false}
use Rattle.std.proofs.Math.Decide.{ℕ_discrete}
use native.Mathlib.Omega.{arith}
use borrow.Author.Tests.{ltb-true, ltb-false, eqb-true, eq-eqb}
use Rattle.std.proofs.Math.ListN.{length-append}
use Rattle.std.proofs.Math.Dec.{ltb}
use Rattle.format.specs.String.{same_bytes}
use Rattle.format.proofs.Laws.Names.{same-equal, other-unequal}
use Rattle.format.proofs.Laws.Below.{below_suc}
use Rattle.format.specs.Bytes.{joined}
use Rattle.catalogue.specs.LaidOut.{Stands}
use Rattle.catalogue.proofs.Laws.Stands.{stands-part, stands_at, stands_same}
use Rattle.squeeze_spec.specs.Uses.{first_with, first_use, is_first, added, stored_once, place_of}

-- e is the first below n with the key x, or n
pub record FirstWith (key : ℕ → List ℕ) (x : List ℕ) (n e : ℕ) : Type 0 where
  pub most : e ≤ n
  pub has : e < n → key e ≡ x
  pub none_before : (j : ℕ) → j < e → key j ≡ x → ⊥

module _ (key : ℕ → List ℕ) where
  module _ (x : List ℕ) where
    pub first-with : (n : ℕ) → FirstWith key x n (first_with key x n)
    unfolding first_with
    first-with zero = record { most = omega arith; has = λ l. absurd (omega arith); none_before = λ j l. absurd (omega arith) }
    first-with (suc n) = go (first_with key x n) (first-with n) (ltb (first_with key x n) n) refl (same_bytes (key n) x) refl
      where
        go : (e : ℕ) → FirstWith key x n e → (b : Bool) → ltb e n ≡ b → (d : Bool) → same_bytes (key n) x ≡ d
            → FirstWith key x (suc n) (elim b as (λ c. ℕ) [ true ↦ e | false ↦ if d then n else suc n ])
        go e h true p d q = let l = ltb-true e n p in record { most = omega arith; has = λ g. h.has l; none_before = h.none_before }
        go e h false p true q =
            let all : e ≡ n = omega (arith, ltb-false e n p, h.most) in
            record { most = omega arith; has = λ g. same-equal (key n) x q; none_before = λ j l. h.none_before j (omega arith) }
        go e h false p false q =
            let all : e ≡ n = omega (arith, ltb-false e n p, h.most) in
            record {
              most = omega arith;
              has = λ g. absurd (omega arith);
              none_before = below_suc (λ j l. h.none_before j (omega arith)) (other-unequal (key n) x q);
            }

    -- there is only one such
    pub first-with-is : {n e : ℕ} → FirstWith key x n e → first_with key x n ≡ e
    first-with-is {n} {e} h =
        let f = first-with n in
        let a : first_with key x n < e → ⊥ = λ l. h.none_before (first_with key x n) l (f.has (omega (arith, h.most))) in
        let d : e < first_with key x n → ⊥ = λ l. f.none_before e l (h.has (omega (arith, f.most))) in
        omega arith

  -- the first use of what i has for a key
  module _ (i : ℕ) where
    pub use-most : first_use key i ≤ i
    use-most = (first-with (key i) i).most

    pub use-same : key (first_use key i) ≡ key i
    use-same = elim (ℕ_discrete (first_use key i) i) [
      | yes e ↦ ap key e
      | no a ↦ (first-with (key i) i).has (omega (arith, use-most))
    ]

    -- a use with the same key and none before it is the first use
    pub use-is : {e : ℕ} → e ≤ i → key e ≡ key i → ((j : ℕ) → j < e → key j ≡ key i → ⊥) → first_use key i ≡ e
    use-is l same none = first-with-is (key i) (record { most = l; has = λ g. same; none_before = none })

    pub first-new : is_first key i ≡ true → (j : ℕ) → j < i → key j ≡ key i → ⊥
    first-new e j l same = (first-with (key i) i).none_before j (omega (arith, eqb-true (first_use key i) i e)) same

    pub new-first : ((j : ℕ) → j < i → key j ≡ key i → ⊥) → is_first key i ≡ true
    new-first none = eq-eqb _ _ (use-is (omega arith) refl none)

  pub use-first : (i : ℕ) → is_first key (first_use key i) ≡ true
  use-first i = new-first (first_use key i) (λ j l e. (first-with (key i) i).none_before j l (e ∙ use-same i))

  -- for a search among the first uses alone: one of them that has the same key is the first use
  pub use-found : (i : ℕ) {e : ℕ} → e ≤ i → is_first key e ≡ true → key e ≡ key i → first_use key i ≡ e
  use-found i {e} l first same = use-is i l same (λ j g h. first-new e first j g (h ∙ sym same))

  module _ (part : ℕ → List ℕ) where
    pub added-first : (i : ℕ) → is_first key i ≡ true → added key part i ≡ part i
    unfolding added
    added-first i e = rw e

    pub added-later : (i : ℕ) → is_first key i ≡ false → added key part i ≡ []
    unfolding added
    added-later i e = rw e

    -- one more: its part is stored, or nothing
    pub stored-first : (i : ℕ) → is_first key i ≡ true → stored_once key part (suc i) ≡ stored_once key part i ++ part i
    unfolding joined
    stored-first i e = ap (λ xs. joined (added key part) i ++ xs) (added-first i e)

    pub stored-later : (i : ℕ) → is_first key i ≡ false → stored_once key part (suc i) ≡ stored_once key part i
    unfolding joined
    stored-later i e = ap (λ xs. joined (added key part) i ++ xs) (added-later i e) ∙ append-nil _

    -- what is stored is as long as what is stored before and what is added
    pub stored_grows : (n : ℕ) {i : ℕ} → i < n → length (stored_once key part i) + length (added key part i) ≤ length (stored_once key part n)
    unfolding joined
    stored_grows zero l = absurd (omega arith)
    stored_grows (suc n) {i} l = let size = length-append (joined (added key part) n) (added key part n) in
        elim (ℕ_discrete i n) [
          | yes e ↦ rw e (omega arith)
          | no a ↦ let g : i < n = omega arith in omega (arith, stored_grows n g)
        ]

    -- the part of i stands where its first use is stored, if parts with the same key are the same
    module _ {i n : ℕ} (l : i < n) (same : part (first_use key i) ≡ part i) where
      at_first : added key part (first_use key i) ≡ part i
      at_first = added-first (first_use key i) (use-first i) ∙ same

      pub stored-stands : Stands (stored_once key part n) (place_of key part i) (part i)
      stored-stands =
          let whole : Stands (stored_once key part n) 0 (stored_once key part n) = record { rest = []; there = sym (append-nil (stored_once key part n)) } in
          let below : first_use key i < n = omega (arith, use-most i) in
          stands_same (stands_at (stands-part (added key part) n below whole) (zero-add _)) at_first

      pub stored-inside : place_of key part i + length (part i) ≤ length (stored_once key part n)
      stored-inside =
          let below : first_use key i < n = omega (arith, use-most i) in
          omega (arith, stored_grows n below, ap length at_first)
