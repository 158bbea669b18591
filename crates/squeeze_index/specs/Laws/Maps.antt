-- An index with values: one key more, or a key whose value is changed.
use Rattle.std.specs.Prelude.{ℕ, ◌+◌, ◌-◌, ◌≤◌, ◌<◌, ◌≡◌, List, [], ◌∷◌, true, false, get_or, Result, Ok, Err}
use Rattle.std.proofs.Common.{sym, ap, ◌∙◌, ⊎_elim, arith}
use Rattle.std.proofs.Math.Decide.{dec_lt}
use Rattle.format.specs.String.{among}
use Rattle.format.proofs.Laws.Names.{among-rest, among-either}
use Rattle.names.specs.Index.{entry, Represents, Within, Between, Spotted}
use Rattle.names.specs.Laws.Index.{nothing-met, found-met, missing-not-met, missing-answers}
use Rattle.squeeze_index.specs.Maps.{Maps, Adds}

-- what the spot says where a key was sought
module _ {r : Result ℕ ℕ} {i : ℕ} where
  pub found_below : {n : ℕ} → r ≡ Ok i → Within n r → i < n
  found_below e h = rw e at h

  pub missing-within : {n : ℕ} → r ≡ Err i → Within n r → i ≤ n
  missing-within e h = rw e at h

  module _ (key : ℕ → List ℕ) (index : List ℕ) (n p : ℕ) where
    pub found-entry : r ≡ Ok i → Spotted key index n p r → entry key index i ≡ key p
    found-entry e h = rw e at h

    pub missing-between : r ≡ Err i → Spotted key index n p r → Between key index n (key p) i i
    missing-between e h = rw e at h

pub maps_none : (key : ℕ → List ℕ) (index values : List ℕ) (value : List ℕ → ℕ) → Maps key index values 0 [] value
maps_none key index values value = record { known = nothing-met key index; valued = λ i l. absurd (omega arith) }

still-met : {key : ℕ → List ℕ} {index : List ℕ} {n : ℕ} {before : List (List ℕ)} {t : List ℕ} → Represents key index n before → among t before ≡ true
    → Represents key index n (t ∷ before)
still-met {before = before} {t} h met = record {
  rising = h.rising;
  exact = λ u. (
    λ held. among-rest u t before ((h.exact u).0 held),
    λ e. (h.exact u).1 (⊎_elim (λ same. rw same met) (λ was. was) (among-either u t before e)),
  );
}

-- a key that was met before
pub maps-again : {key : ℕ → List ℕ} {index values : List ℕ} {n : ℕ} {before : List (List ℕ)} {value : List ℕ → ℕ} {t : List ℕ}
    → Maps key index values n before value → among t before ≡ true → Maps key index values n (t ∷ before) value
maps-again h met = record { known = still-met h.known met; valued = h.valued }

module _ {key : ℕ → List ℕ} {index values : List ℕ} {n : ℕ} {before : List (List ℕ)} {value : List ℕ → ℕ} (h : Maps key index values n before value) (p : ℕ) where
  -- the key of p is that of an entry
  module _ {i : ℕ} (l : i < n) (e : entry key index i ≡ key p) where
    pub maps-met : among (key p) before ≡ true
    maps-met = found-met h.known l e

    pub maps-value : get_or values i 0 ≡ value (key p)
    maps-value = h.valued i l ∙ ap value e

  -- it is not, and becomes that of one
  module _ {i : ℕ} (spot : Between key index n (key p) i i) where
    pub maps-missing : among (key p) before ≡ false
    maps-missing = missing-not-met h.known spot

    module _ {index' values' : List ℕ} {v : ℕ} (l : i ≤ n) (adds : Adds index index' values values' n i p v) (is : v ≡ value (key p)) where
      new-valued : (k : ℕ) → k < n + 1 → get_or values' k 0 ≡ value (entry key index' k)
      new-valued k g = go (dec_lt k i) (dec_lt i k)
        where
          go : Dec (k < i) → Dec (i < k) → get_or values' k 0 ≡ value (entry key index' k)
          go (yes a) d =
              adds.values-too.below k a ∙ h.valued k (omega arith) ∙ ap (λ x. value (key x)) (sym (adds.entries.below k a))
          go (no a) (yes d) =
              let e : k - 1 + 1 ≡ k = omega arith in
              rw e at (adds.values-too.above (k - 1) (omega arith) (omega arith)) ∙ h.valued (k - 1) (omega arith)
              ∙ ap (λ x. value (key x)) (sym (rw e at (adds.entries.above (k - 1) (omega arith) (omega arith))))
          go (no a) (no d) =
              let e : k ≡ i = omega arith in
              ap (λ j. get_or values' j 0) e ∙ adds.values-too.here ∙ is ∙ ap (λ x. value (key x)) (sym adds.entries.here ∙ ap (λ j. get_or index' j 0) (sym e))

      pub maps-more : Maps key index' values' (n + 1) (key p ∷ before) value
      maps-more = record { known = (missing-answers h.known spot l adds.entries).after; valued = new-valued }
