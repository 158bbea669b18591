-- The paths that are kept: how many, that each is allowed, and that each stands at its new index.
use Prim.Native.Nat.{ℕ, zero, suc, ◌≤◌, ◌<◌}
use Rattle.std.specs.Prelude.{◌≡◌, refl, true, length, get_or}
use Rattle.std.proofs.Common.{◌∙◌, add-zero, arith, get_or-append-add}
use mathlib.Core.List.{List, [], ◌∷◌, ◌++◌}
use Rattle.std.proofs.Math.Decide.{ℕ_discrete}
use Rattle.std.proofs.Math.ListN.{length-append, get_or-append}
use Rattle.format.specs.Bytes.{joined}
use Rattle.format.specs.Fault.{if_kept}
use Rattle.format.specs.Header.{directories, path_of, path_fault}
use Rattle.format.specs.Segments.{allowed_path}
use Rattle.catalogue.specs.Catalogue.{Each}
use Rattle.catalogue.proofs.Laws.Icons.{path-allowed}
use Rattle.salvage_spec.specs.Salvage.{paths_below, new_index, catalogue}
use Rattle.salvage_spec.proofs.Laws.Lists.{few-joined, one-or-none, each-joined}

last-at : {A : Type 0} (xs : List (List A)) (x : List A) → get_or (xs ++ x ∷ []) (length xs) [] ≡ x
last-at xs x = rw (add-zero (length xs)) at (get_or-append-add xs (x ∷ []) 0 [])

module _ (s : List ℕ) where
  pub paths-few : (n : ℕ) → length (paths_below s n) ≤ n
  unfolding paths_below
  paths-few n = few-joined _ n (λ i l. one-or-none (path_fault s i).number (path_of s i))

  pub paths-good : (n : ℕ) → Each (λ p. allowed_path p ≡ true) (paths_below s n)
  unfolding paths_below
  paths-good n = each-joined _ _ n (λ i l. go i (path_fault s i).number refl)
    where
      go : (i x : ℕ) → (path_fault s i).number ≡ x
          → Each (λ p. allowed_path p ≡ true) (elim x as (λ y. List (List ℕ)) [ zero ↦ path_of s i ∷ [] | suc y ↦ [] ])
      go i zero e = (path-allowed s i e, tt)
      go i (suc x) e = tt

  -- a kept directory has its new index below the count of the kept ones
  pub index_below : (n i : ℕ) → i < n → (path_fault s i).number ≡ 0 → new_index s i < length (paths_below s n)
  unfolding paths_below joined
  index_below zero i l e = absurd (omega arith)
  index_below (suc n) i l e = elim (ℕ_discrete i n) [
    | yes q ↦ rw (← q, e) (omega (arith, length-append (paths_below s i) (path_of s i ∷ [])))
    | no a ↦ omega (arith, length-append (paths_below s n) (if_kept (path_fault s n) (path_of s n ∷ []) []), index_below n i (omega arith) e)
  ]

  -- and its path stands there
  path-at : (n i : ℕ) → i < n → (path_fault s i).number ≡ 0 → get_or (paths_below s n) (new_index s i) [] ≡ path_of s i
  unfolding paths_below joined
  path-at zero i l e = absurd (omega arith)
  path-at (suc n) i l e = elim (ℕ_discrete i n) [
    | yes q ↦ rw (← q, e) (last-at (paths_below s i) (path_of s i))
    | no a ↦ get_or-append (paths_below s n) _ [] (new_index s i) (index_below n i (omega arith) e) ∙ path-at n i (omega arith) e
  ]

  pub closes-up : (i : ℕ) → i < directories s → (path_fault s i).number ≡ 0 → get_or (catalogue s).paths (new_index s i) [] ≡ path_of s i
  unfolding catalogue
  closes-up = path-at (directories s)
