-- An index of record offsets.
use Rattle.std.specs.Prelude.{ℕ, ◌≤◌, ◌≡◌, List, [], ◌∷◌, length, get_or}
use Rattle.format.specs.String.{among}
use Rattle.names.specs.Index.{Represents}
use Rattle.catalogue.specs.Listed.{has, firsts, offset_order}

-- the first n entries rise and are the records rs, however often these were met
pub record Gathered (index : List ℕ) (n : ℕ) (rs : List ℕ) : Type 0 where
  pub few : n ≤ length rs
  pub met : List (List ℕ)
  pub known : Represents (λ p. p ∷ []) index n met
  pub same : (r : ℕ) → among (r ∷ []) met ≡ has rs r

-- they are all records, by rising offset
abbrev pub Ordered : List ℕ → List ℕ → ℕ → Type 0
Ordered s index n = offset_order s ≡ firsts (λ i. get_or index i 0) n
