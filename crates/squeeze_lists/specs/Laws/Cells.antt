-- The cells of the table: which one says where its list is, and how they change from icon to icon.
use Rattle.std.specs.Prelude.{ℕ, suc, ◌+◌, ◌≤◌, ◌<◌, ◌≡◌, List, false, if◌then◌else◌}
use Rattle.std.proofs.Common.{sym, ap, ◌∙◌, true≢false, arith, lt-ltb, le-ltb}
use Rattle.std.proofs.Math.Decide.{dec_lt}
use Rattle.format.specs.Bytes.{bytes}
use Rattle.format.specs.Layout.{end_value}
use Rattle.format.proofs.Laws.Bytes.{joined_same}
use Rattle.squeeze_spec.specs.Uses.{first_use, is_first, place_of}
use Rattle.squeeze_spec.proofs.Laws.Uses.{use-most, use-first}
use Rattle.squeeze_lists.specs.Cells.{cell_to, cell, cells}

module _ (part : ℕ → List ℕ) (at : ℕ) where
  -- a list that is stored, and one that is not yet
  pub cell-stored : (b i : ℕ) → first_use part i < b → cell_to part at b i ≡ at + place_of part part i
  cell-stored b i l = ap (λ t. if t then at + place_of part part i else end_value) (lt-ltb _ _ l)

  pub cell-unstored : (b i : ℕ) → b ≤ first_use part i → cell_to part at b i ≡ end_value
  cell-unstored b i l = ap (λ t. if t then at + place_of part part i else end_value) (le-ltb _ _ l)

  pub cell-end : (b i : ℕ) → (at + place_of part part i ≡ end_value → ⊥) → cell_to part at b i ≡ end_value → b ≤ first_use part i
  cell-end b i real e = elim (dec_lt (first_use part i) b) [ yes l ↦ absurd (real (sym (cell-stored b i l) ∙ e)) | no l ↦ omega arith ]

  pub cell-real : (b i : ℕ) → (cell_to part at b i ≡ end_value → ⊥) → first_use part i < b
  cell-real b i real = elim (dec_lt (first_use part i) b) [ yes l ↦ l | no l ↦ absurd (real (cell-unstored b i (omega arith))) ]

  -- one more that is no first use changes nothing
  pub cell_same : (b : ℕ) → is_first part b ≡ false → (i : ℕ) → cell_to part at (suc b) i ≡ cell_to part at b i
  cell_same b later i = elim (dec_lt (first_use part i) b) [
    | yes l ↦ cell-stored (suc b) i (omega arith) ∙ sym (cell-stored b i l)
    | no l ↦
        let other : first_use part i ≡ b → ⊥ = λ e. true≢false (sym (use-first part i) ∙ ap (is_first part) e ∙ later) in
        cell-unstored (suc b) i (omega arith) ∙ sym (cell-unstored b i (omega arith))
  ]

  -- and one that is a first use, nothing before it
  pub cell-before : (b i : ℕ) → i < b → cell_to part at (suc b) i ≡ cell_to part at b i
  cell-before b i l = cell-stored (suc b) i (omega (arith, use-most part i)) ∙ sym (cell-stored b i (omega (arith, use-most part i)))

  module _ (a b n : ℕ) where
    -- cells that are passed, and cells that are not
    pub cell-passed : {i : ℕ} → i < n → cell part at a b n i ≡ cell_to part at b i
    cell-passed {i} l = ap (λ t. if t then cell_to part at b i else cell_to part at a i) (lt-ltb _ _ l)

    pub cell-ahead : {i : ℕ} → n ≤ i → cell part at a b n i ≡ cell_to part at a i
    cell-ahead {i} l = ap (λ t. if t then cell_to part at b i else cell_to part at a i) (le-ltb _ _ l)

  -- one more is passed
  pub cell_other : (a b n i : ℕ) → (i ≡ n → ⊥) → cell part at a b n i ≡ cell part at a b (suc n) i
  cell_other a b n i d = elim (dec_lt i n) [
    | yes l ↦ cell-passed a b n l ∙ sym (cell-passed a b (suc n) (omega arith))
    | no l ↦ cell-ahead a b n (omega arith) ∙ sym (cell-ahead a b (suc n) (omega arith))
  ]

  pub cell-own : (a b n : ℕ) → cell part at a b (suc n) n ≡ cell_to part at b n
  cell-own a b n = cell-passed a b (suc n) (omega arith)

  -- the whole table
  pub cells_same : (a b c d n k m : ℕ) → ((i : ℕ) → i < m → cell part at a b n i ≡ cell part at c d k i) → cells part at a b n m ≡ cells part at c d k m
  cells_same a b c d n k m same = joined_same (λ i. bytes 4 (cell part at a b n i)) (λ i. bytes 4 (cell part at c d k i)) m (λ i l. ap (bytes 4) (same i l))
