-- The words of images, as they are stored and one image after the other; which directory one names.
use Rattle.std.specs.Prelude.{ℕ, ◌+◌, ◌≤◌, ◌<◌, ◌≡◌, List, [], ◌∷◌, true, length, take, drop, set}
use Rattle.std.proofs.Common.{append_assoc, add-one, arith, ne_eqb, ltb-true, drop_at, length-take-le}
use Rattle.std.proofs.Math.Bool.{and-eq-true_iff}
use Rattle.std.proofs.lemmas.List.Edits.{sets-eq}
use Rattle.format.specs.Number.{be}
use Rattle.format.specs.Header.{directories}
use Rattle.format.specs.Record.{first_word, image_words, valid_index, valid_image}

-- two words stored side by side, and what stood after them
pub two-stored : (ws : List ℕ) (i a b : ℕ) → i + 2 ≤ length ws → drop i (set (set ws i a) (i + 1) b) ≡ a ∷ b ∷ drop (i + 2) ws
two-stored ws i a b h =
    rw (add-one i, sets-eq (a ∷ b ∷ []) ws i h, append_assoc) (drop_at (take i ws) _ i (length-take-le i ws (omega arith)))

-- the words of one more image before the rest
pub words-cons : (s : List ℕ) (n p : ℕ) (m : ℕ) → n ≡ m + 1
    → image_words n s p ≡ first_word s p ∷ be 4 s (p + 4) ∷ image_words m s (p + 8)
unfolding image_words
words-cons s n p m e = rw (e, add-one m)

-- an image that keeps rule 11 names a directory, if there are any
pub names-directory : (s : List ℕ) (p : ℕ) → valid_image s p ≡ true → (directories s ≡ 0 → ⊥) → be 2 s p < directories s
names-directory s p right some = ltb-true _ _ (rw (ne_eqb _ _ some) at ((and-eq-true_iff (valid_index (directories s) (be 2 s p)) _).0 right).0)
