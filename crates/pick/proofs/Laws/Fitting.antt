-- Whether an image fits, by its index; and the first image of a list that passes a test.
use Prim.Native.Nat.{ℕ, zero, suc, ◌+◌, ◌-◌, ◌*◌, ◌<◌}
use Rattle.std.specs.Prelude.{◌≡◌, refl, List, Bool, true, false, eqb}
use Rattle.std.proofs.Common.{sym, ◌∙◌, ne_eqb, eqb-true, ltb-true}
use Rattle.std.proofs.Math.Numerals.{add-one}
use native.Mathlib.Omega.{arith}
use Rattle.format.specs.Number.{be}
use Rattle.format.specs.Record.{valid_index}
use Rattle.format.proofs.Laws.First.{at_first, at-later}
use Rattle.pick.specs.Pick.{sizes_of, serves, fits, first_image}

-- an index that keeps rule 11 names a directory, or is 0xFFFF
pub index_below : (n i : ℕ) → valid_index n i ≡ true → (i ≡ 0xFFFF → ⊥) → i < n
index_below n i valid real = go (eqb n 0) refl
  where
    go : (none : Bool) → eqb n 0 ≡ none → i < n
    go true e = absurd (real (eqb-true _ _ (rw e at valid)))
    go false e = ltb-true _ _ (rw e at valid)

-- whether an image fits, by its index
module _ (w : List ℕ) (size scale : ℕ) (s : List ℕ) (p : ℕ) where
  pub fits-nowhere : be 2 s p ≡ 0xFFFF → fits w size scale s p ≡ false
  unfolding fits
  fits-nowhere e = rw e

  pub fits-there : (be 2 s p ≡ 0xFFFF → ⊥) → fits w size scale s p ≡ serves (sizes_of w (be 2 s p)) size scale
  unfolding fits
  fits-there real = rw (ne_eqb _ _ real)

-- n images from p on: none is left, the first passes the test, or it does not
module _ (test : ℕ → Bool) (p n : ℕ) where
  pub image-none : n ≡ 0 → first_image test n p ≡ 0
  unfolding first_image
  image-none e = rw e

  pub image-here : 0 < n → test p ≡ true → first_image test n p ≡ p
  unfolding first_image
  image-here some e = let more : n ≡ suc (n - 1) = omega arith in rw (more, e)

  pub image-later : (m : ℕ) → n ≡ m + 1 → test p ≡ false → first_image test n p ≡ first_image test m (p + 8)
  unfolding first_image
  image-later m more e = rw (more, add-one m, e)

module _ (test : ℕ → Bool) where
  -- image i of n images from p on is the first that passes
  pub image-at : (n p i : ℕ) → i < n → test (p + 8 * i) ≡ true → ((j : ℕ) → j < i → test (p + 8 * j) ≡ false) → first_image test n p ≡ p + 8 * i
  image-at n p zero below here before = rw (at_first p 8) (image-here test p n below (rw (at_first p 8) at here))
  image-at n p (suc i) below here before =
      image-later test p n (n - 1) (omega arith) (rw (at_first p 8) at (before 0 (omega arith)))
      ∙ rw (at-later p 8 i) (image-at (n - 1) (p + 8) i (omega arith) (rw (← (at-later p 8 i)) here) (λ j l. rw (← (at-later p 8 j)) (before (suc j) (omega arith))))

  -- none passes
  pub image-nowhere : (n p : ℕ) → ((j : ℕ) → j < n → test (p + 8 * j) ≡ false) → first_image test n p ≡ 0
  image-nowhere zero p none = image-none test p 0 refl
  image-nowhere (suc n) p none =
      image-later test p (suc n) n (omega arith) (rw (at_first p 8) at (none 0 (omega arith)))
      ∙ image-nowhere n (p + 8) (λ j l. rw (← (at-later p 8 j)) (none (suc j) (omega arith)))

  -- an image does not stand at 0, so 0 says that the first does not pass, and none does
  first-fails : (n p : ℕ) → 0 < p → first_image test (suc n) p ≡ 0 → test p ≡ false
  first-fails n p some e = go (test p) refl
    where
      go : (b : Bool) → test p ≡ b → test p ≡ false
      go true h = absurd (omega (arith, image-here test p (suc n) (omega arith) h))
      go false h = h

  pub nowhere-image : (n p : ℕ) → 0 < p → first_image test n p ≡ 0 → (j : ℕ) → j < n → test (p + 8 * j) ≡ false
  nowhere-image zero p some e j l = absurd (omega arith)
  nowhere-image (suc n) p some e zero l = rw (at_first p 8) (first-fails n p some e)
  nowhere-image (suc n) p some e (suc j) l =
      let rest = sym (image-later test p (suc n) n (omega arith) (first-fails n p some e)) ∙ e in
      rw (at-later p 8 j) (nowhere-image n (p + 8) (omega arith) rest j (omega arith))
