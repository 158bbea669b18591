-- The table of new indexes, one directory after the other, and what it says of an image.
use Rattle.std.specs.Prelude.{ℕ, zero, suc, ◌+◌, ◌≤◌, ◌<◌, ◌≡◌, refl, true, false, length, get_or, set}
use Rattle.std.proofs.Common.{sym, ap, ◌∙◌, add-one, arith, get_or-set_same, get_or-set_other}
use mathlib.Core.List.{List, [], ◌∷◌, append-nil}
use Rattle.std.proofs.Math.Decide.{ℕ_discrete}
use borrow.Author.Tests.{ne_eqb}
use Rattle.std.proofs.Math.ListN.{length-append}
use Rattle.format.specs.Number.{be}
use Rattle.format.specs.Bytes.{joined}
use Rattle.format.specs.Header.{directories, path_of, path_fault}
use Rattle.format.specs.Record.{valid_image}
use Rattle.format.proofs.Laws.Faults.{broken-takes}
use Rattle.format.proofs.Laws.Images.{names-directory}
use Rattle.salvage_spec.specs.Salvage.{paths_below, new_index, reindexed, kept_image}
use Rattle.salvage_spec.proofs.Laws.Paths.{paths-few, index_below}
use Rattle.salvage_paths.specs.Closed.{ClosedTo, Closes}

module _ (s : List ℕ) (i : ℕ) where
  next-kept : (path_fault s i).number ≡ 0 → new_index s (suc i) ≡ new_index s i + 1
  unfolding paths_below joined
  next-kept e = rw e (omega (arith, length-append (paths_below s i) (path_of s i ∷ [])))

  next-gone : ((path_fault s i).number ≡ 0 → ⊥) → new_index s (suc i) ≡ new_index s i
  unfolding paths_below joined
  next-gone bad = rw (broken-takes (path_fault s i) (path_of s i ∷ []) [] bad, append-nil (paths_below s i))

pub closed_none : (s xs : List ℕ) → ClosedTo s xs 0 0
unfolding paths_below joined
closed_none s xs = record { count = refl; stays = λ i l. absurd (omega arith); gone = λ i l. absurd (omega arith) }

module _ {s xs : List ℕ} {n c : ℕ} (h : ClosedTo s xs n c) (room : n < length xs) where
  pub closed-kept : (path_fault s n).number ≡ 0 → ClosedTo s (set xs n c) (n + 1) (c + 1)
  closed-kept e = rw (add-one n) (record {
    count = omega (arith, h.count, next-kept s n e);
    stays = λ i l q. elim (ℕ_discrete i n) [
      | yes a ↦ rw a (get_or-set_same xs n c 0 room ∙ h.count)
      | no a ↦ get_or-set_other xs n i c 0 a ∙ h.stays i (omega arith) q
    ];
    gone = λ i l q. elim (ℕ_discrete i n) [ yes a ↦ absurd (q (rw a e)) | no a ↦ get_or-set_other xs n i c 0 a ∙ h.gone i (omega arith) q ];
  })

  pub closed-gone : ((path_fault s n).number ≡ 0 → ⊥) → ClosedTo s (set xs n 0xFFFF) (n + 1) c
  closed-gone bad = rw (add-one n) (record {
    count = h.count ∙ sym (next-gone s n bad);
    stays = λ i l q. elim (ℕ_discrete i n) [ yes a ↦ absurd (bad (rw a at q)) | no a ↦ get_or-set_other xs n i 0xFFFF 0 a ∙ h.stays i (omega arith) q ];
    gone = λ i l q. elim (ℕ_discrete i n) [
      | yes a ↦ rw a (get_or-set_same xs n 0xFFFF 0 room)
      | no a ↦ get_or-set_other xs n i 0xFFFF 0 a ∙ h.gone i (omega arith) q
    ];
  })

-- what becomes of an image on which rule 11 does not stand: with no directories it stays, and else
-- it goes with its directory
module _ (s : List ℕ) (p : ℕ) (right : valid_image s p ≡ true) where
  pub stays_plain : directories s ≡ 0 → kept_image s p ≡ reindexed s p (be 2 s p) ∷ []
  unfolding kept_image
  stays_plain e = rw (kept_image, right, e)

  module _ (some : directories s ≡ 0 → ⊥) where
    pub stays-with : (path_fault s (be 2 s p)).number ≡ 0 → kept_image s p ≡ reindexed s p (new_index s (be 2 s p)) ∷ []
    unfolding kept_image
    stays-with e = rw (kept_image, right, ne_eqb _ _ some, e)

    pub goes_with : ((path_fault s (be 2 s p)).number ≡ 0 → ⊥) → kept_image s p ≡ []
    unfolding kept_image
    goes_with bad = rw (kept_image, right, ne_eqb _ _ some) (broken-takes (path_fault s (be 2 s p)) _ _ bad)

    -- the table tells which: a new index is below the count of directories, which is at most 65,535
    module _ {xs : List ℕ} (c : Closes s xs) (few : directories s ≤ 65535) where
      pub told-goes : get_or xs (be 2 s p) 0 ≡ 0xFFFF → kept_image s p ≡ []
      told-goes e = goes_with (λ z.
          omega (arith, c.closed.stays (be 2 s p) (names-directory s p right some) z, index_below s (directories s) (be 2 s p) (names-directory s p right some) z, paths-few s (directories s)))

      pub told-stays : (get_or xs (be 2 s p) 0 ≡ 0xFFFF → ⊥) → kept_image s p ≡ reindexed s p (get_or xs (be 2 s p) 0) ∷ []
      told-stays other = go (path_fault s (be 2 s p)).number refl
        where
          go : (x : ℕ) → (path_fault s (be 2 s p)).number ≡ x → kept_image s p ≡ reindexed s p (get_or xs (be 2 s p) 0) ∷ []
          go zero e = stays-with e ∙ ap (λ i. reindexed s p i ∷ []) (sym (c.closed.stays (be 2 s p) (names-directory s p right some) e))
          go (suc x) e = absurd (other (c.closed.gone (be 2 s p) (names-directory s p right some) (λ z. omega arith)))

-- an image that breaks rule 11 is not kept
pub bad-goes : (s : List ℕ) (p : ℕ) → valid_image s p ≡ false → kept_image s p ≡ []
unfolding kept_image
bad-goes s p e = rw (kept_image, e)
