-- An accepted cache without equal names is kept whole: its paths by index, and its icons in the
-- check's order, each with all its images.
use Prim.Native.Nat.{ℕ, zero, suc, ◌+◌, ◌≤◌, ◌<◌}
use Rattle.std.specs.Prelude.{◌≡◌, Bool, length, if◌then◌else◌}
use Rattle.std.proofs.Math.Path.{refl, sym, ap}
use Rattle.std.proofs.Common.{◌∙◌, arith}
use mathlib.Core.List.{List, [], ◌∷◌, ◌++◌, map, map-append}
use Rattle.std.proofs.Math.Bool.{true, false}
use borrow.Author.Tests.{eqb-false}
use Rattle.std.proofs.Math.Dec.{eqb}
use Rattle.format.specs.Number.{be}
use Rattle.format.specs.Bytes.{joined}
use Rattle.format.specs.Fault.{if_kept}
use Rattle.format.specs.Header.{directories, buckets, path_of, path_fault}
use Rattle.format.specs.Record.{images_at, images, valid_image, record_fault}
use Rattle.format.specs.Chain.{all_records}
use Rattle.format.specs.Words.{link, Holds, Accepted}
use Rattle.format.specs.declared.Reading.TheVariants.{Short}
use Rattle.format.proofs.Laws.Images.{names-directory}
use Rattle.format.proofs.Laws.Bytes.{joined_same}
use Rattle.format.proofs.Laws.Buckets.{lengths}
use Rattle.catalogue.specs.Row.{row, row_end}
use Rattle.catalogue.specs.Catalogue.{catalogue_is, icon_is}
use Rattle.catalogue.specs.Fields.{image_at, image_end}
use Rattle.catalogue.specs.Listed.{firsts, icon_of}
use Rattle.catalogue.proofs.Laws.Rows.{end-steps}
use Rattle.catalogue.proofs.Laws.Rising.{firsts-length}
use Rattle.salvage_spec.specs.Meetings.{met}
use Rattle.salvage_spec.specs.Salvage.{paths_below, new_index, reindexed, kept_image, image_place, icon, chain_icons, icons, catalogue}
use Rattle.salvage_spec.specs.Promise.{NoEqualNames, KeepsAll}
use Rattle.salvage_spec.proofs.Laws.Lists.{through}
use Rattle.salvage_spec.proofs.Laws.Sound.{sound-path, sound-image, holds-met, holds_kept, all-below, no_rows}

-- things in a row, joined one by one
module _ {A : Type 0} (what : ℕ → A) (next : ℕ → ℕ) where
  row_last : (n p : ℕ) → row what next (suc n) p ≡ row what next n p ++ (what (row_end next n p) ∷ [])
  unfolding row row_end
  row_last zero p = refl
  row_last (suc n) p = ap (λ l. what p ∷ l) (row_last n (next p))

  row-joined : (n p : ℕ) → joined (λ i. what (row_end next i p) ∷ []) n ≡ row what next n p
  unfolding joined row
  row-joined zero p = refl
  row-joined (suc n) p = ap (λ l. l ++ (what (row_end next n p) ∷ [])) (row-joined n p) ∙ sym (row_last n p)

module _ (s : List ℕ) (acc : Accepted Short s) where
  path-kept : (i : ℕ) → i < directories s → (path_fault s i).number ≡ 0
  path-kept i l = sound-path s i acc.tables-kept l

  paths-whole : (n : ℕ) → n ≤ directories s → paths_below s n ≡ firsts (path_of s) n
  unfolding paths_below joined firsts
  paths-whole zero l = refl
  paths-whole (suc n) l = rw (path-kept n (omega arith)) (ap (λ l. l ++ (path_of s n ∷ [])) (paths-whole n (omega arith)))

  index_same : (i : ℕ) → i < directories s → new_index s i ≡ i
  index_same i l = ap length (paths-whole i (omega arith)) ∙ firsts-length (path_of s) i

  image-whole : (p : ℕ) → valid_image s p ≡ true → kept_image s p ≡ image_at s p ∷ []
  unfolding kept_image
  image-whole p e = rw (kept_image, e) (go (eqb (directories s) 0) refl)
    where
      go : (b : Bool) → eqb (directories s) 0 ≡ b
          → (if b then reindexed s p (be 2 s p) ∷ [] else if_kept (path_fault s (be 2 s p)) (reindexed s p (new_index s (be 2 s p)) ∷ []) [])
          ≡ image_at s p ∷ []
      go true q = refl
      go false q =
          let some : directories s ≡ 0 → ⊥ = eqb-false _ _ q in
          let index : be 2 s p < directories s = names-directory s p e some in
          rw (path-kept (be 2 s p) index, index_same (be 2 s p) index)

  icon-whole : (k r : ℕ) → (record_fault Short s k r).number ≡ 0 → icon s r ≡ icon_of s r
  unfolding icon
  icon-whole k r e =
      let p = images_at s r + 4 in
      ap (icon_is _)
      (joined_same _ _ (images s r) (λ i l.
      image-whole (image_place s r i) (sound-image s k r e i l) ∙ ap (λ at. image_at s at ∷ []) (sym (end-steps 8 i p)))
      ∙ row-joined (image_at s) image_end (images s r) p)

  module _ (differ : NoEqualNames s) where
    chain-whole : (k n : ℕ) → k < buckets s → Holds Short s k n → chain_icons s k ≡ joined (λ m. map (icon_of s) (link s k m ∷ [])) (met s k)
    unfolding chain_icons
    chain-whole k n l h =
        joined_same _ _ (met s k) (λ m g.
        let below : m < n = rw (holds-met s k n h) at g in
        rw (holds_kept s k n h l differ m below) (ap (λ x. x ∷ []) (icon-whole k (link s k m) (h.keeps m below).1.rules)))

    icons-whole : icons s ≡ map (icon_of s) (all_records Short s)
    unfolding icons
    icons-whole =
        let (f, h) = lengths acc in
        joined_same _ _ (buckets s) (λ k l.
        chain-whole k (f k) l (h k l) ∙ sym (through (map (icon_of s)) refl (map-append (icon_of s)) (λ m. link s k m ∷ []) (met s k)))
        ∙ sym (through (map (icon_of s)) refl (map-append (icon_of s)) (λ k. joined (λ m. link s k m ∷ []) (met s k)) (buckets s))
        ∙ ap (map (icon_of s)) (all-below s f (buckets s) h)

    pub keeps-all : KeepsAll s
    unfolding catalogue
    keeps-all = record {
      no_rows = no_rows s acc differ;
      all = ap (λ ts. catalogue_is ts (icons s)) (paths-whole (directories s) (omega arith)) ∙ ap (catalogue_is _) icons-whole;
    }
