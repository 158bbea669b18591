-- No image is refused with 25 exactly where each IMAGE_DATA_OFFSET is 0, and this is said of the
-- images alone.
use Prim.Native.Nat.{ℕ, zero, suc, ◌+◌}
use Rattle.std.specs.Prelude.{◌≡◌, eqb}
use Rattle.std.proofs.Math.Path.{refl}
use Rattle.std.proofs.Common.{◌∙◌, eqb-true, eq-eqb}
use mathlib.Core.List.{List, [], ◌∷◌}
use Rattle.format.specs.Layout.{entries_at, image_size, data_field}
use Rattle.format.specs.Number.{be}
use Rattle.format.specs.Fault.{no_fault, first_fault}
use Rattle.format.specs.Record.{images_at, images}
use Rattle.format.proofs.Laws.Faults.{same_number, or_else-none, or_else-next, unless-none, kept-passes}
use Rattle.catalogue.specs.Catalogue.{Image, Icon, Each}
use Rattle.catalogue.specs.Row.{row}
use Rattle.catalogue.specs.Fields.{images_from}
use Rattle.catalogue.specs.Listed.{icon_of}
use Rattle.squeeze_spec.specs.Call.{images_data_fault, data_fault}

-- an image names no data, and none of an icon's images does
abbrev pub Plain : Image → Type 0
Plain i = i.data-offset ≡ 0

abbrev pub PlainIcon : Icon → Type 0
PlainIcon x = Each Plain x.images

module _ (s : List ℕ) where
  plain-images : (m p : ℕ) → (images_data_fault m s p).number ≡ 0 → Each Plain (images_from m s p)
  unfolding first_fault row
  plain-images zero p e = tt
  plain-images (suc m) p e =
      let h = or_else-none _ _ e in
      (eqb-true (be 4 s (data_field p)) 0 (unless-none (eqb (be 4 s (data_field p)) 0) 24 p h.0), plain-images m (p + image_size) h.1)

  images-plain : (m p : ℕ) → Each Plain (images_from m s p) → images_data_fault m s p ≡ no_fault
  unfolding first_fault row
  images-plain zero p h = refl
  images-plain (suc m) p h = kept-passes _ 25 p _ (eq-eqb (be 4 s (data_field p)) 0 h.0) ∙ images-plain m (p + image_size) h.1

  pub plain-records : (rs : List ℕ) → (data_fault s rs).number ≡ 0 → Each (λ r. PlainIcon (icon_of s r)) rs
  unfolding data_fault
  plain-records [] e = tt
  plain-records (r ∷ rs) e = let h = or_else-none _ _ e in (plain-images (images s r) (entries_at (images_at s r)) h.0, plain-records rs h.1)

  pub records-plain : (rs : List ℕ) → Each (λ r. PlainIcon (icon_of s r)) rs → data_fault s rs ≡ no_fault
  unfolding data_fault
  records-plain [] h = refl
  records-plain (r ∷ rs) h = or_else-next _ _ (same_number (images-plain (images s r) (entries_at (images_at s r)) h.0)) ∙ records-plain rs h.1
