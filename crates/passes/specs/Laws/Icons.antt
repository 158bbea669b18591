-- An icon that a pass has come to: it lies inside, and what is put for it are the parts of the
-- catalogue's icon.
use Rattle.std.specs.Prelude.{ℕ, ◌+◌, ◌*◌, ◌≤◌, ◌<◌, ◌≡◌, length}
use Rattle.std.proofs.Common.{sym, ap, ◌∙◌, arith, length-append}
use mathlib.Core.List.{List, [], ◌∷◌, ◌++◌, flat_map}
use Rattle.format.specs.Fault.{first_fault}
use Rattle.format.specs.Bytes.{bytes}
use Rattle.format.proofs.Laws.Faults.{or_else-none}
use Rattle.format.proofs.Laws.Bytes.{bytes-length}
use Rattle.catalogue.specs.Row.{row_end}
use Rattle.catalogue.specs.Catalogue.{Icon, GoodImage, image_bytes, icon_is}
use Rattle.catalogue.specs.Fields.{part, name_length, name_text, image_at, image_end, image_count, first_image_at, icon_end, icon_at, path_count, icon_count, first_icon_at, catalogue_in}
use Rattle.catalogue.specs.Judgement.{image_field_fault, icon_fields_fault, fields_fault}
use Rattle.catalogue.specs.LaidOut.{nth_icon, list_bytes, text_and_zero}
use Rattle.catalogue.proofs.Laws.Rows.{row_at, row-length, row_keeps, end-steps}
use Rattle.catalogue.proofs.Laws.Spans.{spans-are, part_length}
use Rattle.catalogue.proofs.Laws.Judged.{row_told, image-told}
use Rattle.catalogue.proofs.Laws.Cursor.{icon-there}
use Rattle.catalogue.specs.Cursor.{IconThere}
use Rattle.entries.specs.Laws.{icon-inside}
use Rattle.passes.specs.Passes.{Judged}

module _ {c : List ℕ} {paths icons first : ℕ} (h : Judged c paths icons first) {i p : ℕ} (l : i < icons) (here : p ≡ row_end (icon_end c) i first) where
  at : p ≡ row_end (icon_end c) i (first_icon_at c)
  at = here ∙ ap (row_end (icon_end c) i) h.begin

  within : i < icon_count c
  within = omega (arith, h.all-icons)

  pub icon-is : nth_icon (catalogue_in c) i ≡ icon_at c p
  icon-is = row_at (icon_at c) (icon_end c) (icon_count c) i (first_icon_at c) (icon_is [] []) within ∙ ap (icon_at c) (sym at)

  kept : (icon_fields_fault (path_count c) c p).number ≡ 0
  unfolding fields_fault
  kept =
      let icons = (or_else-none _ _ (or_else-none _ _ (or_else-none _ _ (or_else-none _ _ h.good).1).1).1).0 in
      rw at (row_keeps (icon_fields_fault (path_count c) c) (icon_end c) (icon_count c) i (first_icon_at c) within icons)

  pub icon-ends : icon_end c p ≤ length c
  icon-ends = icon-inside (path_count c) c p kept

  pub there : IconThere c p
  there = rw at (icon-there c i h.good within)

  -- its name
  pub name-is : text_and_zero (name_text c p) ≡ text_and_zero (nth_icon (catalogue_in c) i).name
  name-is = ap (λ (x : Icon). text_and_zero x.name) (sym icon-is)

  pub name-size : name_length c p + 1 ≡ length (text_and_zero (nth_icon (catalogue_in c) i).name)
  name-size = sym (length-append (name_text c p) (0 ∷ []) ∙ ap (λ n. n + 1) (part_length c (p + 1) (name_length c p) there.name-inside)) ∙ ap length name-is

  -- its image list
  images-kept : (first_fault (image_field_fault (path_count c) c) image_end (image_count c p) (first_image_at c p)).number ≡ 0
  unfolding icon_fields_fault
  images-kept = (or_else-none _ _ (or_else-none _ _ (or_else-none _ _ kept).1).1).1

  images-are : part c (first_image_at c p) (8 * image_count c p) ≡ flat_map image_bytes (icon_at c p).images
  images-are =
      let n = path_count c in
      let m = image_count c p in
      let spans = (row_told (image_at c) image_end (image_field_fault n c) image_bytes (GoodImage n) (image-told c h.are-bytes n) m (first_image_at c p) images-kept).0 in
      let end = end-steps 8 m (first_image_at c p) in
      spans-are spans (omega arith) (omega (arith, icon-ends)) (8 * m) (sym end)

  list_read : bytes 4 (image_count c p) ++ part c (first_image_at c p) (8 * image_count c p) ≡ list_bytes (icon_at c p)
  list_read = rw (images-are, row-length (image_at c) image_end (image_count c p) (first_image_at c p))

  pub list-is : bytes 4 (image_count c p) ++ part c (first_image_at c p) (8 * image_count c p) ≡ list_bytes (nth_icon (catalogue_in c) i)
  list-is = list_read ∙ ap list_bytes (sym icon-is)

  pub list-size : 4 + 8 * image_count c p ≡ length (list_bytes (nth_icon (catalogue_in c) i))
  list-size =
      let count = bytes-length 4 (image_count c p) in
      let images = part_length c (first_image_at c p) (8 * image_count c p) icon-ends in
      let whole = length-append (bytes 4 (image_count c p)) (part c (first_image_at c p) (8 * image_count c p)) in
      omega (arith, ap length list-is)
