-- Bytes that are judged good are the bytes of the catalogue that they say, and it is a good one.
use Prim.Native.Nat.{ℕ, zero, suc, ◌+◌, ◌*◌, ◌≤◌}
use Rattle.std.specs.Prelude.{◌≡◌, true, length}
use Rattle.std.proofs.Math.Path.{refl, sym, ap}
use Rattle.std.proofs.Common.{◌∙◌, arith}
use mathlib.Core.List.{List, [], ◌++◌, flat_map, append-nil}
use Rattle.std.proofs.Math.Bool.{and-eq-true_iff}
use borrow.Author.Tests.{leb-true}
use Rattle.std.proofs.Math.ListN.{drop_of_length-le}
use Rattle.format.specs.Fault.{first_fault}
use Rattle.format.specs.declared.Fault.{Fault}
use Rattle.format.proofs.Laws.Faults.{or_else-none, unless-none}
use Rattle.format.specs.Segments.{allowed_path}
use Rattle.catalogue.specs.Row.{row_end, row}
use Rattle.catalogue.specs.Catalogue.{Each, GoodImage, GoodIcon, image_bytes, path_bytes, icon_bytes, catalogue_bytes}
use Rattle.catalogue.specs.Fields.{AreBytes, path_length, path_text, path_end, image_at, image_end, images_from, name_length, image_count_at, image_count, first_image_at, icon_end, icon_at, path_count, icon_count_at, icon_count, first_icon_at, catalogue_end, paths_in, icons_in, catalogue_in}
use Rattle.catalogue.specs.Judgement.{path_fields_fault, image_field_fault, icon_fields_fault, fields_fault}
use Rattle.catalogue.specs.Repeats.{icon_uses, catalogue_fault}
use Rattle.catalogue.specs.Promise.{Says}
use Rattle.catalogue.proofs.Laws.Rows.{row-length, end-steps}
use Rattle.catalogue.proofs.Laws.Repeats.{none-repeated, uses-names}
use Rattle.catalogue.proofs.Laws.Spans.{Spans, spans-none, spans-join, spans-end, spans-part, part_length, number_fits, spans-number}

-- things in a row, of which each spans its bytes where it is judged good: so do all of them, and
-- each is good
module _ {A : Type 0} {c : List ℕ} (what : ℕ → A) (next : ℕ → ℕ) (judge : ℕ → Fault) (bytes_of : A → List ℕ) (P : A → Type 0)
    (one : (p : ℕ) → (judge p).number ≡ 0 → Spans c p (bytes_of (what p)) (next p) × P (what p)) where
  pub row_told : (m p : ℕ) → (first_fault judge next m p).number ≡ 0
      → Spans c p (flat_map bytes_of (row what next m p)) (row_end next m p) × Each P (row what next m p)
  unfolding first_fault row row_end flat_map
  row_told zero p e = (spans-none c p, tt)
  row_told (suc m) p e =
      let both = or_else-none _ _ e in
      let first = one p both.0 in
      let rest = row_told m (next p) both.1 in
      (spans-join first.0 rest.0 refl, (first.1, rest.1))

module _ (c : List ℕ) (small : AreBytes c) where
  path-told : (p : ℕ) → (path_fields_fault c p).number ≡ 0 → Spans c p (path_bytes (path_text c p)) (path_end c p) × (allowed_path (path_text c p) ≡ true)
  unfolding path_fields_fault
  path-told p e =
      let both = or_else-none _ _ e in
      let sized = (and-eq-true_iff _ _).0 ((and-eq-true_iff _ _).0 (unless-none _ _ _ both.0)).0 in
      let text = (and-eq-true_iff _ _).0 (unless-none _ _ _ both.1) in
      let long = part_length c (p + 2) (path_length c p) (leb-true _ _ text.0) in
      let whole = spans-join (spans-number c small 2 p (leb-true _ _ sized.0)) (spans-part c (p + 2) (path_length c p)) refl in
      (rw long whole, text.1)

  pub image-spans : (p : ℕ) → p + 8 ≤ length c → Spans c p (image_bytes (image_at c p)) (image_end p)
  image-spans p there =
      let two = spans-join (spans-number c small 2 p (omega arith)) (spans-number c small 2 (p + 2) (omega arith)) refl in
      spans-end (spans-join two (spans-number c small 4 (p + 4) (omega arith)) (omega arith)) (omega arith)

  pub images-span : (m p : ℕ) → p + 8 * m ≤ length c → Spans c p (flat_map image_bytes (images_from m c p)) (p + 8 * m)
  unfolding row flat_map
  images-span zero p there = spans-end (spans-none c p) (omega arith)
  images-span (suc m) p there = spans-end (spans-join (image-spans p (omega arith)) (images-span m (p + 8) (omega arith)) refl) (omega arith)

  pub image-told : (n p : ℕ) → (image_field_fault n c p).number ≡ 0 → Spans c p (image_bytes (image_at c p)) (image_end p) × GoodImage n (image_at c p)
  image-told n p e =
      let both = (and-eq-true_iff _ _).0 (unless-none _ _ _ e) in
      let there : p + 8 ≤ length c = leb-true _ _ both.0 in
      (image-spans p there, (both.1, number_fits c small 4 (p + 4) (omega arith)))

  icon-told : (n p : ℕ) → (icon_fields_fault n c p).number ≡ 0 → Spans c p (icon_bytes (icon_at c p)) (icon_end c p) × GoodIcon n (icon_at c p)
  unfolding icon_fields_fault
  icon-told n p e =
      let m = image_count c p in
      let first = or_else-none _ _ e in
      let second = or_else-none _ _ first.1 in
      let third = or_else-none _ _ second.1 in
      let sized = (and-eq-true_iff _ _).0 (unless-none _ _ _ first.0) in
      let text = (and-eq-true_iff _ _).0 (unless-none _ _ _ second.0) in
      let counted = (and-eq-true_iff _ _).0 (unless-none _ _ _ third.0) in
      let images = row_told (image_at c) image_end (image_field_fault n c) image_bytes (GoodImage n) (image-told n) m (first_image_at c p) third.1 in
      let long = part_length c (p + 1) (name_length c p) (leb-true _ _ text.0) in
      let many = row-length (image_at c) image_end m (first_image_at c p) in
      let length-field = spans-number c small 1 p (leb-true _ _ sized.0) in
      let count-field = spans-number c small 2 (image_count_at c p) (leb-true _ _ counted.0) in
      let named = spans-join length-field (spans-part c (p + 1) (name_length c p)) refl in
      let whole = spans-end (spans-join (spans-join named count-field refl) images.0 refl) (end-steps 8 m (first_image_at c p)) in
      (rw (long, many) whole, record { named = text.1; few = rw many (leb-true _ _ counted.1); images-good = images.1 })

  -- all of it
  pub record Told : Type 0 where
    pub paths : Spans c 2 (flat_map path_bytes (paths_in c)) (icon_count_at c) × Each (λ t. allowed_path t ≡ true) (paths_in c)
    pub icons : Spans c (first_icon_at c) (flat_map icon_bytes (icons_in c)) (catalogue_end c) × Each (GoodIcon (path_count c)) (icons_in c)
    pub start : 2 ≤ length c
    pub counted : icon_count_at c + 2 ≤ length c
    pub ended : length c ≤ catalogue_end c

  pub told : (fields_fault c).number ≡ 0 → Told
  unfolding fields_fault
  told e =
      let first = or_else-none _ _ e in
      let second = or_else-none _ _ first.1 in
      let third = or_else-none _ _ second.1 in
      let fourth = or_else-none _ _ third.1 in
      record {
        paths = row_told (path_text c) (path_end c) (path_fields_fault c) path_bytes _ path-told (path_count c) 2 second.0;
        icons = row_told (icon_at c) (icon_end c) (icon_fields_fault (path_count c) c) icon_bytes _ (icon-told (path_count c)) (icon_count c) (first_icon_at c) fourth.0;
        start = leb-true _ _ (unless-none _ _ _ first.0);
        counted = leb-true _ _ (unless-none _ _ _ third.0);
        ended = leb-true _ _ (unless-none _ _ _ fourth.1);
      }

  pub says : (catalogue_fault c).number ≡ 0 → Says c
  unfolding catalogue_fault
  says e =
      let both = or_else-none _ _ e in
      let t = told both.0 in
      let path-count = row-length (path_text c) (path_end c) (path_count c) 2 in
      let icon-count = row-length (icon_at c) (icon_end c) (icon_count c) (first_icon_at c) in
      let counts = spans-number c small 2 0 t.start in
      let icon-counts = spans-number c small 2 (icon_count_at c) t.counted in
      let all : Spans c 0 (catalogue_bytes (catalogue_in c)) (catalogue_end c) =
      rw (path-count, icon-count) (spans-join (spans-join (spans-join counts t.paths.0 refl) icon-counts refl) t.icons.0 refl) in
      let none_left = drop_of_length-le c {i = catalogue_end c} t.ended in
      record {
        good = record {
          paths-few = rw path-count (omega (arith, number_fits c small 2 0 t.start));
          paths-good = t.paths.1;
          icons-good = rw path-count t.icons.1;
          none-twice = rw (uses-names c) at (none-repeated [] (icon_uses c) both.1);
        };
        icons-few = rw icon-count (omega (arith, number_fits c small 2 (icon_count_at c) t.counted));
        bytes = sym (all.are ∙ ap (λ l. catalogue_bytes (catalogue_in c) ++ l) none_left ∙ append-nil (catalogue_bytes (catalogue_in c)));
      }
