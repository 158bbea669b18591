-- The bytes of good paths, images and icons that stand somewhere are judged good and are read as
-- these.
use Rattle.std.specs.Prelude.{ℕ, ◌+◌, ◌*◌, ◌≤◌, ◌<◌, ◌≡◌, true, take}
use Rattle.std.proofs.Math.Path.{refl}
use Rattle.std.proofs.Common.{ap, ◌∙◌, le-leb, lt-ltb}
use mathlib.Core.List.{List, [], ◌∷◌, ◌++◌, flat_map}
use native.Mathlib.Omega.{arith}
use Rattle.std.proofs.Math.ListN.{length, length-append}
use Rattle.std.proofs.Math.Seq.{take-append_seam}
use Rattle.format.specs.Bytes.{bytes}
use Rattle.format.specs.Fault.{no_fault, first_fault}
use Rattle.format.specs.declared.Fault.{Fault}
use Rattle.format.proofs.Laws.Bytes.{bytes-length}
use Rattle.format.proofs.Laws.Faults.{also, unless-kept, kept-passes, or_else-next, same_number}
use Rattle.format.proofs.Laws.Texts.{allowed-tells}
use Rattle.format.specs.Segments.{allowed_path}
use Rattle.catalogue.specs.Row.{row_end, row}
use Rattle.catalogue.specs.Catalogue.{Image, Icon, icon_is, Each, GoodImage, GoodIcon, image_bytes, path_bytes, icon_bytes, allowed_image}
use Rattle.catalogue.specs.Fields.{part, path_length, path_text, path_end, image_at, image_end, images_from, name_length, name_text, image_count_at, image_count, first_image_at, icon_end, icon_at}
use Rattle.catalogue.specs.Judgement.{path_fields_fault, image_field_fault, icon_fields_fault}
use Rattle.catalogue.specs.LaidOut.{Stands}
use Rattle.catalogue.proofs.Laws.Stands.{stands-first, stands-next, stands-inside, stands-number}
use Rattle.catalogue.proofs.Laws.Images.{image-length, images-length, image-back}
use Rattle.catalogue.proofs.Laws.Allowed.{path-tells}

module _ {A : Type 0} (what : ℕ → A) (next : ℕ → ℕ) (judge : ℕ → Fault) (bytes_of : A → List ℕ) where
  -- what is read at p is x, it ends behind the bytes of x, and it is judged good
  record ReadAt (p : ℕ) (x : A) : Type 0 where
    is : what p ≡ x
    end : next p ≡ p + length (bytes_of x)
    kept : judge p ≡ no_fault

  -- the same of things in a row
  pub record RowRead (p : ℕ) (xs : List A) : Type 0 where
    pub are : row what next (length xs) p ≡ xs
    pub end : row_end next (length xs) p ≡ p + length (flat_map bytes_of xs)
    pub kept : first_fault judge next (length xs) p ≡ no_fault

  module _ {c : List ℕ} (P : A → Type 0) (one : (p : ℕ) (x : A) → P x → Stands c p (bytes_of x) → ReadAt p x) where
    row_read : (p : ℕ) (xs : List A) → Each P xs → Stands c p (flat_map bytes_of xs) → RowRead p xs
    unfolding row row_end first_fault flat_map
    row_read p [] good h = record { are = refl; end = omega arith; kept = refl }
    row_read p (x ∷ xs) (here, later) h =
        let first = one p x here (stands-first (bytes_of x) (flat_map bytes_of xs) h) in
        let rest = row_read (next p) xs later (rw (← first.end) at (stands-next (bytes_of x) (flat_map bytes_of xs) h)) in
        record {
          are = cc (first.is, rest.are);
          end = rest.end ∙ omega (arith, first.end, length-append (bytes_of x) (flat_map bytes_of xs));
          kept = or_else-next _ _ (same_number first.kept) ∙ rest.kept;
        }

-- a text that stands somewhere is the part there
text-there : {c : List ℕ} {p : ℕ} (t : List ℕ) → Stands c p t → part c p (length t) ≡ t
text-there t h = ap (take (length t)) h.there ∙ take-append_seam t h.rest

module _ {c : List ℕ} where
  path-read : (p : ℕ) (t : List ℕ) → allowed_path t ≡ true → Stands c p (path_bytes t) → ReadAt (path_text c) (path_end c) (path_fields_fault c) path_bytes p t
  unfolding path_fields_fault
  path-read p t right h =
      let text = (path-tells t right).text in
      let size : length (path_bytes t) ≡ 2 + length t = length-append (bytes 2 (length t)) t ∙ rw (bytes-length 2 (length t)) in
      let count : path_length c p ≡ length t = stands-number 2 (omega arith) (stands-first (bytes 2 (length t)) t h) in
      let is : path_text c p ≡ t = rw count (text-there t (rw (bytes-length 2 (length t)) at (stands-next (bytes 2 (length t)) t h))) in
      let some : 0 < length (path_bytes t) = omega arith in
      let ends = stands-inside h some in
      let sized : p + 2 ≤ length c = omega arith in
      let least : 0 < path_length c p = omega arith in
      let most : path_length c p ≤ 1023 = omega arith in
      let all : p + 2 + path_length c p ≤ length c = omega arith in
      record {
        is = is;
        end = omega arith;
        kept = kept-passes _ 18 p _ (also (also (le-leb _ _ sized) (lt-ltb _ _ least)) (le-leb _ _ most))
            ∙ unless-kept _ 18 (p + 2) (also (le-leb _ _ all) (rw is right));
      }

  pub paths-read : (p : ℕ) (ts : List (List ℕ)) → Each (λ t. allowed_path t ≡ true) ts → Stands c p (flat_map path_bytes ts)
      → RowRead (path_text c) (path_end c) (path_fields_fault c) path_bytes p ts
  paths-read = row_read (path_text c) (path_end c) (path_fields_fault c) path_bytes (λ t. allowed_path t ≡ true) path-read

  module _ {n : ℕ} (few : n ≤ 65535) where
    image-read : (p : ℕ) (i : Image) → GoodImage n i → Stands c p (image_bytes i) → ReadAt (image_at c) image_end (image_field_fault n c) image_bytes p i
    image-read p i good h =
        let size = image-length i in
        let some : 0 < length (image_bytes i) = omega arith in
        let there : p + 8 ≤ length c = omega (arith, stands-inside h some) in
        let is = image-back few good h in
        record {
          is = is;
          end = omega arith;
          kept = unless-kept _ 18 p (also (le-leb _ _ there) (ap (allowed_image n) is ∙ good.0));
        }

    pub images-read : (p : ℕ) (is : List Image) → Each (GoodImage n) is → Stands c p (flat_map image_bytes is)
        → RowRead (image_at c) image_end (image_field_fault n c) image_bytes p is
    images-read = row_read (image_at c) image_end (image_field_fault n c) image_bytes (GoodImage n) image-read

    icon-read : (p : ℕ) (x : Icon) → GoodIcon n x → Stands c p (icon_bytes x) → ReadAt (icon_at c) (icon_end c) (icon_fields_fault n c) icon_bytes p x
    unfolding icon_fields_fault
    icon-read p x good h =
        let sized = bytes 1 (length x.name) in
        let named = sized ++ x.name in
        let counted = named ++ bytes 2 (length x.images) in
        let text = allowed-tells x.name good.named in
        let named-size : length named ≡ 1 + length x.name = length-append sized x.name ∙ rw (bytes-length 1 (length x.name)) in
        let counted-size : length counted ≡ 3 + length x.name =
        length-append named (bytes 2 (length x.images)) ∙ omega (arith, bytes-length 2 (length x.images)) in
        let size : length (icon_bytes x) ≡ 3 + length x.name + 8 * length x.images =
        length-append counted (flat_map image_bytes x.images) ∙ omega (arith, images-length x.images) in
        let some : 0 < length (icon_bytes x) = omega arith in
        let ends = stands-inside h some in
        let up-to-name = stands-first named _ (stands-first counted _ h) in
        let count : name_length c p ≡ length x.name = stands-number 1 (omega arith) (stands-first sized x.name up-to-name) in
        let name : name_text c p ≡ x.name = rw count (text-there x.name (rw (bytes-length 1 (length x.name)) at (stands-next sized x.name up-to-name))) in
        let count_at : image_count_at c p ≡ p + length named = omega arith in
        let many : image_count c p ≡ length x.images = rw count_at (stands-number 2 (omega (arith, good.few)) (stands-next named _ (stands-first counted _ h))) in
        let first-at : p + length counted ≡ first_image_at c p = omega arith in
        let images = images-read (first_image_at c p) x.images good.images-good (rw first-at at (stands-next counted (flat_map image_bytes x.images) h)) in
        let same : images_from (image_count c p) c (first_image_at c p) ≡ x.images = rw many images.are in
        let one : p + 1 ≤ length c = omega arith in
        let least : 0 < name_length c p = omega arith in
        let all : p + 1 + name_length c p ≤ length c = omega arith in
        let two : image_count_at c p + 2 ≤ length c = omega arith in
        let most : image_count c p ≤ 1024 = omega (arith, good.few) in
        record {
          is = λ j. icon_is (name j) (same j);
          end = omega arith;
          kept = kept-passes _ 18 p _ (also (le-leb _ _ one) (lt-ltb _ _ least))
              ∙ kept-passes _ 18 (p + 1) _ (also (le-leb _ _ all) (rw name good.named))
              ∙ kept-passes _ 18 (image_count_at c p) _ (also (le-leb _ _ two) (le-leb _ _ most))
              ∙ rw many images.kept;
        }

    pub icons-read : (p : ℕ) (xs : List Icon) → Each (GoodIcon n) xs → Stands c p (flat_map icon_bytes xs)
        → RowRead (icon_at c) (icon_end c) (icon_fields_fault n c) icon_bytes p xs
    icons-read = row_read (icon_at c) (icon_end c) (icon_fields_fault n c) icon_bytes (GoodIcon n) icon-read
