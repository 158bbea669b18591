-- What is known of the parts of an accepted cache, and how long their bytes in a catalogue are.
use Rattle.std.specs.Prelude.{ℕ, ◌+◌, ◌*◌, ◌≤◌, ◌<◌, ◌≡◌, refl, true, length}
use Rattle.std.proofs.Common.{sym, ap, ◌∙◌, arith, length-append}
use mathlib.Core.List.{List, ◌++◌, flat_map, append_assoc}
use Rattle.format.specs.Number.{be}
use Rattle.format.specs.Bytes.{bytes}
use Rattle.format.specs.String.{is_whole}
use Rattle.format.specs.Header.{directories, path_of}
use Rattle.format.specs.Record.{name_of, name_part, name_extent, images_at, images}
use Rattle.format.proofs.Laws.Bytes.{bytes-length}
use Rattle.format.proofs.Laws.Strings.{whole-string, string-front}
use Rattle.format.proofs.Laws.Texts.{whole-inside}
use Rattle.format.proofs.Laws.Rules.{record-valid, tables-paths}
use Rattle.format.specs.declared.Reading.TheVariants.{Short}
use Rattle.tables.specs.Laws.{PathInside, path_inside}
use Rattle.tables.specs.declared.Tables.{Tables}
use Rattle.catalogue.specs.Catalogue.{image_bytes, icon_bytes}
use Rattle.catalogue.specs.Fields.{AreBytes, part, image_at, image_end, images_from}
use Rattle.catalogue.specs.Listed.{icon_of}
use Rattle.catalogue.proofs.Laws.Rows.{row-length}
use Rattle.catalogue.proofs.Laws.Spans.{spans-are}
use Rattle.catalogue.proofs.Laws.Judged.{images-span}
use Rattle.catalogue.proofs.Laws.Images.{images-length}
use Rattle.catalogue.proofs.Laws.Icons.{paths-each}
use Rattle.tables.specs.Tables.{Sound}
use Rattle.export.specs.Parts.{Kept, parts_of, path_piece}
use Rattle.export.specs.declared.parts.IconParts.{IconParts}

-- the parts of the icon of a record lie inside, and there are few
pub record IconInside (s : List ℕ) (r : ℕ) : Type 0 where
  pub inside : r + 12 ≤ length s
  pub whole : is_whole (name_extent s r) ≡ true
  pub named : be 4 s (r + 4) + length (name_of s r) ≤ length s
  pub short : length (name_of s r) ≤ 255
  pub listed : images_at s r + 4 + 8 * images s r ≤ length s
  pub few : images s r ≤ 1024

pub icon-inside : {s : List ℕ} {r : ℕ} → Kept s r → IconInside s r
icon-inside {s} {r} h =
    let valid = record-valid Short s h.bucket r h.keeps.rules in
    let name = whole-string 255 (name_part s r) valid.named in
    record {
      inside = h.keeps.inside;
      whole = valid.named;
      named = whole-inside 255 s (be 4 s (r + 4)) valid.named;
      short = name.within;
      listed = valid.listed;
      few = valid.few;
    }

pub icon-length : (s : List ℕ) (r : ℕ) → length (icon_bytes (icon_of s r)) ≡ 3 + length (name_of s r) + 8 * images s r
icon-length s r =
    let is = images_from (images s r) s (images_at s r + 4) in
    let name = name_of s r in
    let m = row-length (image_at s) image_end (images s r) (images_at s r + 4) in
    simp length-append (omega (arith, bytes-length 1 (length name), bytes-length 2 (length is), images-length is, m))

-- the images of a record are its bytes there
module _ (s : List ℕ) (small : AreBytes s) where
  pub images-are : (m p : ℕ) → p + 8 * m ≤ length s → part s p (8 * m) ≡ flat_map image_bytes (images_from m s p)
  images-are m p l = spans-are (images-span s small m p l) (omega arith) l (8 * m) refl

  -- what is put for an icon
  pub icon-is : {r : ℕ} {a : IconParts} → a ≡ parts_of s r → Kept s r
      → bytes 1 a.length ++ part s a.name a.length ++ (bytes 2 a.count ++ part s a.images (8 * a.count)) ≡ icon_bytes (icon_of s r)
  icon-is {r} {a} read h =
      let m = images s r in
      let p = images_at s r + 4 in
      let front = bytes 1 (length (name_of s r)) ++ name_of s r in
      ap (λ (a : IconParts). bytes 1 a.length ++ part s a.name a.length ++ (bytes 2 a.count ++ part s a.images (8 * a.count))) read
      ∙ ap (λ t. bytes 1 (length (name_of s r)) ++ t ++ (bytes 2 m ++ part s p (8 * m))) (string-front (name_part s r))
      ∙ ap (λ t. front ++ (bytes 2 m ++ t)) (images-are m p (icon-inside h).listed)
      ∙ ap (λ n. front ++ (bytes 2 n ++ flat_map image_bytes (images_from m s p))) (sym (row-length (image_at s) image_end m p))
      ∙ sym (append_assoc front (bytes 2 (length (images_from m s p))) (flat_map image_bytes (images_from m s p)))

-- each path lies inside
pub each-path-inside : {s : List ℕ} {t : Tables} → Sound s t → (i : ℕ) → i < directories s → PathInside s i
each-path-inside {s} h i l = path_inside s i (paths-each s (directories s) i (rw (tables-paths s h.tables.header) at h.accepted.tables-kept) l)

pub path-length : (s : List ℕ) (i : ℕ) → length (path_piece s i) ≡ 2 + length (path_of s i)
path-length s i = length-append (bytes 2 (length (path_of s i))) (path_of s i) ∙ rw (bytes-length 2 (length (path_of s i)))
