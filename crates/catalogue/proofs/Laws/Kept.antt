-- A cache that lays out a good catalogue keeps rules 1 to 6, 16 and 17, and each of its records
-- keeps rules 7 to 11 and 17 in its icon's bucket.
use Rattle.std.specs.Prelude.{ℕ, ◌+◌, ◌*◌, ◌≤◌, ◌<◌, ◌≡◌, List, [], true, length, get_or}
use Rattle.std.proofs.Common.{sym, ap, ◌∙◌, arith, eq-eqb, le-leb}
use Rattle.format.specs.Number.{be}
use Rattle.format.specs.Segments.{slash, allowed_path}
use Rattle.format.specs.Header.{directories, path_part, path_of, path_fault, header_fault}
use Rattle.format.specs.Record.{name_of, bucket_of, images_at, images, valid_image_list}
use Rattle.format.specs.Words.{TablesKept, Keeps}
use Rattle.format.proofs.Laws.Faults.{same_number, also, first-kept}
use Rattle.format.proofs.Laws.Reads.{list_inside_lem}
use Rattle.format.proofs.Laws.Header.{header-kept}
use Rattle.format.proofs.Laws.Texts.{TextWithin, allowed-tells}
use Rattle.format.proofs.Laws.Paths.{string-first, path-kept}
use Rattle.format.proofs.Laws.Records.{name-home, record-named, list-kept}
use Rattle.format.proofs.Laws.Rules.{tables-paths}
use Rattle.format.specs.declared.Reading.TheVariants.{Short}
use Rattle.catalogue.specs.Catalogue.{Catalogue, Each, GoodImage, GoodIcon, Good, icon_is}
use Rattle.catalogue.specs.Fields.{images_from}
use Rattle.catalogue.specs.LaidOut.{nth_path, nth_icon, icon_bucket, Places, Lays}
use Rattle.catalogue.proofs.Laws.Stands.{stands-string, string-whole}
use Rattle.catalogue.proofs.Laws.Images.{images-kept}
use Rattle.catalogue.proofs.Laws.Allowed.{each_at, AllowedPath, path-tells}
use Rattle.catalogue.proofs.Laws.Read.{images-read}
use Rattle.catalogue.proofs.Laws.Laid.{Laid, laid}

module _ {s : List ℕ} {d : Catalogue} {b : ℕ} {q : Places} (good : Good d) (lays : Lays s d b q) (some : 0 < b) where
  abbrev f : Laid s d b q
  f = laid good lays

  -- the tables
  header : (header_fault s).number ≡ 0
  header =
      same_number (header-kept s (also (eq-eqb _ _ f.version.0) (eq-eqb _ _ f.version.1)) (record {
        header-inside = f.header-inside;
        not-too-long = lays.not-too-long;
        directories-end = rw f.directories-are f.directories-end;
        directories-few = rw f.directories-are good.paths-few;
        buckets-end = rw f.buckets-are f.hash-ends;
        buckets-some = rw f.buckets-are some;
      }))

  module _ {i : ℕ} (l : i < length d.paths) where
    path : AllowedPath (nth_path d i)
    path = path-tells (nth_path d i) (each_at (λ t. allowed_path t ≡ true) d.paths [] i good.paths-good l)

    pub path-stands : path_of s i ≡ nth_path d i
    path-stands = rw (f.path-field i l) (stands-string path.text (lays.paths i l))

    path-keeps : (path_fault s i).number ≡ 0
    path-keeps =
        let whole = rw (← f.path-field i l) at (string-whole path.text (lays.paths i l)) in
        let relative : get_or (path_part s i) 0 0 ≡ slash → ⊥ =
        λ e. path.relative (ap (λ t. get_or t 0 0) (sym path-stands) ∙ string-first (path_part s i) ∙ e) in
        same_number (path-kept s i whole relative (rw path-stands path.segments))

  pub tables-kept : TablesKept s
  tables-kept =
      let kept : (i : ℕ) → i < directories s → (path_fault s (0 + 1 * i)).number ≡ 0 = λ i l.
      let same : 0 + 1 * i ≡ i = omega arith in
      rw same (path-keeps (omega (arith, f.directories-are))) in
      rw (tables-paths s header) (first-kept (path_fault s) 1 (directories s) 0 kept)

  -- the records: each bears its icon's name, in its icon's bucket, and has its images
  module _ {i : ℕ} (l : i < length d.icons) where
    abbrev r : ℕ
    r = q.record-at i

    pub icon-good : GoodIcon (length d.paths) (nth_icon d i)
    icon-good = each_at (GoodIcon (length d.paths)) d.icons (icon_is [] []) i good.icons-good l

    text : TextWithin 255 (nth_icon d i).name
    text = allowed-tells (nth_icon d i).name icon-good.named

    pub name-stands : name_of s r ≡ (nth_icon d i).name
    name-stands = rw (f.name-field i l) (stands-string text (lays.names i l))

    pub list-stands : images_at s r ≡ q.images-at i
    list-stands = f.list-field i l

    pub count-stands : images s r ≡ length (nth_icon d i).images
    count-stands = ap (be 4 s) list-stands ∙ f.image-count i l

    pub images-stand : images_from (images s r) s (images_at s r + 4) ≡ (nth_icon d i).images
    images-stand =
        rw (count-stands, list-stands) (images-read good.paths-few _ (nth_icon d i).images icon-good.images-good (f.images-stand i l)).are

    valid-image-list : valid_image_list s (images_at s r) ≡ true
    valid-image-list =
        let ends : images_at s r + 4 + 8 * images s r ≤ length s = rw (count-stands, list-stands) (f.list-ends i l) in
        let few : images s r ≤ 1024 = rw count-stands icon-good.few in
        also (list_inside_lem s _ _ ends) (le-leb _ _ few)

    pub record-keeps : Keeps Short s (icon_bucket d b i) r
    record-keeps =
        let k = icon_bucket d b i in
        let whole = rw (← f.name-field i l) at (string-whole text (lays.names i l)) in
        let home : bucket_of s (name_of s r) ≡ k = rw (name-stands, f.buckets-are) in
        let allowed : Each (GoodImage (length d.paths)) (images_from (images s r) s (images_at s r + 4)) = rw images-stand icon-good.images-good in
        record {
          inside = f.record-inside i l;
          rules = same_number (
              record-named s k r (same_number (name-home s k r whole home))
              ∙ list-kept s r valid-image-list
              ∙ images-kept (images s r) s (images_at s r + 4) f.directories-are allowed);
        }
