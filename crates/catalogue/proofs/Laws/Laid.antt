-- What the fields hold of a cache that lays out a good catalogue: each names the part that stands
-- there.
use Rattle.std.specs.Prelude.{ℕ, zero, suc, ◌+◌, ◌-◌, ◌*◌, ◌^◌, ◌≤◌, ◌<◌, ◌≡◌, Bool, true, false, length, eqb, if◌then◌else◌}
use Rattle.std.proofs.Common.{◌∙◌, arith, length-append, lit≤}
use mathlib.Core.List.{List, [], ◌∷◌, ◌++◌, flat_map}
use Rattle.format.specs.Number.{be}
use Rattle.format.specs.Header.{buckets_at, buckets, directories_at, directories, bucket_field, path_field}
use Rattle.format.specs.Bytes.{bytes}
use Rattle.format.proofs.Laws.Bytes.{bytes-length}
use Rattle.catalogue.specs.Catalogue.{Catalogue, Good, GoodIcon, image_bytes, icon_is}
use Rattle.catalogue.specs.LaidOut.{Stands, nth_path, nth_icon, text_and_zero, icon_bucket, first_in, first_of, next_of, Places, header_bytes, record_bytes, list_bytes, Lays}
use Rattle.catalogue.proofs.Laws.Stands.{stands-first, stands-next, stands-inside, stands-number, stands-three}
use Rattle.catalogue.proofs.Laws.Images.{images-length}
use Rattle.catalogue.proofs.Laws.Allowed.{each_at}
use Rattle.catalogue.proofs.Laws.Tables.{table-inside, table-count, table-entry, header-length, record-length}

-- a record's offset fits, and so does what leads to it
first_fits : (bucket record-at : ℕ → ℕ) (k i u : ℕ) → ((j : ℕ) → j < i + u → record-at j < 256 ^ 4) → first_in bucket record-at k i u < 256 ^ 4
unfolding first_in
first_fits bucket record-at k i zero fits = lit≤ tt
first_fits bucket record-at k i (suc u) fits =
    go (eqb (bucket i) k) (fits i (omega arith)) (first_fits bucket record-at k (suc i) u (λ j l. fits j (omega arith)))
  where
    go : (here : Bool) → record-at i < 256 ^ 4 → first_in bucket record-at k (suc i) u < 256 ^ 4
        → (if here then record-at i else first_in bucket record-at k (suc i) u) < 256 ^ 4
    go true own later = own
    go false own later = later

-- what the fields hold: of the header, of the two tables, and of the record and the image list of
-- each icon
pub record Laid (s : List ℕ) (d : Catalogue) (b : ℕ) (q : Places) : Type 0 where
  pub header-inside : 12 ≤ length s
  pub version : (be 2 s 0 ≡ 1) × (be 2 s 2 ≡ 0)
  pub buckets-are : buckets s ≡ b
  pub directories-are : directories s ≡ length d.paths
  pub hash-ends : buckets_at s + 4 + 4 * b ≤ length s
  pub directories-end : directories_at s + 4 + 4 * length d.paths ≤ length s
  pub bucket-field : (k : ℕ) → k < b → be 4 s (bucket_field s k) ≡ first_of d b q (length d.icons) k
  pub path-field : (i : ℕ) → i < length d.paths → be 4 s (path_field s i) ≡ q.path-at i
  pub record-inside : (i : ℕ) → i < length d.icons → q.record-at i + 12 ≤ length s
  pub chain-field : (i : ℕ) → i < length d.icons → be 4 s (q.record-at i) ≡ next_of d b q (length d.icons) i
  pub name-field : (i : ℕ) → i < length d.icons → be 4 s (q.record-at i + 4) ≡ q.name-at i
  pub list-field : (i : ℕ) → i < length d.icons → be 4 s (q.record-at i + 8) ≡ q.images-at i
  pub image-count : (i : ℕ) → i < length d.icons → be 4 s (q.images-at i) ≡ length (nth_icon d i).images
  pub list-ends : (i : ℕ) → i < length d.icons → q.images-at i + 4 + 8 * length (nth_icon d i).images ≤ length s
  pub images-stand : (i : ℕ) → i < length d.icons → Stands s (q.images-at i + 4) (flat_map image_bytes (nth_icon d i).images)

module _ {s : List ℕ} {d : Catalogue} {b : ℕ} {q : Places} (good : Good d) (lays : Lays s d b q) where
  -- what stands somewhere lies inside, so every offset fits four bytes
  within : {p : ℕ} {xs : List ℕ} → Stands s p xs → 0 < length xs → p < 256 ^ 4
  within h some = omega (arith, stands-inside h some, lays.not-too-long)

  string-some : (t : List ℕ) → 0 < length (text_and_zero t)
  string-some t = omega (arith, length-append t (0 ∷ []))

  hash-table : q.buckets-at + 4 + 4 * b ≤ length s
  hash-table = table-inside (first_of d b q (length d.icons)) b lays.hash

  directory-table : q.directories-at + 4 + 4 * length d.paths ≤ length s
  directory-table = table-inside q.path-at _ lays.directories

  module _ (i : ℕ) (l : i < length d.icons) where
    list_length : length (list_bytes (nth_icon d i)) ≡ 4 + 8 * length (nth_icon d i).images
    list_length = length-append (bytes 4 _) (flat_map image_bytes (nth_icon d i).images) ∙ rw (bytes-length 4 (length (nth_icon d i).images), images-length)

    record-lies : q.record-at i + 12 ≤ length s
    record-lies =
        let some : 0 < length (record_bytes d b q (length d.icons) i) = omega (arith, record-length d b q (length d.icons) i) in
        omega (arith, stands-inside (lays.records i l) some, record-length d b q (length d.icons) i)

    list-some : 0 < length (list_bytes (nth_icon d i))
    list-some = omega (arith, list_length)

    list-lies : q.images-at i + 4 + 8 * length (nth_icon d i).images ≤ length s
    list-lies = omega (arith, stands-inside (lays.lists i l) list-some, list_length)

  first-within : (k i u : ℕ) → i + u ≤ length d.icons → first_in (icon_bucket d b) q.record-at k i u < 256 ^ 4
  first-within k i u l =
      first_fits (icon_bucket d b) q.record-at k i u
      (λ j g. let h : j < length d.icons = omega arith in omega (arith, record-lies j h, lays.not-too-long))

  header-fields : (be 2 s 0 ≡ 1) × (be 2 s 2 ≡ 0) × (buckets_at s ≡ q.buckets-at) × (directories_at s ≡ q.directories-at)
  header-fields =
      let front = bytes 2 1 ++ bytes 2 0 ++ bytes 4 q.buckets-at in
      let width : length front ≡ 8 = simp (length-append, bytes-length) in
      let (major, minor, hash) = stands-three 2 2 4 (lit≤ tt) (lit≤ tt) (omega (arith, hash-table, lays.not-too-long))
      (stands-first front (bytes 4 q.directories-at) lays.header) in
      let list : be 4 s 8 ≡ q.directories-at = stands-number 4 (omega (arith, directory-table, lays.not-too-long))
      (rw width at (stands-next front (bytes 4 q.directories-at) lays.header)) in
      (major, minor, hash, list)

  record-fields : (i : ℕ) → i < length d.icons
      → (be 4 s (q.record-at i) ≡ next_of d b q (length d.icons) i) × (be 4 s (q.record-at i + 4) ≡ q.name-at i) × (be 4 s (q.record-at i + 8) ≡ q.images-at i)
  record-fields i l =
      stands-three 4 4 4
      (first-within _ (suc i) (length d.icons - suc i) (omega arith))
      (within (lays.names i l) (string-some (nth_icon d i).name))
      (within (lays.lists i l) (list-some i l))
      (lays.records i l)

  pub laid : Laid s d b q
  laid =
      let (major, minor, hash, list) = header-fields in
      record {
        header-inside = let l : 0 < length (header_bytes q) = omega (arith, header-length q) in omega (arith, stands-inside lays.header l, header-length q);
        version = (major, minor);
        buckets-are = rw hash (table-count _ b lays.hash (omega (arith, hash-table, lays.not-too-long)));
        directories-are = rw list (table-count _ _ lays.directories (omega (arith, good.paths-few)));
        hash-ends = rw hash hash-table;
        directories-end = rw list directory-table;
        bucket-field = λ k l. rw hash (table-entry (first_of d b q (length d.icons)) b lays.hash l (first-within k 0 (length d.icons) (omega arith)));
        path-field = λ i l. rw list (table-entry q.path-at _ lays.directories l (within (lays.paths i l) (string-some (nth_path d i))));
        record-inside = record-lies;
        chain-field = λ i l. (record-fields i l).0;
        name-field = λ i l. (record-fields i l).1;
        list-field = λ i l. (record-fields i l).2;
        image-count = λ i l.
            stands-number 4 (omega (arith, (each_at (GoodIcon (length d.paths)) d.icons (icon_is [] []) i good.icons-good l).few))
            (stands-first (bytes 4 _) (flat_map image_bytes (nth_icon d i).images) (lays.lists i l));
        list-ends = list-lies;
        images-stand = λ i l. rw (bytes-length 4 (length (nth_icon d i).images)) at (stands-next (bytes 4 _) (flat_map image_bytes (nth_icon d i).images) (lays.lists i l));
      }
