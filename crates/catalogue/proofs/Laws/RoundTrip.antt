-- The bytes of a good catalogue are judged good, 20 included, and say that catalogue.
use Rattle.std.specs.Prelude.{ℕ, ◌+◌, ◌≤◌, ◌≡◌, refl}
use Rattle.std.proofs.Common.{sym, ◌∙◌, arith, le-leb, length-append}
use Rattle.std.proofs.Math.Path.{ap}
use mathlib.Core.List.{List, [], ◌++◌, flat_map, append-nil}
use Rattle.std.proofs.Math.ListN.{length}
use Rattle.format.specs.Bytes.{bytes}
use Rattle.format.specs.Fault.{no_fault, first_fault}
use Rattle.format.specs.String.{among}
use Rattle.format.proofs.Laws.Bytes.{bytes-length}
use Rattle.format.proofs.Laws.Faults.{unless-kept, kept-passes, or_else-next, same_number}
use Rattle.catalogue.specs.Catalogue.{Catalogue, catalogue_is, Good, path_bytes, icon_bytes, catalogue_bytes, names}
use Rattle.catalogue.specs.Fields.{path_text, path_end, icon_at, icon_end, path_count, icon_count_at, icon_count, first_icon_at, catalogue_end, paths_in, icons_in, catalogue_in}
use Rattle.catalogue.specs.Judgement.{path_fields_fault, icon_fields_fault, fields_fault}
use Rattle.catalogue.specs.Repeats.{icon_uses, catalogue_fault}
use Rattle.catalogue.specs.LaidOut.{Stands}
use Rattle.catalogue.specs.Promise.{SaysBack}
use Rattle.catalogue.proofs.Laws.Stands.{stands-first, stands-behind, stands-number}
use Rattle.catalogue.proofs.Laws.Repeats.{no-repeat, uses-names}
use Rattle.catalogue.proofs.Laws.Read.{RowRead, paths-read, icons-read}

module _ (d : Catalogue) (good : Good d) (few : length d.icons ≤ 65535) where
  abbrev c : List ℕ
  c = catalogue_bytes d

  -- the four parts, and that each stands behind those before it
  abbrev path-count : List ℕ
  path-count = bytes 2 (length d.paths)

  abbrev all-paths : List ℕ
  all-paths = flat_map path_bytes d.paths

  abbrev icon-count : List ℕ
  icon-count = bytes 2 (length d.icons)

  abbrev all-icons : List ℕ
  all-icons = flat_map icon_bytes d.icons

  all : Stands c 0 (path-count ++ all-paths ++ icon-count ++ all-icons)
  all = record { rest = []; there = sym (append-nil c) }

  up-to-count : Stands c 0 (path-count ++ all-paths ++ icon-count)
  up-to-count = stands-first (path-count ++ all-paths ++ icon-count) all-icons all

  up-to-paths : Stands c 0 (path-count ++ all-paths)
  up-to-paths = stands-first (path-count ++ all-paths) icon-count up-to-count

  paths-size : length (path-count ++ all-paths) ≡ 2 + length all-paths
  paths-size = length-append path-count all-paths ∙ rw (bytes-length 2 (length d.paths))

  count-size : length (path-count ++ all-paths ++ icon-count) ≡ 2 + length all-paths + 2
  count-size = length-append (path-count ++ all-paths) icon-count ∙ rw (paths-size, bytes-length 2 (length d.icons))

  size : length c ≡ 2 + length all-paths + 2 + length all-icons
  size = length-append (path-count ++ all-paths ++ icon-count) all-icons ∙ rw count-size

  -- what each is read as
  path-count-is : path_count c ≡ length d.paths
  path-count-is = stands-number 2 (omega (arith, good.paths-few)) (stands-first path-count all-paths up-to-paths)

  paths : RowRead (path_text c) (path_end c) (path_fields_fault c) path_bytes 2 d.paths
  paths = paths-read 2 d.paths good.paths-good (stands-behind path-count all-paths (bytes-length 2 (length d.paths)) up-to-paths)

  count_at : icon_count_at c ≡ 2 + length all-paths
  count_at = rw path-count-is paths.end

  icon-count-is : icon_count c ≡ length d.icons
  icon-count-is = rw count_at (stands-number 2 (omega arith) (stands-behind (path-count ++ all-paths) icon-count paths-size up-to-count))

  icons : RowRead (icon_at c) (icon_end c) (icon_fields_fault (length d.paths) c) icon_bytes (first_icon_at c) d.icons
  icons = icons-read good.paths-few (first_icon_at c) d.icons good.icons-good
      (rw count_at (stands-behind (path-count ++ all-paths ++ icon-count) all-icons count-size all))

  said : catalogue_in c ≡ d
  said =
      let ps : paths_in c ≡ d.paths = rw path-count-is paths.are in
      let is : icons_in c ≡ d.icons = rw icon-count-is icons.are in
      λ j. catalogue_is (ps j) (is j)

  fields-kept : fields_fault c ≡ no_fault
  unfolding fields_fault
  fields-kept =
      let start : 0 + 2 ≤ length c = omega (arith, size) in
      let counted : icon_count_at c + 2 ≤ length c = omega (arith, size, count_at) in
      let paths-kept : first_fault (path_fields_fault c) (path_end c) (path_count c) 2 ≡ no_fault = rw path-count-is paths.kept in
      let icons-kept : first_fault (icon_fields_fault (path_count c) c) (icon_end c) (icon_count c) (first_icon_at c) ≡ no_fault =
      ap (λ n. first_fault (icon_fields_fault n c) (icon_end c) (icon_count c) (first_icon_at c)) path-count-is ∙ rw icon-count-is icons.kept in
      let ends : catalogue_end c ≡ first_icon_at c + length all-icons = rw icon-count-is icons.end in
      let whole : length c ≤ catalogue_end c = omega (arith, size, count_at) in
      kept-passes _ 18 0 _ (le-leb _ _ start)
      ∙ or_else-next _ _ (same_number paths-kept)
      ∙ kept-passes _ 18 (icon_count_at c) _ (le-leb _ _ counted)
      ∙ or_else-next _ _ (same_number icons-kept)
      ∙ unless-kept _ 18 (catalogue_end c) (le-leb _ _ whole)

  pub says_back : SaysBack d
  unfolding catalogue_fault among
  says_back =
      let same : names (icons_in c) ≡ names d.icons = ap (λ (e : Catalogue). names e.icons) said in
      let apart = rw (← same, ← (uses-names c)) at good.none-twice in
      record {
        judged = or_else-next _ _ (same_number fields-kept) ∙ no-repeat [] (icon_uses c) (λ i l. refl) apart;
        said = said;
      }
