-- How many paths and icons a catalogue has, and how many bytes what is written of it takes.
use Prim.Native.Nat.{ℕ, zero, suc, ◌+◌, ◌*◌, ◌≤◌, ◌<◌}
use Rattle.std.specs.Prelude.{◌≡◌, List}
use Rattle.std.proofs.Math.Path.{refl}
use Rattle.std.proofs.Common.{sym, ap, ◌∙◌}
use native.Mathlib.Omega.{arith}
use Rattle.std.proofs.Math.ListN.{length, length-append}
use Rattle.format.specs.Bytes.{joined}
use Rattle.format.proofs.Laws.Faults.{or_else-none}
use Rattle.catalogue.specs.Row.{row_end}
use Rattle.catalogue.specs.Fields.{path_length, path_end, name_length, image_count, icon_end, path_count, icon_count_at, icon_count, first_icon_at, catalogue_end, path_text, icon_at, catalogue_in}
use Rattle.catalogue.specs.Judgement.{icon_fields_fault, fields_fault}
use Rattle.catalogue.specs.LaidOut.{nth_path, nth_icon, list_bytes, text_and_zero}
use Rattle.catalogue.specs.Written.{lists_up_to, paths_up_to, names_up_to, written_size}
use Rattle.catalogue.proofs.Laws.Rows.{row-length, end-next}
use Rattle.catalogue.proofs.Laws.Spans.{number_fits}
use Rattle.catalogue.proofs.Laws.Judged.{told}
use Rattle.entries.specs.Laws.{row_inside, icon-inside}
use Rattle.passes.specs.Passes.{Judged}
use Rattle.passes.specs.Laws.Paths.{path-size}
use Rattle.passes.specs.Laws.Icons.{name-size, list-size}

module _ {c : List ℕ} {paths icons first : ℕ} (h : Judged c paths icons first) where
  pub few-paths : paths < 65536
  few-paths = omega (arith, h.all-paths, number_fits c h.are-bytes 2 0 (told c h.are-bytes h.good).start)

  pub few-icons : icons < 65536
  few-icons = omega (arith, h.all-icons, number_fits c h.are-bytes 2 (icon_count_at c) (told c h.are-bytes h.good).counted)

  pub paths-are : length (catalogue_in c).paths ≡ paths
  paths-are = row-length (path_text c) (path_end c) (path_count c) 2 ∙ sym h.all-paths

  pub icons-are : length (catalogue_in c).icons ≡ icons
  icons-are = row-length (icon_at c) (icon_end c) (icon_count c) (first_icon_at c) ∙ sym h.all-icons

  -- a path takes one byte less in the cache than in the catalogue, an icon's name and list two more
  pub paths-span : (i : ℕ) → i ≤ paths → row_end (path_end c) i 2 ≡ 2 + length (paths_up_to (catalogue_in c) i) + i
  unfolding joined row_end
  paths-span zero l = refl
  paths-span (suc i) l =
      let p = row_end (path_end c) i 2 in
      let size : path_length c p + 1 ≡ length (text_and_zero (nth_path (catalogue_in c) i)) = path-size h (omega arith) refl in
      omega (arith, end-next (path_end c) i 2, paths-span i (omega arith), length-append (paths_up_to (catalogue_in c) i) (text_and_zero (nth_path (catalogue_in c) i)))

  pub icons-span : (i : ℕ) → i ≤ icons
      → row_end (icon_end c) i first + 2 * i ≡ first + length (lists_up_to (catalogue_in c) i) + length (names_up_to (catalogue_in c) i)
  unfolding joined row_end
  icons-span zero l = omega arith
  icons-span (suc i) l =
      let d = catalogue_in c in
      let p = row_end (icon_end c) i first in
      let name : name_length c p + 1 ≡ length (text_and_zero (nth_icon d i).name) = name-size h (omega arith) refl in
      let list : 4 + 8 * image_count c p ≡ length (list_bytes (nth_icon d i)) = list-size h (omega arith) refl in
      omega (
        arith,
        end-next (icon_end c) i first,
        icons-span i (omega arith),
        length-append (lists_up_to d i) (list_bytes (nth_icon d i)),
        length-append (names_up_to d i) (text_and_zero (nth_icon d i).name),
      )

  -- so where the first icon begins tells how long the paths are
  pub first-is : first ≡ 4 + length (paths_up_to (catalogue_in c) paths) + paths
  first-is = omega (arith, h.begin, ap (λ n. row_end (path_end c) n 2) h.all-paths, paths-span paths (omega arith))

  -- the icons end with the catalogue
  ended : catalogue_end c ≡ length c
  unfolding fields_fault
  ended =
      let t = told c h.are-bytes h.good in
      let kept = (or_else-none _ _ (or_else-none _ _ (or_else-none _ _ (or_else-none _ _ h.good).1).1).1).0 in
      let within = row_inside (icon_fields_fault (path_count c) c) (icon_end c) (icon-inside (path_count c) c) (icon_count c) (first_icon_at c) t.counted kept in
      omega (arith, t.ended)

  -- so their bytes tell how long the cache is
  pub size_is : (b : ℕ) → written_size (catalogue_in c) b ≡ length c + 16 + 4 * b + 14 * icons + 3 * paths
  size_is b =
      let d = catalogue_in c in
      let last : row_end (icon_end c) icons first ≡ catalogue_end c = ap (λ n. row_end (icon_end c) n first) h.all-icons ∙ ap (row_end (icon_end c) (icon_count c)) h.begin in
      omega (
        arith,
        ended,
        icons-are,
        paths-are,
        first-is,
        icons-span icons (omega arith),
        ap (λ n. length (lists_up_to d n)) icons-are,
        ap (λ n. length (names_up_to d n)) icons-are,
        ap (λ n. length (paths_up_to d n)) paths-are,
      )
