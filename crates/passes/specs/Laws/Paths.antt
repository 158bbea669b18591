-- A path that a pass has come to: it lies inside, and what is put for it is the catalogue's path.
use Rattle.std.specs.Prelude.{ℕ, ◌+◌, ◌≤◌, ◌<◌, ◌≡◌, List, [], ◌∷◌, length}
use Rattle.std.proofs.Common.{sym, ap, ◌∙◌, arith, length-append}
use Rattle.format.proofs.Laws.Faults.{or_else-none}
use Rattle.catalogue.specs.Row.{row_end}
use Rattle.catalogue.specs.Fields.{path_length, path_text, path_end, path_count, catalogue_in}
use Rattle.catalogue.specs.Judgement.{path_fields_fault, fields_fault}
use Rattle.catalogue.specs.LaidOut.{nth_path, text_and_zero}
use Rattle.catalogue.proofs.Laws.Rows.{row_at, row_keeps}
use Rattle.catalogue.proofs.Laws.Spans.{part_length}
use Rattle.entries.specs.Laws.{path_inside}
use Rattle.passes.specs.Passes.{Judged}

module _ {c : List ℕ} {paths icons first : ℕ} (h : Judged c paths icons first) {i p : ℕ} (l : i < paths) (here : p ≡ row_end (path_end c) i 2) where
  within : i < path_count c
  within = omega (arith, h.all-paths)

  text-is : nth_path (catalogue_in c) i ≡ path_text c p
  text-is = row_at (path_text c) (path_end c) (path_count c) i 2 [] within ∙ ap (path_text c) (sym here)

  pub path-ends : path_end c p ≤ length c
  unfolding fields_fault
  path-ends =
      let paths = (or_else-none _ _ (or_else-none _ _ h.good).1).0 in
      path_inside c p (rw here (row_keeps (path_fields_fault c) (path_end c) (path_count c) i 2 within paths))

  pub path-is : text_and_zero (path_text c p) ≡ text_and_zero (nth_path (catalogue_in c) i)
  path-is = ap text_and_zero (sym text-is)

  pub path-size : path_length c p + 1 ≡ length (text_and_zero (nth_path (catalogue_in c) i))
  path-size = sym (length-append (path_text c p) (0 ∷ []) ∙ ap (λ n. n + 1) (part_length c (p + 2) (path_length c p) path-ends)) ∙ ap length path-is
