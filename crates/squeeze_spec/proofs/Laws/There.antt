-- What a cache holds stands in it as the bytes that are packed, so that they can be compared and
-- copied as they are.
use Rattle.std.specs.Prelude.{ℕ, zero, suc, ◌+◌, ◌<◌, ◌≡◌, refl, List, [], ◌∷◌, ◌++◌, true, length, drop}
use Rattle.std.proofs.Common.{sym, ap, ◌∙◌, append_assoc, arith}
use Rattle.format.specs.Layout.{entries_at, name_field, longest_name, longest_path}
use Rattle.format.specs.Number.{be}
use Rattle.format.specs.String.{string, extent, is_whole}
use Rattle.format.specs.Header.{path_field, path_of, path_extent, path_fault}
use Rattle.format.specs.Record.{name_of, images_at, images}
use Rattle.format.specs.Words.{Keeps}
use Rattle.format.proofs.Laws.Faults.{or_else-none}
use Rattle.format.proofs.Laws.Strings.{whole-string}
use Rattle.format.proofs.Laws.Extents.{string-whole}
use Rattle.format.proofs.Laws.Rules.{record-valid}
use Rattle.format.specs.declared.Reading.TheVariants.{Short}
use Rattle.catalogue.specs.Fields.{AreBytes, image_at, image_end}
use Rattle.catalogue.specs.LaidOut.{Stands, list_bytes, text_and_zero}
use Rattle.catalogue.specs.Listed.{icon_of}
use Rattle.catalogue.proofs.Laws.Spans.{Spans, spans-join, spans-number}
use Rattle.catalogue.proofs.Laws.Judged.{images-span}
use Rattle.catalogue.proofs.Laws.Rows.{row-length}

spans-stand : {s xs : List ℕ} {p e : ℕ} → Spans s p xs e → Stands s p xs
spans-stand {s} {e = e} h = record { rest = drop e s; there = h.are }

-- a string that is ended stands there with its zero byte
string-ended : (t : List ℕ) → length (string t) < length t → t ≡ string t ++ (0 ∷ drop (suc (length (string t))) t)
unfolding string
string-ended [] l = absurd (omega arith)
string-ended (zero ∷ t) l = refl
string-ended (suc b ∷ t) l = ap (λ r. suc b ∷ r) (string-ended t (omega arith))

whole-there : (s : List ℕ) (p limit : ℕ) → is_whole (extent limit (drop p s)) ≡ true → Stands s p (text_and_zero (string (drop p s)))
whole-there s p limit e =
    let t = drop p s in
    record {
      rest = drop (suc (length (string t))) t;
      there = string-ended t (whole-string limit t e).ended ∙ sym (append_assoc (string t) (0 ∷ []) _);
    }

pub path-there : (s : List ℕ) (i : ℕ) → (path_fault s i).number ≡ 0 → Stands s (be 4 s (path_field s i)) (text_and_zero (path_of s i))
unfolding path_fault
path-there s i e =
    whole-there s (be 4 s (path_field s i)) longest_path (string-whole (path_extent s i) 5 _ (or_else-none _ _ e).0)

pub name-there : {s : List ℕ} {k r : ℕ} → Keeps Short s k r → Stands s (be 4 s (name_field r)) (text_and_zero (name_of s r))
name-there {s} {k} {r} h = whole-there s (be 4 s (name_field r)) longest_name (record-valid Short s k r h.rules).named

module _ (s : List ℕ) (small : AreBytes s) where
  -- the image list of a record, with its count
  pub list-there : {k r : ℕ} → Keeps Short s k r → Stands s (images_at s r) (list_bytes (icon_of s r))
  list-there {k} {r} h =
      let m = images s r in
      let p = images_at s r in
      let inside = (record-valid Short s k r h.rules).listed in
      let all = spans-join (spans-number s small 4 p (omega arith)) (images-span s small m (entries_at p) (omega arith)) refl in
      rw (row-length (image_at s) image_end m (entries_at p)) (spans-stand all)
