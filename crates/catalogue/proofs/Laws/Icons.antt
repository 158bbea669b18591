-- What is read from a cache may stand in a catalogue: a path that keeps rules 6, 16 and 17, and the
-- icon of a record that keeps rules 7 to 11 and 17.
use Prim.Native.Nat.{ℕ, zero, suc, ◌+◌, ◌*◌, ◌≤◌, ◌<◌}
use Rattle.std.specs.Prelude.{◌≡◌, List, true, length}
use Rattle.std.proofs.Common.{zero-add, one-mul, arith}
use Rattle.format.specs.Fault.{first_fault}
use Rattle.format.specs.Header.{directories, path_part, path_of, path_fault, paths_fault}
use Rattle.format.specs.Record.{name_part, images_at, images, images_fault}
use Rattle.format.specs.Words.{Keeps}
use Rattle.format.proofs.Laws.Faults.{also, or_else-none, unless-none, kept-each}
use Rattle.format.proofs.Laws.Extents.{string-whole}
use Rattle.format.proofs.Laws.Texts.{whole-text, whole-allowed}
use Rattle.format.proofs.Laws.Rules.{record-valid}
use Rattle.format.specs.Segments.{allowed_path}
use Rattle.format.specs.declared.Reading.TheVariants.{Short}
use Rattle.catalogue.specs.Row.{row}
use Rattle.catalogue.specs.Catalogue.{Each, GoodImage, GoodIcon}
use Rattle.catalogue.specs.Fields.{AreBytes, image_at, image_end, images_from}
use Rattle.catalogue.specs.Listed.{icon_of}
use Rattle.catalogue.proofs.Laws.Rows.{row-length}
use Rattle.catalogue.proofs.Laws.Spans.{number_fits}

pub path-allowed : (s : List ℕ) (i : ℕ) → (path_fault s i).number ≡ 0 → allowed_path (path_of s i) ≡ true
unfolding path_fault allowed_path
path-allowed s i e =
    let whole = or_else-none _ _ e in
    let rules = or_else-none _ _ whole.1 in
    also (also (whole-text 1023 (path_part s i) (string-whole _ _ _ whole.0)) (unless-none _ _ _ rules.0)) (unless-none _ _ _ rules.1)

-- each of n paths
pub paths-each : (s : List ℕ) (n i : ℕ) → (paths_fault n s 0).number ≡ 0 → i < n → (path_fault s i).number ≡ 0
paths-each s n i e l = rw (zero-add, one-mul) at (kept-each (path_fault s) 1 n 0 i l e)

module _ (s : List ℕ) (small : AreBytes s) where
  images-good : (m p : ℕ) → p + 8 * m ≤ length s → (images_fault m s p).number ≡ 0 → Each (GoodImage (directories s)) (images_from m s p)
  unfolding first_fault row
  images-good zero p l e = tt
  images-good (suc m) p l e =
      let both = or_else-none _ _ e in
      let right = unless-none _ _ _ both.0 in
      ((right, number_fits s small 4 (p + 4) (omega arith)), images-good m (p + 8) (omega arith) both.1)

  pub icon-allowed : {k r : ℕ} → Keeps Short s k r → GoodIcon (directories s) (icon_of s r)
  icon-allowed {k} {r} h =
      let valid = record-valid Short s k r h.rules in
      record {
        named = whole-allowed (name_part s r) valid.named;
        few = rw (row-length (image_at s) image_end (images s r) (images_at s r + 4)) valid.few;
        images-good = images-good (images s r) (images_at s r + 4) valid.listed valid.images-kept;
      }
