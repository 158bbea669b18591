-- Of images that stand somewhere: they are read back, keep rule 11, and give their words.
use Rattle.std.specs.Prelude.{ℕ, zero, suc, ◌+◌, ◌*◌, ◌≤◌, ◌<◌, ◌≡◌, refl, Bool, true, false, length, ltb, leb, eqb, if◌then◌else◌}
use Rattle.std.proofs.Common.{ap, ◌∙◌, arith, eqb-true, ltb-true, leb-true, length-append}
use mathlib.Core.List.{List, [], ◌∷◌, flat_map}
use Rattle.std.proofs.Math.Bool.{and-eq-true_iff}
use Rattle.format.specs.Number.{be}
use Rattle.format.specs.Fault.{no_fault, first_fault}
use Rattle.format.specs.Header.{directories}
use Rattle.format.specs.Record.{valid_index, valid_image, images_fault, image_words}
use Rattle.format.proofs.Laws.Bytes.{bytes-length}
use Rattle.format.proofs.Laws.Faults.{kept-passes}
use Rattle.catalogue.specs.Row.{row}
use Rattle.catalogue.specs.Catalogue.{Image, image_is, image_bytes, Each, GoodImage}
use Rattle.catalogue.specs.Fields.{image_at, images_from}
use Rattle.catalogue.specs.LaidOut.{Stands}
use Rattle.catalogue.specs.Serves.{words_of}
use Rattle.catalogue.proofs.Laws.Stands.{stands-three}

pub image-length : (i : Image) → length (image_bytes i) ≡ 8
image-length i = simp (length-append, bytes-length)

pub images-length : (is : List Image) → length (flat_map image_bytes is) ≡ 8 * length is
unfolding flat_map
images-length [] = refl
images-length (i ∷ is) = length-append (image_bytes i) (flat_map image_bytes is) ∙ omega (arith, image-length i, images-length is)

-- the words and the judgement of a cache's images are those of the images that stand there
pub words-of-images : (m : ℕ) (s : List ℕ) (p : ℕ) → image_words m s p ≡ flat_map words_of (images_from m s p)
unfolding image_words row flat_map
words-of-images zero s p = refl
words-of-images (suc m) s p = ap (λ l. (be 2 s p * 65536 + be 2 s (p + 2)) ∷ be 4 s (p + 4) ∷ l) (words-of-images m s (p + 8))

pub images-kept : {n : ℕ} (m : ℕ) (s : List ℕ) (p : ℕ) → directories s ≡ n → Each (GoodImage n) (images_from m s p) → images_fault m s p ≡ no_fault
unfolding first_fault row
images-kept zero s p e good = refl
images-kept (suc m) s p e (here, later) = kept-passes (valid_image s p) 11 p _ (rw e here.0) ∙ images-kept m s (p + 8) e later

-- an allowed index has two bytes
index-fits : {n i : ℕ} → n ≤ 65535 → valid_index n i ≡ true → i < 65536
index-fits {n} {i} few e = go (eqb n 0) e
  where
    go : (none : Bool) → (if none then eqb i 0xFFFF else ltb i n) ≡ true → i < 65536
    go true q = omega (arith, eqb-true i 0xFFFF q)
    go false q = omega (arith, ltb-true i n q)

-- a good image that stands at p is read there
pub image-back : {s : List ℕ} {n p : ℕ} {i : Image} → n ≤ 65535 → GoodImage n i → Stands s p (image_bytes i) → image_at s p ≡ i
image-back {n = n} {i = i} few (allowed, fits) h =
    let rules = (and-eq-true_iff (valid_index n i.index) (leb i.flags 15)).0 allowed in
    let index : i.index < 65536 = index-fits few rules.0 in
    let flags : i.flags < 65536 = omega (arith, leb-true i.flags 15 rules.1) in
    let (x, y, z) = stands-three 2 2 4 index flags fits h in
    λ j. image_is (x j) (y j) (z j)
