-- Rules 22 to 24: which is broken first behind a field.
use Prim.Native.Nat.{ℕ}
use Rattle.std.specs.Prelude.{◌≡◌, List, Bool, true, false, if◌then◌else◌}
use Rattle.std.proofs.Common.{◌∙◌, arith, eq-eqb, ne_eqb}
use Rattle.format.specs.Fault.{fault, no_fault, unless, ◌or_else◌}
use Rattle.format.specs.Number.{be}
use Rattle.format.specs.Part.{inside}
use Rattle.format.specs.ImageData.{image_data_size, pixel_data_field, meta_data_field, there}
use Rattle.format.specs.Notes.{if_there, pixel_data_fault, meta_data_fault, image_data_fault}
use Rattle.format.specs.declared.Fault.{Fault}
use Rattle.format.proofs.Laws.Faults.{broken-speaks, kept-passes}

-- a part at p that is not there, and one that is
pub part-absent : {p : ℕ} (v : Fault) → p ≡ 0 → if_there p v ≡ no_fault
part-absent {p} v e = rw (eq-eqb p 0 e)

pub part-there : {p : ℕ} (v : Fault) → (p ≡ 0 → ⊥) → if_there p v ≡ v
part-there {p} v e = rw (ne_eqb p 0 e)

-- what is judged of it after rule 22
module _ {p : ℕ} (real : p ≡ 0 → ⊥) (b : Bool) (f : ℕ) (v : Fault) where
  pub part-outside : b ≡ false → if_there p (unless b 22 f or_else v) ≡ fault 22 f
  part-outside e = part-there (unless b 22 f or_else v) real ∙ broken-speaks b _ _ v e

  pub part-inside : b ≡ true → if_there p (unless b 22 f or_else v) ≡ v
  part-inside e = part-there (unless b 22 f or_else v) real ∙ kept-passes b _ _ v e

-- what is broken behind a field hangs on the offset in it, but for the place
module _ (s : List ℕ) (f g : ℕ) (e : be 4 s g ≡ be 4 s f) where
  pub same-data : (image_data_fault s f).number ≡ 0 → (image_data_fault s g).number ≡ 0
  unfolding image_data_fault ◌or_else◌
  same-data h = rw e (go (there d) (inside s d image_data_size) h)
    where
      d : ℕ
      d = be 4 s f

      rest : Fault
      rest = pixel_data_fault s (pixel_data_field d) or_else meta_data_fault s (meta_data_field d)

      go : (t i : Bool) → (if t then unless i 22 f or_else rest else no_fault).number ≡ 0 → (if t then unless i 22 g or_else rest else no_fault).number ≡ 0
      go true true h = h
      go true false h = absurd (omega (arith, h))
      go false i h = h
