-- What a call judges on its way, by what it finds there, and that the part to which its way leads
-- lies inside.
use Prim.Native.Nat.{ℕ, suc, ◌+◌, ◌*◌, ◌≤◌, ◌<◌}
use Rattle.std.specs.Prelude.{◌≡◌, List, true, false, length}
use Rattle.std.proofs.Math.Bool.{and-eq-true_iff}
use Rattle.std.proofs.Math.Nat.{mul-le-mul}
use Rattle.std.proofs.Common.{le_refl}
use native.Mathlib.Omega.{arith}
use borrow.Author.Tests.{ltb-true, leb-true, lt-ltb, le-ltb, le-leb, lt-leb, eq-eqb, ne_eqb}
use Rattle.format.specs.Layout.{most_bytes}
use Rattle.format.specs.Number.{be}
use Rattle.format.specs.Fault.{fault, no_fault, ◌or_else◌}
use Rattle.format.specs.ImageData.{meta_data_field, image_data_size, meta_data_size, entry_at}
use Rattle.format.specs.Notes.{valid_entries}
use Rattle.format.proofs.Laws.Faults.{same_number, or_else-next, or_else-none, unless-none}
use Rattle.format.proofs.Laws.Reads.{list-ends}
use Rattle.image_data.specs.Call.{meta_at, bytes_fault, part_fault, meta_fault, entry_fault}

-- rules 1 and 2
module _ (s : List ℕ) where
  pub too_short : length s < 12 → bytes_fault s ≡ fault 1 0
  unfolding bytes_fault ◌or_else◌
  too_short l = rw (lt-leb 12 (length s) l)

  pub too_large : most_bytes < length s → bytes_fault s ≡ fault 2 0
  unfolding bytes_fault ◌or_else◌
  too_large l = rw (le-leb 12 (length s) (omega arith), lt-leb (length s) most_bytes l)

  pub bytes-kept : 12 ≤ length s → length s ≤ most_bytes → bytes_fault s ≡ no_fault
  unfolding bytes_fault ◌or_else◌
  bytes-kept l m = rw (le-leb 12 (length s) l, le-leb (length s) most_bytes m)

-- a part
module _ (s : List ℕ) (p size place : ℕ) where
  pub part-absent : p ≡ 0 → part_fault s p size place ≡ fault 33 0
  unfolding part_fault ◌or_else◌
  part-absent e = rw (eq-eqb p 0 e)

  pub part-outside : (p ≡ 0 → ⊥) → length s < p + size → part_fault s p size place ≡ fault 22 place
  unfolding part_fault ◌or_else◌
  part-outside real l = rw (ne_eqb p 0 real, lt-leb (p + size) (length s) l)

  pub part-found : (p ≡ 0 → ⊥) → p + size ≤ length s → part_fault s p size place ≡ no_fault
  unfolding part_fault ◌or_else◌
  part-found real l = rw (ne_eqb p 0 real, le-leb (p + size) (length s) l)

  pub part-inside : (part_fault s p size place).number ≡ 0 → p + size ≤ length s
  unfolding part_fault
  part-inside h = leb-true _ _ (unless-none _ 21 place (or_else-none _ _ h).1)

-- the meta data
module _ (s : List ℕ) (d : ℕ) where
  pub meta-bytes : {n : ℕ} → bytes_fault s ≡ fault (suc n) 0 → meta_fault s d ≡ fault (suc n) 0
  unfolding meta_fault ◌or_else◌
  meta-bytes e = rw e

  pub meta-next : bytes_fault s ≡ no_fault
      → meta_fault s d ≡ (part_fault s d image_data_size 0 or_else part_fault s (meta_at s d) meta_data_size (meta_data_field d))
  unfolding meta_fault
  meta-next e = or_else-next _ _ (same_number e)

  pub meta-inside : (meta_fault s d).number ≡ 0 → meta_at s d + 12 ≤ length s
  unfolding meta_fault
  meta-inside h = part-inside s (meta_at s d) _ _ (or_else-none _ _ (or_else-none _ _ h).1).1

-- an entry of the list that the field f names
module _ (s : List ℕ) (f size i : ℕ) where
  pub entry_absent : be 4 s f ≡ 0 → entry_fault s f size i ≡ fault 33 0
  unfolding entry_fault ◌or_else◌
  entry_absent e = rw (eq-eqb (be 4 s f) 0 e)

  pub entry-inside : (entry_fault s f size i).number ≡ 0 → entry_at (be 4 s f) size i + size ≤ length s
  unfolding entry_fault
  entry-inside h =
      let rest = or_else-none _ _ (or_else-none _ _ h).1 in
      let low = ltb-true i (be 4 s (be 4 s f)) (unless-none _ 32 0 rest.1) in
      let ends = list-ends s (be 4 s f) size ((and-eq-true_iff _ _).0 (unless-none _ 21 f rest.0)).0 in
      let fit : size * suc i ≤ size * be 4 s (be 4 s f) = mul-le-mul (le_refl size) (omega arith) in
      omega arith

  module _ (real : be 4 s f ≡ 0 → ⊥) where
    pub entry-broken : valid_entries s (be 4 s f) size ≡ false → entry_fault s f size i ≡ fault 22 f
    unfolding entry_fault ◌or_else◌
    entry-broken e = rw (ne_eqb (be 4 s f) 0 real, e)

    module _ (valid : valid_entries s (be 4 s f) size ≡ true) where
      pub entry-beyond : be 4 s (be 4 s f) ≤ i → entry_fault s f size i ≡ fault 33 0
      unfolding entry_fault ◌or_else◌
      entry-beyond l = rw (ne_eqb (be 4 s f) 0 real, valid, le-ltb i (be 4 s (be 4 s f)) l)

      pub entry_found : i < be 4 s (be 4 s f) → entry_fault s f size i ≡ no_fault
      unfolding entry_fault ◌or_else◌
      entry_found l = rw (ne_eqb (be 4 s f) 0 real, valid, lt-ltb i (be 4 s (be 4 s f)) l)
