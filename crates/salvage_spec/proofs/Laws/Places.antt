-- The places of rows: no place lies far from what the row is for.
use Rattle.std.specs.Prelude.{ℕ, zero, suc, ◌+◌, ◌≤◌, ◌≡◌, refl, List, Bool, true, false, not, length}
use Rattle.std.proofs.Common.{arith}
use Rattle.format.specs.Fault.{unless, ◌or_else◌}
use Rattle.format.specs.String.{string_fault, among}
use Rattle.format.specs.Segments.{valid_segments}
use Rattle.format.specs.Header.{bucket_field, path_field, path_of, path_extent, relative_path, path_fault}
use Rattle.format.specs.Record.{name_of, name_extent, own_bucket, images_at, valid_image_list, name_fault}
use Rattle.format.specs.Words.{link_field}
use Rattle.format.specs.declared.Fault.{Fault}
use Rattle.format.specs.declared.Extent.{Extent}
use Rattle.format.specs.declared.Extent.TheVariants.{Whole, Empty, Long, Cut}
use Rattle.salvage_spec.specs.Meetings.{met, cut, fate_among}
use Rattle.salvage_spec.specs.Promise.{Ends, misnamed, ended, outside, looped}
use Rattle.salvage_spec.proofs.Laws.Meets.{met-below}
use Rattle.salvage_spec.proofs.Laws.Ends.{walk_ends}

unless-within : (b : Bool) (x p m : ℕ) → p ≤ m → (unless b x p).place ≤ m
unless-within true x p m l = omega arith
unless-within false x p m l = l

string-within : (e : Extent) (x p m : ℕ) → p ≤ m → (string_fault e x p).place ≤ m
unfolding string_fault
string-within (Whole n) x p m l = omega arith
string-within Empty x p m l = l
string-within Long x p m l = l
string-within Cut x p m l = l

or_else-within : (v w : Fault) (m : ℕ) → v.place ≤ m → w.place ≤ m → (v or_else w).place ≤ m
unfolding ◌or_else◌
or_else-within v w m a b = go v.number
  where
    go : (n : ℕ) → (elim n as (λ i. Fault) [ zero ↦ w | suc i ↦ v ]).place ≤ m
    go zero = b
    go (suc n) = a

pub path-within : (s : List ℕ) (i : ℕ) → (path_fault s i).place ≤ path_field s i
unfolding path_fault
path-within s i =
    let p = path_field s i in
    or_else-within _ _ _ (string-within (path_extent s i) 6 p p (omega arith))
    (or_else-within _ _ _ (unless-within (relative_path s i) 6 p p (omega arith)) (unless-within (valid_segments (path_of s i)) 16 p p (omega arith)))

pub fate-within : (s : List ℕ) (k : ℕ) (ts : List (List ℕ)) (r : ℕ) → (fate_among s k ts r).place ≤ r + 8
unfolding fate_among name_fault
fate-within s k ts r =
    let m = r + 8 in
    or_else-within _ _ _ (or_else-within _ _ _ (string-within (name_extent s r) 8 (r + 4) m (omega arith)) (unless-within (own_bucket s k r) 9 (r + 4) m (omega arith)))
    (or_else-within _ _ _ (unless-within (valid_image_list s (images_at s r)) 10 m m (omega arith)) (unless-within (not (among (name_of s r) ts)) 20 (r + 4) m (omega arith)))

-- a chain is cut at a field, which lies inside
pub cut-within : (s : List ℕ) (k : ℕ) → bucket_field s k + 4 ≤ length s → (cut s k).place ≤ length s
unfolding link_field
cut-within s k l = go (met s k) refl (walk_ends s k)
  where
    go : (n : ℕ) → met s k ≡ n → {f : Fault} → Ends s k n f → f.place ≤ length s
    go n q (misnamed m e bad) = omega arith
    go n q (ended p e) = omega arith
    go zero q (outside p real out) = omega arith
    go (suc n) q (outside p real out) = omega (arith, (met-below s k n (omega arith)).inside)
    go n q (looped p m l' e) = omega arith
