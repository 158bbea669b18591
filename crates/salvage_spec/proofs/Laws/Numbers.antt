-- The numbers of the rows: that of a meeting has one of its own, that of a chain's end has none of
-- them.
use Rattle.std.specs.Prelude.{ℕ, ◌≡◌, List, true}
use Rattle.std.proofs.Math.Path.{refl}
use Rattle.std.proofs.Math.Bool.{false}
use Rattle.std.proofs.Common.{ne_eqb}
use Rattle.format.specs.Record.{name_fault}
use Rattle.format.specs.declared.Fault.{Fault}
use Rattle.format.proofs.Laws.Numbers.{OneOf, unless-one, or_else-one}
use Rattle.format.proofs.Laws.Extents.{string-one}
use Rattle.salvage_spec.specs.Meetings.{met, cut, fate_among, fate}
use Rattle.salvage_spec.specs.Promise.{Ends, misnamed, ended, outside, looped, meeting_numbers, meeting_number}
use Rattle.salvage_spec.proofs.Laws.Ends.{walk_ends}

module _ (s : List ℕ) (k : ℕ) where
  pub fate-one : (n : ℕ) → OneOf meeting_numbers (fate s k n).number
  unfolding fate fate_among name_fault
  fate-one n = search (or_else-one, unless-one, string-one)

  pub fate-number : (n : ℕ) → ((fate s k n).number ≡ 0 → ⊥) → meeting_number (fate s k n).number ≡ true
  unfolding meeting_number
  fate-number n gone = rw (ne_eqb _ _ gone) at (fate-one n).one

  pub cut-number : meeting_number (cut s k).number ≡ false
  unfolding meeting_number
  cut-number = go (walk_ends s k)
    where
      go : {f : Fault} → Ends s k (met s k) f → meeting_number f.number ≡ false
      go (misnamed m e bad) = refl
      go (ended p e) = refl
      go (outside p real out) = refl
      go (looped p m l e) = refl
