-- What a call of squeeze tells that refuses nothing, and when none refuses.
use Rattle.std.specs.Prelude.{ℕ, ◌≤◌, ◌≡◌, List, leb}
use Rattle.std.proofs.Math.Path.{ap}
use Rattle.std.proofs.Common.{◌∙◌}
use Rattle.std.proofs.Math.Bool.{and-eq-true_iff}
use borrow.Author.Tests.{le-leb, leb-true}
use Rattle.format.specs.Layout.{hash_field, most_bytes}
use Rattle.format.specs.Fault.{no_fault, unless, ◌or_else◌}
use Rattle.format.specs.Header.{buckets}
use Rattle.format.specs.Chain.{all_records}
use Rattle.format.specs.Call.{check}
use Rattle.format.specs.Words.{Accepted}
use Rattle.format.specs.declared.Fault.{Fault}
use Rattle.format.proofs.Laws.Faults.{same_number, or_else-none, or_else-next, unless-none, unless-kept, kept-passes}
use Rattle.format.proofs.Laws.Demand.{demand3}
use Rattle.format.specs.declared.Reading.TheVariants.{Short}
use Rattle.catalogue.specs.Call.{allowed_size}
use Rattle.squeeze_spec.specs.Call.{data_fault, squeezed_size, squeeze_fault}

-- a judgement that refuses nothing is that of its last rule
or_else-last : (x y : Fault) → (x or_else y).number ≡ 0 → x or_else y ≡ y
or_else-last x y e = or_else-next x y (or_else-none x y e).0

-- what a call of squeeze tells that answers 0
pub record Right (s : List ℕ) (room : ℕ) : Type 0 where
  pub none : squeeze_fault s room ≡ no_fault
  pub accepted : Accepted Short s
  pub buckets-few : buckets s ≤ 4096
  pub plain : (data_fault s (all_records Short s)).number ≡ 0
  pub fits : squeezed_size s ≤ room
  pub not-too-long : squeezed_size s ≤ most_bytes

module _ (s : List ℕ) (room : ℕ) where
  pub squeeze-right : (squeeze_fault s room).number ≡ 0 → Right s room
  unfolding squeeze_fault
  squeeze-right e =
      let first = or_else-none _ _ e in
      let second = or_else-none _ _ first.1 in
      let third = or_else-none _ _ second.1 in
      let n = squeezed_size s in
      let sized = (and-eq-true_iff (leb n room) _).0 (unless-none (allowed_size n room) 18 0 third.1) in
      record {
        none = or_else-last _ _ e ∙ or_else-last _ _ first.1 ∙ or_else-last _ _ second.1 ∙ unless-kept (allowed_size n room) 19 0 (unless-none (allowed_size n room) 18 0 third.1);
        accepted = (demand3 Short s).checks.accepted.0 first.0;
        buckets-few = leb-true _ _ (unless-none (leb (buckets s) 4096) 24 hash_field second.0);
        plain = third.0;
        fits = leb-true _ _ sized.0;
        not-too-long = leb-true _ _ sized.1;
      }

  pub right-squeeze : (check Short s).number ≡ 0 → buckets s ≤ 4096 → data_fault s (all_records Short s) ≡ no_fault → squeezed_size s ≤ room → squeezed_size s ≤ most_bytes
      → squeeze_fault s room ≡ no_fault
  unfolding squeeze_fault
  right-squeeze accepted few plain fits short =
      or_else-next _ _ accepted
      ∙ kept-passes _ 25 hash_field _ (le-leb _ _ few)
      ∙ or_else-next _ _ (same_number plain)
      ∙ ap (λ b. unless b 19 0) ((and-eq-true_iff (leb (squeezed_size s) room) _).1 (le-leb _ _ fits, le-leb _ _ short))
