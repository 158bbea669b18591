-- What code answers of judgements that it puts one after the other, and of a string that is no
-- whole one.
use Rattle.std.specs.Prelude.{ℕ, ◌+◌, ◌<◌, ◌≡◌, refl, false, Ok, Err}
use Rattle.format.specs.Fault.{outcome, first_fault}
use Rattle.format.specs.String.{is_whole}
use Rattle.format.specs.declared.Extent.{Extent}
use Rattle.format.specs.declared.Extent.TheVariants.{Whole, Empty, Long, Cut}
use Rattle.format.specs.declared.Fault.{Fault}
use Rattle.format.proofs.Laws.Faults.{first-stop, first-go-on}
use Rattle.format.proofs.Laws.Outcomes.{outcome-broken, kept-by, broken-by}

-- of n things, the first breaks a rule, or it leaves the answer to the others
module _ {A : Type 0} (judge : ℕ → Fault) (next : ℕ → ℕ) (n p : ℕ) (a : A) where
  pub first-stops : {B : Type 0} {f : Fault} (b : B) → 0 < n → Err f ≡ outcome (judge p) a → Err f ≡ outcome (first_fault judge next n p) b
  first-stops {B} {f} b some e =
      let broken = broken-by (judge p) a f e in
      rw (first-stop judge next p n some broken.0, outcome-broken (judge p) b broken.0, broken.1)

  pub first-goes_on : {x : A} (m : ℕ) → n ≡ m + 1 → Ok x ≡ outcome (judge p) a → first_fault judge next n p ≡ first_fault judge next m (next p)
  first-goes_on {x} m e kept = first-go-on judge next p n m e (kept-by (judge p) a x kept).0

pub not_whole : (e : Extent) → ((n : ℕ) → e ≡ Whole n → ⊥) → is_whole e ≡ false
unfolding is_whole
not_whole (Whole n) h = absurd (h n refl)
not_whole Empty h = refl
not_whole Long h = refl
not_whole Cut h = refl
