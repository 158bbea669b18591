-- What one chain gives to a step, by what comes after the records passed, and the other way round.
use Rattle.std.specs.Prelude.{ℕ, suc, ◌+◌, ◌<◌, ◌≡◌, refl, List, Option, Some, None, Result, Ok, Err}
use Rattle.std.proofs.Common.{sym, ap, ◌∙◌, add-one, arith}
use Rattle.format.specs.Chain.{chain_of}
use Rattle.format.specs.Fault.{fault}
use Rattle.format.proofs.Laws.Along.{after_is, holds-chain, breaks-chain, keeps-chain}
use Rattle.format.proofs.Laws.Course.{Course, ends, breaks, goes_on, course}
use Rattle.format.specs.declared.Fault.{Fault}
use Rattle.format.specs.declared.Next.{Next}
use Rattle.format.specs.declared.Next.TheVariants.{End, Broken, Record}
use Rattle.format.specs.declared.Reading.TheVariants.{Short}
use Rattle.listing.specs.Listing.{position, step_to}
use Rattle.listing.specs.Reach.{reached}
use Rattle.listing.specs.declared.Step.{Step}

abbrev Given : Type 0
Given = Result (Option Step) Fault

module _ (k c : ℕ) where
  pub reach-gives : (l : Next) {a : Step} → ◌≡◌ {A = Given} (Ok (Some a)) (reached k c l) → (l ≡ Record a.«record») × (a ≡ step_to a.«record» (position k (suc c)))
  reach-gives End e = cc
  reach-gives (Broken x p) e = cc
  reach-gives (Record r) {a} e =
      let is : a ≡ step_to r (position k (c + 1)) = cc in
      let far : a ≡ step_to a.«record» (position k (c + 1)) = rw is refl in
      (sym (ap (λ (a : Step). Record a.«record») is), far ∙ ap (λ n. step_to a.«record» (position k n)) (add-one c))

  pub reach-broken : (l : Next) {v : Fault} → ◌≡◌ {A = Given} (Err v) (reached k c l) → l ≡ Broken v.number v.place
  reach-broken End e = cc
  reach-broken (Broken x p) {v} e =
      let is : v ≡ fault x p = cc in
      sym (ap (λ (v : Fault). Broken v.number v.place) is)
  reach-broken (Record r) e = cc

  pub reach-ends : (l : Next) → ◌≡◌ {A = Given} (Ok None) (reached k c l) → l ≡ End
  reach-ends End e = refl
  reach-ends (Broken x p) e = cc
  reach-ends (Record r) e = cc

-- a rule that a chain breaks has a number above 0
pub broken-some : (s : List ℕ) (k c : ℕ) {x p : ℕ} → (chain_of Short s k c).after ≡ Broken x p → 0 < x
broken-some s k c {x} {p} e = go (course Short s k c)
  where
    go : Course Short s k c → 0 < x
    go (ends l h) = let other : ◌≡◌ {A = Next} End (Broken x p) = sym (after_is (holds-chain Short s k l h)) ∙ e in cc
    go (breaks {x = y} {p = o} l b) =
        let same : ◌≡◌ {A = Next} (Broken y o) (Broken x p) = sym (after_is (breaks-chain Short s k l b)) ∙ e in
        let is : y ≡ x = cc in
        omega (arith, is, b.some)
    go (goes_on keeps) = let other : ◌≡◌ {A = Next} (Record _) (Broken x p) = sym (after_is (keeps-chain Short s k keeps)) ∙ e in cc
