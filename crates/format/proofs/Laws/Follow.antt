-- What a field leads to on a chain: the end, a broken rule, or a record that keeps the rules; and
-- how a chain goes on from there.
use Prim.Native.Nat.{ℕ, zero, suc, ◌+◌, ◌≤◌, ◌<◌, zero-le, suc-le-suc}
use Rattle.std.specs.Prelude.{◌≡◌, List, [], ◌∷◌, Bool, true, false, length, eqb, if◌then◌else◌}
use Rattle.std.proofs.Math.Path.{refl}
use Rattle.std.proofs.Common.{sym, ◌∙◌, arith}
use Rattle.std.proofs.Math.Decide.{ℕ_discrete}
use borrow.Author.Tests.{eq-eqb, ne_eqb, le-leb, lt-leb, leb-true}
use Rattle.format.specs.Layout.{record_size, end_value}
use Rattle.format.specs.Number.{be}
use Rattle.format.specs.Part.{inside}
use Rattle.format.specs.Fault.{fault}
use Rattle.format.specs.Record.{record_fault}
use Rattle.format.specs.Chain.{link_fault, judged, follow, chained, chain, itself, opens}
use Rattle.format.specs.Words.{Inside, Keeps}
use Rattle.format.specs.declared.Fault.{Fault}
use Rattle.format.specs.declared.Next.{Next}
use Rattle.format.specs.declared.Next.TheVariants.{End, Broken, Record}
use Rattle.format.proofs.Laws.Faults.{same_number, or_else-none, unless-none, broken-speaks, kept-passes, kept-takes, broken-takes}
use Rattle.format.proofs.Laws.Numbers.{OneOf, link_numbers, unless-one, or_else-one, at_field}
use Rattle.format.proofs.Laws.Rules.{record-number}
use Rattle.format.specs.declared.Reading.{Reading}

-- a refused record counts once at most
pub at_most_one : (x : ℕ) → itself x ≤ 1
at_most_one x = go (eqb x 7)
  where
    go : (b : Bool) → (if b then 0 else 1) ≤ 1
    go true = omega arith
    go false = omega arith

pub opens_one : (n : Next) → opens n ≤ 1
opens_one End = zero-le
opens_one (Broken x p) = at_most_one x
opens_one (Record r) = omega arith

module _ (ρ : Reading) (s : List ℕ) (k f r : ℕ) where
  pub link-number : OneOf (link_numbers ρ) (link_fault ρ s k f r).number
  unfolding link_fault
  link-number = or_else-one _ _ (unless-one (inside s r record_size) _ _ refl) (at_field ρ (record-number ρ s k r))

  pub link-outside : length s < r + record_size → link_fault ρ s k f r ≡ fault 7 f
  unfolding link_fault
  link-outside h = broken-speaks (inside s r record_size) 6 f _ (lt-leb _ _ h)

  pub link-inside : Inside s r → link_fault ρ s k f r ≡ record_fault ρ s k r
  unfolding link_fault
  link-inside h = kept-passes (inside s r record_size) 7 f _ (le-leb _ _ h)

  pub keeps-link : Keeps ρ s k r → (link_fault ρ s k f r).number ≡ 0
  keeps-link h = same_number (link-inside h.inside) ∙ h.rules

  pub link-keeps : (link_fault ρ s k f r).number ≡ 0 → Keeps ρ s k r
  unfolding link_fault
  link-keeps e =
      let kept = or_else-none _ _ e in
      record { inside = leb-true _ _ (unless-none (inside s r record_size) 6 f kept.0); rules = kept.1 }

-- each way, with what it says
pub data Leads (ρ : Reading) (s : List ℕ) (k f : ℕ) : Next → Type 0 where
  to_end : be 4 s f ≡ end_value → Leads ρ s k f End
  to-broken : {x p : ℕ} → (be 4 s f ≡ end_value → ⊥) → link_fault ρ s k f (be 4 s f) ≡ fault x p → 0 < x → Leads ρ s k f (Broken x p)
  to-record : (be 4 s f ≡ end_value → ⊥) → Keeps ρ s k (be 4 s f) → Leads ρ s k f (Record (be 4 s f))

module _ (ρ : Reading) (s : List ℕ) (k f : ℕ) where
  real-follow : (be 4 s f ≡ end_value → ⊥) → follow ρ s k f ≡ judged (be 4 s f) (link_fault ρ s k f (be 4 s f))
  unfolding follow
  real-follow real = rw (follow, ne_eqb _ _ real)

  -- what holds of the field says where it leads
  pub follow-leads : {l : Next} → Leads ρ s k f l → follow ρ s k f ≡ l
  unfolding follow
  follow-leads (to_end e) = rw (follow, eq-eqb _ _ e)
  follow-leads (to-broken {x = x} {p = p} real e some) = real-follow real ∙ rw e (broken-takes (fault x p) _ _ (λ z. omega arith))
  follow-leads (to-record real h) = real-follow real ∙ kept-takes (link_fault ρ s k f (be 4 s f)) _ _ (keeps-link ρ s k f _ h)

  -- and one of them always does
  pub leads : Leads ρ s k f (follow ρ s k f)
  leads = elim (ℕ_discrete (be 4 s f) end_value) [ yes e ↦ told (to_end e) | no real ↦ go real (link_fault ρ s k f (be 4 s f)).number refl ]
    where
      told : {l : Next} → Leads ρ s k f l → Leads ρ s k f (follow ρ s k f)
      told h = rw (follow-leads h) h

      go : (be 4 s f ≡ end_value → ⊥) → (n : ℕ) → (link_fault ρ s k f (be 4 s f)).number ≡ n → Leads ρ s k f (follow ρ s k f)
      go real zero e = told (to-record real (link-keeps ρ s k f _ e))
      go real (suc n) e = told (to-broken real refl (omega arith))

  -- the chain from the field on
  pub chain-ends : (n : ℕ) → follow ρ s k f ≡ End → chain ρ n s k f ≡ chained [] End
  unfolding chain
  chain-ends zero e = rw e
  chain-ends (suc n) e = rw (chain, e)

  pub chain-breaks : (n : ℕ) {x p : ℕ} → follow ρ s k f ≡ Broken x p → chain ρ n s k f ≡ chained [] (Broken x p)
  unfolding chain
  chain-breaks zero e = rw e
  chain-breaks (suc n) e = rw (chain, e)

  pub chain-full : chain ρ 0 s k f ≡ chained [] (follow ρ s k f)
  unfolding chain
  chain-full = refl

  pub chain_next : (n : ℕ) {r : ℕ} → follow ρ s k f ≡ Record r
      → chain ρ (suc n) s k f ≡ chained (r ∷ (chain ρ n s k r).records) (chain ρ n s k r).after
  unfolding chain
  chain_next n e = rw (chain, e)

  -- a record that it leads to is the one that the field names, and keeps the rules
  pub follow-keeps : {r : ℕ} → follow ρ s k f ≡ Record r → (be 4 s f ≡ r) × Keeps ρ s k r
  follow-keeps {r} e = go leads e
    where
      go : {l : Next} → Leads ρ s k f l → l ≡ Record r → (be 4 s f ≡ r) × Keeps ρ s k r
      go (to_end q) e = absurd (let z : ◌≡◌ {A = ℕ} 0 1 = cc in omega arith)
      go (to-broken real q some) e = absurd (let z : ◌≡◌ {A = ℕ} 0 1 = cc in omega arith)
      go (to-record real h) e = let q : be 4 s f ≡ r = cc in (q, rw q at h)

-- where a field leads, by the number n that stands in it
module _ (ρ : Reading) (s : List ℕ) (k f : ℕ) {n : ℕ} (e : n ≡ be 4 s f) where
  pub follow-end : n ≡ end_value → follow ρ s k f ≡ End
  follow-end q = follow-leads ρ s k f (to_end (sym e ∙ q))

  module _ (real : n ≡ end_value → ⊥) where
    pub follow-outside : length s < n + record_size → follow ρ s k f ≡ Broken 7 f
    follow-outside h = follow-leads ρ s k f (to-broken (rw e at real) (link-outside ρ s k f _ (rw e at h)) (omega arith))

    module _ (inside : Inside s n) {v : Fault} (j : v ≡ record_fault ρ s k n) where
      pub follow-broken : (v.number ≡ 0 → ⊥) → follow ρ s k f ≡ Broken v.number v.place
      follow-broken some =
          let broken = link-inside ρ s k f _ (rw e at inside) ∙ sym (rw e at j) in
          follow-leads ρ s k f (to-broken (rw e at real) broken (omega (arith, some)))

      pub follow-record : v.number ≡ 0 → follow ρ s k f ≡ Record n
      follow-record none =
          let keeps : Keeps ρ s k n = record { inside = inside; rules = same_number (sym j) ∙ none } in
          rw e (follow-leads ρ s k f (to-record (rw e at real) (rw e at keeps)))

-- no more records than may be passed
pub chain-short : (ρ : Reading) (n : ℕ) (s : List ℕ) (k f : ℕ) → length (chain ρ n s k f).records ≤ n
unfolding chain
chain-short ρ zero s k f = zero-le
chain-short ρ (suc n) s k f = go (follow ρ s k f) refl (λ r. chain-short ρ n s k r)
  where
    go : (l : Next) → follow ρ s k f ≡ l → ((r : ℕ) → length (chain ρ n s k r).records ≤ n) → length (chain ρ (suc n) s k f).records ≤ suc n
    go End e rest = rw (chain, e) zero-le
    go (Broken x p) e rest = rw (chain, e) zero-le
    go (Record r) e rest = rw (chain, e) (suc-le-suc (rest r))
