-- Chains as sequences of links: where a chain that holds ends, and that a chain that repeats goes
-- on for ever.
use Prim.Native.Nat.{ℕ, zero, suc, ◌+◌, ◌*◌, ◌≤◌, ◌<◌}
use Rattle.std.specs.Prelude.{◌≡◌, refl, List, length}
use Rattle.std.proofs.Common.{sym, ◌∙◌, le_antisymm}
use Rattle.std.proofs.Math.Path.{ap}
use Rattle.std.proofs.Math.Decide.{ℕ_discrete}
use native.Mathlib.Omega.{arith}
use Rattle.format.specs.Layout.{end_value}
use Rattle.format.specs.Number.{be}
use Rattle.format.specs.Record.{name_of, bucket_of, images_at, images}
use Rattle.format.specs.Chain.{link_fault}
use Rattle.format.specs.Words.{link, link_field, Keeps, KeepsAt, KeepsBelow, Holds, Breaks, OnChain}
use Rattle.format.proofs.Laws.Below.{le-unless, lt-unless}
use Rattle.format.proofs.Laws.Faults.{same_number, or_else-first, or_else-assoc}
use Rattle.format.proofs.Laws.Numbers.{OneOf, link_numbers}
use Rattle.format.proofs.Laws.Rules.{record-valid, keeps-short, record-long}
use Rattle.format.proofs.Laws.Follow.{link-number, keeps-link}
use Rattle.format.specs.Places.{Repeat}
use Rattle.format.specs.declared.Reading.{Reading}
use Rattle.format.specs.declared.Reading.TheVariants.{Short, Long}

-- the name of a record that keeps the rules is one of its bucket
pub keeps-bucket : {ρ : Reading} {s : List ℕ} {k r : ℕ} → Keeps ρ s k r → bucket_of s (name_of s r) ≡ k
keeps-bucket {ρ} {s} {k} {r} h = (record-valid ρ s k r h.rules).home

-- its images lie inside
pub keeps-listed : {ρ : Reading} {s : List ℕ} {k r : ℕ} → Keeps ρ s k r → images_at s r + 4 + 8 * images s r ≤ length s
keeps-listed {ρ} {s} {k} {r} h = (record-valid ρ s k r h.rules).listed

module _ {ρ : Reading} {s : List ℕ} {k n x p : ℕ} (b : Breaks ρ s k n x p) where
  -- a record that keeps the rules breaks none
  broken-keeps : Keeps ρ s k (link s k n) → ⊥
  broken-keeps h = omega (arith, keeps-link ρ s k (link_field s k n) _ h, same_number b.broken, b.some)

  pub broken-number : OneOf (link_numbers ρ) x
  broken-number = rw (same_number b.broken) at (link-number ρ s k (link_field s k n) (link s k n))

module _ {s : List ℕ} {k n : ℕ} (c : Repeat s k n) where
  -- each step names a record that an earlier one below the repeat names
  pub earlier : (m : ℕ) → (i : ℕ) × (i < c.second) × (link s k m ≡ link s k i)
  unfolding link
  earlier zero = (0, omega arith, refl)
  earlier (suc m) =
      let (i, l, e) = earlier m in
      elim (ℕ_discrete (suc i) c.second) [
        | yes q ↦ (c.first, c.order, ap (be 4 s) e ∙ ap (link s k) q ∙ c.same)
        | no a ↦ (suc i, omega arith, ap (be 4 s) e)
      ]

  pub round : {ρ : Reading} → KeepsBelow ρ s k n → (m : ℕ) → KeepsAt ρ s k m
  round keeps m = let (i, l, e) = earlier m in rw e (keeps i (omega arith))

  pub never-breaks : {ρ : Reading} {x p : ℕ} → Breaks ρ s k n x p → ⊥
  never-breaks b = broken-keeps b (round b.keeps n).1

module _ {ρ : Reading} {s : List ℕ} {k n : ℕ} (h : Holds ρ s k n) where
  -- records that keep the rules come before the end
  pub keeps-le : {m : ℕ} → KeepsBelow ρ s k m → m ≤ n
  keeps-le keeps = le-unless (λ l. (keeps n l).0 h.ends)

  -- a link that is no end value, with none before it, lies before the end
  pub before-end : {m : ℕ} → ((i : ℕ) → i < m → link s k i ≡ end_value → ⊥) → (link s k m ≡ end_value → ⊥) → m < n
  before-end before here = lt-unless (λ e. here (rw (← e) h.ends)) (λ l. before n l h.ends)

  -- no record on it breaks a rule
  pub unbroken : {m x p : ℕ} → Breaks ρ s k m x p → ⊥
  unbroken {m} b = broken-keeps b (h.keeps m (before-end (λ i g. (b.keeps i g).0) b.real)).1

  pub on_chain : {m r : ℕ} → OnChain s k m r → (m < n) × Keeps ρ s k r
  on_chain {m} c =
      let l = before-end (λ i g. (c.before i g).0) (rw c.named c.real) in
      (l, rw (← c.named) (h.keeps m l).1)

  pub chain-on : {m : ℕ} → m < n → OnChain s k m (link s k m)
  chain-on {m} l = record { before = λ i g. let x = h.keeps i (omega arith) in (x.0, x.1.inside); named = refl; real = (h.keeps m l).0 }

  -- no record twice
  pub once : Repeat s k n → ⊥
  once c = (round c h.keeps n).0 h.ends

  once-le : {i j : ℕ} → j < n → link s k j ≡ link s k i → j ≤ i
  once-le {i} {j} l e = le-unless (λ g. once (record { first = i; second = j; order = g; below = l; same = e }))

  pub one-step : {i j : ℕ} → i < n → j < n → link s k i ≡ link s k j → i ≡ j
  one-step l g e = le_antisymm (once-le l e) (once-le g (sym e))

-- what keeps the rules by any reading keeps those of the short one
pub below-short : {ρ : Reading} {s : List ℕ} {k n : ℕ} → KeepsBelow ρ s k n → KeepsBelow Short s k n
below-short {ρ} {s} {k} keeps m l =
    let (real, here) = keeps m l in
    (real, record { inside = here.inside; rules = keeps-short ρ s k _ here.rules })

pub holds-short : {ρ : Reading} {s : List ℕ} {k n : ℕ} → Holds ρ s k n → Holds Short s k n
holds-short h = record { keeps = below-short h.keeps; ends = h.ends }

link-long : (s : List ℕ) (k f r : ℕ) → ((link_fault Short s k f r).number ≡ 0 → ⊥) → link_fault Long s k f r ≡ link_fault Short s k f r
unfolding link_fault
link-long s k f r some = rw (record-long s k r) (sym (or_else-assoc _ _ _) ∙ or_else-first _ _ some)

-- what breaks a rule of the short reading breaks it by the long one
pub breaks-long : {s : List ℕ} {k n x p : ℕ} → Breaks Short s k n x p → KeepsBelow Long s k n → Breaks Long s k n x p
breaks-long {s} {k} {n} b keeps = record {
  keeps = keeps;
  real = b.real;
  broken = link-long s k (link_field s k n) (link s k n) (λ z. omega (arith, same_number b.broken, b.some)) ∙ b.broken;
  some = b.some;
}
