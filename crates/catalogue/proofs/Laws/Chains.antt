-- The chains of a cache that lays out a good catalogue: each ends, and the records on it are those
-- of the icons of its bucket.
use Prim.Native.Nat.{ℕ, zero, suc, ◌+◌, ◌-◌, ◌<◌}
use Rattle.std.specs.Prelude.{◌≡◌, List}
use Rattle.std.proofs.Common.{sym, ◌∙◌}
use Rattle.std.proofs.Math.Path.{ap}
use Rattle.std.proofs.Math.Nat.{zero-add, sub-zero}
use Rattle.std.proofs.Math.Decide.{ℕ_discrete}
use native.Mathlib.Omega.{arith}
use borrow.Author.Tests.{eq-eqb, ne_eqb}
use Rattle.std.proofs.Math.ListN.{length}
use Rattle.format.specs.Number.{be}
use Rattle.format.specs.Words.{link, KeepsBelow, Holds}
use Rattle.format.proofs.Laws.Below.{below_suc}
use Rattle.format.specs.declared.Reading.TheVariants.{Short}
use Rattle.catalogue.specs.Catalogue.{Catalogue, Good}
use Rattle.catalogue.specs.LaidOut.{icon_bucket, first_in, Places, Lays}
use Rattle.catalogue.specs.Serves.{count_in}
use Rattle.catalogue.proofs.Laws.Laid.{Laid, laid}
use Rattle.catalogue.proofs.Laws.Kept.{record-keeps}

-- the record at step m of bucket k's chain is that of icon i, which is of bucket k
pub record IconAtStep (s : List ℕ) (d : Catalogue) (b : ℕ) (q : Places) (k m i : ℕ) : Type 0 where
  pub below : i < length d.icons
  pub home : icon_bucket d b i ≡ k
  pub named : link s k m ≡ q.record-at i

-- the chain of bucket k ends after n records, which are those of the icons of bucket k
pub record ChainOf (s : List ℕ) (d : Catalogue) (b : ℕ) (q : Places) (k : ℕ) : Type 0 where
  pub steps : ℕ
  pub holds : Holds Short s k steps
  pub counted : steps ≡ count_in (icon_bucket d b) k 0 (length d.icons)
  pub icon-at : (m : ℕ) → m < steps → (i : ℕ) × IconAtStep s d b q k m i
  pub step_of : (i : ℕ) → i < length d.icons → icon_bucket d b i ≡ k → (m : ℕ) × (m < steps) × (link s k m ≡ q.record-at i)

-- the way there: n records of the chain are passed, and the icons before the j-th have been looked
-- at
record Passed (s : List ℕ) (d : Catalogue) (b : ℕ) (q : Places) (k n j : ℕ) : Type 0 where
  next : link s k n ≡ first_in (icon_bucket d b) q.record-at k j (length d.icons - j)
  keeps : KeepsBelow Short s k n
  counted : n + count_in (icon_bucket d b) k j (length d.icons - j) ≡ count_in (icon_bucket d b) k 0 (length d.icons)
  icon-at : (m : ℕ) → m < n → (i : ℕ) × IconAtStep s d b q k m i
  step_of : (i : ℕ) → i < j → icon_bucket d b i ≡ k → (m : ℕ) × (m < n) × (link s k m ≡ q.record-at i)

module _ (bucket record-at : ℕ → ℕ) (k i : ℕ) {n : ℕ} (m : ℕ) (e : n ≡ suc m) where
  pub first-here : bucket i ≡ k → first_in bucket record-at k i n ≡ record-at i
  unfolding first_in
  first-here h = rw (e, first_in, eq-eqb _ _ h)

  pub first-later : (bucket i ≡ k → ⊥) → first_in bucket record-at k i n ≡ first_in bucket record-at k (suc i) m
  unfolding first_in
  first-later h = rw (e, first_in, ne_eqb _ _ h)

  count-here : bucket i ≡ k → count_in bucket k i n ≡ 1 + count_in bucket k (suc i) m
  unfolding count_in
  count-here h = rw (e, count_in, eq-eqb _ _ h)

  count-later : (bucket i ≡ k → ⊥) → count_in bucket k i n ≡ count_in bucket k (suc i) m
  unfolding count_in
  count-later h = rw (e, count_in, ne_eqb _ _ h) (zero-add (count_in bucket k (suc i) m))

module _ {s : List ℕ} {d : Catalogue} {b : ℕ} {q : Places} (good : Good d) (lays : Lays s d b q) (some : 0 < b) where
  abbrev f : Laid s d b q
  f = laid good lays

  module _ (k n j : ℕ) (l : j < length d.icons) (p : Passed s d b q k n j) where
    one_more : length d.icons - j ≡ suc (length d.icons - suc j)
    one_more = omega arith

    -- icon j is of bucket k: its record is the next on the chain
    take-it : icon_bucket d b j ≡ k → Passed s d b q k (suc n) (suc j)
    unfolding link
    take-it e =
        let here : link s k n ≡ q.record-at j = p.next ∙ first-here (icon_bucket d b) q.record-at k j (length d.icons - suc j) one_more e in
        let inside = f.record-inside j l in
        record {
          next = ap (be 4 s) here ∙ rw (← e) (f.chain-field j l);
          keeps = below_suc p.keeps (rw here (λ z. omega (arith, lays.not-too-long), rw (← e) (record-keeps good lays some l)));
          counted = omega (arith, p.counted, count-here (icon_bucket d b) q.record-at k j (length d.icons - suc j) one_more e);
          icon-at = below_suc p.icon-at (j, record { below = l; home = e; named = here });
          step_of = below_suc (λ i g h. let (m, u, a) = p.step_of i g h in (m, omega arith, a)) (λ h. (n, omega arith, here));
        }

    -- it is of another: the chain goes by it
    pass-it : (icon_bucket d b j ≡ k → ⊥) → Passed s d b q k n (suc j)
    pass-it h = record {
      next = p.next ∙ first-later (icon_bucket d b) q.record-at k j (length d.icons - suc j) one_more h;
      keeps = p.keeps;
      counted = omega (arith, p.counted, count-later (icon_bucket d b) q.record-at k j (length d.icons - suc j) one_more h);
      icon-at = p.icon-at;
      step_of = below_suc p.step_of (λ e. absurd (h e));
    }

  -- all icons have been looked at
  all-passed : {k n j : ℕ} → j ≡ length d.icons → Passed s d b q k n j → ChainOf s d b q k
  unfolding first_in count_in
  all-passed {k} {n} {j} e p =
      let none_left : length d.icons - j ≡ 0 = omega arith in
      record {
        steps = n;
        holds = record { keeps = p.keeps; ends = p.next ∙ ap (first_in (icon_bucket d b) q.record-at k j) none_left };
        counted = omega (arith, p.counted, ap (count_in (icon_bucket d b) k j) none_left);
        icon-at = p.icon-at;
        step_of = λ i l h. p.step_of i (omega arith) h;
      }

  onward : (u : ℕ) {k n j : ℕ} → j + u ≡ length d.icons → Passed s d b q k n j → ChainOf s d b q k
  onward zero e p = all-passed (omega arith) p
  onward (suc u) {k} {n} {j} e p =
      let l : j < length d.icons = omega arith in
      elim (ℕ_discrete (icon_bucket d b j) k) [
        | yes h ↦ onward u (omega arith) (take-it k n j l p h)
        | no h ↦ onward u (omega arith) (pass-it k n j l p h)
      ]

  pub chain-of : {k : ℕ} → k < b → ChainOf s d b q k
  unfolding link
  chain-of {k} l =
      let start : Passed s d b q k 0 0 = record {
        next = f.bucket-field k l ∙ ap (first_in (icon_bucket d b) q.record-at k 0) (sym (sub-zero (length d.icons)));
        keeps = λ m g. absurd (omega arith);
        counted = zero-add _ ∙ ap (count_in (icon_bucket d b) k 0) (sub-zero (length d.icons));
        icon-at = λ m g. absurd (omega arith);
        step_of = λ i g. absurd (omega arith);
      } in
      onward (length d.icons) (omega arith) start
