-- How far the walk of a chain goes: the tests in words, and that the bound of the search is never
-- felt, since the records met are distinct.
use Prim.Native.Nat.{ℕ, zero, suc, ◌≤◌, ◌<◌}
use Rattle.std.specs.Prelude.{◌≡◌, ◌↔◌, Bool, ◌||◌}
use Rattle.std.proofs.Math.Path.{refl}
use Rattle.std.proofs.Common.{sym, ap, ◌∙◌, inl, inr, le_antisymm}
use mathlib.Core.List.Memᴰ
use mathlib.Core.List.{List, [], Memᴰ}
use Rattle.std.proofs.Math.Bool.{true, false, not, false≢true, not-eq-not, and-eq-true_iff}
use Rattle.std.proofs.Math.Decide.{ℕ_discrete}
use native.Mathlib.Omega.{arith}
use borrow.Author.Tests.{eq-eqb, ne_eqb, eqb-true, eqb-false, le-leb, leb-true, not-true}
use Rattle.std.proofs.Math.Dec.{eqb}
use Rattle.format.specs.Fault.{no_fault}
use Rattle.format.specs.Record.{name_fault}
use Rattle.format.specs.Chain.{most_records}
use Rattle.format.specs.Words.{link, Inside}
use Rattle.format.proofs.Laws.Below.{le-unless, below_suc}
use Rattle.format.proofs.Laws.Faults.{same_number, or_else-none, unless-none, unless-kept, kept-passes}
use Rattle.format.proofs.Laws.Pigeonhole.{Distinct, pigeonhole}
use Rattle.format.proofs.Laws.Apart.{visits, visits-length, visits-cases}
use Rattle.salvage_spec.specs.Meetings.{named_below, fresh, passed, comes, cut_at, meets, met}
use Rattle.salvage_spec.specs.Promise.{MeetsAt}
use Rattle.salvage_spec.proofs.Laws.Search.{first_passes, first-fails}

module _ (s : List ℕ) (k : ℕ) where
  pub named-somewhere : (r m : ℕ) → named_below s k r m ≡ true → (i : ℕ) × (i < m) × (link s k i ≡ r)
  unfolding named_below
  named-somewhere r zero e = absurd (false≢true e)
  named-somewhere r (suc m) e = go (eqb (link s k m) r) refl e (named-somewhere r m)
    where
      go : (t : Bool) → eqb (link s k m) r ≡ t → (t || named_below s k r m) ≡ true → (named_below s k r m ≡ true → (i : ℕ) × (i < m) × (link s k i ≡ r))
          → (i : ℕ) × (i < suc m) × (link s k i ≡ r)
      go true q h rest = (m, omega arith, eqb-true _ _ q)
      go false q h rest = let (i, l, a) = rest h in (i, omega arith, a)

  pub named-nowhere : (r m : ℕ) → named_below s k r m ≡ false → (i : ℕ) → i < m → link s k i ≡ r → ⊥
  unfolding named_below
  named-nowhere r zero e i l q = absurd (omega arith)
  named-nowhere r (suc m) e i l q = go (eqb (link s k m) r) refl e (named-nowhere r m)
    where
      go : (t : Bool) → eqb (link s k m) r ≡ t → (t || named_below s k r m) ≡ false → (named_below s k r m ≡ false → (j : ℕ) → j < m → link s k j ≡ r → ⊥) → ⊥
      go true p h rest = false≢true (sym h)
      go false p h rest = elim (ℕ_discrete i m) [ yes a ↦ eqb-false _ _ p (rw a at q) | no a ↦ rest h i (omega arith) q ]

  pub named-there : (r m i : ℕ) → i < m → link s k i ≡ r → named_below s k r m ≡ true
  named-there r m i l e = (not-eq-not {b = true}).0 (λ q. named-nowhere r m q i l e)

  pub fresh-unnamed : (r m : ℕ) → ((i : ℕ) → i < m → link s k i ≡ r → ⊥) → named_below s k r m ≡ false
  fresh-unnamed r m fresh = (not-eq-not {b = false}).0 (λ e. let (i, l, q) = named-somewhere r m e in fresh i l q)

  pub left_behind : (n : ℕ) → ((m : ℕ) → n ≡ suc m → (name_fault s k (link s k m)).number ≡ 0) → passed s k n ≡ true
  unfolding passed
  left_behind zero before = refl
  left_behind (suc n) before = eq-eqb _ _ (before n refl)

  module _ (n : ℕ) where
    uncut : (cut_at s k n).number ≡ 0 → Inside s (link s k n) × (fresh s k n ≡ true)
    unfolding cut_at
    uncut e =
        let h = or_else-none _ _ e in
        (leb-true _ _ (unless-none _ _ _ h.1), unless-none (fresh s k n) _ _ h.0)

    cut-not : Inside s (link s k n) → fresh s k n ≡ true → (cut_at s k n).number ≡ 0
    unfolding cut_at
    cut-not inn new = same_number {y = no_fault} (kept-passes (fresh s k n) _ _ _ new ∙ unless-kept _ 7 _ (le-leb _ _ inn))

    -- the tests in words
    pub meets-words : (meets s k n ≡ true) ↔ MeetsAt s k n
    unfolding passed
    meets-words = (
      λ e.
          let h = (and-eq-true_iff (comes s k n) _).0 e in
          let c = (and-eq-true_iff (passed s k n) _).0 h.0 in
          let u = uncut (eqb-true _ _ h.1) in
          record {
            passed = λ m q. eqb-true _ _ (rw q at c.0);
            real = eqb-false _ _ (not-true _ c.1);
            inside = u.0;
            fresh = named-nowhere (link s k n) n (not-true _ u.1);
          },
      λ w. rw (left_behind n w.passed, ne_eqb _ _ w.real, cut-not w.inside (ap not (fresh-unnamed (link s k n) n w.fresh))),
    )

  -- records that are met are few: they lie inside, and none is met twice
  visited : (n : ℕ) {y : ℕ} → Memᴰ y (visits s k n []) → (m : ℕ) × (m < n) × (link s k m ≡ y)
  visited n h = elim (visits-cases s k n [] h) [ inl t ↦ (t.0, t.1, sym t.2) | inr none ↦ absurd (Memᴰ.not-nil none) ]

  distinct : (n : ℕ) → ((m : ℕ) → m < n → MeetsAt s k m) → Distinct (visits s k n [])
  unfolding visits
  distinct zero all = tt
  distinct (suc n) all =
      (λ h. let (m, l, e) = visited n h in (all n (omega arith)).fresh m l e, distinct n (λ m l. all m (omega arith)))

  pub few-met : (n : ℕ) → ((m : ℕ) → m < n → MeetsAt s k m) → n ≤ most_records s
  few-met n all =
      let few = pigeonhole (most_records s) (visits s k n []) (distinct n all)
      (λ y h. let (m, l, e) = visited n h in omega (arith, (all m l).inside)) in
      omega (arith, visits-length s k n [])

  -- each step below their number meets a record, and the step after them none
  pub met-below : (n : ℕ) → n < met s k → MeetsAt s k n
  unfolding met
  met-below n l = (meets-words n).0 (first_passes (meets s k) (most_records s) 0 (omega arith) l)

  pub met-few : met s k ≤ most_records s
  met-few = few-met (met s k) met-below

  pub met-stops : MeetsAt s k (met s k) → ⊥
  unfolding met
  met-stops w =
      let more : suc (met s k) ≤ most_records s = few-met (suc (met s k)) (below_suc met-below w) in
      false≢true (sym (first-fails (meets s k) (most_records s) 0 (omega arith)) ∙ (meets-words (met s k)).1 w)

  pub met-words : (n : ℕ) → (n < met s k) ↔ ((m : ℕ) → m ≤ n → MeetsAt s k m)
  met-words n = (λ l m h. met-below m (omega arith), λ all. lt_of (λ h. met-stops (all (met s k) h)))
    where
      lt_of : (met s k ≤ n → ⊥) → n < met s k
      lt_of h = omega arith

  -- so their number is known by that
  pub met-is : (n : ℕ) → ((m : ℕ) → m < n → MeetsAt s k m) → (MeetsAt s k n → ⊥) → met s k ≡ n
  met-is n all stop =
      le_antisymm (le-unless (λ l. stop (met-below n l))) (le-unless (λ l. met-stops (all (met s k) l)))
