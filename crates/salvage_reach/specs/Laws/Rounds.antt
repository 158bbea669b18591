-- Chains that run round: where the first record is named again, from a round that was found
-- anywhere on the chain. The code finds a round in constant memory by a record that stays behind
-- while another runs ahead (Brent); these laws say what it then knows.
use Prim.Native.Nat.{ℕ, zero, suc, ◌+◌, ◌-◌, ◌≤◌, ◌<◌}
use Rattle.std.specs.Prelude.{◌≡◌, refl, ◌⊎◌, List, Bool, true, false}
use Rattle.std.proofs.Common.{sym, ap, ◌∙◌, inl, inr, arith}
use Rattle.std.proofs.Math.Decide.{dec_lt}
use Rattle.std.proofs.Math.Nat.{add-zero, add-suc}
use Rattle.format.specs.Number.{be}
use Rattle.format.specs.Chain.{most_records}
use Rattle.format.specs.Words.{link}
use Rattle.format.proofs.Laws.Below.{below_suc}
use Rattle.format.proofs.Laws.Links.{earlier}
use Rattle.format.specs.Places.{Repeat}
use Rattle.salvage_spec.specs.Meetings.{named_below}
use Rattle.salvage_spec.specs.Promise.{Fresh, MeetsAt}
use Rattle.salvage_spec.proofs.Laws.Meets.{named-somewhere, named-nowhere, few-met}
use Rattle.salvage_reach.specs.Ways.{PassesAt, PassesBelow}

module _ (s : List ℕ) (k : ℕ) where
  -- two steps that name one record go on alike
  pub alike : (i j : ℕ) → link s k i ≡ link s k j → (d : ℕ) → link s k (i + d) ≡ link s k (j + d)
  unfolding link
  alike i j e zero = rw (add-zero i, add-zero j) e
  alike i j e (suc d) = rw (add-suc i, add-suc j) (ap (be 4 s) (alike i j e d))

  -- so a round of d steps at step i is one at each later step
  pub round-later : (i d : ℕ) → link s k i ≡ link s k (i + d) → (x : ℕ) → i ≤ x → link s k x ≡ link s k (x + d)
  round-later i d e x l =
      let a : i + (x - i) ≡ x = omega arith in
      let b : i + d + (x - i) ≡ x + d = omega arith in
      rw (a, b) at (alike i (i + d) e (x - i))

  -- and it comes by at steps as late as one likes
  comes-by : (i d c : ℕ) → 0 < d → link s k i ≡ link s k (i + d) → (b : ℕ)
      → (y : ℕ) × (b ≤ y) × (i ≤ y) × (link s k i ≡ link s k y) × (link s k (i + c) ≡ link s k (y + c))
  comes-by i d c some e zero = (i, omega arith, omega arith, refl, refl)
  comes-by i d c some e (suc b) =
      let (y, l, g, p, q) = comes-by i d c some e b in
      let r : y + d + c ≡ y + c + d = omega arith in
      (y + d, omega arith, omega arith, p ∙ round-later i d e y g, q ∙ round-later i d e (y + c) (omega arith) ∙ ap (link s k) (sym r))

  -- A round of c steps, the least at step t, and m, the first step with a round of c steps, at most
  -- t: no record is named twice below step m + c.
  module _ (t c m : ℕ) (some : 0 < c) (least : (i : ℕ) → 0 < i → i < c → link s k t ≡ link s k (t + i) → ⊥)
      (here : link s k m ≡ link s k (m + c)) (first : (i : ℕ) → i < m → link s k i ≡ link s k (i + c) → ⊥) (before : m ≤ t) where
    before-it : (i d : ℕ) → 0 < d → i < m → link s k i ≡ link s k (i + d) → ⊥
    before-it i d pos l e =
        let (y, g, o, p, q) = comes-by i d c pos e m in
        first i l (p ∙ round-later m c here y g ∙ sym q)

    within-it : (i d : ℕ) → 0 < d → m ≤ i → i + d < m + c → link s k i ≡ link s k (i + d) → ⊥
    within-it i d pos l g e =
        let a : t + c + d ≡ t + d + c = omega arith in
        least d pos (omega arith)
        (round-later m c here t before
        ∙ round-later i d e (t + c) (omega arith)
        ∙ ap (link s k) a
        ∙ sym (round-later m c here (t + d) (omega arith)))

    pub round-fresh : (j : ℕ) → j < m + c → Fresh s k j
    round-fresh j l i g e =
        let a : i + (j - i) ≡ j = omega arith in
        let q : link s k i ≡ link s k (i + (j - i)) = e ∙ ap (link s k) (sym a) in
        elim (dec_lt i m) [
          | yes o ↦ before-it i (j - i) (omega arith) o q
          | no o ↦ within-it i (j - i) (omega arith) (omega arith) (omega arith) q
        ]

  -- records that are left behind and not named twice are met
  pub passes-met : (n : ℕ) → PassesBelow s k n → ((j : ℕ) → j < n → Fresh s k j) → (j : ℕ) → j < n → MeetsAt s k j
  passes-met n below fresh j l = record {
    passed = λ m e. (below m (omega arith)).named;
    real = (below j l).real;
    inside = (below j l).inside;
    fresh = fresh j l;
  }

  -- up to a step one is named twice, or none
  twice-or-fresh : (n : ℕ) → Repeat s k n ⊎ ((j : ℕ) → j < n → Fresh s k j)
  twice-or-fresh zero = inr (λ j l. absurd (omega arith))
  twice-or-fresh (suc n) = go (twice-or-fresh n)
    where
      here : (r : Bool) → named_below s k (link s k n) n ≡ r → ((j : ℕ) → j < n → Fresh s k j) → Repeat s k (suc n) ⊎ ((j : ℕ) → j < suc n → Fresh s k j)
      here true e fresh = let (m, l, q) = named-somewhere s k (link s k n) n e in inl (record { first = m; second = n; order = l; below = omega arith; same = sym q })
      here false e fresh = inr (below_suc fresh (named-nowhere s k (link s k n) n e))

      go : Repeat s k n ⊎ ((j : ℕ) → j < n → Fresh s k j) → Repeat s k (suc n) ⊎ ((j : ℕ) → j < suc n → Fresh s k j)
      go (inl c) = inl (record { first = c.first; second = c.second; order = c.order; below = omega (arith, c.below); same = c.same })
      go (inr fresh) = here (named_below s k (link s k n) n) refl fresh

  -- as many as there are places for records and one more: one is named twice, so a round of at most
  -- L - 11 steps is found at each step from L - 11 on
  pub round-near : PassesBelow s k (suc (most_records s)) → (t : ℕ) → most_records s ≤ t
      → (d : ℕ) × (0 < d) × (d ≤ most_records s) × (link s k t ≡ link s k (t + d))
  round-near below t l = go (twice-or-fresh (suc (most_records s)))
    where
      go : Repeat s k (suc (most_records s)) ⊎ ((j : ℕ) → j < suc (most_records s) → Fresh s k j)
          → (d : ℕ) × (0 < d) × (d ≤ most_records s) × (link s k t ≡ link s k (t + d))
      go (inl c) =
          let a : c.first + (c.second - c.first) ≡ c.second = omega (arith, c.order) in
          let e : link s k c.first ≡ link s k (c.first + (c.second - c.first)) = sym c.same ∙ ap (link s k) (sym a) in (
            c.second - c.first,
            omega (arith, c.order),
            omega (arith, c.below),
            round-later c.first (c.second - c.first) e t (omega (arith, c.order, c.below)),
          )
      go (inr fresh) = absurd (omega (arith, few-met s k (suc (most_records s)) (passes-met (suc (most_records s)) below fresh)))

  -- a walk that does not leave the record of step n behind has met no record twice up to there
  pub stop-fresh : (n : ℕ) → PassesBelow s k n → (PassesAt s k n → ⊥) → (j : ℕ) → j ≤ n → Fresh s k j
  stop-fresh n below stop j l i g e =
      let twice : Repeat s k (suc n) = record { first = i; second = j; order = g; below = omega arith; same = sym e } in
      let (m, o, q) = earlier twice n in
      let p = below m (omega arith) in
      stop (record { real = rw q p.real; inside = rw q p.inside; named = rw q p.named })
