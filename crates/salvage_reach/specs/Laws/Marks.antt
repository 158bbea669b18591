-- The mark of a walk: a record that is the marked one closes a round, and any other goes before the
-- mark.
use Rattle.std.specs.Prelude.{ℕ, suc, ◌+◌, ◌-◌, ◌*◌, ◌≤◌, ◌<◌, ◌≡◌, refl, List, Bool, true, false, length, eqb, if◌then◌else◌}
use Rattle.std.proofs.Common.{sym, ap, ◌∙◌, arith, eqb-true}
use Rattle.std.proofs.Math.Decide.{ℕ_discrete, dec_lt}
use Rattle.std.proofs.lemmas.Bool.{eqb-false}
use Rattle.format.specs.Layout.{end_value}
use Rattle.format.specs.Chain.{most_records}
use Rattle.format.specs.Words.{link}
use Rattle.salvage_reach.specs.declared.Mark.{Mark}
use Rattle.salvage_reach.specs.Ways.{PassesBelow, RoundOf, moved, Marks}
use Rattle.salvage_reach.specs.Laws.Rounds.{round-near}

module _ (s : List ℕ) (k n : ℕ) (m : Mark) (marks : Marks s k n m) where
  module _ (below : PassesBelow s k n) (real : link s k n ≡ end_value → ⊥) where
    pub mark-met : link s k n ≡ m.behind → RoundOf s k m.stays (n - m.stays)
    mark-met e = go (dec_lt 0 n)
      where
        go : Dec (0 < n) → RoundOf s k m.stays (n - m.stays)
        go (no z) = absurd (real (e ∙ marks.none_yet (omega arith)))
        go (yes l) =
            let p = marks.passed l in
            let a : m.stays + (n - m.stays) ≡ n = omega arith in
            record {
              near = omega (arith, marks.until l, marks.not_yet, marks.near, (below 0 l).inside);
              some = omega arith;
              passes = rw a below;
              same = rw a (sym (marks.marked l) ∙ sym e);
              least = λ i g h q. marks.alone i g (omega arith) q;
            }

  -- a mark that is moved up stood low enough
  module _ (below : PassesBelow s k (suc n)) where
    low : n ≡ m.until → n ≤ 2 * length s
    low e = go (dec_lt 0 n) (dec_lt m.stays (most_records s))
      where
        go : Dec (0 < n) → Dec (m.stays < most_records s) → n ≤ 2 * length s
        go (no z) d = omega arith
        go (yes l) (yes h) = omega (arith, marks.until l)
        go (yes l) (no h) =
            let u = marks.until l in
            let (d, pos, few, q) = round-near s k (λ i g. below i (omega arith)) m.stays (omega arith) in
            absurd (marks.alone d pos (omega arith) q)

    pub marks-again : (link s k n ≡ m.behind → ⊥) → Marks s k (suc n) (moved m n (link s k n))
    marks-again other = go (eqb n m.until) refl
      where
        up : n ≡ m.until → Marks s k (suc n) (record { behind = link s k n; stays = n; until = 2 * n + 1 })
        up e = record {
          none_yet = λ z. absurd (omega arith);
          first-yet = λ z. absurd (omega arith);
          behind-it = omega arith;
          marked = λ l. refl;
          passed = λ l. omega arith;
          until = λ l. refl;
          not_yet = omega arith;
          alone = λ i pos l q. absurd (omega arith);
          near = low e;
        }

        some : (n ≡ m.until → ⊥) → 0 < n
        some a = elim (dec_lt 0 n) [ yes l ↦ l | no z ↦ absurd (a (omega (arith, marks.first-yet (omega arith)))) ]

        stay : (n ≡ m.until → ⊥) → Marks s k (suc n) m
        stay a =
            let l = some a in
            record {
              none_yet = λ z. absurd (omega arith);
              first-yet = λ z. absurd (omega arith);
              behind-it = omega (arith, marks.behind-it);
              marked = λ g. marks.marked l;
              passed = λ g. omega (arith, marks.passed l);
              until = λ g. marks.until l;
              not_yet = omega (arith, marks.not_yet);
              alone = λ i pos g q. elim (ℕ_discrete (m.stays + i) n) [
                | yes e ↦ other (sym (ap (link s k) e) ∙ sym q ∙ sym (marks.marked l))
                | no b ↦ marks.alone i pos (omega arith) q
              ];
              near = marks.near;
            }

        go : (b : Bool) → eqb n m.until ≡ b
            → Marks s k (suc n) (if b then record { behind = link s k n; stays = n; until = 2 * n + 1 } else m)
        go true e = up (eqb-true _ _ e)
        go false e = stay (eqb-false _ _ e)

pub marks-start : (s : List ℕ) (k : ℕ) → Marks s k 0 (record { behind = end_value; stays = 0; until = 0 })
marks-start s k = record {
  none_yet = λ z. refl;
  first-yet = λ z. refl;
  behind-it = omega arith;
  marked = λ l. absurd (omega arith);
  passed = λ l. absurd (omega arith);
  until = λ l. absurd (omega arith);
  not_yet = omega arith;
  alone = λ i pos l q. absurd (omega arith);
  near = omega arith;
}

-- few records are passed before the mark is moved up
pub marks-few : {s : List ℕ} {k n : ℕ} {m : Mark} → Marks s k n m → n ≤ 4 * length s + 1
marks-few {s} {n = n} {m = m} marks = go (dec_lt 0 n)
  where
    go : Dec (0 < n) → n ≤ 4 * length s + 1
    go (no z) = omega arith
    go (yes l) = omega (arith, marks.until l, marks.not_yet, marks.near)
