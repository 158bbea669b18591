-- Laws of the way along a chain: one step more, what the search for a round knows, and what a round
-- says of a bucket's chain.
use Prim.Native.Nat.{ℕ, zero, suc, ◌+◌, ◌-◌, ◌≤◌}
use Rattle.std.specs.Prelude.{◌≡◌, refl, List, length}
use Rattle.std.proofs.Common.{sym, ap, ◌∙◌, zero-add, add-zero, add-suc, add-one, arith}
use Rattle.std.proofs.Math.Decide.{dec_lt}
use Rattle.format.specs.Number.{be}
use Rattle.format.specs.Words.{link_field}
use Rattle.format.proofs.Laws.Below.{below_suc}
use Rattle.format.proofs.Laws.Along.{reads-link}
use Rattle.format.specs.Places.{Repeat}
use Rattle.rounds.specs.Stepping.{ahead, InsideBelow, Runs, ComesBack}
use Rattle.rounds.specs.declared.Round.{Round}

-- one step more, by the number read there
pub ahead-next : (s : List ℕ) (f n : ℕ) {at v : ℕ} → at ≡ ahead s f n → v ≡ be 4 s at → v ≡ ahead s f (n + 1)
unfolding ahead
ahead-next s f n e read = read ∙ rw add-one (ap (be 4 s) e)

-- what the search knows: the field at hand is that of a step, the remembered one that of no later
-- step, and all up to here lie inside
pub record Marked (s : List ℕ) (f step start at mark : ℕ) : Type 0 where
  pub order : start ≤ step
  pub here : at ≡ ahead s f step
  pub behind : mark ≡ ahead s f start
  pub inside : InsideBelow s f (suc step)

module _ (s : List ℕ) (f : ℕ) where
  pub marked_start : f + 4 ≤ length s → Marked s f 0 0 f f
  unfolding ahead
  marked_start h = record { order = omega arith; here = refl; behind = refl; inside = below_suc (λ m l. absurd (omega arith)) h }

  module _ {step start at mark : ℕ} (m : Marked s f step start at mark) where
    pub marked_next : {v : ℕ} → v ≡ be 4 s at → v + 12 ≤ length s → Marked s f (step + 1) start v mark
    marked_next {v} read h =
        let next = ahead-next s f step m.here read in
        let here : v + 4 ≤ length s = omega arith in
        record { order = omega (arith, m.order); here = next; behind = m.behind; inside = rw add-one (below_suc m.inside (rw (next, add-one) at here)) }

    pub marked-renewed : Marked s f step step at at
    marked-renewed = record { order = omega arith; here = m.here; behind = m.here; inside = m.inside }

    pub marked-round : {most : ℕ} → step ≤ most → at ≡ mark → Runs s f most (record { start = start; steps = step - start })
    marked-round l e =
        let whole : start + (step - start) ≡ step = omega (arith, m.order) in
        record {
          within = omega (arith, m.order);
          inside = λ i g. m.inside i (omega (arith, m.order));
          back = ap (ahead s f) whole ∙ sym m.here ∙ e ∙ m.behind;
        }

  pub no-round : {most : ℕ} → Runs s f most (record { start = 0; steps = 0 })
  no-round = record { within = omega arith; inside = λ i g. absurd (omega arith); back = refl }

-- the way from the field of step m of bucket k's chain on
pub ahead-field : (s : List ℕ) (k m n : ℕ) → ahead s (link_field s k m) n ≡ link_field s k (m + n)
unfolding ahead link_field
ahead-field s k m zero = rw (add-zero m)
ahead-field s k m (suc n) = rw (add-suc m n) (ap (be 4 s) (ahead-field s k m n) ∙ reads-link s k (m + n))

-- a field that is met again is a repeat on the chain
pub back-repeats : (s : List ℕ) (k n : ℕ) → ComesBack s (link_field s k 0) n → Repeat s k (suc n)
back-repeats s k n b =
    let fields = sym (ahead-field s k 0 b.second) ∙ b.same ∙ ahead-field s k 0 b.first in
    record {
      first = b.first;
      second = b.second;
      order = b.order;
      below = omega (arith, b.within);
      same = sym (reads-link s k b.second) ∙ ap (be 4 s) (rw (zero-add b.first, zero-add b.second) at fields) ∙ reads-link s k b.first;
    }

-- a round that is found from step m on, seen from the start
module _ (s : List ℕ) (f m : ℕ) where
  pub ahead-adds : (n : ℕ) → ahead s f (m + n) ≡ ahead s (ahead s f m) n
  unfolding ahead
  ahead-adds zero = rw (add-zero m)
  ahead-adds (suc n) = rw (add-suc m n) (ap (be 4 s) (ahead-adds n))

  pub runs-from : {at most : ℕ} {a : Round} → at ≡ ahead s f m → InsideBelow s f (m + 1) → Runs s at most a
      → let b : Round = record { start = m + a.start; steps = a.steps } in Runs s f (b.start + b.steps) b
  runs-from {at} {most} {a} e inside r =
      let whole : m + a.start + a.steps ≡ m + (a.start + a.steps) = omega arith in
      record {
        within = omega arith;
        inside = λ i l. elim (dec_lt i m) [
          | yes q ↦ inside i (omega arith)
          | no q ↦
              let rest : i ≡ m + (i - m) = omega arith in
              omega (arith, ap (ahead s f) rest ∙ ahead-adds (i - m) ∙ ap (λ x. ahead s x (i - m)) (sym e), r.inside (i - m) (omega arith))
        ];
        back =
            ap (ahead s f) whole
            ∙ ahead-adds (a.start + a.steps)
            ∙ rw (← e) r.back
            ∙ ap (λ x. ahead s x a.start) e
            ∙ sym (ahead-adds a.start);
      }
