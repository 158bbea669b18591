-- The walk with its mark: what it knows at each turn, where it stops, and what a round tells of how
-- far it goes.
use Rattle.std.specs.Prelude.{ℕ, zero, suc, ◌+◌, ◌-◌, ◌≡◌, refl, List}
use Rattle.std.proofs.Common.{sym, ap, ◌∙◌, add-one, arith}
use Rattle.format.specs.Number.{be}
use Rattle.format.specs.Fault.{no_fault, fault}
use Rattle.format.specs.Header.{bucket_field}
use Rattle.format.specs.Words.{link, link_field}
use Rattle.format.proofs.Laws.Below.{below_suc}
use Rattle.format.proofs.Laws.Along.{reads-link}
use Rattle.format.proofs.Laws.Links.{earlier}
use Rattle.format.specs.Places.{Repeat}
use Rattle.rounds.specs.Stepping.{ahead, Runs, LeadsIn}
use Rattle.salvage_reach.specs.Laws.Reach.{reach-ended, reach-outside, reach-misnamed, reach-looped}
use Rattle.salvage_reach.specs.declared.Mark.{Mark}
use Rattle.salvage_reach.specs.declared.Turn.TheVariants.{Ended, Outside, Misnamed, Passes}
use Rattle.salvage_reach.specs.Ways.{Turned, PassesAt, PassesBelow, RoundOf, Reaches, reached_at, moved, Ahead}
use Rattle.salvage_reach.specs.Laws.Marks.{mark-met, marks-again}

module _ {s : List ℕ} {k f n : ℕ} {m : Mark} (a : Ahead s k f n m) where
  -- what the field at hand names
  names : be 4 s f ≡ link s k n
  names = ap (be 4 s) a.field ∙ reads-link s k n

  pub ahead-ended : Turned s k f Ended → Reaches s k (reached_at n no_fault)
  ahead-ended e = reach-ended s k n a.passes (sym names ∙ e)

  pub ahead-outside : Turned s k f Outside → Reaches s k (reached_at n (fault 7 f))
  ahead-outside (real, out) = rw a.field (reach-outside s k n a.passes (rw names at real) (rw names at out))

  pub ahead-misnamed : Turned s k f Misnamed → Reaches s k (reached_at (n + 1) no_fault)
  ahead-misnamed ((real, inn), bad) = rw add-one (reach-misnamed s k n a.passes (rw names at real) (rw names at inn) (rw names at bad))

  module _ {r : ℕ} (told : Turned s k f (Passes r)) where
    pub ahead-round : r ≡ m.behind → RoundOf s k m.stays (n - m.stays)
    ahead-round same = mark-met s k n m a.marks a.passes (rw names at told.1.0) (sym names ∙ sym told.0 ∙ same)

    passes-more : PassesBelow s k (suc n)
    passes-more = below_suc a.passes (record { real = rw names at told.1.0; inside = rw names at told.1.1; named = rw names at told.2 })

    pub ahead-again : (r ≡ m.behind → ⊥) → Ahead s k r (n + 1) (moved m n r)
    unfolding link_field
    ahead-again other =
        let q : r ≡ link s k n = told.0 ∙ names in
        rw (add-one, q) (record { field = refl; passes = passes-more; marks = marks-again s k n m a.marks passes-more (rw q at other) })

-- the way from the first record's field on
pub ahead-link : (s : List ℕ) (k n : ℕ) → ahead s (link s k 0) n ≡ link s k n
unfolding ahead link
ahead-link s k zero = refl
ahead-link s k (suc n) = ap (be 4 s) (ahead-link s k n)

-- a chain with a round goes on for ever, and each of its records lies inside
module _ {s : List ℕ} {k m c : ℕ} (r : RoundOf s k m c) where
  round-passes : (n : ℕ) → PassesAt s k n
  round-passes n =
      let twice : Repeat s k (suc (m + c)) = record { first = m; second = m + c; order = omega (arith, r.some); below = omega arith; same = sym r.same } in
      let (i, l, e) = earlier twice n in
      let p = r.passes i l in
      record { real = rw e p.real; inside = rw e p.inside; named = rw e p.named }

  pub round-runs : Runs s (link s k 0) (m + c) (record { start = m; steps = c })
  round-runs = record {
    within = omega arith;
    inside = λ i l. omega (arith, ahead-link s k i, (round-passes i).inside);
    back = ahead-link s k (m + c) ∙ sym r.same ∙ sym (ahead-link s k m);
  }

  -- the first step that has it tells how far the walk goes
  pub round-reached : (n : ℕ) → LeadsIn s (link s k 0) (record { start = m; steps = c }) n
      → Reaches s k (reached_at (n + c) (fault 12 (bucket_field s k)))
  round-reached n first = reach-looped s k c n (λ i l. round-passes i) (record {
    elsewhere = m;
    some = r.some;
    least = r.least;
    here = sym (sym (ahead-link s k (n + c)) ∙ first.back ∙ ahead-link s k n);
    first = λ i l e. first.first i l (ahead-link s k (i + c) ∙ sym e ∙ sym (ahead-link s k i));
    before = first.before;
  })
