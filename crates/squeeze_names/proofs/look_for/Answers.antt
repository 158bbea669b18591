-- `squeeze_names::look_for` meets its contract: before each turn the records passed are marked as
-- it is said of all.
use Rattle.std.proofs.Common.{◌≡◌, refl, arith}
use Rattle.rounds.specs.Stepping.{ahead}
use Rattle.rounds.specs.Laws.{ahead-next}
use Rattle.repeats.specs.Along.{LeadsInside}
use Rattle.repeats.proofs.Laws.{name-read}
use Rattle.squeeze_names.specs.Laws.Adds.{adds_none, adds-noted}
use Rattle.squeeze_names.proofs.look_for.Goals as goal

pub loop-i-init : goal.loop-i-init
unfolding ahead
loop-i-init c = record { lent = refl; here = refl; looked = λ before known. adds_none _ _ 0 (λ i l. absurd (omega arith)) }

-- the record at hand lies inside
pub u32_at-record-requires : goal.u32_at-record-requires
u32_at-record-requires c =
    let here : LeadsInside c.args.cache.now c.loop-i.at = rw c.loop-i.invariant.here (c.requires.0 c.loop-i.i (omega arith)) in
    here.field-ends

pub u32_at-name-requires : goal.u32_at-name-requires
u32_at-name-requires c =
    let here : LeadsInside c.args.cache.now c.loop-i.at = rw c.loop-i.invariant.here (c.requires.0 c.loop-i.i (omega arith)) in
    omega (arith, c.u32_at-record.ensures, here.record-ends)

pub loop-i-preserved : goal.loop-i-preserved
loop-i-preserved c =
    let next = ahead-next _ _ c.loop-i.i c.loop-i.invariant.here c.u32_at-record.ensures in
    let named = name-read _ _ c.loop-i.i next c.u32_at-name.ensures in
    record {
      lent = omega arith;
      here = next;
      looked = λ before known. adds-noted (c.loop-i.invariant.looked before known) (rw (← named) (c.look.ensures before known));
    }

pub returns : goal.returns
returns c = λ before known.
    let all : c.args.n ≡ c.loop-i.i = omega arith in
    rw all (c.loop-i.invariant.looked before known)
