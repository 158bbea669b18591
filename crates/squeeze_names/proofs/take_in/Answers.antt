-- `squeeze_names::take_in` meets its contract: before each turn the names passed are taken in, as a
-- block.
use Rattle.std.proofs.Common.{refl, arith}
use Rattle.rounds.specs.Laws.{ahead-next}
use Rattle.repeats.specs.Along.{LeadsInside}
use Rattle.squeeze_names.specs.Laws.Blocks.{taken_none, taken_more}
use Rattle.squeeze_names.proofs.take_in.Goals as goal

pub loop-i-init : goal.loop-i-init
loop-i-init c = record { index_lent = refl; marks_lent = refl; fits = omega arith; taken = taken_none _ _ _ _ _ }

pub returns-then-entries-room : goal.returns-then-entries-room
returns-then-entries-room c =
    let inv = c.loop-i.invariant in
    (inv.taken, inv.fits, omega arith, λ some. omega (arith, inv.taken.few))

-- the record at hand lies inside
pub u32_at-record-requires : goal.u32_at-record-requires
u32_at-record-requires c =
    let here : LeadsInside c.args.cache.now c.loop-i.at = rw c.loop-i.invariant.taken.behind (c.requires.0 c.loop-i.i (omega arith)) in
    here.field-ends

pub u32_at-name-requires : goal.u32_at-name-requires
u32_at-name-requires c =
    let here : LeadsInside c.args.cache.now c.loop-i.at = rw c.loop-i.invariant.taken.behind (c.requires.0 c.loop-i.i (omega arith)) in
    omega (arith, c.u32_at-record.ensures, here.record-ends)

pub loop-i-preserved : goal.loop-i-preserved
loop-i-preserved c =
    let taken = c.loop-i.invariant.taken in
    let next = ahead-next _ _ c.loop-i.i taken.behind c.u32_at-record.ensures in
    let take = c.take-entries.ensures in
    record {
      index_lent = omega arith;
      marks_lent = omega arith;
      fits = omega (arith, take.few.1);
      taken = taken_more taken next c.u32_at-name.ensures take.few.1 (take.taken _ taken.known);
    }
