-- `squeeze_names::chain` meets its contract. Before each turn all names are marked that one of
-- those in the blocks taken in has, as far as these come before it.
use Rattle.std.proofs.Common.{◌≡◌, ◌+◌, ℕ, List, refl, arith}
use Rattle.rounds.specs.Stepping.{ahead}
use Rattle.rounds.specs.Laws.{ahead-adds}
use Rattle.repeats.proofs.Laws.{names-later, inside-later}
use Rattle.squeeze_names.specs.Laws.Blocks.{blocks-none, blocks_more, blocks-all}
use Rattle.squeeze_names.proofs.chain.Goals as goal

-- the field behind a block
at_is : (s : List ℕ) (f done names : ℕ) {at next : ℕ} → at ≡ ahead s f done → next ≡ ahead s at names → next ≡ ahead s f (done + names)
at_is s f done names e behind = rw (e, ← ahead-adds s f done names) at behind

pub loop-done-init : goal.loop-done-init
unfolding ahead
loop-done-init c = record { within = omega arith; index_lent = refl; marks_lent = refl; here = refl; marked = blocks-none _ _ _ _ }

pub take_in-block-requires : goal.take_in-block-requires
take_in-block-requires c =
    (inside-later _ _ c.loop-done.done c.loop-done.invariant.here c.requires.0 (omega arith), c.requires.1, omega arith, omega arith)

pub look_for-requires : goal.look_for-requires
look_for-requires c =
    let block = c.take_in-block.ensures in
    let here = at_is c.args.cache.now c.args.field c.loop-done.done c.take_in-block.result.names c.loop-done.invariant.here block.0.behind in
    (inside-later _ _ (c.loop-done.done + c.take_in-block.result.names) here c.requires.0 (omega arith), omega (arith, block.1), omega arith)

pub loop-done-smaller : goal.loop-done-smaller
loop-done-smaller c = let some = c.take_in-block.ensures.3 (omega (arith, c.loop-done-test.true)) in omega arith

pub loop-done-preserved : goal.loop-done-preserved
loop-done-preserved c =
    let u = c.loop-done.done in
    let r = c.take_in-block.result.names in
    let block = c.take_in-block.ensures in
    let here = at_is c.args.cache.now c.args.field c.loop-done.done c.take_in-block.result.names c.loop-done.invariant.here block.0.behind in
    let looked = c.look_for.ensures _ block.0.known in
    record {
      within = omega arith;
      index_lent = omega arith;
      marks_lent = omega arith;
      here = here;
      marked = blocks_more _ _ _ _ _ u r c.loop-done.invariant.marked (omega arith) block.0.marks looked (names-later _ _ u c.loop-done.invariant.here) (names-later _ _ (u + r) here);
    }

pub returns : goal.returns
returns c = blocks-all _ _ (omega arith) c.loop-done.invariant.marked
