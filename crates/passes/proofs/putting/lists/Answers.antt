-- `passes::putting::lists` meets its contract: the lists of the icons that are passed stand one
-- behind the other.
use Rattle.std.proofs.Common.{◌+◌, ap, ◌∙◌, arith}
use Rattle.format.specs.Bytes.{put}
use Rattle.catalogue.proofs.Laws.Pass.{pass-first, pass-room, pass-next}
use Rattle.passes.specs.Laws.Icons.{icon-ends, list-is, list-size}
use Rattle.passes.proofs.putting.lists.Goals as goal

pub loop-init : goal.loop-init
loop-init c = pass-first _ _ _ _ _

pub list-place-requires-clause-icon_in_bounds : goal.list-place-requires-clause-icon_in_bounds
list-place-requires-clause-icon_in_bounds c = icon-ends c.requires.by_index.1 c.loop-test.true c.loop.invariant.here

pub list-place-requires-clause-icon_in_bounds_2 : goal.list-place-requires-clause-icon_in_bounds_2
list-place-requires-clause-icon_in_bounds_2 c =
    omega (arith, list-size c.requires.by_index.1 c.loop-test.true c.loop.invariant.here, pass-room _ _ _ _ _ c.loop.invariant c.loop-test.true c.requires.icons_in_bounds)

pub icon_end-icon-requires : goal.icon_end-icon-requires
icon_end-icon-requires c = icon-ends c.requires.by_index.1 c.loop-test.true c.loop.invariant.here

pub loop-preserved : goal.loop-preserved
loop-preserved c =
    let judged = c.requires.by_index.1 in
    let here = c.loop.invariant.here in
    let this = c.list-place.ensures.out_after ∙ ap (put c.loop.out c.loop.place) (list-is judged c.loop-test.true here) in
    let more = c.list-place.ensures.value ∙ ap (λ n. c.loop.place + n) (list-size judged c.loop-test.true here) in
    pass-next _ _ _ _ _ c.loop.invariant c.loop-test.true c.requires.icons_in_bounds this (omega arith) c.icon_end-icon.ensures more
