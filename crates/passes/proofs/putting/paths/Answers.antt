-- `passes::putting::paths` meets its contract: the paths that are passed stand one behind the other.
use Rattle.std.proofs.Common.{◌+◌, ap, ◌∙◌, arith}
use Rattle.format.specs.Bytes.{put}
use Rattle.catalogue.proofs.Laws.Pass.{pass-first, pass-room, pass-next}
use Rattle.passes.specs.Laws.Paths.{path-ends, path-is, path-size}
use Rattle.passes.proofs.putting.paths.Goals as goal

pub loop-init : goal.loop-init
loop-init c = pass-first _ _ _ _ _

pub path-place-requires-clause-path_in_bounds : goal.path-place-requires-clause-path_in_bounds
path-place-requires-clause-path_in_bounds c = path-ends c.requires.by_index.2 c.loop-test.true c.loop.invariant.here

pub path-place-requires-clause-path_in_bounds_2 : goal.path-place-requires-clause-path_in_bounds_2
path-place-requires-clause-path_in_bounds_2 c =
    omega (arith, path-size c.requires.by_index.2 c.loop-test.true c.loop.invariant.here, pass-room _ _ _ _ _ c.loop.invariant c.loop-test.true c.requires.n_in_bounds)

pub path_end-here-requires : goal.path_end-here-requires
path_end-here-requires c = path-ends c.requires.by_index.2 c.loop-test.true c.loop.invariant.here

pub loop-preserved : goal.loop-preserved
loop-preserved c =
    let judged = c.requires.by_index.2 in
    let here = c.loop.invariant.here in
    let this = c.path-place.ensures.out_after ∙ ap (put c.loop.out c.loop.place) (path-is judged c.loop-test.true here) in
    let more = c.path-place.ensures.value ∙ ap (λ n. c.loop.place + n) (path-size judged c.loop-test.true here) in
    pass-next _ _ _ _ _ c.loop.invariant c.loop-test.true c.requires.n_in_bounds this (omega arith) c.path_end-here.ensures more
