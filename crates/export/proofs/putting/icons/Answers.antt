-- `export::putting::icons` meets its contract: the icons that are passed stand one behind the other.
use Rattle.std.proofs.Common.{◌+◌, length, refl, ap, ◌∙◌, arith}
use Rattle.format.specs.Bytes.{put}
use Rattle.catalogue.specs.Catalogue.{icon_bytes}
use Rattle.catalogue.specs.Listed.{icon_of}
use Rattle.catalogue.proofs.Laws.Pass.{pass-first, pass-room, pass-next}
use Rattle.export.specs.Laws.Pieces.{front-below, front-entry, front-kept}
use Rattle.export.proofs.putting.icons.Goals as goal

pub loop-offset-init : goal.loop-offset-init
loop-offset-init c = pass-first _ _ _ _ _

pub icon-place-requires-clause-kept : goal.icon-place-requires-clause-kept
icon-place-requires-clause-kept c = front-kept c.requires.indexed _ c.loop-offset-test.true

pub icon-place-requires-clause-record_in_bounds : goal.icon-place-requires-clause-record_in_bounds
icon-place-requires-clause-record_in_bounds c =
    let below = front-below c.requires.indexed _ c.loop-offset-test.true in
    rw (front-entry c.requires.indexed _ c.loop-offset-test.true) (pass-room _ _ _ _ _ c.loop-offset.invariant below c.requires.n_in_bounds)

pub loop-offset-preserved : goal.loop-offset-preserved
loop-offset-preserved c =
    let s = c.args.cache.now in
    let below = front-below c.requires.indexed _ c.loop-offset-test.true in
    let entry = front-entry c.requires.indexed _ c.loop-offset-test.true in
    let this = c.icon-place.ensures.out_after ∙ ap (λ r. put c.loop-offset.out c.loop-offset.place (icon_bytes (icon_of s r))) entry in
    let more = c.icon-place.ensures.value ∙ ap (λ r. c.loop-offset.place + length (icon_bytes (icon_of s r))) entry in
    pass-next _ _ _ _ _ c.loop-offset.invariant below c.requires.n_in_bounds this (omega arith) refl more
