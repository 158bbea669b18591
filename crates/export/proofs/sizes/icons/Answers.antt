-- `export::sizes::icons` meets its contract: the sizes of the icons that are passed add up.
use Rattle.std.proofs.Common.{◌∙◌, length, refl, ap, arith}
use Rattle.format.specs.Bytes.{joined}
use Rattle.catalogue.specs.Catalogue.{icon_bytes}
use Rattle.catalogue.specs.Listed.{icon_of}
use Rattle.export.specs.Parts.{icon_piece}
use Rattle.export.specs.Laws.Pieces.{front-entry, front-kept, piece-more}
use Rattle.export.proofs.sizes.icons.Goals as goal

pub loop-offset-init : goal.loop-offset-init
unfolding joined
loop-offset-init c = record { sum = refl; few = omega arith }

pub icon_size-size-requires : goal.icon_size-size-requires
icon_size-size-requires c = front-kept c.requires _ c.loop-offset-test.true

pub loop-offset-preserved : goal.loop-offset-preserved
loop-offset-preserved c =
    let a = c.args in
    let size = c.icon_size-size.ensures.0 ∙ ap (λ r. length (icon_bytes (icon_of a.cache.now r))) (front-entry c.requires _ c.loop-offset-test.true) in
    record { sum = omega (arith, piece-more (icon_piece a.cache.now a.index.now) c.loop-offset.offset-index); few = omega arith }
