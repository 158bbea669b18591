-- `export::sizes::paths` meets its contract: the sizes of the paths that are passed add up.
use Rattle.std.proofs.Common.{refl, arith}
use Rattle.format.specs.Bytes.{joined}
use Rattle.export.specs.Parts.{path_piece}
use Rattle.export.specs.Laws.Pieces.{piece-more}
use Rattle.export.proofs.sizes.paths.Goals as goal

pub loop-i-init : goal.loop-i-init
unfolding joined
loop-i-init c = record { sum = refl; few = omega arith }

pub loop-i-preserved : goal.loop-i-preserved
loop-i-preserved c = record { sum = omega (arith, piece-more (path_piece c.args.cache.now) c.loop-i.i); few = omega arith }
