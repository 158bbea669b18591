-- `export::putting::paths` meets its contract: the paths that are passed stand one behind the other.
use Rattle.std.proofs.Common.{refl, arith}
use Rattle.tables.specs.Laws.{same-directories}
use Rattle.catalogue.proofs.Laws.Pass.{pass-first, pass-room, pass-next}
use Rattle.export.proofs.putting.paths.Goals as goal

pub loop-i-init : goal.loop-i-init
loop-i-init c = pass-first _ _ _ _ _

pub path-place-requires-clause-i_in_bounds : goal.path-place-requires-clause-i_in_bounds
path-place-requires-clause-i_in_bounds c =
    pass-room _ _ _ _ _ c.loop-i.invariant (omega (arith, same-directories c.requires.sound.tables)) c.requires.cache_in_bounds

pub loop-i-preserved : goal.loop-i-preserved
loop-i-preserved c =
    pass-next _ _ _ _ _ c.loop-i.invariant (omega (arith, same-directories c.requires.sound.tables)) c.requires.cache_in_bounds c.path-place.ensures.out_after (omega arith) refl c.path-place.ensures.value
