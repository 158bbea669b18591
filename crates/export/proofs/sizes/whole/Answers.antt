-- `export::sizes::whole` meets its contract: both sections stand after their counts.
use mathlib.Core.Path.{ap}
use native.Mathlib.Omega.{arith}
use lib.ListN.{length}
use Rattle.export.specs.Laws.Pieces.{pieces_are, pieces-length}
use Rattle.export.proofs.sizes.whole.Goals as goal

pub returns : goal.returns
returns c =
    let a = c.args in
    omega (arith, ap length (pieces_are c.requires), pieces-length a.cache.now a.index.now a.n, c.paths.ensures.0, c.icons.ensures.0)
