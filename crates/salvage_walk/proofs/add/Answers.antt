-- `salvage_walk::add` meets its contract: of a record that goes its own row is put.
use Rattle.salvage_walk.specs.Laws.Grows.{adds-gone}
use Rattle.salvage_walk.proofs.add.Goals as goal

pub returns-in-Err : goal.returns-in-Err
returns-in-Err c = rw c.in-Err.is (adds-gone c.args.cache.now c.args.«record» c.row-words.ensures)
