-- `salvage_paths::put_path` meets its contract: the text is put behind its length.
use native.Mathlib.Omega.{arith}
use Rattle.format.proofs.Laws.Bytes.{bytes-length}
use Rattle.filling.specs.Laws.{puts-more}
use Rattle.salvage_paths.proofs.put_path.Goals as goal

pub text-requires : goal.text-requires
text-requires c =
    (c.requires.0, omega (arith, c.requires, c.short-next.ensures.next, bytes-length 2 c.args.size))

pub returns : goal.returns
returns c = puts-more c.short-next.ensures c.text.ensures
