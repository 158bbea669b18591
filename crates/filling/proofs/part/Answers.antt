-- `filling::part` meets its contract: where there is room, the whole part is copied to its place.
use Rattle.std.specs.Prelude.{refl}
use Rattle.std.proofs.Common.{◌∙◌, ap, arith, take_all, le_refl}
use Rattle.format.specs.Bytes.{put}
use Rattle.filling.specs.Laws.{puts_whole}
use Rattle.filling.proofs.part.Goals as goal

pub returns-then-end-out : goal.returns-then-end-out
returns-then-end-out c =
    let a = c.args in
    puts_whole refl refl (omega arith) (c.copy.ensures ∙ ap (put a.out.now a.at) (take_all _ a.part.now (le_refl _)))
