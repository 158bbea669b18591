use Rattle.std.proofs.Common.{◌≡◌, ◌+◌, ◌-◌, ◌*◌}
use Rattle.format.specs.Record.{images_fault}
use Rattle.pick.specs.Pick.{fits, first_image}
use Rattle.pick.proofs.first_image.Given as goal

abbrev pub invariant-loop-i : goal.invariant-loop-i
invariant-loop-i l = record {
  kept : (images_fault (l.m - l.i) l.cache (l.at + 8 * l.i)).number ≡ 0;
  rest : first_image (fits l.words l.size l.scale l.cache) (l.m - l.i) (l.at + 8 * l.i) ≡ first_image (fits l.words l.size l.scale l.cache) l.m l.at;
}
