use Rattle.std.proofs.Common.{◌≡◌, length, take, drop}
use Rattle.format.specs.Bytes.{put}
use Rattle.copying.proofs.copy.Given as goal

abbrev pub invariant-loop-i : goal.invariant-loop-i
invariant-loop-i l = record {
  lent : length l.out ≡ length l.initial.out;
  copied : l.out ≡ put l.initial.out l.at (take l.i (drop l.start l.from));
}
