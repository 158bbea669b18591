use Rattle.std.proofs.Common.{◌≡◌, ◌≤◌, map}
use Rattle.format.specs.String.{signed, hash_from, hash}
use Rattle.format.proofs.Laws.Strings.{left, Passed}
use Rattle.strings.proofs.read_name.Given as goal

abbrev pub invariant-loop-i : goal.invariant-loop-i
invariant-loop-i l = record {
  within : l.i ≤ 255;
  passed : Passed l.part l.i;
  rest : hash_from l.hash (map signed (left 255 l.part l.i)) ≡ hash (left 255 l.part 0);
}
