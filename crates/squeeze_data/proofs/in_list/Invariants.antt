use Rattle.std.proofs.Common.{◌≡◌, ◌+◌, ◌-◌, ◌*◌}
use Rattle.squeeze_spec.specs.Call.{images_data_fault}
use Rattle.squeeze_data.proofs.in_list.Given as goal

abbrev pub invariant-loop-i : goal.invariant-loop-i
invariant-loop-i l = images_data_fault (l.m - l.i) l.cache (l.at + 8 * l.i) ≡ images_data_fault l.m l.cache l.at
