use Rattle.std.proofs.Common.{◌≡◌, ◌-◌, length}
use Rattle.squeeze_icons.specs.Staying.{Staying}
use Rattle.squeeze_records.specs.Recorded.{icons, Recorded}
use Rattle.squeeze_records.proofs.records.Given as goal

abbrev pub invariant-loop-item : goal.invariant-loop-item
invariant-loop-item l = record {
  lent : length l.out ≡ length l.initial.out;
  stays : Staying l.cache l.item;
  recorded : Recorded l.cache l.initial.out l.out l.item.icon l.end l.last;
}

abbrev pub decreases-loop-item : goal.decreases-loop-item
decreases-loop-item l = icons l.cache - l.item.icon
