use Rattle.std.proofs.Common.{◌≡◌, ◌-◌, ℕ, List, length}
use Rattle.squeeze_icons.specs.Staying.{Staying}
use Rattle.squeeze_lists.specs.Shares.{icon_count, Shares, Filled}
use Rattle.squeeze_lists.proofs.block.Given as goal

abbrev pub invariant-loop-icon : goal.invariant-loop-icon
invariant-loop-icon l = record {
  index_lent : length l.index ≡ length l.initial.index;
  places_lent : length l.places ≡ length l.initial.places;
  out_lent : length l.out ≡ length l.initial.out;
  stays : Staying l.cache l.icon;
  shares : (lent : List ℕ) (at : ℕ) → Filled l.cache lent l.initial.out l.table at l.from l.end → Shares l.cache lent l.out l.index l.places l.table at l.from l.icon.icon l.shared;
}

abbrev pub decreases-loop-icon : goal.decreases-loop-icon
decreases-loop-icon l = icon_count l.cache - l.icon.icon
