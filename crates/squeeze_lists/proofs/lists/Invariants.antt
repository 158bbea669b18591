use Rattle.std.proofs.Common.{◌≡◌, ◌-◌, ℕ, List, length}
use Rattle.squeeze_lists.specs.Shares.{Filled}
use Rattle.squeeze_lists.proofs.lists.Given as goal

abbrev pub invariant-loop-from : goal.invariant-loop-from
invariant-loop-from l = record {
  index_lent : length l.index ≡ length l.initial.index;
  places_lent : length l.places ≡ length l.initial.places;
  out_lent : length l.out ≡ length l.initial.out;
  filled : (lent : List ℕ) (place : ℕ) → Filled l.cache lent l.initial.out l.table place 0 l.at → Filled l.cache lent l.out l.table place l.from l.end;
}

abbrev pub decreases-loop-from : goal.decreases-loop-from
decreases-loop-from l = l.icons - l.from
