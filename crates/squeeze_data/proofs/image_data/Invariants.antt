use Rattle.std.proofs.Common.{◌≡◌, ◌-◌, length, drop}
use Rattle.format.specs.Chain.{all_records}
use Rattle.format.specs.declared.Reading.TheVariants.{Short}
use Rattle.squeeze_spec.specs.Call.{data_fault}
use Rattle.in_order.specs.Cursor.{At}
use Rattle.squeeze_data.proofs.image_data.Given as goal

abbrev pub invariant-loop-cursor : goal.invariant-loop-cursor
invariant-loop-cursor l = record {
  at : At l.cache l.cursor;
  left : data_fault l.cache (drop l.cursor.number (all_records Short l.cache)) ≡ data_fault l.cache (all_records Short l.cache);
}

abbrev pub decreases-loop-cursor : goal.decreases-loop-cursor
decreases-loop-cursor l = length (all_records Short l.cache) - l.cursor.number
