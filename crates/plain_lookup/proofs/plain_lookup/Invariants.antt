use Rattle.std.proofs.Common.{◌≡◌, ℕ, ◌-◌, ◌<◌, length}
use Rattle.format.specs.Chain.{all_records, nth_name}
use Rattle.format.specs.declared.Reading.TheVariants.{Short}
use Rattle.in_order.specs.Cursor.{At}
use Rattle.plain_lookup.proofs.plain_lookup.Given as goal

abbrev pub invariant-loop-at : goal.invariant-loop-at
invariant-loop-at l = record {
  lent : l.words ≡ l.initial.words;
  at : At l.cache l.at;
  none : (i : ℕ) → i < l.at.number → nth_name l.cache i ≡ l.name → ⊥;
}

abbrev pub decreases-loop-at : goal.decreases-loop-at
decreases-loop-at l = length (all_records Short l.cache) - l.at.number
