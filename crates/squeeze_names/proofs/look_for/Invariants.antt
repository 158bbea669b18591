use Rattle.std.proofs.Common.{◌≡◌, ℕ, List, length}
use Rattle.format.specs.String.{among}
use Rattle.keys.specs.declared.Kind.TheVariants.{Ended}
use Rattle.keys.specs.Key.{key_at}
use Rattle.names.specs.Index.{Represents}
use Rattle.rounds.specs.Stepping.{ahead}
use Rattle.repeats.specs.Along.{name_along}
use Rattle.squeeze_names.specs.Repeated.{Adds}
use Rattle.squeeze_names.proofs.look_for.Given as goal

abbrev pub invariant-loop-i : goal.invariant-loop-i
invariant-loop-i l = record {
  lent : length l.marks ≡ length l.initial.marks;
  here : l.at ≡ ahead l.cache l.field l.i;
  looked : (before : List (List ℕ)) → Represents (key_at Ended l.cache) l.index l.entries before → Adds l.initial.marks l.marks l.number l.i (λ j. among (name_along l.cache l.field j) before);
}
