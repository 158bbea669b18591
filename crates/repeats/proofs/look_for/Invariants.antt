use Prim.Native.Nat.{ℕ}
use mathlib.Core.Path.{◌≡◌}
use mathlib.Core.List.{List}
use Rattle.keys.specs.declared.Kind.TheVariants.{Ended}
use Rattle.keys.specs.Key.{key_at}
use Rattle.names.specs.Index.{Represents}
use Rattle.names.specs.Repeat.{Looked}
use Rattle.rounds.specs.Stepping.{ahead}
use Rattle.repeats.specs.Along.{name_along}
use Rattle.repeats.proofs.look_for.Given as goal

abbrev pub invariant-loop-i : goal.invariant-loop-i
invariant-loop-i l = record {
  here : l.at ≡ ahead l.cache l.field l.i;
  looked : (before : List (List ℕ)) → Represents (key_at Ended l.cache) l.index l.entries before → Looked (name_along l.cache l.field) before l.i l.i;
}
