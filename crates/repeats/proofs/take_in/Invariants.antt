use mathlib.Core.Path.{◌≡◌}
use lib.ListN.{length}
use Rattle.keys.specs.declared.Kind.TheVariants.{Ended}
use Rattle.keys.specs.Key.{key_at}
use Rattle.names.specs.Repeat.{Taken}
use Rattle.rounds.specs.Stepping.{ahead}
use Rattle.repeats.specs.Along.{name_along}
use Rattle.repeats.proofs.take_in.Given as goal

abbrev pub invariant-loop-i : goal.invariant-loop-i
invariant-loop-i l = record {
  lent : length l.index ≡ length l.initial.index;
  here : l.at ≡ ahead l.cache l.field l.i;
  taken : Taken (key_at Ended l.cache) (name_along l.cache l.field) l.index l.i l.i;
}
