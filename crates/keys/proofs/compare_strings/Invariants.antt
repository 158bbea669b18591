use Prim.Native.Nat.{◌≤◌}
use mathlib.Core.Path.{◌≡◌}
use lib.ListN.{length, drop}
use Rattle.format.specs.String.{string}
use Rattle.keys.specs.Order.{order}
use Rattle.keys.proofs.compare_strings.Given as goal

abbrev pub invariant-loop-i : goal.invariant-loop-i
invariant-loop-i l = record { within : l.i ≤ length l.a; rest : order (string (drop l.i l.a)) (string (drop l.i l.b)) ≡ order (string l.a) (string l.b) }
