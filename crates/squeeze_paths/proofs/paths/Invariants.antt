use Rattle.std.proofs.Common.{◌≡◌, ℕ, List, length}
use Rattle.format.specs.Bytes.{bytes}
use Rattle.format.specs.Header.{directories}
use Rattle.filling.specs.Puts.{Puts}
use Rattle.squeeze_paths.specs.Pathed.{Pathed}
use Rattle.squeeze_paths.proofs.paths.Given as goal

-- of any buffer into which the count was put before the loop
abbrev pub invariant-loop-i : goal.invariant-loop-i
invariant-loop-i l = record {
  index_lent : length l.index ≡ length l.initial.index;
  places_lent : length l.places ≡ length l.initial.places;
  out_lent : length l.out ≡ length l.initial.out;
  pathed : (lent : List ℕ) → Puts lent l.initial.out l.table (bytes 4 (directories l.cache)) l.first → Pathed l.cache lent l.out l.index l.places l.table l.at l.i l.texts;
}
