use Rattle.std.proofs.Common.{◌≡◌, ◌+◌, ◌-◌, ◌*◌, ◌≤◌, ℕ, length}
use Rattle.format.specs.Header.{directories}
use Rattle.squeeze_spec.specs.Squeezed.{contents}
use Rattle.squeeze_icons.specs.Staying.{Staying}
use Rattle.squeeze_paths.specs.Pathed.{strings_up_to}
use Rattle.squeeze_texts.specs.Named.{PathsKnown, string_of}
use Rattle.squeeze_texts.proofs.measure.Given as goal

abbrev pub invariant-loop-icon : goal.invariant-loop-icon
invariant-loop-icon l = record {
  stays : Staying l.cache l.icon;
  few : l.end ≤ l.texts.end + 256 * l.icon.icon;
  ends : (at : ℕ) → PathsKnown l.cache l.index l.places l.texts.entries at → l.texts.end ≡ at + length (strings_up_to l.cache (directories l.cache))
      → l.end ≡ at + length (strings_up_to l.cache (string_of l.cache l.icon.icon));
}

abbrev pub decreases-loop-icon : goal.decreases-loop-icon
decreases-loop-icon l = length (contents l.cache).icons - l.icon.icon
