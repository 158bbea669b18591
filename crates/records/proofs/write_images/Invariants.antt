use Rattle.std.proofs.Common.{◌≡◌, ◌+◌, ◌-◌, ◌*◌, ◌++◌, drop}
use Rattle.format.specs.Record.{image_words}
use Rattle.records.proofs.write_images.Given as goal

abbrev pub invariant-loop-i : goal.invariant-loop-i
invariant-loop-i l = drop (2 * l.i) l.words ≡ image_words (l.m - l.i) l.cache (l.at + 8 * l.i) ++ drop (2 * l.m) l.initial.words
