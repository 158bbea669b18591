-- Which first words of images have a valid index. A first word is the index times 65,536 plus the
-- flags, so those with a valid index follow one another: with no directories the 65,536 words from
-- 0xFFFF0000 on, and otherwise 65,536 words for each directory from 0 on.
use Rattle.std.specs.Prelude.{ℕ, ◌*◌, ◌==◌, if◌then◌else◌}
use Rattle.records.specs.declared.ValidWords.{ValidWords}

-- with n directories, `span` words from `lowest` on
abbrev pub valid_words : ℕ → ValidWords
valid_words n = if n == 0 then record { lowest = 0xFFFF0000; span = 65536 } else record { lowest = 0; span = n * 65536 }
