-- The answers of the calls, with number 0 and with any other: document 01, 'Answer numbers'.
use Rattle.std.specs.Prelude.{ℕ}
use Rattle.format.specs.declared.CheckAnswer.{CheckAnswer}
use Rattle.format.specs.declared.Found.{Found}
use Rattle.format.specs.declared.LookupAnswer.{LookupAnswer}
use Rattle.format.specs.declared.DirectoryAnswer.{DirectoryAnswer}
use Rattle.format.specs.declared.DirectoryPart.{DirectoryPart}

-- the check's answer; accepted, with d directories and i icons, each opened, and l of them on the
-- longest chain; refused by rule x at p, after o records
abbrev pub checked : ℕ → ℕ → ℕ → ℕ → ℕ → ℕ → CheckAnswer
checked n p d i o l = record { number = n; place = p; directories = d; icons = i; opened = o; longest = l }

abbrev pub accepted : ℕ → ℕ → ℕ → CheckAnswer
accepted d i l = checked 0 0 d i i l

abbrev pub refused : ℕ → ℕ → ℕ → CheckAnswer
refused x p o = checked x p 0 0 o 0

-- the search for a name: the record r, or rule x at p, after o records
abbrev pub found : ℕ → ℕ → Found
found r o = record { number = 0; place = r; opened = o }

abbrev pub unfound : ℕ → ℕ → ℕ → Found
unfound x p o = record { number = x; place = p; opened = o }

-- a lookup: number n at p, with m images, after o records
abbrev pub looked_up : ℕ → ℕ → ℕ → ℕ → LookupAnswer
looked_up n p m o = record { number = n; place = p; images = m; opened = o }

-- a directory, and where its path stands
abbrev pub directory_is : ℕ → ℕ → DirectoryAnswer
directory_is n p = record { number = n; place = p }

abbrev pub part_is : ℕ → ℕ → ℕ → ℕ → DirectoryPart
part_is n p a l = record { number = n; place = p; start = a; length = l }
