-- What the functions that judge a catalogue hand to one another.
use Rattle.std.specs.Prelude.{ℕ, suc, ◌+◌, ◌^◌, ◌≤◌, ◌<◌, List, length, leb, Result}
use Rattle.format.specs.Number.{be}
use Rattle.format.specs.Part.{inside}
use Rattle.format.specs.Fault.{unless, ◌or_else◌, first_fault, outcome}
use Rattle.format.specs.declared.Fault.{Fault}
use Rattle.catalogue.specs.Row.{row_end, row}
use Rattle.catalogue.specs.Fields.{icon_end}
use Rattle.catalogue.specs.Judgement.{icon_fields_fault}
use Rattle.catalogue.specs.Repeats.{icon_use, repeat_fault}
use Rattle.judging.specs.declared.Parts.{Parts}

-- what is judged from the count of icons on, at p, in a catalogue with n directories
unfoldable pub icons_fault : List ℕ → ℕ → ℕ → Fault
icons_fault c n p =
    let end = row_end (icon_end c) (be 2 c p) (p + 2) in
    unless (inside c p 2) 18 p
    or_else first_fault (icon_fields_fault n c) (icon_end c) (be 2 c p) (p + 2)
    or_else unless (leb (length c) end) 18 end

-- where the parts of a catalogue with n directories stand whose icons are counted at p
abbrev pub parts_at : List ℕ → ℕ → ℕ → Parts
parts_at c n p = record { paths = n; icons = be 2 c p; first_icon = p + 2 }

-- the broken rule that v names, and where it names none these parts
abbrev pub parted : List ℕ → Fault → ℕ → ℕ → Result Parts Fault
parted c v n p = outcome v (parts_at c n p)

-- the first of m names from p on that is one of those before, or used before among them
abbrev pub repeat_from : List (List ℕ) → List ℕ → ℕ → ℕ → Fault
repeat_from before c m p = repeat_fault before (row (icon_use c) (icon_end c) m p)

-- m icons from p on that keep the rules, and whose offsets a word can hold
pub record Listed (c : List ℕ) (m p : ℕ) : Type 0 where
  pub inside : (i : ℕ) → i < m → row_end (icon_end c) (suc i) p ≤ length c
  pub small : (i : ℕ) → i < m → row_end (icon_end c) i p < 2 ^ 32
