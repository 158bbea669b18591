-- Image data that is judged once for several images.
use Rattle.std.specs.Prelude.{ℕ, ◌≡◌, List}
use Rattle.format.specs.Number.{be}
use Rattle.format.specs.Notes.{image_data_fault}

-- each field that holds d leads to what keeps the rules
abbrev pub KeptBehind : List ℕ → ℕ → Type 0
KeptBehind s d = (f : ℕ) → be 4 s f ≡ d → (image_data_fault s f).number ≡ 0
