-- What the call answers, and what it leaves in both lent buffers. Document 02, request 11.
use Rattle.std.specs.Prelude.{ℕ, ◌&&◌, length, leb}
use mathlib.Core.List.{List, [], ◌∷◌, flat_map}
use Rattle.format.specs.Fault.{unless, ◌or_else◌, if_kept}
use Rattle.format.specs.Header.{header_fault}
use Rattle.format.specs.declared.Fault.{Fault}
use Rattle.catalogue.specs.Catalogue.{most_icons, catalogue_bytes}
use Rattle.catalogue.specs.Call.{left_by}
use Rattle.salvage_spec.specs.Salvage.{row, icons, catalogue, entries}

-- what the call answers: with number 0 the length of the catalogue and the count of the report's
-- rows, place 0; with a refusal its number and place, and both 0
pub record SalvageAnswer : Type 0 where
  pub number : ℕ
  pub place : ℕ
  pub length : ℕ
  pub rows : ℕ

-- number n at p, with so many bytes and rows written
abbrev pub salvage_is : ℕ → ℕ → ℕ → ℕ → SalvageAnswer
salvage_is n p size rows = record { number = n; place = p; length = size; rows = rows }

-- the catalogue's bytes, and the report's words, two to a row
abbrev pub salvage_bytes : List ℕ → List ℕ
salvage_bytes s = catalogue_bytes (catalogue s)

abbrev pub row_words : Fault → List ℕ
row_words v = v.number ∷ v.place ∷ []

abbrev pub salvage_words : List ℕ → List ℕ
salvage_words s = flat_map (λ e. row_words (row s e)) (entries s)

-- the refusals, with `room` bytes and `words` words lent: 1 to 5, 21 for more than 65,535 icons,
-- then 19
unfoldable pub salvage_fault : List ℕ → ℕ → ℕ → Fault
salvage_fault s room words =
    header_fault s
    or_else unless (leb (length (icons s)) most_icons) 21 0
    or_else unless (leb (length (salvage_bytes s)) room && leb (length (salvage_words s)) words) 19 0

-- the answer after a judgement; with a refusal length and rows are 0
unfoldable pub salvage : List ℕ → ℕ → ℕ → SalvageAnswer
salvage s room words =
    let v = salvage_fault s room words in
    salvage_is v.number v.place (if_kept v (length (salvage_bytes s)) 0) (if_kept v (length (entries s)) 0)

-- the lent bytes and the lent words after it: with a refusal what stood there
unfoldable pub bytes_left_of : List ℕ → List ℕ → List ℕ → List ℕ
bytes_left_of s bytes words = left_by (salvage_fault s (length bytes) (length words)) (salvage_bytes s) bytes

unfoldable pub words_left_of : List ℕ → List ℕ → List ℕ → List ℕ
words_left_of s bytes words = left_by (salvage_fault s (length bytes) (length words)) (salvage_words s) words
