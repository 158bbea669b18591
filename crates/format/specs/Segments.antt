-- The segments of a path, and which of them it may not have: document 02, request 4. What a path by
-- itself may be: request 8.
use Rattle.std.specs.Prelude.{ℕ, List, [], ◌∷◌, Bool, true, not, ◌&&◌, get_or, eqb, if◌then◌else◌}
use Rattle.format.specs.Layout.{longest_path}
use Rattle.format.specs.String.{same_bytes, text_within}

-- "/" and "."
abbrev pub slash : ℕ
slash = 47

abbrev pub dot : ℕ
dot = 46

-- the bytes before the first slash
unfoldable pub first_segment : List ℕ → List ℕ
first_segment [] = []
first_segment (b ∷ t) = if eqb b slash then [] else b ∷ first_segment t

-- after each slash, the bytes before the next one
unfoldable pub later_segments : List ℕ → List (List ℕ)
later_segments [] = []
later_segments (b ∷ t) = if eqb b slash then first_segment t ∷ later_segments t else later_segments t

-- the segments of a path: its pieces, cut at each slash; a segment may be empty
unfoldable pub segments : List ℕ → List (List ℕ)
segments path = first_segment path ∷ later_segments path

-- a segment that a path may have: not empty, not "." and not ".."
unfoldable pub valid_segment : List ℕ → Bool
valid_segment t = not (same_bytes t []) && not (same_bytes t (dot ∷ [])) && not (same_bytes t (dot ∷ dot ∷ []))

-- each segment is valid
unfoldable pub all_valid : List (List ℕ) → Bool
all_valid [] = true
all_valid (t ∷ ts) = valid_segment t && all_valid ts

-- what rule 16 asks of a path
abbrev pub valid_segments : List ℕ → Bool
valid_segments path = all_valid (segments path)

-- a path by itself, as a catalogue holds it: 1 to 1,023 bytes, none of them zero, no slash first (6),
-- and valid segments (16)
unfoldable pub allowed_path : List ℕ → Bool
allowed_path t = text_within longest_path t && not (eqb (get_or t 0 0) slash) && valid_segments t
