-- Examples of the four calls, under one proved statement. The buffer is that of `format`'s examples
-- of rules 22 to 24, with its image data at 12.
use Rattle.std.specs.Prelude.{ℕ, List, [], ◌∷◌, Bool, true, ◌&&◌, replicate, T, eqb}
use Rattle.format.specs.Number.{be}
use Rattle.format.specs.Bytes.{put}
use Rattle.format.specs.Fault.{◌or_else◌}
use Rattle.format.specs.String.{string, extent, is_whole, same_bytes}
use Rattle.format.specs.Notes.{note_fault}
use Rattle.format.specs.Examples.Notes.{whole, with}
use Rattle.image_data.specs.Call.{RectangleAnswer, PointAnswer, StringPart, rectangle_is, point_is, string_is, bytes_fault, part_fault, meta_fault, entry_fault, rectangle_call_fault, rectangle, point_fault, attach_point, display_fault, display, display_language, display_text, display_bytes, language_bytes, text_bytes}

-- a call and what it has to answer; for a string its bytes too
data Example : Type 0 where
  rectangles : List ℕ → ℕ → RectangleAnswer → Example
  points : List ℕ → ℕ → ℕ → PointAnswer → Example
  languages : List ℕ → ℕ → ℕ → StringPart → List ℕ → Example
  texts : List ℕ → ℕ → ℕ → StringPart → List ℕ → Example

same_rectangle : RectangleAnswer → RectangleAnswer → Bool
same_rectangle a b =
    eqb a.number b.number && eqb a.place b.place && eqb a.x0 b.x0 && eqb a.y0 b.y0
    && eqb a.x1 b.x1 && eqb a.y1 b.y1

same_point : PointAnswer → PointAnswer → Bool
same_point a b = eqb a.number b.number && eqb a.place b.place && eqb a.x b.x && eqb a.y b.y

same_string : StringPart → StringPart → Bool
same_string a b =
    eqb a.number b.number && eqb a.place b.place && eqb a.start b.start && eqb a.length b.length

holds : Example → Bool
holds (rectangles s d a) = same_rectangle (rectangle s d) a
holds (points s d i a) = same_point (attach_point s d i) a
holds (languages s d i a t) = same_string (display_language s d i) a && same_bytes (language_bytes s d i) t
holds (texts s d i a t) = same_string (display_text s d i) a && same_bytes (text_bytes s d i) t

all : List Example → Bool
all [] = true
all (e ∷ es) = holds e && all es

examples : List Example
examples =
    -- what stands there
    rectangles whole 12 (rectangle_is 0 0 1 2 3 4) ∷
    points whole 12 1 (point_is 0 0 7 258) ∷
    languages whole 12 0 (string_is 0 0 76 2) (100 ∷ 101 ∷ []) ∷
    texts whole 12 0 (string_is 0 0 79 4) (72 ∷ 97 ∷ 117 ∷ 115 ∷ []) ∷
    -- a buffer of 11 bytes
    rectangles (replicate 11 0) 0 (rectangle_is 1 0 0 0 0 0) ∷
    -- the offset given: 0, and one whose image data ends a byte past the end
    rectangles whole 0 (rectangle_is 33 0 0 0 0 0) ∷
    texts whole 77 0 (string_is 22 0 0 0) [] ∷
    -- no meta data, and some that ends a byte past the end; pixel data is not read
    points (with 19 0 whole) 12 0 (point_is 33 0 0 0) ∷
    points (with 19 73 whole) 12 0 (point_is 22 16 0 0) ∷
    points (with 23 1 whole) 12 0 (point_is 0 0 5 6) ∷
    -- no rectangle, and one that ends a byte past the end
    rectangles (with 35 0 whole) 12 (rectangle_is 33 0 0 0 0 0) ∷
    rectangles (with 35 77 whole) 12 (rectangle_is 22 32 0 0 0 0) ∷
    -- no list, an entry from the count on, and a list that is not inside, though its entry is
    points (with 39 0 whole) 12 0 (point_is 33 0 0 0) ∷
    points whole 12 2 (point_is 33 0 0 0) ∷
    points (with 55 8 whole) 12 0 (point_is 22 36 0 0) ∷
    texts whole 12 1 (string_is 33 0 0 0) [] ∷
    -- an empty language, which the call for the text doesn't judge, and a text that is cut off
    languages (with 71 78 whole) 12 0 (string_is 24 68 0 0) [] ∷
    texts (with 71 78 whole) 12 0 (string_is 0 0 79 4) (72 ∷ 97 ∷ 117 ∷ 115 ∷ []) ∷
    texts (with 83 33 whole) 12 0 (string_is 24 72 0 0) [] ∷
    -- a text at 0, where the version is another: "A" and the byte 1
    texts (with 0 65 (with 75 0 whole)) 12 0 (string_is 0 0 0 2) (65 ∷ 1 ∷ []) ∷
    []

examples-hold : T (all examples)
unfolding all holds examples same_rectangle same_point same_string same_bytes rectangle rectangle_call_fault attach_point point_fault display display_fault display_bytes entry_fault meta_fault part_fault bytes_fault note_fault ◌or_else◌ put be extent string is_whole
examples-hold = tt
