-- What the four calls answer by an IMAGE_DATA_OFFSET, which is any number, and an entry number.
use Rattle.std.specs.Prelude.{ℕ, List, [], length, ltb, leb, Result, Ok, Err}
use Rattle.format.specs.Layout.{header_size, most_bytes}
use Rattle.format.specs.Number.{be}
use Rattle.format.specs.Part.{inside}
use Rattle.format.specs.Fault.{unless, ◌or_else◌, if_kept}
use Rattle.format.specs.declared.Fault.{Fault}
use Rattle.format.specs.ImageData.{image_data_size, meta_data_field, meta_data_size, rectangle_field, points_field, names_field, rectangle_size, x0_field, y0_field, x1_field, y1_field, entry_at, point_size, x_field, y_field, display_name_size, language_field, text_field, there}
use Rattle.format.specs.Notes.{valid_entries, note_of, note_fault}
use Rattle.image_data.specs.declared.Corners.{Corners}
use Rattle.image_data.specs.declared.Point.{Point}
use Rattle.image_data.specs.declared.Span.{Span}

-- the answers, as the calls for C spread them: a number, a place, and what there is with number 0
pub record RectangleAnswer : Type 0 where
  pub number : ℕ
  pub place : ℕ
  pub x0 : ℕ
  pub y0 : ℕ
  pub x1 : ℕ
  pub y1 : ℕ

pub record PointAnswer : Type 0 where
  pub number : ℕ
  pub place : ℕ
  pub x : ℕ
  pub y : ℕ

pub record StringPart : Type 0 where
  pub number : ℕ
  pub place : ℕ
  pub start : ℕ
  pub length : ℕ

-- the same, whole
abbrev pub rectangle_is : ℕ → ℕ → ℕ → ℕ → ℕ → ℕ → RectangleAnswer
rectangle_is n p x0 y0 x1 y1 = record { number = n; place = p; x0 = x0; y0 = y0; x1 = x1; y1 = y1 }

abbrev pub point_is : ℕ → ℕ → ℕ → ℕ → PointAnswer
point_is n p x y = record { number = n; place = p; x = x; y = y }

abbrev pub string_is : ℕ → ℕ → ℕ → ℕ → StringPart
string_is n p a l = record { number = n; place = p; start = a; length = l }

-- what the calls for Rust hand on, spread in the same way: with a refusal the rest is 0
abbrev pub rectangle_answer : Result Corners Fault → RectangleAnswer
rectangle_answer (Ok r) = rectangle_is 0 0 r.x0 r.y0 r.x1 r.y1
rectangle_answer (Err f) = rectangle_is f.number f.place 0 0 0 0

abbrev pub point_answer : Result Point Fault → PointAnswer
point_answer (Ok p) = point_is 0 0 p.x p.y
point_answer (Err f) = point_is f.number f.place 0 0

abbrev pub string_answer : Result Span Fault → StringPart
string_answer (Ok p) = string_is 0 0 p.start p.length
string_answer (Err f) = string_is f.number f.place 0 0

-- where the meta data of the image data d stands, and its rectangle and lists
abbrev pub meta_at : List ℕ → ℕ → ℕ
meta_at s d = be 4 s (meta_data_field d)

abbrev pub rectangle_at : List ℕ → ℕ → ℕ
rectangle_at s d = be 4 s (rectangle_field (meta_at s d))

abbrev pub points_at : List ℕ → ℕ → ℕ
points_at s d = be 4 s (points_field (meta_at s d))

abbrev pub names_at : List ℕ → ℕ → ℕ
names_at s d = be 4 s (names_field (meta_at s d))

-- rules 1 and 2
unfoldable pub bytes_fault : List ℕ → Fault
bytes_fault s = unless (inside s 0 header_size) 1 0 or_else unless (leb (length s) most_bytes) 2 0

-- what a call judges of a part at p with `size` bytes on its way: 33 where the part is not there,
-- then 22, with the place that is given
unfoldable pub part_fault : List ℕ → ℕ → ℕ → ℕ → Fault
part_fault s p size place = unless (there p) 33 0 or_else unless (inside s p size) 22 place

-- what each call judges on its way to the meta data: 1 and 2, then the image data, with place 0 for
-- the offset given, and the meta data itself
unfoldable pub meta_fault : List ℕ → ℕ → Fault
meta_fault s d =
    bytes_fault s
    or_else part_fault s d image_data_size 0
    or_else part_fault s (meta_at s d) meta_data_size (meta_data_field d)

-- the same on the list that the field f names, whose entries have `size` bytes, and on its entry i
unfoldable pub entry_fault : List ℕ → ℕ → ℕ → ℕ → Fault
entry_fault s f size i =
    let p = be 4 s f in
    unless (there p) 33 0
    or_else unless (valid_entries s p size) 22 f
    or_else unless (ltb i (be 4 s p)) 33 0

-- what the call for the rectangle judges, and its answer
unfoldable pub rectangle_call_fault : List ℕ → ℕ → Fault
rectangle_call_fault s d =
    meta_fault s d
    or_else part_fault s (rectangle_at s d) rectangle_size (rectangle_field (meta_at s d))

unfoldable pub rectangle : List ℕ → ℕ → RectangleAnswer
rectangle s d =
    let v = rectangle_call_fault s d in
    let corner : ℕ → ℕ = λ at. if_kept v (be 2 s at) 0 in
    let r = rectangle_at s d in
    rectangle_is v.number v.place (corner (x0_field r)) (corner (y0_field r)) (corner (x1_field r)) (corner (y1_field r))

-- the call for attach point i
unfoldable pub point_fault : List ℕ → ℕ → ℕ → Fault
point_fault s d i = meta_fault s d or_else entry_fault s (points_field (meta_at s d)) point_size i

unfoldable pub attach_point : List ℕ → ℕ → ℕ → PointAnswer
attach_point s d i =
    let v = point_fault s d i in
    let e = entry_at (points_at s d) point_size i in
    point_is v.number v.place (if_kept v (be 2 s (x_field e)) 0) (if_kept v (be 2 s (y_field e)) 0)

-- where display name i stands
abbrev pub display_name_at : List ℕ → ℕ → ℕ → ℕ
display_name_at s d i = entry_at (names_at s d) display_name_size i

-- where the string that the field f names stands, if it is whole
abbrev pub string_of : List ℕ → ℕ → Span
string_of s f = record { start = be 4 s f; length = length (note_of s f) }

-- the way to display name i, then 24 on the string that its field f names
unfoldable pub display_fault : List ℕ → ℕ → ℕ → ℕ → Fault
display_fault s d i f =
    meta_fault s d
    or_else entry_fault s (names_field (meta_at s d)) display_name_size i
    or_else note_fault s f

-- where that string stands, if the judgement v names no broken rule
abbrev pub string_judged : List ℕ → ℕ → Fault → StringPart
string_judged s f v = string_is v.number v.place (if_kept v (be 4 s f) 0) (if_kept v (length (note_of s f)) 0)

unfoldable pub display : List ℕ → ℕ → ℕ → ℕ → StringPart
display s d i f = string_judged s f (display_fault s d i f)

-- the two calls for display name i: its language and its text
abbrev pub display_language : List ℕ → ℕ → ℕ → StringPart
display_language s d i = display s d i (language_field (display_name_at s d i))

abbrev pub display_text : List ℕ → ℕ → ℕ → StringPart
display_text s d i = display s d i (text_field (display_name_at s d i))

-- the strings themselves, and nothing with a refusal
unfoldable pub display_bytes : List ℕ → ℕ → ℕ → ℕ → List ℕ
display_bytes s d i f = if_kept (display_fault s d i f) (note_of s f) []

abbrev pub language_bytes : List ℕ → ℕ → ℕ → List ℕ
language_bytes s d i = display_bytes s d i (language_field (display_name_at s d i))

abbrev pub text_bytes : List ℕ → ℕ → ℕ → List ℕ
text_bytes s d i = display_bytes s d i (text_field (display_name_at s d i))
