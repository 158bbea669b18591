-- Which image of an icon serves a screen of a size and a scale, and what `pick` answers: document
-- 02, request 6, with source document 002's keys of a directory.
use Rattle.std.specs.Prelude.{ℕ, zero, suc, ◌+◌, ◌-◌, ◌*◌, List, Bool, false, ◌&&◌, length, get_or, leb, eqb, if◌then◌else◌, Option, Some, None, Result, Ok, Err}
use Rattle.format.specs.Layout.{entries_at, image_size, index_field, no_directory}
use Rattle.format.specs.Number.{be}
use Rattle.format.specs.Fault.{fault, unless, ◌or_else◌, if_kept, first_fault, step_on}
use Rattle.format.specs.Header.{directories}
use Rattle.format.specs.Record.{images_at, images}
use Rattle.format.specs.Call.{find}
use Rattle.format.specs.declared.Fault.{Fault}
use Rattle.pick.specs.declared.Kind.{Kind}
use Rattle.pick.specs.declared.Kind.TheVariants.{Fixed, Scalable, Threshold}
use Rattle.pick.specs.declared.Sizes.{Sizes}

-- the type that a word names, by its name in source document 002; one above 2 names none, and is
-- refused before a size is compared
abbrev pub kind : ℕ → Kind
kind zero = Fixed
kind (suc zero) = Scalable
kind (suc (suc n)) = Threshold

abbrev pub known_kind : ℕ → Bool
known_kind n = leb n 2

-- how many words are lent of each directory
abbrev pub words_each : ℕ
words_each = 6

-- what those of directory i say, in this order: Type, Size, Scale, MinSize, MaxSize, Threshold
abbrev pub sizes_of : List ℕ → ℕ → Sizes
sizes_of w i =
    let at = words_each * i in
    record {
      kind = kind (get_or w at 0);
      size = get_or w (at + 1) 0;
      scale = get_or w (at + 2) 0;
      min = get_or w (at + 3) 0;
      max = get_or w (at + 4) 0;
      threshold = get_or w (at + 5) 0;
    }

-- how far two sizes are apart: the larger less the smaller, as the other difference is 0
abbrev pub distance : ℕ → ℕ → ℕ
distance a b = (a - b) + (b - a)

-- whether an image of a directory serves a size, by the directory's type
abbrev pub serves_size : Kind → Sizes → ℕ → Bool
serves_size Fixed d size = eqb size d.size
serves_size Scalable d size = leb d.min size && leb size d.max
serves_size Threshold d size = leb (distance size d.size) d.threshold

-- the same with the scale
unfoldable pub serves : Sizes → ℕ → ℕ → Bool
serves d size scale = eqb d.scale scale && serves_size d.kind d size

-- whether the image at p fits: 0xFFFF is no directory
unfoldable pub fits : List ℕ → ℕ → ℕ → List ℕ → ℕ → Bool
fits w size scale s p =
    let i = be 2 s (index_field p) in
    if eqb i no_directory then false else serves (sizes_of w i) size scale

-- the first of m images from p on that passes the test, or 0
unfoldable pub first_image : (ℕ → Bool) → ℕ → ℕ → ℕ
first_image test zero p = 0
first_image test (suc m) p = if test p then p else first_image test m (p + image_size)

-- what is judged of the type of a directory whose words begin at q, and of the types of n
-- directories: 32 at the first above 2
abbrev pub kind_fault : List ℕ → ℕ → Fault
kind_fault w q = unless (known_kind (get_or w q 0)) 32 q

abbrev pub kinds_fault : ℕ → List ℕ → Fault
kinds_fault n w = first_fault (kind_fault w) (step_on words_each) n 0

-- what is judged of the lent words: 31 unless there are six for each directory, then 32
unfoldable pub words_fault : List ℕ → List ℕ → Fault
words_fault s w = unless (eqb (length w) (words_each * directories s)) 31 0 or_else kinds_fault (directories s) w

-- What a pick answers: with number 0 the place of the first image that fits, or 0 if none does; with
-- 32 the index of the word among those lent; with any other number the place of the fault.
pub record PickAnswer : Type 0 where
  pub number : ℕ
  pub place : ℕ

-- the answer: number n at p
abbrev pub pick_is : ℕ → ℕ → PickAnswer
pick_is n p = record { number = n; place = p }

-- the search for the name, which refuses as the lookup does with room enough, then the words, then
-- the images of the record found
unfoldable pub pick : List ℕ → List ℕ → ℕ → ℕ → List ℕ → PickAnswer
pick s name size scale w =
    let a = find s name in
    let r = a.place in
    let v = fault a.number a.place or_else words_fault s w in
    let p = first_image (fits w size scale s) (images s r) (entries_at (images_at s r)) in
    pick_is v.number (if_kept v p v.place)

-- the place that there may be, or 0
abbrev pub place_of : Option ℕ → ℕ
place_of None = 0
place_of (Some p) = p

-- the answer that a call's result is
abbrev pub pick_answer : Result (Option ℕ) Fault → PickAnswer
pick_answer (Ok picked) = pick_is 0 (place_of picked)
pick_answer (Err v) = pick_is v.number v.place
