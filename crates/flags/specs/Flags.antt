-- The flags of an image in two numberings, and what the calls answer that turn one into the other:
-- document 02, request 5.
use Rattle.std.specs.Prelude.{ℕ, zero, suc, ◌+◌, ◌*◌, ◌/◌, ◌%◌, ◌^◌, ◌≡◌, Bool, ◌&&◌, leb, Result, Ok, Err}
use Rattle.format.specs.Layout.{most_flags}
use Rattle.format.specs.Fault.{unless, if_kept}
use Rattle.format.specs.declared.Fault.{Fault}
use Rattle.flags.specs.declared.Numbering.{Numbering}
use Rattle.flags.specs.declared.Numbering.TheVariants.{Freedesktop, Gtk}

-- the flags, in the order of source document 000's ICON_FLAGS: HAS_SUFFIX_PNG, HAS_SUFFIX_XPM,
-- HAS_SUFFIX_SVG, HAS_ICON_FILE
pub data Flag : Type 0 where
  bitmap : Flag
  xpm : Flag
  svg : Flag
  icon_file : Flag

-- at which bit a flag stands
abbrev pub bit : Numbering → Flag → ℕ
-- bitmap suffix 1, XPM suffix 2, SVG suffix 4, icon file 8
bit Freedesktop bitmap = 0
bit Freedesktop xpm = 1
bit Freedesktop svg = 2
bit Freedesktop icon_file = 3
-- XPM 1, SVG 2, bitmap 4, icon file 8
bit Gtk xpm = 0
bit Gtk svg = 1
bit Gtk bitmap = 2
bit Gtk icon_file = 3

-- the flag's bit in x: 1 if it is set, and else 0
abbrev pub flag_bit : Numbering → ℕ → Flag → ℕ
flag_bit n x f = x / 2 ^ bit n f % 2

-- the number that has in the numbering m the flags that x has in the numbering n
unfoldable pub renumbered : Numbering → Numbering → ℕ → ℕ
renumbered n m x =
    let moved : Flag → ℕ = λ f. flag_bit n x f * 2 ^ bit m f in
    moved bitmap + moved xpm + moved svg + moved icon_file

-- the numbering that a caller names: 0 is document 01's and 1 the other; a larger number is
-- unknown, and refused
abbrev pub numbering : ℕ → Numbering
numbering zero = Freedesktop
numbering (suc k) = Gtk

abbrev pub known : ℕ → Bool
known k = leb k 1

-- the flags x are 0 to 15, and both numberings are known
abbrev pub valid_flags : ℕ → ℕ → ℕ → Bool
valid_flags x j k = leb x most_flags && known j && known k

-- an answer, as the calls for C spread it: its number, its place and the flags
pub record FlagsAnswer : Type 0 where
  pub number : ℕ
  pub place : ℕ
  pub flags : ℕ

abbrev pub flags_is : ℕ → ℕ → ℕ → FlagsAnswer
flags_is n p x = record { number = n; place = p; flags = x }

-- what a call for Rust hands on, spread in the same way: with a refusal the flags are 0
abbrev pub flags_answer : Result ℕ Fault → FlagsAnswer
flags_answer (Ok x) = flags_is 0 0 x
flags_answer (Err f) = flags_is f.number f.place 0

-- the flags x of the numbering j in the numbering k; 27 for flags above 15 or an unknown numbering,
-- and the result is then 0
unfoldable pub answer : ℕ → ℕ → ℕ → FlagsAnswer
answer x j k =
    let v = unless (valid_flags x j k) 27 0 in
    flags_is v.number v.place (if_kept v (renumbered (numbering j) (numbering k) x) 0)

-- the two calls: raw flags of the numbering k in document 01's, and back
abbrev pub flags_in : ℕ → ℕ → FlagsAnswer
flags_in x k = answer x k 0

abbrev pub flags_out : ℕ → ℕ → FlagsAnswer
flags_out x k = answer x 0 k

-- what request 5 promises of x from 0 to 15 and a known numbering: there and back is the identity,
-- whichever way is gone first
pub record ThereAndBack (x k : ℕ) : Type 0 where
  pub in-out : flags_out (flags_in x k).flags k ≡ flags_is 0 0 x
  pub out-in : flags_in (flags_out x k).flags k ≡ flags_is 0 0 x
