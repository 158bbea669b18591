-- What `pick` answers in plain words, for every buffer, name, size, scale and lent words. When an
-- image fits is said by `fits` and `serves`; one with the index 0xFFFF never does (`fits-nowhere`).
use Rattle.std.specs.Prelude.{ℕ, ◌+◌, ◌*◌, ◌≤◌, ◌<◌, ◌≡◌, List, true, false, ◌↔◌, length, get_or}
use Rattle.format.specs.Layout.{entries_at, image_size, index_field, most_images}
use Rattle.format.specs.Number.{be}
use Rattle.format.specs.Header.{directories}
use Rattle.format.specs.Record.{images_at, images}
use Rattle.format.specs.Call.{lookup}
use Rattle.pick.specs.Pick.{PickAnswer, words_each, fits, pick_is, pick}
use Rattle.format.specs.declared.LookupAnswer.{LookupAnswer}

-- six words are lent for each directory
abbrev pub SixEach : List ℕ → List ℕ → Type 0
SixEach s w = length w ≡ words_each * directories s

-- the word that names the type of directory i: up to 2 it is Fixed, Scalable or Threshold
abbrev pub type_word : List ℕ → ℕ → ℕ
type_word w i = get_or w (words_each * i) 0

-- six words for each directory, and each of a known type
abbrev pub Described : List ℕ → List ℕ → Type 0
Described s w = SixEach s w × ((i : ℕ) → i < directories s → type_word w i ≤ 2)

-- the directory i is the first whose type is unknown
pub record FirstUnknown (s w : List ℕ) (i : ℕ) : Type 0 where
  pub below : i < directories s
  pub unknown : 2 < type_word w i
  pub before : (j : ℕ) → j < i → type_word w j ≤ 2

-- where image j of the record r stands
abbrev pub image_at : List ℕ → ℕ → ℕ → ℕ
image_at s r j = entries_at (images_at s r) + image_size * j

module _ (s : List ℕ) (size scale : ℕ) (w : List ℕ) (r : ℕ) where
  -- the image j is the first of the record's list that fits
  pub record FirstFits (j : ℕ) : Type 0 where
    pub listed : j < images s r
    pub here : fits w size scale s (image_at s r j) ≡ true
    pub before : (i : ℕ) → i < j → fits w size scale s (image_at s r i) ≡ false

  -- no image of the list fits
  abbrev pub NoneFits : Type 0
  NoneFits = (j : ℕ) → j < images s r → fits w size scale s (image_at s r j) ≡ false

  -- where the name was found at r: the words are too few or too many, a type is unknown, an image
  -- is the first that fits, or none does. One of these always stands (`case-of`)
  pub data Case : Type 0 where
    miscounted : (SixEach s w → ⊥) → Case
    unknown-type : (i : ℕ) → SixEach s w → FirstUnknown s w i → Case
    first_fits : (j : ℕ) → Described s w → FirstFits j → Case
    none-fits : Described s w → NoneFits → Case

  abbrev pub answer_in : Case → PickAnswer
  answer_in (miscounted wrong) = pick_is 31 0
  answer_in (unknown-type i six first) = pick_is 32 (words_each * i)
  answer_in (first_fits j described first) = pick_is 0 (image_at s r j)
  answer_in (none-fits described none) = pick_is 0 0

-- the image at p lies inside, and its index names a directory
pub record RealImage (s : List ℕ) (p : ℕ) : Type 0 where
  pub inside : p + image_size ≤ length s
  pub directory : be 2 s (index_field p) < directories s

-- `pick` refuses as the lookup does that answers a, and else it answers by the case; place 0 comes
-- exactly if none fits, and any other is that of an image
pub record PickAnswers (s name : List ℕ) (size scale : ℕ) (w : List ℕ) (a : LookupAnswer) : Type 0 where
  pub refuses : (a.number ≡ 0 → ⊥) → pick s name size scale w ≡ pick_is a.number a.place
  pub answers : a.number ≡ 0 → (c : Case s size scale w a.place) → pick s name size scale w ≡ answer_in s size scale w a.place c
  pub none : a.number ≡ 0 → Described s w → ((pick s name size scale w).place ≡ 0) ↔ NoneFits s size scale w a.place
  pub image : (pick s name size scale w).number ≡ 0 → ((pick s name size scale w).place ≡ 0 → ⊥) → RealImage s (pick s name size scale w).place

-- the same with any room that is enough for the longest list
abbrev pub Picks : List ℕ → List ℕ → ℕ → ℕ → List ℕ → Type 0
Picks s name size scale w = (room : ℕ) → 2 * most_images ≤ room → PickAnswers s name size scale w (lookup s name room)
