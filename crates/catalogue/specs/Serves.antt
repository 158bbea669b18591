-- What a cache does that lays out a catalogue: the check accepts it, a lookup gives each name its
-- images, and knows no other name. Document 02, requests 8 and 9.
use Rattle.std.specs.Prelude.{ℕ, zero, suc, ◌+◌, ◌*◌, ◌≤◌, ◌<◌, ◌≡◌, true, length, drop, eqb, if◌then◌else◌}
use mathlib.Core.List.{List, [], ◌∷◌, ◌++◌, flat_map}
use Rattle.format.specs.String.{allowed}
use Rattle.format.specs.Answer.{looked_up, accepted}
use Rattle.format.specs.Call.{check, lookup, lookup_words}
use Rattle.format.specs.Words.{greatest}
use Rattle.format.specs.declared.Reading.TheVariants.{Short}
use Rattle.catalogue.specs.Catalogue.{Image, Catalogue}
use Rattle.catalogue.specs.LaidOut.{nth_icon, icon_bucket, Places}

-- the words that a lookup gives for an image
abbrev pub words_of : Image → List ℕ
words_of i = (i.index * 65536 + i.flags) ∷ i.data-offset ∷ []

-- a lookup of the name of icon i: its record and its images with enough room, which then stand in
-- the lent words, and 14 with less
pub record GivesIcon (s : List ℕ) (d : Catalogue) (q : Places) (i : ℕ) : Type 0 where
  pub opened : ℕ
  pub enough : (room : ℕ) → 2 * length (nth_icon d i).images ≤ room
      → lookup s (nth_icon d i).name room ≡ looked_up 0 (q.record-at i) (length (nth_icon d i).images) opened
  pub short : (room : ℕ) → room < 2 * length (nth_icon d i).images
      → lookup s (nth_icon d i).name room ≡ looked_up 14 (q.images-at i) (length (nth_icon d i).images) opened
  pub words : (lent : List ℕ) → 2 * length (nth_icon d i).images ≤ length lent
      → lookup_words s (nth_icon d i).name lent ≡ flat_map words_of (nth_icon d i).images ++ drop (2 * length (nth_icon d i).images) lent

-- how many of m icons from icon i on are of bucket k
unfoldable pub count_in : (ℕ → ℕ) → ℕ → ℕ → ℕ → ℕ
count_in bucket k i zero = 0
count_in bucket k i (suc m) = (if eqb (bucket i) k then 1 else 0) + count_in bucket k (suc i) m

-- how many icons the fullest of b buckets has
abbrev pub fullest : Catalogue → ℕ → ℕ
fullest d b = greatest (λ k. count_in (icon_bucket d b) k 0 (length d.icons)) b

-- s serves the catalogue by b buckets: all of it is counted, the longest chain is that of the fullest
-- bucket, each name is found, and any other allowed name is absent
pub record Serves (s : List ℕ) (d : Catalogue) (b : ℕ) (q : Places) : Type 0 where
  pub accepts : check Short s ≡ accepted (length d.paths) (length d.icons) (fullest d b)
  pub gives : (i : ℕ) → i < length d.icons → GivesIcon s d q i
  pub absent : (name : List ℕ) (room : ℕ) → allowed name ≡ true → ((i : ℕ) → i < length d.icons → (nth_icon d i).name ≡ name → ⊥)
      → (lookup s name room).number ≡ 30
