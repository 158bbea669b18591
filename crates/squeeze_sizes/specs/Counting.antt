-- What is counted of the lists of the icons from icon a on: those up to some icon are in the index,
-- and each that comes again behind it has a 1 beside it and counts no more.
use Rattle.std.specs.Prelude.{ℕ, ◌+◌, ◌-◌, ◌*◌, ◌≤◌, ◌<◌, ◌≡◌, List, length, get_or, set, if◌then◌else◌}
use Rattle.format.specs.Number.{be}
use Rattle.format.specs.String.{among}
use Rattle.keys.specs.Key.{key_at}
use Rattle.keys.specs.declared.Kind.TheVariants.{Images}
use Rattle.names.specs.Repeat.{seen}
use Rattle.squeeze_spec.specs.Packed.{nth_list}
use Rattle.squeeze_spec.specs.Squeezed.{contents}
use Rattle.squeeze_index.specs.Maps.{Maps}
use Rattle.squeeze_sizes.specs.Distinct.{from, distinct}
use Rattle.squeeze_sizes.specs.declared.Counted.{Counted}

-- the list of icon i stands at p
pub record ListAt (s : List ℕ) (i p : ℕ) : Type 0 where
  pub is : key_at Images s p ≡ nth_list (contents s) i
  pub size : length (nth_list (contents s) i) ≡ 4 + 8 * be 4 s p
  pub inside : p + 4 ≤ length s

-- 1 for a list that is one of the n from b on
abbrev pub comes_again : (ℕ → List ℕ) → ℕ → ℕ → List ℕ → ℕ
comes_again part b n t = if among t (seen (from part b) n) then 1 else 0

-- the lists of n icons are passed, those from a on counted; `before` bytes were counted before them
pub record Counts (s index again : List ℕ) (a n before : ℕ) (c : Counted) : Type 0 where
  pub taken : ℕ
  pub later : ℕ
  pub until-is : c.until ≡ a + taken
  pub passed : n ≡ a + taken + later
  pub onward : a < n → 0 < taken
  pub most : c.entries ≤ taken
  pub fits : c.entries ≤ length index
  pub known : Maps (key_at Images s) index again c.entries (seen (from (nth_list (contents s)) a) taken) (comes_again (nth_list (contents s)) (a + taken) later)
  pub sum : c.bytes + distinct (nth_list (contents s)) (a + taken) later ≡ before + distinct (nth_list (contents s)) a (taken + later)

-- the list of entry e comes again: it has a 1 beside it, and its bytes count no more
pub record ComesAgain (old new : List ℕ) (e size : ℕ) (c d : Counted) : Type 0 where
  pub first : get_or old e 0 ≡ 0 → (new ≡ set old e 1) × (d ≡ record { until = c.until; entries = c.entries; bytes = c.bytes - size })
  pub later : (get_or old e 0 ≡ 0 → ⊥) → (new ≡ old) × (d ≡ c)

-- the lists of the icons before icon a are counted, as far as they don't come again from it on
pub record Counting (s : List ℕ) (a bytes : ℕ) : Type 0 where
  pub within : a ≤ length (contents s).icons
  pub sum : bytes + distinct (nth_list (contents s)) a (length (contents s).icons - a) ≡ distinct (nth_list (contents s)) 0 (length (contents s).icons)

-- what a walk over all icons counts, from icon a on: the lists that don't come again behind icon b
pub record Block (s : List ℕ) (a before b bytes : ℕ) : Type 0 where
  pub onward : a < length (contents s).icons → a < b
  pub within : b ≤ length (contents s).icons
  pub sum : bytes + distinct (nth_list (contents s)) b (length (contents s).icons - b) ≡ before + distinct (nth_list (contents s)) a (length (contents s).icons - a)
