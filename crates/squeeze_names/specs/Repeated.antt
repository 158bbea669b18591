-- Which names come again, as marks, while the names of a chain are taken in and looked for.
use Rattle.std.specs.Prelude.{ℕ, ◌+◌, ◌/◌, ◌≤◌, ◌<◌, ◌≡◌, ◌⊎◌, List, Bool, true, false, not, ◌||◌, ltb, length, if◌then◌else◌}
use Rattle.format.specs.String.{among}
use Rattle.format.specs.Chain.{all_records, nth_name}
use Rattle.format.specs.declared.Reading.TheVariants.{Short}
use Rattle.keys.specs.Key.{key_at}
use Rattle.keys.specs.declared.Kind.TheVariants.{Ended}
use Rattle.names.specs.Index.{Represents}
use Rattle.names.specs.Repeat.{seen}
use Rattle.marks.specs.Marks.{marked, Marks}
use Rattle.rounds.specs.Stepping.{ahead}
use Rattle.repeats.specs.Along.{name_along}
use Rattle.squeeze_spec.specs.Uses.{is_first}
use Rattle.squeeze_names.specs.declared.Block.{Block}

-- i is marked, if b says so, and else nothing changes
pub record Noted (b : Bool) (old new : List ℕ) (i : ℕ) : Type 0 where
  pub noted : b ≡ true → Marks old new i
  pub kept : b ≡ false → new ≡ old

-- the n numbers from a on have the marks that they had, and those more; no other mark changes
pub record Adds (old new : List ℕ) (a n : ℕ) (more : ℕ → Bool) : Type 0 where
  pub same : length new ≡ length old
  pub here : (i : ℕ) → i < n → (a + i) / 32 < length old → marked new (a + i) ≡ (marked old (a + i) || more i)
  pub others : (j : ℕ) → (j < a) ⊎ (a + n ≤ j) → marked new j ≡ marked old j

-- the i-th name is one of those before it, and one of the first u of those before it
abbrev pub among_before : (ℕ → List ℕ) → ℕ → Bool
among_before name i = among (name i) (seen name i)

abbrev pub among_first : (ℕ → List ℕ) → ℕ → ℕ → Bool
among_first name u i = among (name i) (seen name (if ltb i u then i else u))

-- a block of names from the field f on, of which the first has the number a, is in the index
pub record TakenIn (s : List ℕ) (f a : ℕ) (index old new : List ℕ) (b : Block) : Type 0 where
  pub behind : b.field ≡ ahead s f b.names
  pub few : b.entries ≤ b.names
  pub known : Represents (key_at Ended s) index b.entries (seen (name_along s f) b.names)
  pub marks : Adds old new a b.names (among_before (name_along s f))

-- the i-th record in the check's order has a name of one before it
abbrev pub comes_again : List ℕ → ℕ → Bool
comes_again s i = not (is_first (nth_name s) i)

-- those records are marked, as far as there are words for them
abbrev pub RepeatsMarked : List ℕ → List ℕ → Type 0
RepeatsMarked s m = (i : ℕ) → i < length (all_records Short s) → i / 32 < length m → marked m i ≡ comes_again s i
