-- Where the names of a squeezed cache are stored, behind its paths.
use Rattle.std.specs.Prelude.{ℕ, ◌+◌, ◌*◌, ◌≤◌, ◌<◌, ◌≡◌, List, true, false, length}
use Rattle.format.specs.Header.{directories}
use Rattle.catalogue.specs.LaidOut.{nth_icon}
use Rattle.keys.specs.Key.{key_at}
use Rattle.keys.specs.declared.Kind.TheVariants.{Ended}
use Rattle.names.specs.Repeat.{seen}
use Rattle.squeeze_spec.specs.Uses.{is_first, place_of}
use Rattle.squeeze_spec.specs.Packed.{nth_string, string_part}
use Rattle.squeeze_spec.specs.Squeezed.{contents}
use Rattle.squeeze_index.specs.Maps.{Maps}
use Rattle.squeeze_paths.specs.Pathed.{strings_up_to, path_at}
use Rattle.squeeze_paths.specs.declared.Texts.{Texts}
use Rattle.squeeze_texts.specs.declared.Stored.{Stored}
use Rattle.squeeze_texts.specs.declared.Sizes.{Sizes}

-- the index has the paths, and beside it is where they are stored, from `at` on
abbrev pub PathsKnown : List ℕ → List ℕ → List ℕ → ℕ → ℕ → Type 0
PathsKnown s index places n at = Maps (key_at Ended s) index places n (seen (nth_string (contents s)) (directories s)) (path_at s at)

-- the name of icon i stands at p
pub record NameAt (s : List ℕ) (i p : ℕ) : Type 0 where
  pub below : i < length (contents s).icons
  pub is : (nth_icon (contents s) i).name ≡ key_at Ended s p

-- the number of a name among the strings
abbrev pub string_of : List ℕ → ℕ → ℕ
string_of s i = directories s + i

-- the name of icon i is stored, with the strings from `at` on: it is new and goes to `end`, or it
-- is a path
pub record Stores (s : List ℕ) (at i end : ℕ) (x : Stored) : Type 0 where
  pub new : is_first (nth_string (contents s)) (string_of s i) ≡ true → (x.place ≡ end) × (x.end ≡ end + length (string_part (contents s) (string_of s i)))
  pub used : is_first (nth_string (contents s)) (string_of s i) ≡ false
      → (x.place ≡ at + place_of (nth_string (contents s)) (string_part (contents s)) (string_of s i)) × (x.end ≡ end)

-- all icons are measured
pub record Measures (s index places : List ℕ) (a : Texts) (x : Sizes) : Type 0 where
  pub icons : x.icons ≡ length (contents s).icons
  pub few : x.end ≤ a.end + 256 * x.icons
  pub ends : (at : ℕ) → PathsKnown s index places a.entries at → a.end ≡ at + length (strings_up_to s (directories s)) → x.end ≡ at + length (strings_up_to s (string_of s x.icons))
