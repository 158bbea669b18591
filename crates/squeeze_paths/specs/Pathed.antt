-- The first i paths are stored, each string once: the strings from `at` on, and the directory list
-- at `table`, where there is room for both.
use Rattle.std.specs.Prelude.{ℕ, ◌+◌, ◌*◌, ◌≤◌, ◌≡◌, List, ◌++◌, length}
use Rattle.format.specs.Bytes.{bytes, joined}
use Rattle.format.specs.Header.{directories}
use Rattle.keys.specs.Key.{key_at}
use Rattle.keys.specs.declared.Kind.TheVariants.{Ended}
use Rattle.names.specs.Repeat.{seen}
use Rattle.squeeze_spec.specs.Uses.{stored_once, place_of}
use Rattle.squeeze_spec.specs.Packed.{nth_string, string_part}
use Rattle.squeeze_spec.specs.Squeezed.{contents}
use Rattle.squeeze_index.specs.Maps.{Maps}
use Rattle.squeeze_index.specs.Both.{PutsBoth}
use Rattle.squeeze_index.specs.Laws.Firsts.{stored_at}
use Rattle.squeeze_paths.specs.declared.Texts.{Texts}

module _ (s : List ℕ) where
  -- the bytes of the first i strings
  abbrev pub strings_up_to : ℕ → List ℕ
  strings_up_to i = stored_once (nth_string (contents s)) (string_part (contents s)) i

  -- where a path is stored, and so its entry in the directory list
  abbrev pub path_at : ℕ → List ℕ → ℕ
  path_at at t = stored_at (nth_string (contents s)) (string_part (contents s)) at (directories s) t

  abbrev pub path_entry : ℕ → ℕ → List ℕ
  path_entry at i = bytes 4 (at + place_of (nth_string (contents s)) (string_part (contents s)) i)

  -- the directory list with the first i paths
  abbrev pub table_up_to : ℕ → ℕ → List ℕ
  table_up_to at i = bytes 4 (directories s) ++ joined (path_entry at) i

pub record Pathed (s lent out index places : List ℕ) (table at i : ℕ) (x : Texts) : Type 0 where
  pub known : Maps (key_at Ended s) index places x.entries (seen (nth_string (contents s)) i) (path_at s at)
  pub most : x.entries ≤ i
  pub ends : x.end ≡ at + length (strings_up_to s i)
  pub few : x.end ≤ at + 1024 * i
  pub puts : PutsBoth lent out table (table_up_to s at i) at (strings_up_to s i)
