-- An icon at hand, as a loop over the icons of a good catalogue meets it.
use Rattle.std.specs.Prelude.{ℕ, ◌+◌, ◌≤◌, ◌≡◌, List, true, length}
use Rattle.format.specs.String.{allowed}
use Rattle.catalogue.specs.Fields.{name_length, name_text, image_count_at, image_count}

-- what an icon tells that is judged good
pub record IconThere (c : List ℕ) (p : ℕ) : Type 0 where
  pub name-inside : p + 1 + name_length c p ≤ length c
  pub count-inside : image_count_at c p + 2 ≤ length c
  pub named : allowed (name_text c p) ≡ true
  pub few : image_count c p ≤ 1024
