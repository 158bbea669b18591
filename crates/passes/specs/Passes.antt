-- What the passes over a catalogue go by.
use Rattle.std.specs.Prelude.{ℕ, ◌≡◌, List}
use Rattle.catalogue.specs.Catalogue.{Catalogue}
use Rattle.catalogue.specs.Fields.{AreBytes, path_count, icon_count, first_icon_at}
use Rattle.catalogue.specs.Judgement.{fields_fault}
use Rattle.catalogue.specs.Written.{lists_begin, directories_begin, paths_begin, names_begin}
use Rattle.passes.specs.declared.sizes.Begins.{Begins}

-- the bytes c are judged good, and have so many paths and icons, the first icon at `first`
pub record Judged (c : List ℕ) (paths icons first : ℕ) : Type 0 where
  pub are-bytes : AreBytes c
  pub good : (fields_fault c).number ≡ 0
  pub all-paths : paths ≡ path_count c
  pub all-icons : icons ≡ icon_count c
  pub begin : first ≡ first_icon_at c

-- where the parts of the cache of the catalogue d with b buckets begin
pub record BeginsOf (d : Catalogue) (b : ℕ) (a : Begins) : Type 0 where
  pub lists : a.lists ≡ lists_begin d b
  pub directories : a.directories ≡ directories_begin d b
  pub paths : a.paths ≡ paths_begin d b
  pub names : a.names ≡ names_begin d b
