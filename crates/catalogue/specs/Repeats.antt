-- Names that were used before (20), of a catalogue's icons and of a cache's records alike; and so
-- what is judged of a catalogue's bytes. Document 02, request 8.
use Rattle.std.specs.Prelude.{ℕ, List, [], ◌∷◌, not}
use Rattle.format.specs.Fault.{no_fault, unless, ◌or_else◌}
use Rattle.format.specs.String.{among}
use Rattle.format.specs.declared.Fault.{Fault}
use Rattle.catalogue.specs.Row.{row}
use Rattle.catalogue.specs.Fields.{name_text_at, name_text, icon_end, icon_count, first_icon_at}
use Rattle.catalogue.specs.Judgement.{fields_fault}

-- a name, and the place at which it is refused if it was used before
pub record Use : Type 0 where
  pub name : List ℕ
  pub place : ℕ

abbrev pub use_is : List ℕ → ℕ → Use
use_is t p = record { name = t; place = p }

-- 20 at the first of the uses whose name is one of those before it; `before` are those of the uses
-- that are passed
unfoldable pub repeat_fault : List (List ℕ) → List Use → Fault
repeat_fault before [] = no_fault
repeat_fault before (u ∷ us) = unless (not (among u.name before)) 20 u.place or_else repeat_fault (u.name ∷ before) us

-- the name of the icon at p, refused where its text begins, and those of all icons
abbrev pub icon_use : List ℕ → ℕ → Use
icon_use c p = use_is (name_text c p) (name_text_at p)

abbrev pub icon_uses : List ℕ → List Use
icon_uses c = row (icon_use c) (icon_end c) (icon_count c) (first_icon_at c)

-- what is judged of the bytes of a catalogue: 18, then 20
unfoldable pub catalogue_fault : List ℕ → Fault
catalogue_fault c = fields_fault c or_else repeat_fault [] (icon_uses c)
