-- `strings::name_length` meets its contract: the string is whole, so it is found so.
use Rattle.std.proofs.Common.{◌≡◌, ℕ, List, sym, ap, ◌∙◌}
use Rattle.format.specs.declared.Extent.{Extent}
use Rattle.format.specs.String.{extent, is_whole}
use Rattle.format.proofs.Laws.Strings.{whole_length}
use Rattle.strings.proofs.Whole.{has-size}
use Rattle.strings.proofs.name_length.Goals as goal

-- what is read of the part is what is there
extent-is : {r : Extent} {u t : List ℕ} → r ≡ extent 255 u → u ≡ t → r ≡ extent 255 t
extent-is e q = e ∙ ap (extent 255) q

pub returns-in-Whole : goal.returns-in-Whole
returns-in-Whole c = whole_length 255 _ _ (sym (extent-is c.read_name-read.ensures.extent c.from-part.ensures) ∙ c.in-Whole.is)

pub returns-in_default : goal.returns-in_default
returns-in_default c =
    absurd (has-size _ (ap is_whole (extent-is c.read_name-read.ensures.extent c.from-part.ensures) ∙ c.requires) c.in_default.not-Whole)
