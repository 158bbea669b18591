-- `image_data::display_name_bytes` meets its contract: the part is the string (`string_bytes_lem`).
use Rattle.std.proofs.Common.{◌∙◌}
use Rattle.image_data.proofs.Laws.Inside.{string_bytes_lem}
use Rattle.image_data.proofs.display_name_bytes.Goals as goal

pub returns : goal.returns
returns c = c.bytes.ensures ∙ rw c.display_name-part.ensures.answer (string_bytes_lem _ _ _ _)
