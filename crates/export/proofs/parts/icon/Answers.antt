-- `export::parts::icon` meets its contract: the fields and the strings of a record that keeps the
-- rules lie inside.
use Rattle.std.proofs.Common.{drop, ap, ◌∙◌, arith}
use Rattle.format.specs.String.{extent, is_whole}
use Rattle.export.specs.Laws.Parts.{icon-inside}
use Rattle.export.proofs.parts.icon.Goals as goal

pub name_length-requires : goal.name_length-requires
name_length-requires c = ap (λ p. is_whole (extent 255 (drop p c.args.cache.now))) c.u32_at-name.ensures ∙ (icon-inside c.requires).whole

pub u32_at-requires : goal.u32_at-requires
u32_at-requires c = omega (arith, c.u32_at-list.ensures, (icon-inside c.requires).listed)
