-- `in_order::first` meets its contract: there is a first bucket.
use Rattle.std.proofs.Common.{ap, ◌∙◌, arith}
use Rattle.format.specs.Number.{be}
use Rattle.tables.specs.Laws.{same-field, field-inside, valid-header}
use Rattle.in_order.specs.Laws.{before-first}
use Rattle.in_order.proofs.first.Goals as goal

pub u32_at-requires : goal.u32_at-requires
u32_at-requires c =
    let told = c.bucket_field.ensures ∙ same-field c.requires.tables 0 in
    omega (arith, told, field-inside c.requires.tables 0 (valid-header c.requires.tables).buckets-some)

pub settle-requires : goal.settle-requires
settle-requires c =
    let told = c.bucket_field.ensures ∙ same-field c.requires.tables 0 in
    (c.requires, before-first c.requires.accepted (valid-header c.requires.tables).buckets-some (c.u32_at.ensures ∙ ap (be 4 c.args.cache.now) told))
