-- `squeeze_data::in_record` meets its contract: the images are those of the record's list.
use Rattle.std.proofs.Common.{◌+◌, ap, ◌∙◌, arith}
use Rattle.format.specs.Fault.{verdict}
use Rattle.format.specs.Number.{be}
use Rattle.squeeze_spec.specs.Call.{images_data_fault}
use Rattle.squeeze_data.proofs.in_record.Goals as goal

pub in_list-requires : goal.in_list-requires
in_list-requires c =
    omega (arith, c.requires.listed, c.u32_at-list.ensures, c.u32_at-count.ensures ∙ ap (be 4 c.args.cache.now) c.u32_at-list.ensures)

pub returns : goal.returns
returns c =
    let s = c.args.cache.now in
    c.in_list.ensures
    ∙ ap (λ n. verdict (images_data_fault n s (c.u32_at-list.result + 4))) c.u32_at-count.ensures
    ∙ ap (λ p. verdict (images_data_fault (be 4 s p) s (p + 4))) c.u32_at-list.ensures
