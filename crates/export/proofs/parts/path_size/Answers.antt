-- `export::parts::path_size` meets its contract: the path keeps the rules, so its length is read.
use Rattle.std.proofs.Common.{sym, ◌∙◌, arith}
use Rattle.format.specs.Header.{path_fault}
use Rattle.format.proofs.Laws.Outcomes.{outcome-kept}
use Rattle.tables.specs.Tables.{part_of}
use Rattle.tables.specs.Laws.{path-size}
use Rattle.export.specs.Laws.Parts.{each-path-inside, path-length}
use Rattle.export.proofs.parts.path_size.Goals as goal

pub unwrap-path-requires : goal.unwrap-path-requires
unwrap-path-requires c =
    let s = c.args.cache.now in
    let within = each-path-inside c.requires.0 c.args.i c.requires.1 in
    rw (c.path.ensures, outcome-kept (path_fault s c.args.i) (part_of s c.args.i) within.kept)

pub overflow_add-result : goal.overflow_add-result
overflow_add-result c =
    let within = each-path-inside c.requires.0 c.args.i c.requires.1 in
    omega (arith, path-size (sym c.unwrap-path.ensures ∙ c.path.ensures) within, within.short)

pub returns : goal.returns
returns c =
    let within = each-path-inside c.requires.0 c.args.i c.requires.1 in
    let short = within.short in
    let size = path-size (sym c.unwrap-path.ensures ∙ c.path.ensures) within in
    (omega (arith, path-length c.args.cache.now c.args.i), omega arith)
