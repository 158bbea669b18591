-- `export::putting::path` meets its contract: the path keeps the rules, and its length and its text
-- are put.
use Rattle.std.proofs.Common.{sym, ap, ◌∙◌, arith}
use Rattle.format.specs.Bytes.{put}
use Rattle.format.specs.Header.{path_fault}
use Rattle.format.proofs.Laws.Outcomes.{outcome-kept}
use Rattle.tables.specs.Tables.{part_of}
use Rattle.tables.specs.Laws.{path-start, path-size, path-is}
use Rattle.export.specs.Laws.Parts.{each-path-inside, path-length}
use Rattle.export.proofs.putting.path.Goals as goal

pub unwrap-path-requires : goal.unwrap-path-requires
unwrap-path-requires c =
    let s = c.args.cache.now in
    let within = each-path-inside c.requires.sound.0 c.args.i c.requires.sound.1 in
    rw (c.path.ensures, outcome-kept (path_fault s c.args.i) (part_of s c.args.i) within.kept)

pub overflow_cast-size : goal.overflow_cast-size
overflow_cast-size c =
    let within = each-path-inside c.requires.sound.0 c.args.i c.requires.sound.1 in
    omega (arith, path-size (sym c.unwrap-path.ensures ∙ c.path.ensures) within, within.short)

pub counted-requires : goal.counted-requires
counted-requires c =
    let a = c.args in
    let within = each-path-inside c.requires.sound.0 a.i c.requires.sound.1 in
    let read = sym c.unwrap-path.ensures ∙ c.path.ensures in
    let size = path-size read within in
    (omega (arith, path-start read within, within.inside), omega (arith, path-length a.cache.now a.i, c.requires.i_in_bounds))

pub returns : goal.returns
returns c =
    let a = c.args in
    let within = each-path-inside c.requires.sound.0 a.i c.requires.sound.1 in
    let read = sym c.unwrap-path.ensures ∙ c.path.ensures in
    record {
      out_after = c.counted.ensures ∙ ap (put a.out.now a.place) (path-is read within);
      value = omega (arith, path-size read within, path-length a.cache.now a.i);
    }
