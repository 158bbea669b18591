-- `squeeze_paths::path` meets its contract, whether the path is stored already or new.
use Rattle.std.proofs.Common.{◌+◌, ◌≤◌, ◌<◌, length, refl, sym, ap, ◌∙◌, arith}
use Rattle.format.specs.Header.{path_fault}
use Rattle.format.proofs.Laws.Outcomes.{outcome-kept}
use Rattle.squeeze_index.specs.Laws.Both.{puts-same}
use Rattle.tables.specs.Tables.{part_of}
use Rattle.tables.specs.Laws.{path-start, path-size, valid-header}
use Rattle.squeeze_paths.specs.Laws.{path-sound, path-ends, path_bytes_lem, pathed-known, pathed-new}
use Rattle.squeeze_paths.proofs.path.Goals as goal

pub unwrap-path-requires : goal.unwrap-path-requires
unwrap-path-requires c =
    let s = c.args.cache.now in
    let own = c.requires.sound in
    rw (c.path.ensures, outcome-kept (path_fault s c.args.i) (part_of s c.args.i) (path-sound own.0.accepted own.1).kept)

pub returns-in-Ok : goal.returns-in-Ok
returns-in-Ok c = λ lent table at h field.
    let own = c.requires.sound in
    let acc = own.0.accepted in
    let start = path-start (sym c.unwrap-path.ensures ∙ c.path.ensures) (path-sound acc own.1) in
    pathed-known acc own.1 h start c.in-Ok.ensures.within (c.in-Ok.ensures.spotted h.known.known.rising) field refl c.long.ensures

pub returns-in-Err : goal.returns-in-Err
returns-in-Err c = λ lent table at h field.
    let own = c.requires.sound in
    let acc = own.0.accepted in
    let sound = path-sound acc own.1 in
    let start = path-start (sym c.unwrap-path.ensures ∙ c.path.ensures) sound in
    let bytes = path_bytes_lem acc own.1 start (ap (λ n. n + 1) (path-size (sym c.unwrap-path.ensures ∙ c.path.ensures) sound)) in
    pathed-new acc own.1 h start (c.in-Err.ensures.spotted h.known.known.rising) c.in-Err.ensures.within field c.add.ensures c.long-in-Err.ensures (puts-same bytes c.text.ensures)

pub overflow_cast-start : goal.overflow_cast-start
overflow_cast-start c =
    let own = c.requires.sound in
    let acc = own.0.accepted in
    omega (arith, path-start (sym c.unwrap-path.ensures ∙ c.path.ensures) (path-sound acc own.1), path-ends acc own.1, valid-header own.0.tables)

pub find-requires : goal.find-requires
find-requires c = omega (arith, c.requires.sound.1, c.requires.sound.2, c.requires.sound.3, valid-header c.requires.sound.0.tables)

pub bounds-places-e : goal.bounds-places-e
bounds-places-e c =
    omega (arith, c.in-Ok.ensures.within, c.requires.sound.1, c.requires.sound.2, c.requires.sound.4, valid-header c.requires.sound.0.tables)

pub add-requires : goal.add-requires
add-requires c =
    let own = c.requires.sound in
    let few : c.args.texts.entries < 65535 = omega (arith, own.1, own.2, valid-header own.0.tables) in
    (c.in-Err.ensures.within, omega (arith, own.3), omega (arith, own.4))

pub overflow_add-path : goal.overflow_add-path
overflow_add-path c =
    let own = c.requires.sound in
    let acc = own.0.accepted in
    let sound = path-sound acc own.1 in
    omega (arith, path-size (sym c.unwrap-path.ensures ∙ c.path.ensures) sound, path-ends acc own.1, valid-header own.0.tables)

pub text-requires : goal.text-requires
text-requires c =
    let own = c.requires.sound in
    let acc = own.0.accepted in
    let sound = path-sound acc own.1 in
    let ends : c.unwrap-path.result.start + c.unwrap-path.result.length + 1 ≤ length c.args.cache.now = omega (arith, path-start (sym c.unwrap-path.ensures ∙ c.path.ensures) sound, path-size (sym c.unwrap-path.ensures ∙ c.path.ensures) sound, path-ends acc own.1) in
    (omega arith, omega (arith, c.requires.field_bound.1, valid-header own.0.tables))
