-- `squeeze_paths::paths` meets its contract: before each turn the paths passed are stored.
use Rattle.std.proofs.Common.{◌≡◌, ◌≤◌, ◌+◌, refl, ap, arith}
use Rattle.format.specs.Bytes.{bytes}
use Rattle.format.specs.Header.{directories}
use Rattle.format.proofs.Laws.Bytes.{bytes-length}
use Rattle.squeeze_index.specs.Laws.Both.{puts-same}
use Rattle.tables.specs.Laws.{same-directories, valid-header}
use Rattle.squeeze_paths.specs.Laws.{pathed-none, pathed-at}
use Rattle.squeeze_paths.proofs.paths.Goals as goal

pub loop-i-init : goal.loop-i-init
loop-i-init c = record { index_lent = refl; places_lent = refl; out_lent = refl; pathed = λ lent a. pathed-none c.args.cache.now lent a }

pub overflow_add-field : goal.overflow_add-field
overflow_add-field c =
    omega (arith, c.long-first.ensures.next, bytes-length 4 c.args.t.directories, same-directories c.requires.0.tables, valid-header c.requires.0.tables, c.requires.3)

pub path-texts-requires : goal.path-texts-requires
path-texts-requires c =
    let inv = c.loop-i.invariant in
    let count = same-directories c.requires.0.tables in
    let few : c.args.t.directories ≤ 65535 = omega (arith, count, valid-header c.requires.0.tables) in
    let h = inv.pathed _ (puts-same (ap (bytes 4) count) c.long-first.ensures) in
    let start : c.long-first.result ≡ c.args.table + 4 = omega (arith, c.long-first.ensures.next, bytes-length 4 c.args.t.directories) in
    record {
      sound = (c.requires.0, omega arith, h.most, omega (arith, inv.index_lent, c.requires.1), omega (arith, inv.places_lent, c.requires.2));
      field_bound = (omega (arith, c.requires.3), omega (arith, h.few, c.requires.4));
    }

pub loop-i-preserved : goal.loop-i-preserved
loop-i-preserved c =
    let start : c.long-first.result ≡ c.args.table + 4 = omega (arith, c.long-first.ensures.next, bytes-length 4 c.args.t.directories) in
    record {
      index_lent = omega arith;
      places_lent = omega arith;
      out_lent = omega arith;
      pathed = λ lent a. c.path-texts.ensures lent _ _ (c.loop-i.invariant.pathed lent a) (omega arith);
    }

pub returns : goal.returns
returns c =
    let count = same-directories c.requires.0.tables in
    let all : c.loop-i.i ≡ directories c.args.cache.now = omega arith in
    pathed-at all (c.loop-i.invariant.pathed _ (puts-same (ap (bytes 4) count) c.long-first.ensures))
