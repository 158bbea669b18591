-- `squeeze::measure` meets its contract, by what its parts measure.
use Rattle.std.proofs.Common.{◌^◌, ◌≤◌, length, sym, ap, ◌∙◌, zero-add, arith}
use Rattle.squeeze_spec.specs.Packed.{nth_list}
use Rattle.squeeze_spec.specs.Squeezed.{contents}
use Rattle.tables.specs.Laws.{valid-header}
use Rattle.squeeze_icons.specs.Laws.Icon.{icons-few}
use Rattle.squeeze_paths.specs.Pathed.{strings_up_to}
use Rattle.squeeze_texts.specs.Named.{string_of}
use Rattle.squeeze_sizes.specs.Laws.Lists.{lists-few}
use Rattle.squeeze_sizes.specs.Laws.Distinct.{distinct-all}
use Rattle.squeeze_records.specs.Laws.Sizes.{all-strings}
use Rattle.squeeze.proofs.measure.Goals as goal

pub measure-named-requires : goal.measure-named-requires
measure-named-requires c =
    let p = c.paths-texts.ensures in
    let v = valid-header c.requires.0.tables in
    let k = c.paths-texts.auto in
    record {
      sound = (c.requires.0, c.requires.1.marked);
      entries_in_bounds = (omega (arith, p.most, v, c.requires.1.index-wide, k), omega (arith, p.most, v, c.requires.1.places-wide, k), omega (arith, p.few, v));
    }

pub measure-requires : goal.measure-requires
measure-requires c =
    let k = c.paths-texts.auto in
    let w = c.requires.1 in
    record {
      sound = (c.requires.0, omega (arith, w.index-wide, k), omega (arith, w.index-wide, w.places-wide, k), omega (arith, w.places-wide, k), w.marked);
      icons_value = c.measure-named.ensures.icons;
    }

pub returns : goal.returns
returns c =
    let t = c.args.cache.now in
    let p = c.paths-texts.ensures in
    let e = c.measure-named.ensures in
    let acc = c.requires.0.accepted in
    let v = valid-header c.requires.0.tables in
    let icons : length (contents t).icons ≤ 2 ^ 24 = omega (arith, icons-few acc, v) in
    let short : length t ≤ 2 ^ 24 = omega (arith, v) in
    record {
      icons = e.icons;
      lists = c.measure.ensures;
      strings =
          e.ends 0 p.known p.ends ∙ zero-add _
          ∙ ap (λ n. length (strings_up_to t (string_of t n))) e.icons ∙ ap length (sym (all-strings t));
      few = (
        omega (arith, e.icons, icons),
        omega (arith, c.measure.ensures, lists-few acc short icons, distinct-all (nth_list (contents t)) (length (contents t).icons)),
        omega (arith, e.few, p.few, v, e.icons, icons),
      );
    }
