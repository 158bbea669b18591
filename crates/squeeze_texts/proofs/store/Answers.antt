-- `squeeze_texts::store` meets its contract, whether the name is a path or not.
use Rattle.std.proofs.Common.{◌+◌, drop, refl, ap, arith}
use Rattle.format.proofs.Laws.Strings.{whole-string}
use Rattle.squeeze_index.specs.Laws.Maps.{maps-met, maps-value, maps-missing}
use Rattle.squeeze_texts.specs.Laws.{stores-used, stores-new}
use Rattle.squeeze_texts.proofs.store.Goals as goal

pub overflow_add-result : goal.overflow_add-result
overflow_add-result c = omega (arith, c.name_length.ensures, (whole-string 255 (drop c.args.name c.args.cache.now) c.requires.1).within)

pub overflow_add-result-in-Err : goal.overflow_add-result-in-Err
overflow_add-result-in-Err c =
    omega (arith, c.name_length.ensures, (whole-string 255 (drop c.args.name c.args.cache.now) c.requires.1).within, c.requires.4)

pub returns-in-Ok : goal.returns-in-Ok
returns-in-Ok c = record {
  few = omega arith;
  stored = λ at i known named.
      let here = c.in-Ok.ensures in
      let entry = here.spotted known.known.rising in
      stores-used c.requires.0 named (maps-met known c.args.name here.within entry) (maps-value known c.args.name here.within entry) refl;
}

pub returns-in-Err : goal.returns-in-Err
returns-in-Err c = record {
  few = omega (arith, c.name_length.ensures, (whole-string 255 (drop c.args.name c.args.cache.now) c.requires.1).within);
  stored = λ at i known named.
      stores-new c.requires.0 named (maps-missing known c.args.name (c.in-Err.ensures.spotted known.known.rising)) refl (ap (λ n. c.args.end + (n + 1)) c.name_length.ensures);
}
