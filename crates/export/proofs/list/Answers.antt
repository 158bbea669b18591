-- `export::list` meets its contract: 20, 21 and 19 are asked in this order, and else all is put.
use Rattle.std.proofs.Common.{◌≡◌, ◌≤◌, List, ℕ, [], length, arith, Ok}
use Rattle.std.proofs.lemmas.Result.{err_from_is_err_and}
use Rattle.format.specs.Fault.{verdict}
use Rattle.format.specs.Chain.{all_records}
use Rattle.format.specs.declared.Reading.TheVariants.{Short}
use Rattle.format.proofs.Laws.Outcomes.{kept-by}
use Rattle.catalogue.specs.Repeats.{repeat_fault}
use Rattle.catalogue.specs.Listed.{record_uses}
use Rattle.export.specs.Laws.Pieces.{indexed}
use Rattle.export.specs.Laws.Call.{sound-checked, name-refuses, many-refused, short-refused, listed-whole}
use Rattle.export.proofs.list.Goals as goal

-- no name stands twice
apart : (s : List ℕ) {u : Unit {0}} → Ok u ≡ verdict (repeat_fault [] (record_uses s)) → (repeat_fault [] (record_uses s)).number ≡ 0
apart s {u} told = (kept-by (repeat_fault [] (record_uses s)) tt u told).0

pub returns-in_err-in_cache : goal.returns-in_err-in_cache
returns-in_err-in_cache c =
    let p = err_from_is_err_and c.from_residual.result c.from_residual.ensures.1 in
    let told = name-refuses c.args.cache.now c.args.catalogue.now (sound-checked c.requires.0) c.in_err-in_cache.ensures in
    record { answer = rw (p.1, p.2) told.answer; refused = rw (p.1, p.2) told.refused; lent = told.leaves }

pub returns-then-icons-gt65535 : goal.returns-then-icons-gt65535
returns-then-icons-gt65535 c =
    let s = c.args.cache.now in
    let told = many-refused s c.args.catalogue.now (sound-checked c.requires.0) (apart s c.in_ok-in_cache.ensures) (omega (arith, c.requires.1)) in
    record { answer = told.answer; refused = told.refused; lent = told.leaves }

pub whole-size-requires : goal.whole-size-requires
whole-size-requires c = indexed c.requires.0 c.records-n.ensures (omega (arith, c.requires.1)) (omega (arith, c.requires.2))

pub returns-then-catalogue-size : goal.returns-then-catalogue-size
returns-then-catalogue-size c =
    let s = c.args.cache.now in
    let few : length (all_records Short s) ≤ 65535 = omega (arith, c.requires.1) in
    let told = short-refused s c.args.catalogue.now (sound-checked c.requires.0) (apart s c.in_ok-in_cache.ensures) few (omega (arith, c.whole-size.ensures)) in
    record { answer = told.answer; refused = told.refused; lent = told.leaves }

pub whole-requires-clause-indexed : goal.whole-requires-clause-indexed
whole-requires-clause-indexed c = indexed c.requires.0 c.records-n.ensures (omega (arith, c.requires.1)) (omega (arith, c.requires.2))

pub returns : goal.returns
returns c =
    let s = c.args.cache.now in
    let few : length (all_records Short s) ≤ 65535 = omega (arith, c.requires.1) in
    let told = listed-whole s c.args.catalogue.now (sound-checked c.requires.0) (apart s c.in_ok-in_cache.ensures) few (omega (arith, c.whole-size.ensures)) c.whole-size.ensures c.whole.ensures in
    record { answer = told.answer; refused = told.refused; lent = told.leaves }
