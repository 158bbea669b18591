-- `squeeze_data::image_data` meets its contract: the records from the cursor on are judged as all
-- are.
use Rattle.std.proofs.Common.{◌≤◌, length, drop, sym, ap, ◌∙◌, arith}
use Rattle.std.proofs.lemmas.Result.{err_from_is_err_and}
use Rattle.format.specs.Chain.{all_records, nth_record}
use Rattle.format.specs.Fault.{verdict}
use Rattle.format.specs.declared.Reading.TheVariants.{Short}
use Rattle.format.proofs.Laws.Outcomes.{kept-by, broken-by}
use Rattle.squeeze_spec.specs.Call.{record_data_fault, data_fault}
use Rattle.in_order.specs.Laws.{here-below}
use Rattle.squeeze_data.specs.Laws.{here-listed, none_left, data-here, data-later}
use Rattle.squeeze_data.proofs.image_data.Goals as goal

pub loop-cursor-init : goal.loop-cursor-init
loop-cursor-init c =
    let s = c.args.cache.now in
    record { at = c.first-cursor.ensures.0; left = ap (λ n. data_fault s (drop n (all_records Short s))) c.first-cursor.ensures.1 }

pub in_record-requires : goal.in_record-requires
in_record-requires c = here-listed (c.loop-cursor.invariant.at.here c.loop-cursor-test.true)

pub returns-in_err-in_record : goal.returns-in_err-in_record
returns-in_err-in_record c =
    let s = c.args.cache.now in
    let here = c.loop-cursor.invariant.at.here c.loop-cursor-test.true in
    let told = c.in_err-in_record.ensures ∙ ap (λ r. verdict (record_data_fault s r)) here.is in
    let some = (broken-by (record_data_fault s (nth_record s c.loop-cursor.cursor.number)) tt _ told).0 in
    let handed = err_from_is_err_and c.from_residual.result c.from_residual.ensures.1 in
    rw (handed.1, handed.2) (told ∙ ap verdict (sym (data-here _ _ _ (here-below c.requires.accepted here) some) ∙ c.loop-cursor.invariant.left))

pub next-cursor-requires : goal.next-cursor-requires
next-cursor-requires c = (c.requires, c.loop-cursor.invariant.at, c.loop-cursor-test.true)

pub loop-cursor-smaller : goal.loop-cursor-smaller
loop-cursor-smaller c =
    omega (arith, here-below c.requires.accepted (c.loop-cursor.invariant.at.here c.loop-cursor-test.true), c.next-cursor.ensures.1)

pub loop-cursor-preserved : goal.loop-cursor-preserved
loop-cursor-preserved c =
    let s = c.args.cache.now in
    let here = c.loop-cursor.invariant.at.here c.loop-cursor-test.true in
    let none = (kept-by (record_data_fault s (nth_record s c.loop-cursor.cursor.number)) tt _ (c.in_ok-in_record.ensures ∙ ap (λ r. verdict (record_data_fault s r)) here.is)).0 in
    let later = data-later _ _ _ (here-below c.requires.accepted here) none in
    record {
      at = c.next-cursor.ensures.0;
      left = ap (λ n. data_fault s (drop n (all_records Short s))) c.next-cursor.ensures.1 ∙ sym later ∙ c.loop-cursor.invariant.left;
    }

pub returns : goal.returns
returns c =
    let s = c.args.cache.now in
    let all : length (all_records Short s) ≤ c.loop-cursor.cursor.number = omega (arith, c.loop-cursor.invariant.at.all c.loop-cursor-test.false) in
    ap verdict (sym (none_left s (all_records Short s) c.loop-cursor.cursor.number all) ∙ c.loop-cursor.invariant.left)
