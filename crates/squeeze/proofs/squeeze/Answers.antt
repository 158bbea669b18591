-- `squeeze::squeeze` meets its contract: what is refused before, and then the whole.
use Rattle.std.proofs.Common.{ℕ, sym, ◌∙◌, arith}
use Rattle.std.proofs.lemmas.Result.{err_from_is_err_and}
use Rattle.std.proofs.lemmas.List.{length-replicate}
use Rattle.format.specs.Chain.{all_records}
use Rattle.format.specs.declared.Reading.TheVariants.{Short}
use Rattle.format.proofs.Laws.Faults.{same_number}
use Rattle.format.proofs.Laws.Outcomes.{kept-by, broken-by}
use Rattle.format.proofs.Laws.Rules.{tables-keep-header}
use Rattle.marks.specs.Laws.{zeros-unmarked}
use Rattle.squeeze_spec.specs.Call.{data_fault}
use Rattle.tables.specs.Laws.{same-buckets}
use Rattle.tables.specs.Tables.{Sound}
use Rattle.squeeze.specs.Laws.Answer.{sound-checked, check-refuses, buckets-refused, data-refused}
use Rattle.squeeze.proofs.squeeze.Goals as goal

pub returns-then-check-ne0 : goal.returns-then-check-ne0
returns-then-check-ne0 c =
    let told = check-refuses _ _ c.check_short-check.ensures.answer c.if-check-ne0.true in
    record { answer = told.answer; refused = told.refused; lent = told.leaves }

pub read-t-requires : goal.read-t-requires
read-t-requires c = tables-keep-header _ (c.check_short-check.ensures.demand.accepted.0 c.if-check-ne0.false).tables-kept

pub returns-then-t-gt4096 : goal.returns-then-t-gt4096
returns-then-t-gt4096 c =
    let sound : Sound c.args.cache.now c.read-t.result = record { tables = c.read-t.ensures; accepted = c.check_short-check.ensures.demand.accepted.0 c.if-check-ne0.false } in
    let told = buckets-refused c.args.cache.now c.args.squeezed.now (sound-checked sound) (omega (arith, same-buckets c.read-t.ensures, c.if-t-gt4096.true)) in
    record { answer = told.answer; refused = told.refused; lent = told.leaves }

pub returns-in_err-image_data : goal.returns-in_err-image_data
returns-in_err-image_data c =
    let s = c.args.cache.now in
    let sound : Sound s c.read-t.result = record { tables = c.read-t.ensures; accepted = c.check_short-check.ensures.demand.accepted.0 c.if-check-ne0.false } in
    let broken = broken-by (data_fault s (all_records Short s)) tt _ c.in_err-image_data.ensures in
    let p = err_from_is_err_and c.from_residual.result c.from_residual.ensures.1 in
    let told = data-refused s c.args.squeezed.now (sound-checked sound) (omega (arith, same-buckets c.read-t.ensures, c.if-t-gt4096.false)) broken.1 (λ z. broken.0 (sym (same_number broken.1) ∙ z)) in
    record { answer = rw (p.1, p.2) told.answer; refused = rw (p.1, p.2) told.refused; lent = told.leaves }

pub rewrite-requires : goal.rewrite-requires
rewrite-requires c =
    let s = c.args.cache.now in
    let sound : Sound s c.read-t.result = record { tables = c.read-t.ensures; accepted = c.check_short-check.ensures.demand.accepted.0 c.if-check-ne0.false } in (
      sound,
      record {
        index-wide = omega (arith, length-replicate {A = ℕ} 65536 0, c.mark_repeated.auto);
        places-wide = length-replicate {A = ℕ} 65536 0;
        marked = c.mark_repeated.ensures (zeros-unmarked 30720);
      },
      omega (arith, same-buckets c.read-t.ensures, c.if-t-gt4096.false),
      (kept-by (data_fault s (all_records Short s)) tt _ c.in_ok-image_data.ensures).0,
    )
