-- `notes::behind` meets its contract. The loop's invariant: the rest equals the whole, and what
-- `last` leads to keeps the rules.
use Rattle.std.proofs.Common.{◌≡◌, ◌+◌, ◌-◌, ◌*◌, ◌∙◌, sym, ap, arith}
use Rattle.std.proofs.lemmas.Result.{err_from_is_err_and}
use Rattle.format.specs.Fault.{verdict}
use Rattle.format.specs.Notes.{image_data_fault}
use Rattle.format.proofs.Laws.Faults.{same_number, first-end}
use Rattle.format.proofs.Laws.Notes.{part-absent, same-data}
use Rattle.format.proofs.Laws.Outcomes.{kept-by}
use Rattle.notes.proofs.Laws.{first-stops, first-goes_on}
use Rattle.notes.proofs.behind.Goals as goal

pub loop-i-init : goal.loop-i-init
unfolding image_data_fault
loop-i-init c = record { rest = grind arith; kept = λ f e. same_number (part-absent _ e) }

pub returns-in_err-again : goal.returns-in_err-again
returns-in_err-again c =
    let told = err_from_is_err_and c.from_residual.result c.from_residual.ensures.1 in
    rw (told.1, told.2, ← c.loop-i.invariant.rest) (first-stops _ _ _ _ _ _ (omega arith) c.in_err-again.ensures)

pub loop-i-preserved : goal.loop-i-preserved
loop-i-preserved c =
    let i = c.loop-i.i in
    let a = c.args in
    let here : a.at + 8 * (i + 1) ≡ a.at + 8 * i + 8 = omega arith in
    record {
      rest = rw here (sym (first-goes_on _ _ _ _ _ (a.count - (i + 1)) (omega arith) c.in_ok-again.ensures) ∙ c.loop-i.invariant.rest);
      kept = λ f e. same-data a.cache.now _ f (e ∙ c.u32_at-last.ensures) (kept-by _ _ _ c.in_ok-again.ensures).0;
    }

pub returns : goal.returns
returns c = rw (← c.loop-i.invariant.rest) (sym (ap verdict (first-end _ _ _ _ (omega arith))))
