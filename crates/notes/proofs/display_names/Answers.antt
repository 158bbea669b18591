-- `notes::display_names` meets its contract. The loop's invariant: the rest equals the whole.
use Rattle.std.proofs.Common.{◌≡◌, ◌+◌, ◌-◌, ◌*◌, ◌∙◌, sym, ap, arith}
use Rattle.std.proofs.lemmas.Result.{err_from_is_err_and}
use Rattle.format.specs.Fault.{verdict}
use Rattle.format.proofs.Laws.Faults.{first-end}
use Rattle.notes.proofs.Laws.{first-stops, first-goes_on}
use Rattle.notes.proofs.display_names.Goals as goal

pub returns-in_err-display_name : goal.returns-in_err-display_name
returns-in_err-display_name c =
    let told = err_from_is_err_and c.from_residual.result c.from_residual.ensures.1 in
    rw (told.1, told.2, ← c.loop-i.invariant) (first-stops _ _ _ _ _ _ (omega arith) c.in_err-display_name.ensures)

pub loop-i-preserved : goal.loop-i-preserved
loop-i-preserved c =
    let i = c.loop-i.i in
    let a = c.args in
    let here : a.at + 8 * (i + 1) ≡ a.at + 8 * i + 8 = omega arith in
    rw here (sym (first-goes_on _ _ _ _ _ (a.count - (i + 1)) (omega arith) c.in_ok-display_name.ensures) ∙ c.loop-i.invariant)

pub returns : goal.returns
returns c = rw (← c.loop-i.invariant) (sym (ap verdict (first-end _ _ _ _ (omega arith))))
