-- `Position::next` meets its contract: the header and the position are judged in this order, one law
-- for each.
use Rattle.std.proofs.Common.{◌∙◌, sym, arith}
use Rattle.std.proofs.lemmas.Result.{err_from_is_err_and}
use Rattle.format.proofs.Laws.Faults.{same_number}
use Rattle.format.proofs.Laws.Outcomes.{broken-by}
use Rattle.tables.specs.Laws.{valid-header, same-buckets}
use Rattle.listing.proofs.Laws.Steps.{position-header, position-no-bucket, position-counts-too-far, position-valid, step-refuses, step-goes}
use Rattle.listing.proofs.Position.next.Goals as goal

pub returns-in_err-header-clause-answer : goal.returns-in_err-header-clause-answer
returns-in_err-header-clause-answer c =
    let told = err_from_is_err_and c.from_residual.result c.from_residual.ensures.1 in
    let broken = broken-by _ _ _ c.in_err-header.ensures in
    rw (told.1, told.2, broken.1) (sym (step-refuses _ _ (position-header _ _ broken.0) broken.0))

pub returns-in_err-header-clause-refused : goal.returns-in_err-header-clause-refused
returns-in_err-header-clause-refused c =
    let told = err_from_is_err_and c.from_residual.result c.from_residual.ensures.1 in
    let broken = broken-by _ _ _ c.in_err-header.ensures in
    rw (told.1, told.2, broken.1) (omega (arith, broken.0))

pub returns-then-t-self-clause-answer : goal.returns-then-t-self-clause-answer
returns-then-t-self-clause-answer c =
    let beyond = position-no-bucket _ _ c.read-t.ensures.header (rw (same-buckets c.read-t.ensures) at c.if-t-self.true) in
    sym (step-refuses _ _ beyond (λ z. omega arith))

pub overflow_sub-cache : goal.overflow_sub-cache
overflow_sub-cache c = omega (arith, valid-header c.read-t.ensures)

pub returns-then-cache-self-clause-answer : goal.returns-then-cache-self-clause-answer
returns-then-cache-self-clause-answer c =
    let named = rw (same-buckets c.read-t.ensures) at c.if-t-self.false in
    let beyond = position-counts-too-far _ _ c.read-t.ensures.header named c.if-cache-self.true in
    sym (step-refuses _ _ beyond (λ z. omega arith))

pub onward-requires-clause-bucket_bound : goal.onward-requires-clause-bucket_bound
onward-requires-clause-bucket_bound c = (rw (same-buckets c.read-t.ensures) at c.if-t-self.false, c.if-cache-self.false)

pub returns-clause-answer : goal.returns-clause-answer
returns-clause-answer c =
    let named = rw (same-buckets c.read-t.ensures) at c.if-t-self.false in
    let none = position-valid _ _ c.read-t.ensures.header named c.if-cache-self.false in
    c.onward.ensures.answer ∙ sym (step-goes _ _ (same_number none))
