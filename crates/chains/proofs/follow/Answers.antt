-- `chains::follow` meets its contract: each way out is a law of what a field leads to.
use Rattle.std.proofs.Common.{◌∙◌, refl, sym}
use Rattle.format.specs.declared.Reading.TheVariants.{Short}
use Rattle.format.proofs.Laws.Faults.{same_number}
use Rattle.format.proofs.Laws.Outcomes.{kept-by, broken-by}
use Rattle.format.proofs.Laws.Follow.{follow-end, follow-outside, follow-broken, follow-record}
use Rattle.chains.proofs.follow.Goals as goal

pub returns-then-named : goal.returns-then-named
returns-then-named c = sym (follow-end Short _ _ _ c.u32_at-named.ensures c.if-named.true)

pub returns-then-cache-record : goal.returns-then-cache-record
returns-then-cache-record c = sym (follow-outside Short _ _ _ c.u32_at-named.ensures c.if-named.false c.if-cache-record.true)

pub returns-in-Ok : goal.returns-in-Ok
returns-in-Ok c =
    let kept = kept-by _ _ _ c.in-Ok.ensures in
    sym (follow-record Short _ _ _ c.u32_at-named.ensures c.if-named.false c.if-cache-record.false refl kept.0)

pub returns-in-Err : goal.returns-in-Err
returns-in-Err c =
    let broken = broken-by _ _ _ c.in-Err.ensures in
    sym (follow-broken Short _ _ _ c.u32_at-named.ensures c.if-named.false c.if-cache-record.false broken.1 (λ z. broken.0 (sym (same_number broken.1) ∙ z)))
