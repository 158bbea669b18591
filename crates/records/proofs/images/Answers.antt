-- `records::images` meets its contract. The loop's invariant: the rest equals the whole, what is
-- judged of the images left is what is judged of all of them. Rests on the laws of `first_fault`.
use Rattle.std.proofs.Common.{◌≡◌, ◌+◌, ◌-◌, ◌*◌, ◌<◌, sym, ◌∙◌, arith}
use Rattle.format.specs.Fault.{step_on}
use Rattle.format.specs.Record.{image_fault}
use Rattle.format.proofs.Laws.Faults.{unless-broken, first-end, first-stop, first-go-on}
use Rattle.tables.proofs.Handed.{breaks, keeps}
use Rattle.records.proofs.images.Goals as goal

pub returns-then-not-valid_image : goal.returns-then-not-valid_image
returns-then-not-valid_image c =
    let left : 0 < c.args.m - c.loop-i.i = omega arith in
    let broken = unless-broken _ 11 _ (sym c.valid_image.ensures ∙ c.if-not-valid_image.true) in
    breaks tt (sym c.loop-i.invariant ∙ first-stop _ _ _ _ left (rw broken (λ z. omega arith)) ∙ broken) (λ z. omega arith)

pub loop-i-preserved : goal.loop-i-preserved
loop-i-preserved c =
    let a = c.args in
    let i = c.loop-i.i in
    let kept = sym c.valid_image.ensures ∙ c.if-not-valid_image.false in
    let next : a.at + 8 * (i + 1) ≡ a.at + 8 * i + 8 = omega arith in
    rw next (sym (first-go-on (image_fault a.cache.now) (step_on 8) (a.at + 8 * i) _ (a.m - (i + 1)) (omega arith) (rw kept)) ∙ c.loop-i.invariant)

pub returns : goal.returns
returns c = keeps tt (sym c.loop-i.invariant ∙ first-end _ _ _ _ (omega arith))
