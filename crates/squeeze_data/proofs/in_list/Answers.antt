-- `squeeze_data::in_list` meets its contract: the images that are left are judged as all are.
use Rattle.std.proofs.Common.{◌≡◌, ◌+◌, ◌-◌, ◌*◌, sym, ap, ◌∙◌, arith, eq-eqb, ne_eqb}
use Rattle.format.specs.Fault.{step_on, verdict}
use Rattle.format.proofs.Laws.Faults.{same_number, unless-kept, unless-broken, first-end, first-stop, first-go-on}
use Rattle.squeeze_spec.specs.Call.{plain_fault}
use Rattle.squeeze_data.proofs.in_list.Goals as goal

pub returns-then-u32_at-ne0 : goal.returns-then-u32_at-ne0
returns-then-u32_at-ne0 c =
    let s = c.args.cache.now in
    let image = c.args.at + 8 * c.loop-i.i in
    let broken = unless-broken _ 25 image (ne_eqb _ _ (λ z. c.if-u32_at-ne0.true (c.u32_at.ensures ∙ z))) in
    ap verdict (sym (first-stop (plain_fault s) (step_on 8) _ _ (omega arith) (λ z. omega (arith, same_number broken)) ∙ broken) ∙ c.loop-i.invariant)

pub loop-i-preserved : goal.loop-i-preserved
loop-i-preserved c =
    let s = c.args.cache.now in
    let image = c.args.at + 8 * c.loop-i.i in
    let none = same_number (unless-kept _ 25 image (eq-eqb _ _ (sym c.u32_at.ensures ∙ c.if-u32_at-ne0.false))) in
    let next : image + 8 ≡ c.args.at + 8 * (c.loop-i.i + 1) = omega arith in
    rw next at (sym (first-go-on (plain_fault s) (step_on 8) _ _ (c.args.m - (c.loop-i.i + 1)) (omega arith) none) ∙ c.loop-i.invariant)

pub returns : goal.returns
returns c = ap verdict (sym (first-end (plain_fault c.args.cache.now) (step_on 8) _ _ (omega arith)) ∙ c.loop-i.invariant)
