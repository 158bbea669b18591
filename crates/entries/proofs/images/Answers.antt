-- `entries::images` meets its contract: what is judged of the images that are left is what is judged
-- of all.
use Rattle.std.proofs.Common.{◌≡◌, ◌+◌, ◌*◌, ◌≤◌, true, length, sym, ap, ◌∙◌, arith, Ok, Err}
use Rattle.std.proofs.Math.Bool.{and-eq-true_iff}
use borrow.Author.Tests.{leb-true}
use Rattle.format.specs.Fault.{fault, outcome}
use Rattle.catalogue.specs.Fields.{image_end}
use Rattle.catalogue.specs.Judgement.{valid_image_field, image_field_fault}
use Rattle.entries.specs.Laws.{row-done, row-stops, row-goes-on}
use Rattle.entries.proofs.images.Goals as goal

pub returns-then-not-valid_image : goal.returns-then-not-valid_image
returns-then-not-valid_image c =
    let a = c.args in
    let place = a.at + 8 * c.loop-i.i in
    let told : Err (fault 18 place) ≡ outcome (image_field_fault a.n a.catalogue.now place) (image_end place) = rw (sym c.if-not-valid_image.ensures) in
    row-stops (image_field_fault a.n a.catalogue.now) image_end place c.loop-i-test.true (image_end place) told ∙ c.loop-i.invariant.rest

pub loop-i-preserved : goal.loop-i-preserved
loop-i-preserved c =
    let a = c.args in
    let place = a.at + 8 * c.loop-i.i in
    let valid : valid_image_field a.n a.catalogue.now place ≡ true = sym c.if-not-valid_image.ensures in
    let there : place + 8 ≤ length a.catalogue.now = leb-true _ _ ((and-eq-true_iff _ _).0 valid).0 in
    let told : Ok (place + 8) ≡ outcome (image_field_fault a.n a.catalogue.now place) (image_end place) = rw valid in
    let next : a.at + 8 * (c.loop-i.i + 1) ≡ place + 8 = omega arith in
    record {
      within = omega arith;
      rest = rw next (row-goes-on (image_field_fault a.n a.catalogue.now) image_end place c.loop-i-test.true told ∙ c.loop-i.invariant.rest);
    }

pub returns : goal.returns
returns c =
    let a = c.args in
    let all : c.loop-i.i ≡ a.m = omega (arith, c.loop-i-test.false, c.loop-i.auto.i-end) in
    ap (λ i. Ok (a.at + 8 * i)) (sym all)
    ∙ row-done (image_field_fault a.n a.catalogue.now) image_end (a.at + 8 * c.loop-i.i) c.loop-i-test.false
    ∙ c.loop-i.invariant.rest
