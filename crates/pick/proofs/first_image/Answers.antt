-- `pick::first_image` meets its contract. The loop's invariant: the first of the images left that
-- fits is the first of all; those left keep rule 11.
use Rattle.std.proofs.Common.{◌≡◌, ◌+◌, ◌-◌, ◌*◌, ◌∙◌, sym, arith}
use Rattle.std.proofs.Math.Bool.{and-eq-true_iff}
use Rattle.format.proofs.Laws.Faults.{first-none, unless-none}
use Rattle.pick.proofs.Laws.Fitting.{image-none, image-here, image-later}
use Rattle.pick.proofs.first_image.Goals as goal

pub fits-requires-clause-at_value : goal.fits-requires-clause-at_value
fits-requires-clause-at_value c =
    let first = (first-none _ _ _ _ (c.args.m - (c.loop-i.i + 1)) (omega arith) c.loop-i.invariant.kept).0 in
    ((and-eq-true_iff _ _).0 (unless-none _ _ _ first)).0

pub returns-then-fits-clause-image : goal.returns-then-fits-clause-image
returns-then-fits-clause-image c = sym (image-here _ _ _ (omega arith) (sym c.fits.ensures ∙ c.if-fits.true)) ∙ c.loop-i.invariant.rest

pub loop-i-preserved : goal.loop-i-preserved
loop-i-preserved c =
    let i = c.loop-i.i in
    let a = c.args in
    let here : a.at + 8 * (i + 1) ≡ a.at + 8 * i + 8 = omega arith in
    record {
      kept = rw here (first-none _ _ _ _ (a.m - (i + 1)) (omega arith) c.loop-i.invariant.kept).1;
      rest = rw here (sym (image-later _ _ _ (a.m - (i + 1)) (omega arith) (sym c.fits.ensures ∙ c.if-fits.false)) ∙ c.loop-i.invariant.rest);
    }

pub returns-clause-image : goal.returns-clause-image
returns-clause-image c = sym (image-none _ _ _ (omega arith)) ∙ c.loop-i.invariant.rest
