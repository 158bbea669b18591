-- `Position::onward` meets its contract. The loop's invariant: the rest equals the whole, the answer
-- from the present bucket on is the one from the position's bucket on. What comes after the records
-- passed on a chain decides.
use Rattle.std.proofs.Common.{◌≡◌, suc, ◌+◌, ◌-◌, ◌∙◌, sym, ap, arith, add-one}
use Rattle.std.proofs.lemmas.Result.{err_from_is_err_and}
use Rattle.format.specs.declared.Reading.TheVariants.{Short}
use Rattle.format.specs.Chain.{chain_of}
use Rattle.format.specs.declared.Next.TheVariants.{End}
use Rattle.tables.specs.Laws.{valid-header, same-buckets}
use Rattle.chains.specs.declared.Walked.{Walked}
use Rattle.chains.specs.Laws.{walked-ended, walked-broken}
use Rattle.listing.specs.Listing.{hands_back, onward}
use Rattle.listing.specs.declared.Step.{Step}
use Rattle.listing.proofs.Laws.Steps.{onward-ends, onward-breaks, onward-gives}
use Rattle.listing.proofs.Laws.Reach.{reach-gives, reach-broken, reach-ends, broken-some}
use Rattle.listing.proofs.Position.onward.Goals as goal
use Rattle.listing.proofs.Position.onward.Goals.{in-Record+in_ok-step-in-Record+in_default, in-End}

pub loop-bucket-init : goal.loop-bucket-init
loop-bucket-init c =
    let pre = c.requires in
    record { few = c.at_first-walked.ensures; most = pre.bucket_bound.1; rest = rw (same-buckets pre.tables_of) }

pub walk-chain-requires-clause-bucket_bound : goal.walk-chain-requires-clause-bucket_bound
walk-chain-requires-clause-bucket_bound c =
    let pre = c.requires.tables_of in
    let inv = c.loop-bucket.invariant in
    (omega (arith, same-buckets pre), omega (arith, inv.few, inv.most, valid-header pre))

pub reach-requires-clause-bucket_bound : goal.reach-requires-clause-bucket_bound
reach-requires-clause-bucket_bound c =
    let pre = c.requires.tables_of in
    let inv = c.loop-bucket.invariant in
    (omega (arith, same-buckets pre), inv.few, omega (arith, inv.most, valid-header pre))

pub reach-requires-clause-walked_value : goal.reach-requires-clause-walked_value
reach-requires-clause-walked_value c = sym (ap (λ (c : Walked). c.after) c.walk-chain.ensures) ∙ c.in-Record.is

pub returns-in_err-step-in-Record-clause-answer : goal.returns-in_err-step-in-Record-clause-answer
returns-in_err-step-in-Record-clause-answer c =
    let n = c.args.t.buckets in
    let more : n - c.loop-bucket.bucket ≡ suc (n - (c.loop-bucket.bucket + 1)) = omega arith in
    let turn = rw more at c.loop-bucket.invariant.rest in
    let told = err_from_is_err_and c.from_residual.result c.from_residual.ensures.1 in
    rw (told.1, told.2) (sym (onward-breaks _ _ _ _ _ (reach-broken _ _ _ c.in_err-step-in-Record.ensures)) ∙ turn)

pub returns-in_err-step-in-Record-clause-refused : goal.returns-in_err-step-in-Record-clause-refused
returns-in_err-step-in-Record-clause-refused c =
    let told = err_from_is_err_and c.from_residual.result c.from_residual.ensures.1 in
    rw (told.1, told.2) (broken-some _ _ _ (reach-broken _ _ _ c.in_err-step-in-Record.ensures))

pub returns-in-Some-clause-answer : goal.returns-in-Some-clause-answer
returns-in-Some-clause-answer c =
    let n = c.args.t.buckets in
    let more : n - c.loop-bucket.bucket ≡ suc (n - (c.loop-bucket.bucket + 1)) = omega arith in
    let turn = rw more at c.loop-bucket.invariant.rest in
    let gives = reach-gives _ _ _ (rw c.in-Some.is at c.in_ok-step-in-Record.ensures) in
    ap (λ (a : Step). hands_back a.«record» a.next) gives.1 ∙ sym (onward-gives _ _ _ _ _ gives.0) ∙ turn

pub returns-in-Broken-clause-answer : goal.returns-in-Broken-clause-answer
returns-in-Broken-clause-answer c =
    let n = c.args.t.buckets in
    let more : n - c.loop-bucket.bucket ≡ suc (n - (c.loop-bucket.bucket + 1)) = omega arith in
    let turn = rw more at c.loop-bucket.invariant.rest in
    let broken = sym (ap (λ (w : Walked). w.after) (walked-broken _ _ _ c.walk-chain.ensures c.loop-bucket.invariant.few c.in-Broken.is)) ∙ c.in-Broken.is in
    sym (onward-breaks _ _ _ _ _ broken) ∙ turn

pub returns-in-Broken-clause-refused : goal.returns-in-Broken-clause-refused
returns-in-Broken-clause-refused c = broken-some _ _ _ (sym (ap (λ (w : Walked). w.after) c.walk-chain.ensures) ∙ c.in-Broken.is)

pub loop-bucket-preserved : goal.loop-bucket-preserved
loop-bucket-preserved c =
    let n = c.args.t.buckets in
    let more : n - c.loop-bucket.bucket ≡ suc (n - (c.loop-bucket.bucket + 1)) = omega arith in
    let turn = rw more at c.loop-bucket.invariant.rest in
    let ended : (chain_of Short c.args.cache.now c.loop-bucket.bucket c.loop-bucket.passed).after ≡ End =
    elim c.match-after.branch [
      | in-Record+in_ok-step-in-Record+in_default w ↦ reach-ends _ _ _ (rw w.in_default.is at w.in_ok-step-in-Record.ensures)
      | in-End w ↦ sym (ap (λ (a : Walked). a.after) (walked-ended _ _ _ c.walk-chain.ensures c.loop-bucket.invariant.few w.in-End.is)) ∙ w.in-End.is
    ] in
    record {
      few = omega arith;
      most = omega arith;
      rest = rw add-one (sym (onward-ends _ _ _ _ _ ended)) ∙ turn;
    }

pub returns-clause-answer : goal.returns-clause-answer
unfolding onward
returns-clause-answer c =
    let none : c.args.t.buckets - c.loop-bucket.bucket ≡ 0 = omega (arith, c.loop-bucket.auto, c.requires.bucket_bound, same-buckets c.requires.tables_of) in
    rw none at c.loop-bucket.invariant.rest
