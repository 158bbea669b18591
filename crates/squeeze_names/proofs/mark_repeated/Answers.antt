-- `squeeze_names::mark_repeated` meets its contract: before each turn the chains passed are looked
-- through.
use Rattle.std.proofs.Common.{◌≡◌, ◌<◌, refl, ◌∙◌, arith}
use Rattle.format.specs.Header.{buckets}
use Rattle.tables.specs.Laws.{same-buckets, same-field, field-inside}
use Rattle.gathering.specs.Laws.Repeats.{chain-inside}
use Rattle.squeeze_names.specs.Laws.Chains.{through-none, through-all, through-next, number-few}
use Rattle.squeeze_names.proofs.mark_repeated.Goals as goal

pub loop-bucket-init : goal.loop-bucket-init
loop-bucket-init c = record { index_lent = refl; marks_lent = refl; through = through-none _ _ }

pub chain-requires : goal.chain-requires
chain-requires c =
    let k = c.loop-bucket.bucket in
    let below : k < buckets c.args.cache.now = omega (arith, same-buckets c.requires.0.tables) in
    let field_is = c.bucket_field.ensures ∙ same-field c.requires.0.tables k in
    (chain-inside _ _ c.count-n.ensures field_is (omega (arith, field_is, field-inside c.requires.0.tables k below)), omega arith, omega (arith, c.requires.1), number-few c.requires.0 below c.count-n.ensures c.loop-bucket.invariant.through.passed)

pub overflow_add-number : goal.overflow_add-number
overflow_add-number c =
    let below : c.loop-bucket.bucket < buckets c.args.cache.now = omega (arith, same-buckets c.requires.0.tables) in
    omega (arith, number-few c.requires.0 below c.count-n.ensures c.loop-bucket.invariant.through.passed)

pub loop-bucket-preserved : goal.loop-bucket-preserved
loop-bucket-preserved c =
    let k = c.loop-bucket.bucket in
    let below : k < buckets c.args.cache.now = omega (arith, same-buckets c.requires.0.tables) in
    let field_is = c.bucket_field.ensures ∙ same-field c.requires.0.tables k in
    record {
      index_lent = omega arith;
      marks_lent = omega arith;
      through = through-next c.requires.0 below c.count-n.ensures field_is c.loop-bucket.invariant.through c.chain.ensures;
    }

pub returns : goal.returns
returns c = λ none.
    let all : c.loop-bucket.bucket ≡ buckets c.args.cache.now = omega (arith, same-buckets c.requires.0.tables) in
    through-all c.requires.0 (rw all at c.loop-bucket.invariant.through) none
