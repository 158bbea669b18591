-- `in_order::settle` meets its contract. The loop's invariant: the chains before that of the bucket
-- at hand are passed.
use Rattle.std.proofs.Common.{◌≡◌, ◌+◌, ◌-◌, suc, refl, ap, ◌∙◌, arith}
use Rattle.format.specs.Header.{buckets}
use Rattle.format.specs.Number.{be}
use Rattle.tables.specs.Laws.{same-buckets, same-field, field-inside}
use Rattle.in_order.specs.Laws.{before_here, before-next, before-all}
use Rattle.in_order.proofs.settle.Goals as goal

pub returns-then-record-ne-END : goal.returns-then-record-ne-END
returns-then-record-ne-END c =
    (record { here = before_here c.requires.0.accepted c.requires.1; all = λ e. absurd (c.if-record-ne-END.true e) }, refl)

pub u32_at-named-requires : goal.u32_at-named-requires
u32_at-named-requires c =
    let tables = c.requires.0.tables in
    let k = c.loop-k.k in
    let below : suc (k - 1) ≡ k = omega (arith, c.loop-k.auto.k) in
    let inside = field-inside tables k (omega (arith, same-buckets tables)) in
    omega (arith, c.bucket_field.ensures ∙ same-field tables k)

pub returns-then-named : goal.returns-then-named
returns-then-named c =
    let tables = c.requires.0.tables in
    let acc = c.requires.0.accepted in
    let k = c.loop-k.k in
    let this : suc (k - 1) ≡ k = omega (arith, c.loop-k.auto.k) in
    let read = c.u32_at-named.ensures ∙ ap (be 4 c.args.cache.now) (c.bucket_field.ensures ∙ same-field tables k) in
    let before = before-next acc c.loop-k.invariant refl (omega (arith, same-buckets tables)) (rw (← this) at read) in
    (record { here = before_here acc (rw this at before); all = λ e. absurd (c.if-named.true e) }, refl)

pub loop-k-preserved : goal.loop-k-preserved
loop-k-preserved c =
    let tables = c.requires.0.tables in
    let acc = c.requires.0.accepted in
    let k = c.loop-k.k in
    let this : suc (k - 1) ≡ k = omega (arith, c.loop-k.auto.k) in
    let next : k + 1 - 1 ≡ k = omega arith in
    let read = c.u32_at-named.ensures ∙ ap (be 4 c.args.cache.now) (c.bucket_field.ensures ∙ same-field tables k) in
    let before = before-next acc c.loop-k.invariant refl (omega (arith, same-buckets tables)) (rw (← this) at read) in
    rw (next, ← c.if-named.false) (rw this at before)

pub returns : goal.returns
returns c =
    let tables = c.requires.0.tables in
    let acc = c.requires.0.accepted in
    let last : suc (c.loop-k.k - 1) ≡ buckets c.args.cache.now = omega (arith, c.loop-k.auto, c.requires.1.bucket, same-buckets tables) in
    (record { here = λ real. absurd (real refl); all = λ e. before-all acc c.loop-k.invariant refl last }, refl)
