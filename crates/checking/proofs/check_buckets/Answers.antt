-- `checking::check_buckets` meets its contract. The loop's invariant is `Checking`: the rest of the
-- check is the whole. A chain that ends leads to the next bucket, and any other to the answer.
use Rattle.std.proofs.Common.{◌≡◌, suc, ◌+◌, ◌-◌, ◌∙◌, arith}
use Rattle.tables.specs.Laws.{valid-header, same-buckets, same-directories}
use Rattle.checking.specs.Laws.{checking-first, opened-few, checking-refuses, checking-on, checking-done}
use Rattle.checking.proofs.check_buckets.Goals as goal

pub overflow_sub-most : goal.overflow_sub-most
overflow_sub-most c = omega (arith, valid-header c.requires)

pub loop-bucket-init : goal.loop-bucket-init
loop-bucket-init c = let all : c.args.t.buckets - 0 ≡ c.args.t.buckets = omega arith in checking-first (all ∙ same-buckets c.requires)

pub check_chain-chain-requires : goal.check_chain-chain-requires
check_chain-chain-requires c =
    let pre = c.requires in
    record { tables_of = pre; bucket_bound = (omega (arith, same-buckets pre), omega (arith, valid-header pre)) }

pub overflow_add-opened : goal.overflow_add-opened
overflow_add-opened c =
    let n = c.args.t.buckets in
    let b = c.loop-bucket.bucket in
    let more : n - b ≡ suc (n - (b + 1)) = omega arith in
    let turn = rw more at c.loop-bucket.invariant in
    omega (arith, opened-few turn c.check_chain-chain.ensures, valid-header c.requires)

pub returns-then-chain-ne30 : goal.returns-then-chain-ne30
returns-then-chain-ne30 c =
    let n = c.args.t.buckets in
    let b = c.loop-bucket.bucket in
    let more : n - b ≡ suc (n - (b + 1)) = omega arith in
    let turn = rw more at c.loop-bucket.invariant in
    c.refused.ensures ∙ checking-refuses turn c.check_chain-chain.ensures c.if-chain-ne30.true

pub loop-bucket-preserved : goal.loop-bucket-preserved
loop-bucket-preserved c =
    let n = c.args.t.buckets in
    let b = c.loop-bucket.bucket in
    let more : n - b ≡ suc (n - (b + 1)) = omega arith in
    let turn = rw more at c.loop-bucket.invariant in
    rw c.max-longest.ensures (checking-on turn c.check_chain-chain.ensures c.if-chain-ne30.false)

pub returns : goal.returns
returns c =
    let pre = c.requires in
    rw (same-directories pre) (checking-done (omega arith) (omega (arith, same-buckets pre)) c.loop-bucket.invariant)
