-- `chains::go_on` meets its contract. The loop's invariant: the chain is judged up to `stop`; if it
-- was looked further, the chain has come back by then.
use Rattle.std.proofs.Common.{◌≤◌, length, refl, arith}
use Rattle.tables.specs.Laws.{valid-header}
use Rattle.chains.specs.Laws.{walked-goes}
use Rattle.chains.proofs.Way.{stands-first, stands_on, stepped-inside, stepped-at, stepped-stands, turning-repeats, stands-walked}
use Rattle.chains.proofs.go_on.Goals as goal

pub overflow_add-opened : goal.overflow_add-opened
overflow_add-opened c = omega (arith, c.requires.bucket_bound, valid-header c.requires.tables_of)

pub ahead-field-requires : goal.ahead-field-requires
ahead-field-requires c =
    let pre = c.requires in
    let first = stands-first pre.tables_of pre.bucket_bound.0 c.bucket_field-first.ensures in
    stepped-inside first (λ m l. pre.keeps_below m (omega arith))

pub loop-stop-init : goal.loop-stop-init
loop-stop-init c =
    let pre = c.requires in
    let first = stands-first pre.tables_of pre.bucket_bound.0 c.bucket_field-first.ensures in
    record { stands = stepped-stands first _ pre.keeps_below c.ahead-field.ensures; last = refl; few = pre.bucket_bound.1; back = λ l. absurd (omega arith) }

pub returns-then-stop-most : goal.returns-then-stop-most
returns-then-stop-most c =
    let inv = c.loop-stop.invariant in
    record { stop = c.loop-stop.stop; few = inv.few; walk = stands-walked _ inv.stands inv.last; back = λ r q g. inv.back (omega (arith, c.then-stop-most.either)) }

pub horizon-far-requires : goal.horizon-far-requires
horizon-far-requires c = let inv = c.loop-stop.invariant in
    let small : length c.args.cache.now ≤ 16777216 = omega (arith, valid-header c.requires.tables_of) in
    (omega (arith, inv.last, inv.few, c.if-stop-most.false), omega (arith, c.requires.bucket_bound, small))

pub turning-stop-requires : goal.turning-stop-requires
turning-stop-requires c =
    let pre = c.requires in
    let first = stands-first pre.tables_of pre.bucket_bound.0 c.bucket_field-first.ensures in
    let small : length c.args.cache.now ≤ 16777216 = omega (arith, valid-header c.requires.tables_of) in
    let stands = c.loop-stop.invariant.stands in
    record {
      done_le_far = (c.horizon-far.ensures.onward, omega (arith, c.horizon-far.ensures.few, pre.bucket_bound), small);
      inside_below = (stepped-inside first stands.keeps, stepped-at first stands);
    }

pub pass-chain-requires : goal.pass-chain-requires
pass-chain-requires c =
    let few : c.turning-stop.result ≤ c.args.most = omega (arith, c.horizon-far.ensures.few, c.turning-stop.ensures.within) in
    record {
      tables_of = c.requires.tables_of;
      stands = c.loop-stop.invariant.stands;
      opened_le_most = (c.turning-stop.ensures.onward, omega (arith, few, c.requires.bucket_bound));
    }

pub returns-in_default : goal.returns-in_default
returns-in_default c =
    let few : c.turning-stop.result ≤ c.args.most = omega (arith, c.horizon-far.ensures.few, c.turning-stop.ensures.within) in
    record { stop = _; few = few; walk = c.pass-chain.ensures; back = λ r q l. absurd (c.in_default.not-Record r q) }

pub loop-stop-smaller : goal.loop-stop-smaller
loop-stop-smaller c =
    let few : c.turning-stop.result ≤ c.args.most = omega (arith, c.horizon-far.ensures.few, c.turning-stop.ensures.within) in
    omega (arith, c.loop-stop.invariant.last, few, c.turning-stop.ensures.onward)

pub loop-stop-preserved : goal.loop-stop-preserved
loop-stop-preserved c =
    let pre = c.requires in
    let first = stands-first pre.tables_of pre.bucket_bound.0 c.bucket_field-first.ensures in
    let few : c.turning-stop.result ≤ c.args.most = omega (arith, c.horizon-far.ensures.few, c.turning-stop.ensures.within) in
    let g = walked-goes _ _ _ c.pass-chain.ensures c.in-Record.is in
    record { stands = stands_on g.keeps g.at g.opened; last = g.opened; few = few; back = turning-repeats first c.turning-stop.ensures }
