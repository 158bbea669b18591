-- `write_cache::appending::append_all` meets its contract: each turn is one of the laws of `Reached`.
use Rattle.std.proofs.Common.{◌+◌, refl, ap, arith}
use Rattle.passes.specs.Laws.Icons.{icon-ends, there}
use Rattle.write_cache.specs.Laws.Records.{reached-first, room, lead-room, reached-next}
use Rattle.write_cache.proofs.appending.append_all.Goals as goal

pub loop-init : goal.loop-init
loop-init c = reached-first c.requires.by_index.1 c.requires.ready c.requires.last_value

pub append-requires-clause-icon_there : goal.append-requires-clause-icon_there
append-requires-clause-icon_there c =
    let ready = c.requires.ready in
    (there c.requires.by_index.1 c.loop-test.true c.loop.invariant.here, ready.fits.some, ready.fits.few, omega (arith, c.loop.invariant.wide, ready.fits.few))

pub append-requires-clause-at_in_bounds : goal.append-requires-clause-at_in_bounds
append-requires-clause-at_in_bounds c =
    let r = room c.requires.by_index.1 c.requires.ready c.loop.invariant c.loop-test.true in
    (omega (arith, r.record-room, r.out-room), omega (arith, r.record-room, r.short), omega (arith, r.name-room, r.short), omega (arith, r.list-room, r.short))

pub append-requires-clause-buckets_in_bounds : goal.append-requires-clause-buckets_in_bounds
append-requires-clause-buckets_in_bounds c = lead-room c.requires.by_index.1 c.requires.ready c.loop.invariant c.loop-test.true

pub overflow_add-at-in-loop : goal.overflow_add-at-in-loop
overflow_add-at-in-loop c =
    let r = room c.requires.by_index.1 c.requires.ready c.loop.invariant c.loop-test.true in omega (arith, r.record-room, r.short)

pub list_size-list-requires : goal.list_size-list-requires
list_size-list-requires c = icon-ends c.requires.by_index.1 c.loop-test.true c.loop.invariant.here

pub overflow_add-list : goal.overflow_add-list
overflow_add-list c =
    let r = room c.requires.by_index.1 c.requires.ready c.loop.invariant c.loop-test.true in omega (arith, c.list_size-list.ensures.0, r.list-room, r.short)

pub byte-requires : goal.byte-requires
byte-requires c = omega (arith, icon-ends c.requires.by_index.1 c.loop-test.true c.loop.invariant.here)

pub overflow_add-name-in-loop : goal.overflow_add-name-in-loop
overflow_add-name-in-loop c =
    let r = room c.requires.by_index.1 c.requires.ready c.loop.invariant c.loop-test.true in omega (arith, c.byte.ensures.0, r.name-room, r.short)

pub icon_end-icon-requires : goal.icon_end-icon-requires
icon_end-icon-requires c = icon-ends c.requires.by_index.1 c.loop-test.true c.loop.invariant.here

pub loop-preserved : goal.loop-preserved
loop-preserved c =
    reached-next c.requires.by_index.1 c.requires.ready c.loop.invariant c.loop-test.true c.append.ensures.out_after c.append.ensures.last_after
    (omega arith) refl (ap (λ n. c.loop.list + n) c.list_size-list.ensures.0) (ap (λ n. c.loop.name + (n + 1)) c.byte.ensures.0) c.icon_end-icon.ensures
