-- `strings::read_name` meets its contract. The bytes of the string are passed one by one
-- (`Passed`), so at each `return` its length is known. The rest equals the whole: the hash so far
-- goes on, with the bytes that are left, to the hash asked for, and at each `return` none is left.
use Rattle.std.proofs.Common.{◌<◌, get_or, ◌∙◌, arith, get_or-take}
use native.Mathlib.Nat.{mod-add-mod}
use lib.ListN.{get_or-eq_default}
use Rattle.format.specs.String.{string, hash_from}
use Rattle.format.proofs.Laws.Strings.{none_left, none_within, one_less, passed-next, extent-ended, extent-long, extent-cut}
use Rattle.format.proofs.Laws.Paths.{string-first}
use Rattle.format.proofs.Laws.Hashes.{hash-from-none}
use Rattle.strings.proofs.read_name.Goals as goal

pub loop-i-init : goal.loop-i-init
loop-i-init c =
    let t = c.args.part.now in
    let small : get_or t 0 0 < 256 = omega (arith, c.type_inv.part 0) in
    record { within = omega arith; passed = omega arith; rest = hash-from-none _ (rw (get_or-take 255 (string t) 0 0 (omega arith), string-first t) small) }

pub returns-then-byte-eq0-clause-extent : goal.returns-then-byte-eq0-clause-extent
returns-then-byte-eq0-clause-extent c =
    c.ended.ensures ∙ extent-ended 255 c.args.part.now c.loop-i.i c.loop-i.invariant.passed c.loop-i-test.true c.loop-i.invariant.within c.if-byte-eq0.true

pub returns-then-byte-eq0-clause-hash : goal.returns-then-byte-eq0-clause-hash
unfolding hash_from
returns-then-byte-eq0-clause-hash c = rw (none_left 255 c.args.part.now c.loop-i.i c.if-byte-eq0.true) at c.loop-i.invariant.rest

pub returns-then-i-eq255-clause-extent : goal.returns-then-i-eq255-clause-extent
returns-then-i-eq255-clause-extent c =
    extent-long 255 c.args.part.now c.loop-i.i c.loop-i.invariant.passed c.if-i-eq255.true c.if-byte-eq0.false

pub returns-then-i-eq255-clause-hash : goal.returns-then-i-eq255-clause-hash
unfolding hash_from
returns-then-i-eq255-clause-hash c = rw (none_within 255 c.args.part.now c.loop-i.i c.if-i-eq255.true) at c.loop-i.invariant.rest

pub loop-i-preserved : goal.loop-i-preserved
unfolding hash_from
loop-i-preserved c =
    let t = c.args.part.now in
    let i = c.loop-i.i in
    let nz = c.if-byte-eq0.false in
    record {
      within = omega arith;
      passed = passed-next t i c.loop-i.invariant.passed nz;
      rest = rw (c.wrapping_add_u32-hash.ensures.value, c.times31.ensures, c.signed.ensures, mod-add-mod)
          (rw (one_less 255 t i (omega arith) nz) at c.loop-i.invariant.rest);
    }

pub returns-clause-extent : goal.returns-clause-extent
returns-clause-extent c =
    extent-cut 255 c.args.part.now c.loop-i.i c.loop-i.invariant.passed c.loop-i.invariant.within c.loop-i-test.false

pub returns-clause-hash : goal.returns-clause-hash
unfolding hash_from
returns-clause-hash c =
    rw (none_left 255 c.args.part.now c.loop-i.i (get_or-eq_default c.args.part.now 0 c.loop-i-test.false)) at c.loop-i.invariant.rest
