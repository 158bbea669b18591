-- `paths::read_path` meets its contract. The bytes of the string are passed one by one
-- (`Passed`), so at each `return` its length is known. What is left from the last segment's start
-- on is that segment, as far as it is read, and the bytes not read yet; it and the segments before,
-- judged together, are the whole path judged (`Reading`).
use mathlib.Core.Path.{◌≡◌, refl, ◌∙◌}
use native.Mathlib.Omega.{arith}
use lib.ListN.{length, get_or-eq_default}
use Rattle.format.proofs.Laws.Strings.{none_left, none_within, extent-ended, extent-long, extent-cut}
use Rattle.format.proofs.Laws.Segments.{none_free}
use Rattle.paths.proofs.Reading.{at-end, next-byte, next-slash, same-reading}
use Rattle.paths.proofs.read_path.Goals as goal
use Rattle.paths.proofs.read_path.Goals.{then-byte-eq47, else-byte-eq47}

pub loop-i-init : goal.loop-i-init
loop-i-init c = record {
  started = omega arith;
  inside = omega arith;
  within = omega arith;
  passed = omega arith;
  free = none_free;
  judged = refl;
}

pub returns-then-byte-eq0-clause-extent : goal.returns-then-byte-eq0-clause-extent
returns-then-byte-eq0-clause-extent c =
    c.ended.ensures ∙ extent-ended 1023 c.args.part.now c.loop-i.i c.loop-i.invariant.passed c.loop-i-test.true c.loop-i.invariant.within c.if-byte-eq0.true

pub returns-then-byte-eq0-clause-segments : goal.returns-then-byte-eq0-clause-segments
returns-then-byte-eq0-clause-segments c =
    at-end c.loop-i.invariant (none_left 1023 c.args.part.now c.loop-i.i c.if-byte-eq0.true) c.valid_to-valid_segments.ensures

pub returns-then-i-eq1023-clause-extent : goal.returns-then-i-eq1023-clause-extent
returns-then-i-eq1023-clause-extent c =
    extent-long 1023 c.args.part.now c.loop-i.i c.loop-i.invariant.passed c.if-i-eq1023.true c.if-byte-eq0.false

pub returns-then-i-eq1023-clause-segments : goal.returns-then-i-eq1023-clause-segments
returns-then-i-eq1023-clause-segments c =
    at-end c.loop-i.invariant (none_within 1023 c.args.part.now c.loop-i.i c.if-i-eq1023.true) c.valid_to.ensures

pub loop-i-preserved : goal.loop-i-preserved
loop-i-preserved c =
    let nz = c.if-byte-eq0.false in
    elim c.if-byte-eq47.branch [
      | then-byte-eq47 w ↦
          same-reading w.valid-is w.start-is (next-slash c.loop-i.invariant (omega arith) (omega arith) nz w.if-byte-eq47.true w.valid_to-valid.ensures)
      | else-byte-eq47 w ↦ same-reading w.valid-is w.start-is (next-byte c.loop-i.invariant (omega arith) (omega arith) nz w.if-byte-eq47.false)
    ]

pub returns-clause-extent : goal.returns-clause-extent
returns-clause-extent c =
    extent-cut 1023 c.args.part.now c.loop-i.i c.loop-i.invariant.passed c.loop-i.invariant.within c.loop-i-test.false

pub returns-clause-segments : goal.returns-clause-segments
returns-clause-segments c =
    let t = c.args.part.now in
    let all : length t ≡ c.loop-i.i = omega arith in
    at-end c.loop-i.invariant (none_left 1023 t c.loop-i.i (get_or-eq_default t 0 c.loop-i-test.false)) (rw all at c.valid_to-2.ensures)
