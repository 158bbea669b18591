-- `long_check::scan` meets its contract. The loop's invariant is `Stands`: what is behind the walk
-- keeps the long rules.
use Rattle.std.proofs.Common.{◌∙◌, refl, sym, arith}
use Rattle.format.proofs.Laws.Faults.{same_number}
use Rattle.format.proofs.Laws.Outcomes.{kept-by, broken-by}
use Rattle.tables.specs.Laws.{same-buckets, same-field}
use Rattle.long_check.specs.Laws.Stands.{stands-first, bucket-below, stands-inside, stands-next, sound-inside, sound-listed, stands_on, breaks-here, stands-done, stands-round}
use Rattle.long_check.proofs.scan.Goals as goal

pub loop-passed-init : goal.loop-passed-init
loop-passed-init c = record { n = 0; stands = stands-first (c.bucket_field-field.ensures ∙ same-field c.requires.tables_of 0) }

pub u32_at-record-requires : goal.u32_at-record-requires
u32_at-record-requires c = stands-inside c.requires.sound_to c.loop-passed.invariant.stands c.loop-passed-test.true c.requires.tables_of

pub overflow_add-bucket : goal.overflow_add-bucket
overflow_add-bucket c = omega (arith, bucket-below c.requires.sound_to c.loop-passed.invariant.stands c.loop-passed-test.true, same-buckets c.requires.tables_of)

pub loop-passed-smaller-then-record : goal.loop-passed-smaller-then-record
loop-passed-smaller-then-record c = omega (arith, bucket-below c.requires.sound_to c.loop-passed.invariant.stands c.loop-passed-test.true, same-buckets c.requires.tables_of)

pub loop-passed-preserved-then-record : goal.loop-passed-preserved-then-record
loop-passed-preserved-then-record c =
    let pre = c.requires in
    record { n = 0; stands = stands-next pre.sound_to c.loop-passed.invariant.stands c.loop-passed-test.true c.u32_at-record.ensures c.if-record.true (c.bucket_field-field-then-record.ensures ∙ same-field pre.tables_of _) }

pub returns-then-record-mark : goal.returns-then-record-mark
returns-then-record-mark c = λ len k n region few.
    let same = c.if-record-mark.true in
    stands-round c.loop-passed.invariant.stands (λ e. c.if-record.false (same ∙ e)) (sym same ∙ c.u32_at-record.ensures) len k n region

pub behind_record-requires-clause-record_in_bounds : goal.behind_record-requires-clause-record_in_bounds
behind_record-requires-clause-record_in_bounds c = sound-inside c.requires.sound_to c.loop-passed.invariant.stands c.loop-passed-test.true c.u32_at-record.ensures c.if-record.false

pub behind_record-requires-clause-record_in_bounds_2 : goal.behind_record-requires-clause-record_in_bounds_2
behind_record-requires-clause-record_in_bounds_2 c = sound-listed c.requires.sound_to c.loop-passed.invariant.stands c.loop-passed-test.true c.u32_at-record.ensures c.if-record.false

pub returns-in-Err : goal.returns-in-Err
returns-in-Err c =
    let broken = broken-by _ _ _ c.in-Err.ensures in
    breaks-here c.requires.sound_to c.loop-passed.invariant.stands c.loop-passed-test.true c.u32_at-record.ensures c.if-record.false broken.1 (λ z. broken.0 (sym (same_number broken.1) ∙ z))

pub loop-passed-preserved-then-limit-passed : goal.loop-passed-preserved-then-limit-passed
loop-passed-preserved-then-limit-passed c =
    let kept = kept-by _ _ _ c.in_default.ensures in
    record { n = _; stands = (stands_on c.requires.sound_to c.loop-passed.invariant.stands c.loop-passed-test.true c.u32_at-record.ensures c.if-record.false refl kept.0).1 }

pub loop-passed-preserved : goal.loop-passed-preserved
loop-passed-preserved c =
    let kept = kept-by _ _ _ c.in_default.ensures in
    record { n = _; stands = (stands_on c.requires.sound_to c.loop-passed.invariant.stands c.loop-passed-test.true c.u32_at-record.ensures c.if-record.false refl kept.0).0 }

pub returns : goal.returns
returns c = stands-done c.loop-passed.invariant.stands c.loop-passed-test.false
