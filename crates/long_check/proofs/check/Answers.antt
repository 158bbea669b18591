-- `long_check::check` meets its contract: the records that the short check found sound decide, and
-- `scan` goes over all of them.
use Rattle.std.proofs.Common.{◌∙◌, refl, sym, arith}
use Rattle.format.proofs.Laws.Rules.{tables-keep-header}
use Rattle.long_check.specs.Check.{Decided}
use Rattle.long_check.specs.Laws.Stands.{stands-first, stands-done}
use Rattle.long_check.specs.Laws.Check.{decided, breaks-decides}
use Rattle.long_check.proofs.check.Goals as goal

pub returns-then-sound-eq0 : goal.returns-then-sound-eq0
returns-then-sound-eq0 c =
    let decides : Decided c.args.cache.now c.sound_records-sound.result = rw (c.sound_records-sound.ensures, c.requires) (decided _) in
    c.requires ∙ sym (decides.same (stands-done (stands-first refl) (omega (arith, c.if-sound-eq0.true))))

pub read-t-requires : goal.read-t-requires
read-t-requires c =
    let decides : Decided c.args.cache.now c.sound_records-sound.result = rw (c.sound_records-sound.ensures, c.requires) (decided _) in
    tables-keep-header _ (decides.tables-kept (omega (arith, c.if-sound-eq0.false)))

pub scan-requires-clause-sound_to : goal.scan-requires-clause-sound_to
scan-requires-clause-sound_to c =
    let decides : Decided c.args.cache.now c.sound_records-sound.result = rw (c.sound_records-sound.ensures, c.requires) (decided _) in
    decides.to

pub returns-in-Ok : goal.returns-in-Ok
returns-in-Ok c =
    let decides : Decided c.args.cache.now c.sound_records-sound.result = rw (c.sound_records-sound.ensures, c.requires) (decided _) in
    c.requires ∙ sym (decides.same c.in-Ok.ensures)

pub returns-in-Err : goal.returns-in-Err
returns-in-Err c =
    let decides : Decided c.args.cache.now c.sound_records-sound.result = rw (c.sound_records-sound.ensures, c.requires) (decided _) in
    let kept = decides.tables-kept (omega (arith, c.if-sound-eq0.false)) in
    c.refused.ensures ∙ sym (breaks-decides _ kept c.in-Err.ensures)
