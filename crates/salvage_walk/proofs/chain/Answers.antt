-- `salvage_walk::chain` meets its contract. The loop's invariant is `Steps`: what is put for the
-- steps made, and the names that are kept, which the index has. Each way out is a law of it
-- (`walks-many`, `walks-uncut`, `walks-cut`), and one more turn is `steps_next`.
use Prim.Native.Nat.{◌<◌}
use mathlib.Core.Path.{ap, ◌∙◌}
use native.Mathlib.Omega.{arith}
use Rattle.format.specs.declared.Fault.{Fault}
use Rattle.tables.specs.Laws.{valid-header, same-field, field-inside}
use Rattle.salvage_spec.specs.Meetings as definition
use Rattle.salvage_spec.proofs.Laws.Places.{fate-within, cut-within}
use Rattle.salvage_walk.specs.Laws.Chain.{steps_first, steps-link, steps-names, steps-fits, steps-inside, steps-told, steps_next, steps-field}
use Rattle.salvage_walk.specs.Laws.End.{walks-uncut, walks-cut, walks-many, cut_none, cut_some}
use Rattle.salvage_walk.proofs.chain.Goals as goal

pub loop-step-init : goal.loop-step-init
loop-step-init c = steps_first _ _ _ _ _ _ (c.bucket_field-field.ensures ∙ same-field c.requires.tables_of.0 _)

pub returns-then-so_far-gt65535 : goal.returns-then-so_far-gt65535
returns-then-so_far-gt65535 c = walks-many c.loop-step.invariant c.if-so_far-gt65535.true

pub u32_at-record-requires : goal.u32_at-record-requires
u32_at-record-requires c =
    let h = c.loop-step.invariant in
    steps-field h h.within (field-inside c.requires.tables_of.0 c.args.bucket c.requires.tables_of.2)

pub overflow_sub-so_far : goal.overflow_sub-so_far
overflow_sub-so_far c = omega (arith, c.loop-step.invariant.grows.icons)

pub meet-fate-requires : goal.meet-fate-requires
meet-fate-requires c =
    let h = c.loop-step.invariant in
    let below : c.loop-step._step < definition.met c.args.cache.now c.args.bucket = omega (arith, c.reach-reached.ensures.met) in
    (c.requires.tables_of.0, steps-inside h below (steps-link h c.u32_at-record.ensures), omega (arith, c.requires.tables_of.3, c.if-so_far-gt65535.false))

pub add-so_far-requires-clause-told : goal.add-so_far-requires-clause-told
add-so_far-requires-clause-told c =
    let s = c.args.cache.now in
    let h = c.loop-step.invariant in
    let below : c.loop-step._step < definition.met s c.args.bucket = omega (arith, c.reach-reached.ensures.met) in
    let next = steps-link h c.u32_at-record.ensures in
    let near = fate-within s c.args.bucket (definition.kept_names s c.args.bucket c.loop-step._step) c.u32_at-record.result in
    steps-told h below next (c.meet-fate.ensures _ (steps-names h)).fate (omega (arith, near, steps-inside h below next, (valid-header c.requires.tables_of.0).not-too-long))

pub add-so_far-requires-clause-sums_bound : goal.add-so_far-requires-clause-sums_bound
add-so_far-requires-clause-sums_bound c =
    let fits = steps-fits c.loop-step.invariant (valid-header c.requires.tables_of.0).not-too-long c.requires.icons_bound.1 c.requires.icons_bound.2 in
    (omega (arith, c.if-so_far-gt65535.false), fits.0, fits.1)

pub loop-step-preserved : goal.loop-step-preserved
loop-step-preserved c =
    let h = c.loop-step.invariant in
    let below : c.loop-step._step < definition.met c.args.cache.now c.args.bucket = omega (arith, c.reach-reached.ensures.met) in
    steps_next h below (steps-link h c.u32_at-record.ensures) (c.meet-fate.ensures _ (steps-names h)) c.add-so_far.ensures

pub returns-in_default : goal.returns-in_default
returns-in_default c =
    let none = cut_none (definition.cut c.args.cache.now c.args.bucket) c.reach-reached.ensures.cut c.in_default.not-Some in
    walks-uncut c.loop-step.invariant (omega (arith, c.reach-reached.ensures.met)) (valid-header c.requires.tables_of.0).not-too-long none

pub row-words-requires : goal.row-words-requires
row-words-requires c =
    let short = (valid-header c.requires.tables_of.0).not-too-long in
    let fits = steps-fits c.loop-step.invariant short c.requires.icons_bound.1 c.requires.icons_bound.2 in
    let near = cut-within c.args.cache.now c.args.bucket (field-inside c.requires.tables_of.0 c.args.bucket c.requires.tables_of.2) in
    let cut = cut_some (definition.cut c.args.cache.now c.args.bucket) c.reach-reached.ensures.cut _ c.in-Some.is in
    (omega (arith, fits), omega (arith, near, ap (λ (v : Fault). v.place) cut.0, short))

pub returns : goal.returns
returns c =
    let cut = cut_some (definition.cut c.args.cache.now c.args.bucket) c.reach-reached.ensures.cut _ c.in-Some.is in
    walks-cut c.loop-step.invariant (omega (arith, c.reach-reached.ensures.met)) (valid-header c.requires.tables_of.0).not-too-long cut.0 cut.1 c.row-words.ensures
