-- `search::search` meets its contract. The loop's invariant is `Searching`, and each way out is one
-- of its laws.
use Rattle.std.proofs.Common.{◌≡◌, ◌+◌, ◌<◌, ◌≤◌, length, ◌∙◌, ap, arith}
use Rattle.std.proofs.Common.{⊎_elim, inl, inr}
use Rattle.format.specs.Chain.{most_records}
use Rattle.format.specs.Answer.{unfound}
use Rattle.format.specs.Call.{unnamed}
use Rattle.tables.specs.Laws.{valid-header, same-field}
use Rattle.chains.specs.declared.Walked.{Walked}
use Rattle.chains.proofs.Way.{stands-first, stepped-inside, stepped-at}
use Rattle.search.proofs.Stretches.{sought-stands, sought-found, sought-last}
use Rattle.search.proofs.Searching.{searching-first, searching-stops, searching-on, searching-steps, searching-lasts}
use Rattle.search.proofs.search.Goals as goal

pub overflow_sub-most : goal.overflow_sub-most
overflow_sub-most c = omega (arith, valid-header c.requires.tables_of)

pub loop-record-init : goal.loop-record-init
loop-record-init c =
    let pre = c.requires in
    let first = stands-first pre.tables_of pre.bucket_bound c.bucket_field-first.ensures in
    searching-first first c.at_first-stop.ensures

pub stretch-sought-requires : goal.stretch-sought-requires
stretch-sought-requires c =
    let pre = c.requires in
    let inv = c.loop-record.invariant in
    record { tables_of = pre.tables_of; name_value = pre.name_value; stands = (inv.stands, inv.none); opened_le_stop = (inv.passed, omega (arith, inv.few, valid-header pre.tables_of)) }

pub returns-in_default : goal.returns-in_default
returns-in_default c =
    let field_is = c.bucket_field-first.ensures ∙ same-field c.requires.tables_of _ in
    let stops = searching-stops c.loop-record.invariant c.stretch-sought.ensures c.in_default.not-Record in
    c.unnamed.ensures ∙ ap (λ f. unnamed f c.stretch-sought.result.next c.stretch-sought.result.opened) field_is ∙ stops

pub returns-then-sought : goal.returns-then-sought
returns-then-sought c =
    let small : length c.args.cache.now ≤ 16777216 = omega (arith, valid-header c.requires.tables_of) in
    sought-found c.stretch-sought.ensures small c.in-Record.is c.if-sought.true

pub go_round-rest-requires : goal.go_round-rest-requires
go_round-rest-requires c =
    let small : length c.args.cache.now ≤ 16777216 = omega (arith, valid-header c.requires.tables_of) in
    let last = sought-last c.stretch-sought.ensures small c.in-Record.is c.if-sought.false in
    let over = ⊎_elim (λ e. inl e) (λ (o : (c.loop-record.stop ≡ most_records c.args.cache.now → ⊥) × (c.loop-record.stop < c.loop-record.far)). inr o.1) c.then-stop-most.either in
    let steps = searching-steps c.loop-record.invariant c.stretch-sought.ensures small c.in-Record.is c.if-sought.false over in
    record { opened_bound = (omega (arith, last, c.loop-record.invariant.few), omega (arith, valid-header c.requires.tables_of), small); inside_below = steps }

pub returns-then-stop-most : goal.returns-then-stop-most
returns-then-stop-most c =
    let small : length c.args.cache.now ≤ 16777216 = omega (arith, valid-header c.requires.tables_of) in
    let over = ⊎_elim (λ e. inl e) (λ (o : (c.loop-record.stop ≡ most_records c.args.cache.now → ⊥) × (c.loop-record.stop < c.loop-record.far)). inr o.1) c.then-stop-most.either in
    let field_is = c.bucket_field-first.ensures ∙ same-field c.requires.tables_of _ in
    let lasts = searching-lasts c.loop-record.invariant c.stretch-sought.ensures small c.in-Record.is c.if-sought.false over in
    c.unnamed-then-stop-most.ensures
    ∙ ap (λ (a : Walked). unnamed c.bucket_field-first.result a.after a.opened) c.go_round-rest.ensures
    ∙ ap (λ f. unfound 12 f (most_records c.args.cache.now + 1)) field_is
    ∙ lasts

pub horizon-far-requires : goal.horizon-far-requires
horizon-far-requires c =
    let small : length c.args.cache.now ≤ 16777216 = omega (arith, valid-header c.requires.tables_of) in
    let last = sought-last c.stretch-sought.ensures small c.in-Record.is c.if-sought.false in
    (omega (arith, last, c.loop-record.invariant.few, c.if-stop-most.false), omega (arith, small))

pub turning-stop-requires : goal.turning-stop-requires
turning-stop-requires c =
    let pre = c.requires in
    let first = stands-first pre.tables_of pre.bucket_bound c.bucket_field-first.ensures in
    let small : length c.args.cache.now ≤ 16777216 = omega (arith, valid-header c.requires.tables_of) in
    let stands = sought-stands c.stretch-sought.ensures small c.in-Record.is in
    let far = c.horizon-far.ensures in
    record {
      done_le_far = (far.onward, omega (arith, far.few, valid-header pre.tables_of), small);
      inside_below = (stepped-inside first stands.keeps, stepped-at first stands);
    }

pub loop-record-smaller : goal.loop-record-smaller
loop-record-smaller c =
    let small : length c.args.cache.now ≤ 16777216 = omega (arith, valid-header c.requires.tables_of) in
    let last = sought-last c.stretch-sought.ensures small c.in-Record.is c.if-sought.false in
    omega (arith, last, c.loop-record.invariant.few, c.turning-stop.ensures.onward)

pub loop-record-preserved : goal.loop-record-preserved
loop-record-preserved c =
    let pre = c.requires in
    let first = stands-first pre.tables_of pre.bucket_bound c.bucket_field-first.ensures in
    let small : length c.args.cache.now ≤ 16777216 = omega (arith, valid-header c.requires.tables_of) in
    searching-on c.loop-record.invariant c.stretch-sought.ensures small c.in-Record.is c.if-sought.false first c.horizon-far.ensures c.turning-stop.ensures
