-- `gathering::repeated::on_chain` meets its contract: the first repeat along the chain is the one
-- that is refused.
use Rattle.std.proofs.Common.{◌+◌, ◌≤◌, length, ap, ◌∙◌, arith}
use Rattle.format.specs.Fault.{verdict}
use Rattle.tables.specs.Laws.{same-field, field-inside}
use Rattle.gathering.specs.Laws.Repeats.{field-ends, chain-inside, chain-repeats, chain-repeats-none}
use Rattle.gathering.proofs.repeated.on_chain.Goals as goal

pub first-first-requires : goal.first-first-requires
first-first-requires c =
    let field_is = c.bucket_field-field.ensures ∙ same-field c.requires.0.tables c.args.bucket in
    let room : c.bucket_field-field.result + 4 ≤ length c.args.cache.now = omega (arith, field_is, field-inside c.requires.0.tables c.args.bucket c.requires.1) in
    (chain-inside _ _ c.count-n.ensures field_is room, c.requires.2)

pub ahead-requires : goal.ahead-requires
ahead-requires c = λ m l.
    let field_is = c.bucket_field-field.ensures ∙ same-field c.requires.0.tables c.args.bucket in
    let room : c.bucket_field-field.result + 4 ≤ length c.args.cache.now = omega (arith, field_is, field-inside c.requires.0.tables c.args.bucket c.requires.1) in
    field-ends _ _ c.count-n.ensures field_is room m (omega arith)

pub overflow_add-result : goal.overflow_add-result
overflow_add-result c =
    let field_is = c.bucket_field-field.ensures ∙ same-field c.requires.0.tables c.args.bucket in
    let room : c.bucket_field-field.result + 4 ≤ length c.args.cache.now = omega (arith, field_is, field-inside c.requires.0.tables c.args.bucket c.requires.1) in
    omega (arith, c.ahead.ensures, field-ends _ _ c.count-n.ensures field_is room (c.first-first.result + 1) (omega arith))

pub returns-then-first-n : goal.returns-then-first-n
returns-then-first-n c =
    let field_is = c.bucket_field-field.ensures ∙ same-field c.requires.0.tables c.args.bucket in
    ap verdict (chain-repeats _ _ c.count-n.ensures field_is c.first-first.ensures c.if-first-n.true c.ahead.ensures)

pub returns : goal.returns
returns c =
    let field_is = c.bucket_field-field.ensures ∙ same-field c.requires.0.tables c.args.bucket in
    ap verdict (chain-repeats-none _ _ c.count-n.ensures field_is c.first-first.ensures c.if-first-n.false)
