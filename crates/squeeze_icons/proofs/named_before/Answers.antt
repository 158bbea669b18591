-- `squeeze_icons::named_before` meets its contract: before each turn none of the records passed has
-- the name.
use Rattle.std.proofs.Common.{◌≡◌, not, sym, ap, ◌∙◌, arith}
use Rattle.format.specs.Number.{be}
use Rattle.format.specs.Record.{name_of}
use Rattle.format.specs.Chain.{nth_name}
use Rattle.format.proofs.Laws.Apart.{holds-few}
use Rattle.format.proofs.Laws.InOrder.{chain-lengths}
use Rattle.keys.specs.Key.{key_at}
use Rattle.keys.specs.declared.Kind.TheVariants.{Ended}
use Rattle.tables.specs.Laws.{valid-header, same-field, field-inside}
use Rattle.squeeze_icons.specs.Laws.Before.{passing-first, passing-inside, passing-all, passing-same, passing-next, passing-before}
use Rattle.squeeze_icons.proofs.named_before.Goals as goal

-- the record at hand lies inside
pub u32_at-name-requires : goal.u32_at-name-requires
u32_at-name-requires c =
    let here = c.requires.1.here c.requires.2 in
    omega (arith, here.is, here.stands.keeps.inside)

pub u32_at-other-requires : goal.u32_at-other-requires
u32_at-other-requires c =
    let k = c.args.at.bucket in
    omega (arith, c.bucket_field.ensures, same-field c.requires.0.tables k, field-inside c.requires.0.tables k (c.requires.1.here c.requires.2).stands.bucket)

pub loop-other-init : goal.loop-other-init
loop-other-init c =
    let here = c.requires.1.here c.requires.2 in
    let told = c.bucket_field.ensures ∙ same-field c.requires.0.tables c.args.at.bucket in
    (here, passing-first c.requires.0.accepted here (c.u32_at-other.ensures ∙ ap (be 4 c.args.cache.now) told))

-- so does the one that is passed
pub u32_at-requires : goal.u32_at-requires
u32_at-requires c = omega (arith, passing-inside c.requires.0.accepted c.loop-other.invariant.0 c.loop-other.invariant.1)

pub u32_at-other-requires-in-loop-other : goal.u32_at-other-requires-in-loop-other
u32_at-other-requires-in-loop-other c = omega (arith, passing-inside c.requires.0.accepted c.loop-other.invariant.0 c.loop-other.invariant.1)

pub returns-then-same : goal.returns-then-same
returns-then-same c =
    let s = c.args.cache.now in
    let (here, passing) = c.loop-other.invariant in
    let this : name_of s c.loop-other.other ≡ key_at Ended s c.u32_at.result = ap (key_at Ended s) (sym c.u32_at.ensures) in
    let that : key_at Ended s c.u32_at-name.result ≡ nth_name s c.args.at.number = ap (key_at Ended s) c.u32_at-name.ensures ∙ ap (name_of s) (c.requires.1.here c.requires.2).is in
    sym (ap not (passing-same c.requires.0.accepted here passing c.loop-other-test.true (this ∙ c.same.ensures.0 c.if-same.true ∙ that)))

pub overflow_add-passed : goal.overflow_add-passed
overflow_add-passed c =
    let acc = c.requires.0.accepted in
    let (here, passing) = c.loop-other.invariant in
    omega (arith, passing-before acc here passing c.loop-other-test.true, here.stands.step, holds-few (chain-lengths acc c.args.at.bucket here.stands.bucket), valid-header c.requires.0.tables)

pub loop-other-smaller : goal.loop-other-smaller
loop-other-smaller c =
    let (here, passing) = c.loop-other.invariant in
    omega (arith, passing-before c.requires.0.accepted here passing c.loop-other-test.true, here.stands.step)

pub loop-other-preserved : goal.loop-other-preserved
loop-other-preserved c =
    let s = c.args.cache.now in
    let (here, passing) = c.loop-other.invariant in
    let this : name_of s c.loop-other.other ≡ key_at Ended s c.u32_at.result = ap (key_at Ended s) (sym c.u32_at.ensures) in
    let that : key_at Ended s c.u32_at-name.result ≡ nth_name s c.args.at.number = ap (key_at Ended s) c.u32_at-name.ensures ∙ ap (name_of s) (c.requires.1.here c.requires.2).is in
    let unlike = c.same.ensures.1 c.if-same.false in
    (here, passing-next c.requires.0.accepted here passing c.loop-other-test.true (λ e. unlike (sym this ∙ e ∙ sym that)) c.u32_at-other-in-loop-other.ensures)

pub returns : goal.returns
returns c = sym (ap not (passing-all c.requires.0.accepted c.loop-other.invariant.0 c.loop-other.invariant.1 c.loop-other-test.false))
