-- `chains::pass` meets its contract. The loop's invariant: the walk stands on the chain.
use Rattle.std.proofs.Common.{◌≡◌, ◌+◌, ◌≤◌, length, ◌∙◌, sym, ap, arith}
use Rattle.format.specs.declared.Reading.TheVariants.{Short}
use Rattle.format.specs.Chain.{opens}
use Rattle.format.specs.Words.{link}
use Rattle.format.proofs.Laws.Follow.{opens_one}
use Rattle.format.proofs.Laws.Along.{keeps-chain}
use Rattle.tables.specs.Laws.{valid-header}
use Rattle.chains.specs.Walk.{stepped_to}
use Rattle.chains.specs.Laws.{walked-is}
use Rattle.chains.proofs.Way.{stands-stops, leads-link, leads_keeps, leads-on}
use Rattle.chains.proofs.pass.Goals as goal

pub loop-record-init : goal.loop-record-init
loop-record-init c = record { few = c.requires.opened_le_most.0; stands = c.requires.stands }

pub follow-after-requires : goal.follow-after-requires
follow-after-requires c = record { tables_of = c.requires.tables_of; field_in_bounds = c.loop-record.invariant.stands.inside }

pub overflow_add-opened : goal.overflow_add-opened
overflow_add-opened c = omega (arith, opens_one c.follow-after.result, c.opens-opened.ensures)

pub returns-in_default : goal.returns-in_default
returns-in_default c =
    let inv = c.loop-record.invariant in
    rw c.opens-opened.ensures (walked-is _ _ _ (stands-stops inv.stands inv.few _ c.in_default.not-Record (sym c.follow-after.ensures)))

pub returns-then-most-opened : goal.returns-then-most-opened
returns-then-most-opened c =
    let o = c.loop-record.opened in
    let most = c.args.most in
    let small : length c.args.cache.now ≤ 16777216 = omega (arith, valid-header c.requires.tables_of) in
    let led = sym c.follow-after.ensures ∙ c.in-Record.is in
    let one = c.opens-opened.ensures ∙ ap opens c.in-Record.is in
    let full : o ≡ most = omega (arith, one) in
    let opened : o + c.opens-opened.result ≡ most + 1 = omega (arith, one) in
    let stands = c.loop-record.invariant.stands in
    let keeps = leads_keeps stands small led in
    ap (λ x. stepped_to x c.in-Record.record) opened
    ∙ ap (stepped_to (most + 1)) (leads-link stands small led ∙ ap (link _ _) full)
    ∙ walked-is _ _ _ (keeps-chain Short _ _ (λ m l. keeps m (omega arith)))

pub loop-record-smaller : goal.loop-record-smaller
loop-record-smaller c = omega (arith, c.opens-opened.ensures ∙ ap opens c.in-Record.is)

pub loop-record-preserved : goal.loop-record-preserved
loop-record-preserved c =
    let small : length c.args.cache.now ≤ 16777216 = omega (arith, valid-header c.requires.tables_of) in
    let led = sym c.follow-after.ensures ∙ c.in-Record.is in
    let opened = ap (λ n. c.loop-record.opened + n) (c.opens-opened.ensures ∙ ap opens c.in-Record.is) in
    record { few = omega arith; stands = leads-on c.loop-record.invariant.stands small led opened }
