-- `squeeze_records::icon` meets its contract: one icon more is `recorded-next`.
use Rattle.std.proofs.Common.{◌≡◌, ◌+◌, ◌*◌, ap, ◌∙◌, rules, arith}
use Rattle.format.specs.Header.{buckets}
use Rattle.format.specs.Number.{be}
use Rattle.catalogue.specs.Written.{records_begin}
use Rattle.squeeze_texts.specs.Laws.{icon-name, name-whole}
use Rattle.squeeze_records.specs.Recorded.{strings}
use Rattle.squeeze_records.specs.Laws.Recorded.{list_read, table-inside, end_short, record-inside, record-short, field-inside, end-onward, name-inside, name-fits, name-short, recorded-next}
use Rattle.squeeze_records.proofs.icon.Goals as goal

pub u32_at-list-requires : goal.u32_at-list-requires
u32_at-list-requires c =
    let own = c.requires.accepted in
    let g = c.requires.first_value.2 in
    omega (arith, table-inside own.0 g.ready g.recorded own.1, c.requires.first_value.1)

pub store-stored-requires : goal.store-stored-requires
store-stored-requires c =
    let own = c.requires.accepted in
    let g = c.requires.first_value.2 in
    (own.0, name-whole own.1.keeps c.u32_at-name.ensures, own.2, own.3, omega (arith, end_short own.0 g.ready g.recorded own.1))

pub copy-requires : goal.copy-requires
copy-requires c =
    let own = c.requires.accepted in
    let g = c.requires.first_value.2 in
    let name = icon-name own.1 c.u32_at-name.ensures in
    let stores = c.store-stored.ensures.stored (strings c.args.cache.now) c.args.at.icon own.4 name in
    let inside = name-inside own.0 g.ready g.recorded own.1 name c.u32_at-name.ensures stores in
    let fits = name-fits own.0 g.ready g.recorded own.1 name c.u32_at-name.ensures stores in
    (inside, omega arith)

pub returns : goal.returns
returns c = λ lent ready h.
    let own = c.requires.accepted in
    let name = icon-name own.1 c.u32_at-name.ensures in
    let stores = c.store-stored.ensures.stored (strings c.args.cache.now) c.args.at.icon own.4 name in
    let place = ap (λ n. n + 12 * c.args.at.icon) c.requires.first_value.0 in
    let cell = c.u32_at-list.ensures ∙ ap (λ n. be 4 c.args.out.now (n + 4 * c.args.at.icon)) c.requires.first_value.1 ∙ list_read own.0 ready h own.1 in
    recorded-next own.0 ready h own.1 name c.u32_at-name.ensures stores place c.copy.ensures cell c.lead-field.ensures c.append.ensures

pub overflow_sub-stored : goal.overflow_sub-stored
overflow_sub-stored c =
    let own = c.requires.accepted in
    let g = c.requires.first_value.2 in
    let name = icon-name own.1 c.u32_at-name.ensures in
    end-onward own.0 g.ready g.recorded own.1 name c.u32_at-name.ensures (c.store-stored.ensures.stored (strings c.args.cache.now) c.args.at.icon own.4 name)

pub append-requires : goal.append-requires
append-requires c =
    let own = c.requires.accepted in
    let g = c.requires.first_value.2 in
    let name = icon-name own.1 c.u32_at-name.ensures in
    let stores = c.store-stored.ensures.stored (strings c.args.cache.now) c.args.at.icon own.4 name in
    let place : c.args.at.first + 12 * c.args.at.icon ≡ records_begin (buckets c.args.cache.now) + 12 * c.args.at.icon = ap (λ n. n + 12 * c.args.at.icon) c.requires.first_value.0 in
    let room = record-inside own.0 g.ready g.recorded own.1 in
    let field = field-inside own.0 g.ready g.recorded own.1 place c.lead-field.ensures in
    let kept = c.copy.auto in
    (omega (arith, place, room, kept), omega (arith, field, kept), omega (arith, place, record-short own.0 g.ready g.recorded own.1), omega (arith, name-short own.0 g.ready g.recorded own.1 name c.u32_at-name.ensures stores), search rules)
