-- `squeeze_lists::share` meets its contract: each way out is a law of `Shares`.
use Rattle.std.proofs.Common.{sym, ap, ◌∙◌, arith}
use Rattle.format.specs.Number.{be}
use Rattle.squeeze_lists.specs.Laws.Shares.{shared-is, put-at, cell-is, cell-inside, shares-set, shares-found, shares_left, shares-left-behind, new-inside, new-short, shares-stored}
use Rattle.squeeze_lists.proofs.share.Goals as goal

pub u32_at-requires : goal.u32_at-requires
u32_at-requires c =
    let h = c.requires.sharing in
    omega (arith, h.cell_at, cell-inside h.shares c.requires.list_at.0 c.requires.list_at.4)

pub returns-then-u32_at : goal.returns-then-u32_at
returns-then-u32_at c = λ lent table at first h e.
    let own = c.requires.list_at in
    let cell = c.u32_at.ensures ∙ ap (be 4 c.args.out.now) e ∙ cell-is h own.0 own.4 in
    let o = c.onward.ensures in
    rw (shared-is c.onward.result o.0 o.1) (shares-set h own.0 own.4 (λ z. c.if-u32_at.true (cell ∙ z)) o.2 o.3)

-- where it is found
pub bounds-places-e : goal.bounds-places-e
bounds-places-e c = omega (arith, c.in-Ok.ensures.within, c.requires.sharing.shares.fits, c.requires.list_at.2)

pub put_u32-requires : goal.put_u32-requires
put_u32-requires c =
    let h = c.requires.sharing in
    omega (arith, h.cell_at, cell-inside h.shares c.requires.list_at.0 c.requires.list_at.4)

pub returns-in-Ok : goal.returns-in-Ok
returns-in-Ok c = λ lent table at first h e.
    let own = c.requires.list_at in
    let o = c.onward-in-Ok.ensures in
    rw (shared-is c.onward-in-Ok.result o.0 o.1) (shares-found h own.0 own.4 c.in-Ok.ensures.within (c.in-Ok.ensures.spotted h.known.known.rising) (put-at _ _ e c.put_u32.ensures) o.2 o.3)

-- where it is not
pub store-requires : goal.store-requires
store-requires c =
    let g = c.requires.sharing in
    let h = g.shares in
    let own = c.requires.list_at in
    let unset = sym (c.u32_at.ensures ∙ ap (be 4 c.args.out.now) g.cell_at ∙ cell-is h own.0 own.4) ∙ c.if-u32_at.false in
    let spot = c.in-Err.ensures.spotted h.known.known.rising in
    record {
      list_at = (own.0, c.in-Err.ensures.within, omega arith, omega (arith, own.2), own.5, omega (arith, own.2, own.3));
      list_in_bounds = (c.requires.list_in_bounds, omega (arith, new-inside h own.0 own.4 unset spot c.if-until-icon.true), new-short h own.0 own.4 unset spot c.if-until-icon.true, omega (arith, g.cell_at, cell-inside h own.0 own.4));
    }

pub returns-then-entries-index : goal.returns-then-entries-index
returns-then-entries-index c = λ lent table at first h e.
    let own = c.requires.list_at in
    let unset = sym (c.u32_at.ensures ∙ ap (be 4 c.args.out.now) e ∙ cell-is h own.0 own.4) ∙ c.if-u32_at.false in
    shares-stored h own.0 own.4 unset (c.in-Err.ensures.spotted h.known.known.rising) c.if-until-icon.true c.in-Err.ensures.within (omega arith) e c.store.ensures

pub returns-else-entries-index : goal.returns-else-entries-index
returns-else-entries-index c = λ lent table at first h e.
    let own = c.requires.list_at in
    let unset = sym (c.u32_at.ensures ∙ ap (be 4 c.args.out.now) e ∙ cell-is h own.0 own.4) ∙ c.if-u32_at.false in
    shares_left h own.0 own.4 unset (c.in-Err.ensures.spotted h.known.known.rising) (omega (arith, h.most, c.if-entries-index.false, own.1))

pub returns-else-until-icon : goal.returns-else-until-icon
returns-else-until-icon c = λ lent table at first h e.
    let own = c.requires.list_at in
    let unset = sym (c.u32_at.ensures ∙ ap (be 4 c.args.out.now) e ∙ cell-is h own.0 own.4) ∙ c.if-u32_at.false in
    shares-left-behind h own.0 own.4 unset (c.in-Err.ensures.spotted h.known.known.rising) c.if-until-icon.false
