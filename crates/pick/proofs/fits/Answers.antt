-- `pick::fits` meets its contract: an index that is not 0xFFFF names a directory (`index_below`),
-- so its six words are lent.
use Rattle.std.proofs.Common.{◌≡◌, ◌∙◌, sym}
use Rattle.format.specs.Number.{be}
use Rattle.pick.proofs.Laws.Fitting.{fits-nowhere, fits-there}
use Rattle.pick.proofs.fits.Goals as goal

pub returns-then-index-eq65535 : goal.returns-then-index-eq65535
returns-then-index-eq65535 c = sym (fits-nowhere _ _ _ _ _ (sym c.u16_at-index.ensures ∙ c.if-index-eq65535.true))

pub returns : goal.returns
returns c =
    let a = c.args in
    let real : be 2 a.cache.now a.at ≡ 0xFFFF → ⊥ = rw c.u16_at-index.ensures at c.if-index-eq65535.false in
    c.serves.ensures ∙ rw (c.sizes_of.ensures, c.u16_at-index.ensures) (sym (fits-there _ _ _ _ _ real))
