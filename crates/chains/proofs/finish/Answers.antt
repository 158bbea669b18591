-- `chains::finish` meets its contract: the chain has ended, or has come back, or is followed no
-- further.
use Rattle.std.proofs.Common.{◌∙◌, ap, arith}
use Rattle.format.specs.declared.Reading.TheVariants.{Short}
use Rattle.format.proofs.Laws.Along.{keeps-chain}
use Rattle.chains.specs.Walk.{stepped_to}
use Rattle.chains.specs.Laws.{walked-is, walked-goes}
use Rattle.chains.proofs.Stops.{walked-over}
use Rattle.chains.proofs.Way.{stands_on}
use Rattle.chains.proofs.Back.{turned-keeps, turned-inside, turned-last}
use Rattle.chains.proofs.finish.Goals as goal

pub returns-in_default : goal.returns-in_default
returns-in_default c = λ k j. walked-over _ _ _ j.walk j.few c.in_default.not-Record

pub go_round-requires : goal.go_round-requires
go_round-requires c =
    let (k, j) = c.requires.by_index in
    let g = walked-goes _ _ _ j.walk c.in-Record.is in
    let stands = stands_on g.keeps g.at g.opened in
    record { opened_bound = (omega (arith, g.opened, j.few), c.requires.most_in_bounds.0, c.requires.most_in_bounds.1); inside_below = turned-inside (j.back _ c.in-Record.is) stands g.opened j.few }

pub returns : goal.returns
returns c = λ k j.
    let g = walked-goes _ _ _ j.walk c.in-Record.is in
    let back = j.back _ c.in-Record.is in
    let stands = stands_on g.keeps g.at g.opened in
    c.go_round.ensures
    ∙ ap (stepped_to _) (turned-last back stands g.opened j.few)
    ∙ walked-is _ _ _ (keeps-chain Short _ _ (turned-keeps back stands g.opened))
