-- `squeeze_icons::stays` meets its contract, by the mark or by the chain.
use Rattle.std.proofs.Common.{ap, ◌∙◌, not, arith}
use Rattle.std.proofs.Math.Bool.{not-not}
use Rattle.in_order.specs.Laws.{here-below}
use Rattle.squeeze_icons.proofs.stays.Goals as goal

pub returns-then-number-repeated : goal.returns-then-number-repeated
returns-then-number-repeated c =
    let below = here-below c.requires.0.accepted (c.requires.2.here c.requires.3) in
    ap not (c.is_marked.ensures ∙ c.requires.1 c.args.at.number below (omega arith)) ∙ not-not _

pub returns : goal.returns
returns c = ap not c.named_before.ensures ∙ not-not _
