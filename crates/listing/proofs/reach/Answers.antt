-- `reach` meets its contract: more records are to be passed than were walked, or just those.
use Rattle.std.proofs.Common.{◌≡◌, ◌∙◌, refl, sym, ap, arith}
use Rattle.format.specs.declared.Reading.TheVariants.{Short}
use Rattle.format.specs.Chain.{chain_of}
use Rattle.tables.specs.Laws.{valid-header}
use Rattle.chains.specs.Laws.{walked-goes}
use Rattle.listing.specs.Reach.{reached}
use Rattle.listing.proofs.reach.Goals as goal

pub go_further-requires-clause-keeps_below : goal.go_further-requires-clause-keeps_below
go_further-requires-clause-keeps_below c =
    let keeps = (walked-goes _ _ _ refl c.requires.walked_value).keeps in
    λ m l. keeps m (omega arith)

pub step_to-requires : goal.step_to-requires
step_to-requires c = omega (arith, c.requires.bucket_bound, valid-header c.requires.tables_of)

pub returns-else-walked-passed : goal.returns-else-walked-passed
returns-else-walked-passed c =
    let a = c.args in
    let all : a.passed ≡ a.walked = omega (arith, c.requires.bucket_bound) in
    let next = ap (λ n. (chain_of Short a.cache.now a.bucket n).after) all ∙ c.requires.walked_value in
    rw c.step_to.ensures (ap (reached a.bucket a.passed) (sym next))
