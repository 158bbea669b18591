-- `checking::check_chain` meets its contract: a walk that meets an end before it has to look ahead
-- is that of the whole chain.
use Rattle.std.proofs.Common.{◌≡◌, ℕ, ◌∙◌, sym, ap, arith}
use Rattle.format.specs.Chain.{Chain}
use Rattle.format.specs.Call.{unnamed}
use Rattle.format.specs.declared.Next.{Next}
use Rattle.chains.specs.Walk.{walked}
use Rattle.chains.specs.Laws.{walked-goes, walked-ended, walked-broken}
use Rattle.chains.specs.declared.Walked.{Walked}
use Rattle.checking.specs.Buckets.{unnamed_on}
use Rattle.checking.proofs.check_chain.Goals as goal

-- what a search says of a chain that is walked to where it ends or breaks
on-whole : (c : Chain) {a : Walked} {l : Next} (f : ℕ) → a ≡ walked c → a.after ≡ l → unnamed f l a.opened ≡ unnamed_on f c
on-whole c {a} f e q = ap (λ l. unnamed f l a.opened) (sym q) ∙ ap (λ (a : Walked). unnamed f a.after a.opened) e

pub walk-chain-requires : goal.walk-chain-requires
walk-chain-requires c =
    let pre = c.requires in
    record { tables_of = pre.tables_of; bucket_bound = (pre.bucket_bound.0, omega (arith, c.at_first-stop.ensures, pre.bucket_bound.1)) }

pub check_long-requires : goal.check_long-requires
check_long-requires c =
    let pre = c.requires in
    let keeps = (walked-goes _ _ _ c.walk-chain.ensures c.in-Record.is).keeps in
    let few = c.at_first-stop.ensures in
    record { tables_of = pre.tables_of; bucket_bound = (pre.bucket_bound.0, omega (arith, few), pre.bucket_bound.1); keeps_below = λ m g. keeps m (omega arith) }

pub returns-in-Broken : goal.returns-in-Broken
returns-in-Broken c =
    let broken = c.in-Broken.is in
    c.unfound.ensures ∙ on-whole _ _ (walked-broken _ _ _ c.walk-chain.ensures c.at_first-stop.ensures broken) broken

pub returns-in-End : goal.returns-in-End
returns-in-End c =
    let ended = c.in-End.is in
    c.unfound-in-End.ensures ∙ on-whole _ _ (walked-ended _ _ _ c.walk-chain.ensures c.at_first-stop.ensures ended) ended
