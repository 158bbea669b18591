-- `gathering::repeated::in_cache` meets its contract: no name on the chains that are passed was
-- used before.
use Rattle.std.proofs.Common.{◌<◌, ap, ◌∙◌, add-one, arith}
use Rattle.std.proofs.lemmas.Result.{err_from_is_err_and}
use Rattle.format.specs.Fault.{verdict}
use Rattle.format.specs.Header.{buckets}
use Rattle.format.proofs.Laws.Outcomes.{kept-by, broken-by}
use Rattle.tables.specs.Laws.{same-buckets}
use Rattle.gathering.specs.Laws.Buckets.{chains-first, chains-next, chains-broken, chains-all}
use Rattle.gathering.proofs.repeated.in_cache.Goals as goal

pub loop-bucket-init : goal.loop-bucket-init
loop-bucket-init c = record { lent = omega arith; passed = chains-first _ }

pub returns-in_err-on_chain : goal.returns-in_err-on_chain
returns-in_err-on_chain c =
    let told = c.in_err-on_chain.ensures in
    let within : c.loop-bucket.bucket < buckets c.args.cache.now = omega (arith, same-buckets c.requires.0.tables) in
    let handed = err_from_is_err_and c.from_residual.result c.from_residual.ensures.1 in
    rw (handed.1, handed.2) (told ∙ ap verdict (chains-broken c.requires.0.accepted c.loop-bucket.invariant.passed within (broken-by _ tt _ told).0))

pub loop-bucket-preserved : goal.loop-bucket-preserved
loop-bucket-preserved c =
    let within : c.loop-bucket.bucket < buckets c.args.cache.now = omega (arith, same-buckets c.requires.0.tables) in
    let next = chains-next c.requires.0.accepted c.loop-bucket.invariant.passed within (kept-by _ tt _ c.in_ok-on_chain.ensures).0 in
    record { lent = omega arith; passed = rw add-one next }

pub returns : goal.returns
returns c =
    ap verdict (chains-all c.requires.0.accepted c.loop-bucket.invariant.passed (omega (arith, same-buckets c.requires.0.tables)))
