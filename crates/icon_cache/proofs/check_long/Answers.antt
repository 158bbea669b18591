-- `icon_cache::check_long` meets its contract: `long_check::check` has it from the short answer.
use Rattle.format.specs.declared.Reading.TheVariants.{Long}
use Rattle.icon_cache.proofs.Meets.{meets-demand, meets-longest}
use Rattle.icon_cache.proofs.check_long.Goals as goal

pub returns-clause-demand : goal.returns-clause-demand
returns-clause-demand c = meets-demand Long _ c.check.ensures

pub returns-clause-longest : goal.returns-clause-longest
returns-clause-longest c = meets-longest Long _ c.check.ensures
