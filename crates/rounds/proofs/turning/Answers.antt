-- `rounds::turning` meets its contract: past the lead-in and once round, a field is met again.
use Rattle.rounds.specs.Laws.{runs-from}
use Rattle.rounds.proofs.turning.Goals as goal

pub lead_in-requires : goal.lead_in-requires
lead_in-requires c =
    let pre = c.requires.inside_below in
    runs-from _ _ _ pre.1 pre.0 c.in-Some.ensures.runs
