use Rattle.write_cache.specs.Laws.Records.{Reached}
use Rattle.write_cache.proofs.appending.append_all.Given as goal

abbrev pub invariant-loop : goal.invariant-loop
invariant-loop l =
    Reached l.catalogue l.buckets l.first l.initial.out l.counter l.icon l.at l.list l.name l.out l.last
