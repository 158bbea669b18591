-- `names::find` meets its contract: the key sought stands between the entries before `low` and
-- those from `high` on.
use Rattle.std.proofs.Common.{◌+◌, ◌-◌, ◌/◌, ◌∙◌, sym, arith}
use Rattle.keys.proofs.Laws.{order-equal}
use Rattle.names.specs.Laws.Between.{after-middle, before-middle}
use Rattle.names.proofs.find.Goals as goal

pub loop-low-preserved-in-Less : goal.loop-low-preserved-in-Less
loop-low-preserved-in-Less c =
    let l = c.loop-low in
    record {
      apart = omega arith;
      within = l.invariant.within;
      between = λ rising. after-middle _ _ _ _ rising (l.invariant.between rising) (l.low + (l.high - l.low) / 2) (omega arith) c.compare.ensures c.in-Less.is;
    }

pub returns-in-Equal-clause-spotted : goal.returns-in-Equal-clause-spotted
returns-in-Equal-clause-spotted c = λ rising. order-equal _ _ (sym c.compare.ensures ∙ c.in-Equal.is)

pub loop-low-preserved : goal.loop-low-preserved
loop-low-preserved c =
    let l = c.loop-low in
    record {
      apart = omega arith;
      within = omega arith;
      between = λ rising. before-middle _ _ _ _ rising (l.invariant.between rising) (l.low + (l.high - l.low) / 2) (omega arith) c.compare.ensures c.in-Greater.is;
    }
