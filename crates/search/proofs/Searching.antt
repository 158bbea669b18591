-- What a search knows between its stretches, and what the next one makes of that.
use Prim.Native.Nat.{ℕ, suc, ◌+◌, ◌-◌, ◌≤◌, ◌<◌}
use mathlib.Core.Path.{◌≡◌, sym, ap, ◌∙◌}
use mathlib.Core.Logic.{◌⊎◌, ⊎_elim}
use mathlib.Core.List.{List}
use mathlib.Core.Bool.{false}
use native.Mathlib.Omega.{arith}
use lib.ListN.{length}
use Rattle.format.specs.Header.{bucket_field}
use Rattle.format.specs.Record.{name_of}
use Rattle.format.specs.Chain.{most_records}
use Rattle.format.specs.Answer.{unfound}
use Rattle.format.specs.Call.{unnamed, search_bucket}
use Rattle.format.specs.Words.{NoneBelow}
use Rattle.format.specs.Places.{Repeat}
use Rattle.format.proofs.Laws.Search.{search-unnamed, search-lasts}
use Rattle.format.specs.declared.Next.TheVariants.{Record}
use Rattle.rounds.specs.Stepping.{InsideBelow, Turning}
use Rattle.chains.specs.Walk.{Stands, Further}
use Rattle.chains.proofs.Stops.{NoRecord}
use Rattle.chains.proofs.Way.{stands-stops, turning-repeats}
use Rattle.chains.proofs.Back.{all_alike, turned-keeps, turned-inside}
use Rattle.search.specs.Seek.{SeeksTo}
use Rattle.search.specs.declared.Sought.{Sought}
use Rattle.search.proofs.Stretches.{sought-stands, sought-last, sought-none}

-- it stands on the chain, with no record behind it that bears the name, and goes up to `stop`; if it
-- was looked further, the chain has come back by then
pub record Searching (s name : List ℕ) (k f o stop far : ℕ) : Type 0 where
  pub stands : Stands s k f o
  pub none : NoneBelow s name k o
  pub passed : o ≤ stop
  pub few : stop ≤ most_records s
  pub back : stop < far → Repeat s k (suc stop)

pub searching-first : {s name : List ℕ} {k f stop : ℕ} → Stands s k f 0 → stop ≤ most_records s → Searching s name k f 0 stop stop
searching-first w h = record {
  stands = w;
  none = λ m l. absurd (omega arith);
  passed = omega arith;
  few = h;
  back = λ l. absurd (omega arith);
}

module _ {s name : List ℕ} {k f o stop far : ℕ} (w : Searching s name k f o stop far) {a : Sought} (h : SeeksTo s name k stop a) where
  -- a stretch that meets an end
  pub searching-stops : NoRecord a.next → unnamed (bucket_field s k) a.next a.opened ≡ search_bucket s name k
  searching-stops no_record =
      let known = stands-stops h.stands {most = most_records s} (omega (arith, h.few, w.few)) a.next no_record (sym h.next) in
      ap (unnamed (bucket_field s k) a.next) h.opened ∙ sym (search-unnamed s name k h.passed known h.none)

  -- one that meets none, and not the name
  module _ (small : length s ≤ 16777216) {r : ℕ} (q : a.next ≡ Record r) (b : a.bears ≡ false) where
    -- it goes further
    pub searching-on : {first beyond n : ℕ} → Stands s k first 0 → Further a.opened (most_records s) beyond → Turning s first a.opened beyond n
        → Searching s name k r a.opened n beyond
    searching-on way far t = record {
      stands = sought-stands h small q;
      none = λ m g. sought-none h small q b m (omega (arith, sought-last h small q b));
      passed = t.onward;
      few = omega (arith, t.within, far.few);
      back = turning-repeats way t;
    }

    -- it has come back, or may go no further
    module _ (last : (stop ≡ most_records s) ⊎ (stop < far)) where
      turned : stop < most_records s → Repeat s k (suc stop)
      turned l = w.back (⊎_elim (λ e. absurd (omega arith)) (λ g. g) last)

      pub searching-steps : InsideBelow s r (most_records s + 1 - a.opened)
      searching-steps = turned-inside turned (sought-stands h small q) (sought-last h small q b) w.few

      pub searching-lasts : unfound 12 (bucket_field s k) (most_records s + 1) ≡ search_bucket s name k
      searching-lasts =
          let keeps = turned-keeps turned (sought-stands h small q) (sought-last h small q b) in
          let none = all_alike (λ x. name_of s x ≡ name → ⊥) turned (sought-none h small q b) in
          sym (search-lasts s name k keeps (λ m g. none m (omega arith)))
