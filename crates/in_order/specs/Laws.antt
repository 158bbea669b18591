-- A walk over all records turn by turn: along a chain, and from chain to chain.
use Prim.Native.Nat.{ℕ, suc, ◌+◌, ◌≤◌, ◌<◌}
use Rattle.std.specs.Prelude.{◌≡◌, refl, List, length}
use Rattle.std.proofs.Common.{sym, ◌∙◌, arith}
use Rattle.std.proofs.Math.Path.{ap}
use Rattle.format.specs.Layout.{end_value}
use Rattle.format.specs.Number.{be}
use Rattle.format.specs.Header.{buckets, bucket_field}
use Rattle.format.specs.Chain.{all_records}
use Rattle.format.specs.Words.{link, Keeps, Holds, Accepted, sum}
use Rattle.format.specs.declared.Reading.TheVariants.{Short}
use Rattle.format.proofs.Laws.Demand.{demand3}
use Rattle.format.proofs.Laws.InOrder.{chain-lengths, order-length, step-in-order, below_length}
use Rattle.format.specs.Places.{chain_length, StandsAt}
use Rattle.in_order.specs.Cursor.{Real, Before, Here}

-- a record at hand keeps the rules, so it lies inside
pub here-keeps : {s : List ℕ} {n k r : ℕ} → Here s n k r → Keeps Short s k r
here-keeps h = rw (← h.is) at h.stands.keeps

module _ {s : List ℕ} (acc : Accepted Short s) where
  -- there are no more records than bytes
  pub records-few : length (all_records Short s) ≤ length s
  records-few = omega (arith, order-length acc, (demand3 Short s).few acc (chain_length s) (chain-lengths acc))

  module _ {n k r : ℕ} (b : Before s n k r) where
    own : Holds Short s k (chain_length s k)
    own = chain-lengths acc k b.bucket

    -- a record is there, so the chain goes on
    pub before_here : Real r → Here s n k r
    before_here real =
        let other : b.step ≡ chain_length s k → ⊥ = λ e. real (b.field ∙ ap (link s k) e ∙ own.ends) in
        let below : b.step < chain_length s k = omega (arith, b.within) in
        let a = step-in-order acc b.bucket below in
        let same = b.passed in
        let at_n : StandsAt s n k b.step = rw same a in
        record { step = b.step; stands = at_n; is = b.field ∙ sym at_n.named }

    -- none is there, so the chain is passed
    passed-chain : r ≡ end_value → n ≡ sum (chain_length s) (suc k)
    unfolding sum
    passed-chain e =
        let other : b.step < chain_length s k → ⊥ = λ l. (own.keeps b.step l).0 (sym b.field ∙ e) in
        omega (arith, b.within, b.passed)

    pub before-next : {v : ℕ} → r ≡ end_value → suc k < buckets s → v ≡ be 4 s (bucket_field s (suc k)) → Before s n (suc k) v
    unfolding link
    before-next e l read = record { bucket = l; step = 0; within = omega arith; passed = omega (arith, passed-chain e); field = read }

    pub before-all : r ≡ end_value → suc k ≡ buckets s → n ≡ length (all_records Short s)
    before-all e last = passed-chain e ∙ ap (sum (chain_length s)) last ∙ sym (order-length acc)

  pub before-first : {v : ℕ} → 0 < buckets s → v ≡ be 4 s (bucket_field s 0) → Before s 0 0 v
  unfolding link sum
  before-first some read = record { bucket = some; step = 0; within = omega arith; passed = refl; field = read }

  -- behind a record
  module _ {n k r : ℕ} (h : Here s n k r) where
    pub behind : {v : ℕ} → v ≡ be 4 s r → Before s (n + 1) k v
    unfolding link
    behind read =
        let a = h.stands in
        record {
          bucket = a.bucket;
          step = suc h.step;
          within = a.step;
          passed = omega (arith, a.place);
          field = read ∙ ap (be 4 s) (h.is ∙ a.named);
        }

    pub here-below : n < length (all_records Short s)
    here-below = below_length acc h.stands
