-- The walk from the start over an accepted cache: it hands back the list of all records, in which
-- each stands once.
use Prim.Native.Nat.{ℕ, zero, suc, ◌+◌, ◌≤◌, ◌<◌}
use Rattle.std.specs.Prelude.{◌≡◌, List, length, get_or}
use Rattle.std.proofs.Math.Path.{refl}
use Rattle.std.proofs.Common.{sym, ap, ◌∙◌, zero-add}
use Rattle.std.proofs.Math.Nat.{add-zero}
use native.Mathlib.Omega.{arith}
use Rattle.format.specs.Header.{buckets}
use Rattle.format.specs.Chain.{most_records, all_records}
use Rattle.format.specs.Words.{link, Holds, OnChain, Accepted, Lengths, sum}
use Rattle.format.proofs.Laws.Faults.{same_number}
use Rattle.format.proofs.Laws.Header.{header-valid}
use Rattle.format.proofs.Laws.Rules.{tables-keep-header}
use Rattle.format.proofs.Laws.Links.{keeps-le, unbroken, on_chain, chain-on}
use Rattle.format.proofs.Laws.Buckets.{total}
use Rattle.format.proofs.Laws.Demand.{demand3}
use Rattle.listing.specs.Listing.{start, stays, position_fault, step}
use Rattle.listing.specs.Paging.{GoesOn, here, on, RecordAnswers, reached, step_at, EachOnce, HandsBack, Lists}
use Rattle.listing.proofs.Laws.Steps.{position-valid, step-next}
use Rattle.listing.proofs.Laws.Ahead.{Ahead, record-ahead, break-ahead, nothing-ahead, ahead, goes-up, step-answers}
use Rattle.format.proofs.Laws.Order.{records-length, sum-before, record-at, located}
use Rattle.format.specs.declared.Reading.TheVariants.{Short}
use Rattle.listing.specs.declared.Position.{Position}

-- n records are passed at q
record Stands (s : List ℕ) (len : ℕ → ℕ) (q : Position) (n : ℕ) : Type 0 where
  bucket : q.bucket < buckets s
  count : q.count ≤ len q.bucket
  passed : sum len q.bucket + q.count ≡ n

-- the answer after n records: the next, or none
data Turn (s : List ℕ) (len : ℕ → ℕ) (q : Position) (n : ℕ) : Type 0 where
  hands-back : n < sum len (buckets s) → HandsBack s (step s q) (get_or (all_records Short s) n 0) → Stands s len (step s q).next (suc n) → Turn s len q n
  done : sum len (buckets s) ≤ n → step s q ≡ stays 28 0 q → Turn s len q n

-- where the n-th of the list lies
abbrev Located : List ℕ → (ℕ → ℕ) → ℕ → Type 0
Located s len n = (j m : ℕ) × (j < buckets s) × (n ≡ sum len j + m) × OnChain s j m (get_or (all_records Short s) n 0)

module _ {s : List ℕ} (acc : Accepted Short s) (len : ℕ → ℕ) (h : Lengths Short s (buckets s) len) where
  -- a position of the walk is valid
  stands-valid : {q : Position} {n : ℕ} → Stands s len q n → (position_fault s q).number ≡ 0
  stands-valid {q} t =
      let few : q.count ≤ most_records s = omega (arith, t.count, sum-before len (buckets s) t.bucket, total len h) in
      same_number (position-valid s q (tables-keep-header s acc.tables-kept) t.bucket few)

  -- where a step goes on to, as many records are passed
  same-passed : {q r : Position} → GoesOn s q r → r.bucket ≤ buckets s → q.count ≤ len q.bucket
      → sum len q.bucket + q.count ≡ sum len r.bucket + r.count
  unfolding sum
  same-passed here l c = refl
  same-passed {q} {r} (on {n = n} g m o) l c =
      let own : Holds Short s q.bucket (len q.bucket) = h q.bucket (omega (arith, goes-up o)) in
      let rest = same-passed o l (omega arith) in
      omega (arith, keeps-le g own.keeps)

  next : {q : Position} {n : ℕ} → Stands s len q n → Turn s len q n
  next {q} {n} t = go (ahead s q (omega (arith, t.bucket)))
    where
      answers : RecordAnswers s q
      answers = (step-answers s q).goes (stands-valid t)

      go : Ahead s q → Turn s len q n
      go (record-ahead {r = r} g a) =
          let own = h r.bucket a.0 in
          let less : r.count < len r.bucket = keeps-le own a.1 in
          let e = same-passed g (omega (arith, a.0)) t.count in
          let at_n : get_or (all_records Short s) n 0 ≡ link s r.bucket r.count = rw (← t.passed, e) (record-at len (buckets s) h a.0 less) in
          let given = answers.gives g a in
          hands-back
          (omega (arith, t.passed, sum-before len (buckets s) a.0))
          (rw at_n (r.bucket, r.count, a.0, chain-on own less, given))
          (rw (step-next given) (record { bucket = a.0; count = less; passed = omega (arith, t.passed) }))
      go (break-ahead {r = r} g l c b) = absurd (unbroken (h r.bucket l) b)
      go (nothing-ahead {r = r} g e) = done (omega (arith, same-passed g (omega arith) t.count, t.passed, ap (sum len) e)) (answers.done g e)

  step-record : (n : ℕ) {q : Position} {m : ℕ} → Stands s len q m → m + n < sum len (buckets s) → HandsBack s (step_at n s q) (get_or (all_records Short s) (m + n) 0)
  unfolding reached
  step-record zero t l = elim (next t) [ hands-back a e u ↦ rw add-zero e | done a e ↦ absurd (omega arith) ]
  step-record (suc n) {q} {m} t l = elim (next t) [
    | hands-back a e u ↦
        let more : m + suc n ≡ suc m + n = omega arith in
        rw more (step-record n u (omega arith))
    | done a e ↦ absurd (omega arith)
  ]

  step-done : (n : ℕ) {q : Position} {m : ℕ} → Stands s len q m → sum len (buckets s) ≤ m + n → step_at n s q ≡ stays 28 0 (reached n s q)
  unfolding reached
  step-done zero {q} t l = elim (next t) [ hands-back a e u ↦ absurd (omega arith) | done a e ↦ e ]
  step-done (suc n) {q} {m} t l = elim (next t) [
    | hands-back a e u ↦ step-done n u (omega arith)
    | done a e ↦ rw (step-next e) (step-done n t (omega arith))
  ]

  begins : Stands s len start 0
  unfolding sum
  begins = record { bucket = (header-valid s (tables-keep-header s acc.tables-kept)).buckets-some; count = omega arith; passed = refl }

  pub lists-all : Lists s (all_records Short s)
  lists-all = record {
    hands-back = λ n l. rw zero-add at (step-record n begins (omega (arith, records-length len (buckets s) h)));
    done = λ n l. step-done n begins (omega (arith, records-length len (buckets s) h));
  }

  -- where the record at step m of bucket j's chain stands in the list
  counted : {j m : ℕ} → j < buckets s → m < len j → sum len j + m < length (all_records Short s)
  counted l c = omega (arith, records-length len (buckets s) h, sum-before len (buckets s) l)

  located-in : {n : ℕ} → n < length (all_records Short s) → Located s len n
  located-in {n} l = go (located len (buckets s) (rw (records-length len (buckets s) h) at l))
    where
      go : ((j m : ℕ) × (j < buckets s) × (m < len j) × (n ≡ sum len j + m)) → Located s len n
      go (j, m, a, c, e) = (j, m, a, e, rw (e, record-at len (buckets s) h a c) (chain-on (h j a) c))

  same_place : {j k i o m n : ℕ} → m ≡ sum len j + i → n ≡ sum len k + o → (j ≡ k) × (i ≡ o) → m ≡ n
  same_place p q e = p ∙ rw (e.0, e.1) (sym q)

  pub each-once : EachOnce s (all_records Short s)
  each-once = record {
    each = λ r. (
      λ t. let (j, m, a, e, c) = located-in t.1 in (j, m, a, rw t.2 at c),
      λ t. let c = (on_chain (h t.0 t.2) t.3).0 in (sum len t.0 + t.1, counted t.2 c, record-at len (buckets s) h t.2 c ∙ t.3.named),
    );
    once = λ m n l g e.
        let (j, i, a, p, c) = located-in l in
        let (k, o, b, q, d) = located-in g in
        same_place p q ((demand3 Short s).apart acc j k i o _ a b (rw e at c) d);
  }
