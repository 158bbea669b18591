-- The check goes through the chains that hold, and answers at the first that does not.
use Prim.Native.Nat.{ℕ, zero, suc, ◌+◌, ◌-◌, ◌≤◌, ◌<◌}
use Rattle.std.specs.Prelude.{◌≡◌, refl, List, [], length}
use Rattle.std.proofs.Math.Path.{ap}
use Rattle.std.proofs.Common.{◌∙◌}
use Rattle.std.proofs.Math.Decide.{dec_lt}
use native.Mathlib.Omega.{arith}
use Rattle.format.specs.Header.{bucket_field, buckets, directories, tables_fault}
use Rattle.format.specs.Chain.{chain_of, most_records, itself, opened_on}
use Rattle.format.specs.Answer.{accepted, refused}
use Rattle.format.specs.Call.{check, check_buckets}
use Rattle.format.specs.Words.{KeepsAt, KeepsBelow, Holds, Breaks, TablesKept, HeldBefore, Lengths, sum, greatest}
use Rattle.format.specs.declared.Fault.{Fault}
use Rattle.format.specs.declared.Next.TheVariants.{End, Broken, Record}
use Rattle.format.proofs.Laws.Faults.{kept-takes, broken-takes}
use Rattle.format.proofs.Laws.Along.{opened-on, after_is, holds-chain, breaks-chain, keeps-chain}
use Rattle.format.proofs.Laws.Links.{once, never-breaks}
use Rattle.format.specs.Places.{Repeat}
use Rattle.format.proofs.Laws.Apart.{Apart, visits, visits-length, apart_none, apart-length, apart-chain, apart-few}
use Rattle.format.proofs.Laws.Order.{longest-length}
use Rattle.format.specs.declared.Reading.{Reading}

-- one bucket of the check, by what comes after the records of its chain; `opened` are opened then
module _ (ρ : Reading) (s : List ℕ) (n k o : ℕ) {opened : ℕ} (count : o + opened_on (chain_of ρ s k (most_records s - o)) ≡ opened) where
  pub bucket-ends : (chain_of ρ s k (most_records s - o)).after ≡ End → check_buckets ρ (suc n) s k o ≡ check_buckets ρ n s (suc k) opened
  unfolding check_buckets
  bucket-ends e = rw (check_buckets, e) (ap (check_buckets ρ n s (suc k)) count)

  pub bucket-breaks : {x p : ℕ} → (chain_of ρ s k (most_records s - o)).after ≡ Broken x p → check_buckets ρ (suc n) s k o ≡ refused x p opened
  unfolding check_buckets
  bucket-breaks {x} {p} e = rw (check_buckets, e) (ap (refused x p) count)

  pub bucket-goes-on : {r : ℕ} → (chain_of ρ s k (most_records s - o)).after ≡ Record r → check_buckets ρ (suc n) s k o ≡ refused 12 (bucket_field s k) opened
  unfolding check_buckets
  bucket-goes-on e = rw (check_buckets, e) (ap (refused 12 (bucket_field s k)) count)

pub check-goes-on : (ρ : Reading) (s : List ℕ) → TablesKept s → check ρ s ≡ check_buckets ρ (buckets s) s 0 0
unfolding check
check-goes-on ρ s e = kept-takes (tables_fault s) _ _ e

pub check-refuses : (ρ : Reading) (s : List ℕ) {v : Fault} → tables_fault s ≡ v → (v.number ≡ 0 → ⊥) → check ρ s ≡ refused v.number v.place 0
unfolding check
check-refuses ρ s {v} e some = rw e (broken-takes v _ _ some)

-- chains that hold have lengths
module _ {ρ : Reading} {s : List ℕ} {k : ℕ} (held : HeldBefore ρ s k) where
  length_of : (j : ℕ) → Dec (j < k) → ℕ
  length_of j (yes l) = (held.lower j l).0
  length_of j (no a) = 0

  pub lengths : (len : ℕ → ℕ) × Lengths ρ s k len
  unfolding length_of
  lengths = (λ j. length_of j (dec_lt j k), λ j. go j (dec_lt j k))
    where
      go : (j : ℕ) (d : Dec (j < k)) → j < k → Holds ρ s j (length_of j d)
      go j (yes l) g = (held.lower j l).1
      go j (no a) g = absurd (a g)

module _ {ρ : Reading} {s : List ℕ} (len : ℕ → ℕ) where
  -- the records of the first k chains lie apart
  pub chains : (k : ℕ) → Lengths ρ s k len → (xs : List ℕ) × Apart s k xs × (length xs ≡ sum len k)
  unfolding sum
  chains zero h = ([], apart_none s 0, refl)
  chains (suc k) h =
      let (xs, a, e) = chains k (λ j l. h j (omega arith)) in
      (visits s k (len k) xs, apart-chain a (h k (omega arith)), omega (arith, visits-length s k (len k) xs))

  -- with n more that keep the rules and do not repeat they are few
  pub few : {k n : ℕ} → Lengths ρ s k len → KeepsBelow ρ s k n → (Repeat s k n → ⊥) → sum len k + n ≤ most_records s
  few {k} {n} h keeps never =
      let (xs, a, e) = chains k h in
      omega (arith, apart-few a keeps never)

  pub total : {k : ℕ} → Lengths ρ s k len → sum len k ≤ most_records s
  total {k} h = let (xs, a, e) = chains k h in omega (arith, apart-length a)

  check_along : (k m : ℕ) {N : ℕ} → N ≡ k + m → Lengths ρ s k len → check_buckets ρ N s 0 0 ≡ check_buckets ρ m s k (sum len k)
  unfolding sum
  check_along zero m {N} e h = let a : N ≡ m = omega arith in rw a
  check_along (suc k) m e h =
      let g : Holds ρ s k (len k) = h k (omega arith) in
      let below : Lengths ρ s k len = λ j l. h j (omega arith) in
      let l : len k ≤ most_records s - sum len k = omega (arith, few below g.keeps (once g)) in
      let c = holds-chain ρ s k l g in
      check_along k (suc m) (omega arith) below ∙ bucket-ends ρ s m k (sum len k) (omega (arith, opened-on s k _ c)) (after_is c)

  pub answers-accepted : TablesKept s → Lengths ρ s (buckets s) len
      → check ρ s ≡ accepted (directories s) (sum len (buckets s)) (greatest len (buckets s))
  unfolding check_buckets
  answers-accepted tables-kept h =
      check-goes-on ρ s tables-kept
      ∙ check_along (buckets s) 0 {N = buckets s} (omega arith) h
      ∙ ap (accepted (directories s) (sum len (buckets s))) (longest-length len (buckets s) h)

  -- the check comes to bucket k
  check-to : {k : ℕ} → k < buckets s → TablesKept s → Lengths ρ s k len → (m : ℕ) × (check ρ s ≡ check_buckets ρ (suc m) s k (sum len k))
  check-to {k} l tables-kept h = (buckets s - suc k, check-goes-on ρ s tables-kept ∙ check_along k (suc (buckets s - suc k)) (omega arith) h)

  pub answers-broken : {k n x p : ℕ} → k < buckets s → TablesKept s → Lengths ρ s k len → Breaks ρ s k n x p → check ρ s ≡ refused x p (sum len k + n + itself x)
  answers-broken {k} {n} l tables-kept h b =
      let (m, e) = check-to l tables-kept h in
      let g : n ≤ most_records s - sum len k = omega (arith, few h b.keeps (λ c. never-breaks c b)) in
      let c = breaks-chain ρ s k g b in
      e ∙ bucket-breaks ρ s m k (sum len k) (omega (arith, opened-on s k _ c)) (after_is c)

  pub answers-loop : {k : ℕ} → 12 ≤ length s → k < buckets s → TablesKept s → Lengths ρ s k len → ((n : ℕ) → KeepsAt ρ s k n)
      → check ρ s ≡ refused 12 (bucket_field s k) (length s - 10)
  answers-loop {k} long l tables-kept h all =
      let (m, e) = check-to l tables-kept h in
      let c = keeps-chain ρ s k {N = most_records s - sum len k} (λ n g. all n) in
      e ∙ bucket-goes-on ρ s m k (sum len k) (omega (arith, opened-on s k _ c, total h)) (after_is c)
