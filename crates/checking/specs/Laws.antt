-- What each turn of the check makes of where it stands.
use Rattle.std.specs.Prelude.{ℕ, suc, ◌+◌, ◌-◌, ◌≤◌, max, ◌≡◌, refl, List}
use Rattle.std.proofs.Math.Path.{sym, ap}
use Rattle.std.proofs.Common.{◌∙◌, arith}
use Rattle.std.proofs.Math.Numerals.{add-one}
use Rattle.std.proofs.Math.ListN.{length}
use Rattle.format.specs.Header.{bucket_field, buckets, directories}
use Rattle.format.specs.Chain.{Chain, chain_of, most_records, longest_below, opened_on}
use Rattle.format.specs.Answer.{accepted, refused}
use Rattle.format.specs.Call.{unnamed, check_buckets}
use Rattle.format.specs.declared.Found.{Found}
use Rattle.format.specs.declared.Next.{Next}
use Rattle.format.specs.declared.Next.TheVariants.{End, Broken, Record}
use Rattle.format.proofs.Laws.Numbers.{never}
use Rattle.format.proofs.Laws.Along.{opened-on, after_is, holds-chain, breaks-chain, keeps-chain}
use Rattle.format.proofs.Laws.Follow.{opens_one, chain-short}
use Rattle.format.proofs.Laws.Buckets.{bucket-ends, bucket-breaks, bucket-goes-on}
use Rattle.format.proofs.Laws.Links.{broken-number}
use Rattle.format.proofs.Laws.Course.{Course, ends, breaks, goes_on, course, ended-length}
use Rattle.format.specs.declared.Reading.TheVariants.{Short}
use Rattle.checking.specs.Buckets.{unnamed_on, Checking}

pub checking-first : {s : List ℕ} {n : ℕ} → n ≡ buckets s → Checking s n 0 0 0
unfolding longest_below
checking-first e = record { few = omega arith; longest-is = refl; rest = rw e }

-- no bucket is left
pub checking-done : {s : List ℕ} {n k o longest : ℕ} → n ≡ 0 → k ≡ buckets s → Checking s n k o longest
    → accepted (directories s) o longest ≡ check_buckets Short (buckets s) s 0 0
unfolding check_buckets
checking-done {s} {o = o} none all w = ap (accepted (directories s) o) (w.longest-is ∙ ap (longest_below Short s) all) ∙ (rw none at w.rest)

module _ {s : List ℕ} {n k o longest : ℕ} (w : Checking s (suc n) k o longest) where
  -- the chain as far as it may be followed
  abbrev whole : Chain
  whole = chain_of Short s k (most_records s - o)

  module _ {a : Found} (e : a ≡ unnamed_on (bucket_field s k) whole) where
    said : {l : Next} → whole.after ≡ l → a ≡ unnamed (bucket_field s k) l (opened_on whole)
    said q = e ∙ ap (λ l. unnamed (bucket_field s k) l (opened_on whole)) q

    total : o + opened_on whole ≡ o + a.opened
    total = ap (λ m. o + m) (same whole.after ∙ sym (ap (λ (a : Found). a.opened) e))
      where
        same : (l : Next) → opened_on whole ≡ (unnamed (bucket_field s k) l (opened_on whole)).opened
        same End = refl
        same (Broken x p) = refl
        same (Record r) = refl

    pub opened-few : o + a.opened ≤ most_records s + 1
    opened-few = omega (arith, total, chain-short Short (most_records s - o) s k (bucket_field s k), opens_one whole.after, w.few)

    pub checking-refuses : (a.number ≡ 30 → ⊥) → refused a.number a.place (o + a.opened) ≡ check_buckets Short (buckets s) s 0 0
    checking-refuses some = sym (go whole.after refl) ∙ w.rest
      where
        go : (l : Next) → whole.after ≡ l → check_buckets Short (suc n) s k o ≡ refused a.number a.place (o + a.opened)
        go End q = absurd (some (ap (λ (a : Found). a.number) (said q)))
        go (Broken x p) q = bucket-breaks Short s n k o total q ∙ ap (λ (b : Found). refused b.number b.place (o + a.opened)) (sym (said q))
        go (Record r) q = bucket-goes-on Short s n k o total q ∙ ap (λ (b : Found). refused b.number b.place (o + a.opened)) (sym (said q))

    -- it ends, and no more are opened than may be
    module _ (none : a.number ≡ 30) where
      ended : (whole.after ≡ End) × (o + a.opened ≤ most_records s)
      ended = go (course Short s k (most_records s - o))
        where
          number : {l : Next} → whole.after ≡ l → (unnamed (bucket_field s k) l (opened_on whole)).number ≡ 30
          number q = sym (ap (λ (a : Found). a.number) (said q)) ∙ none

          go : Course Short s k (most_records s - o) → (whole.after ≡ End) × (o + a.opened ≤ most_records s)
          go (ends {n = m} l h) =
              let c = holds-chain Short s k l h in
              (after_is c, omega (arith, total, opened-on s k m c, w.few))
          go (breaks l b) = absurd (never 30 (broken-number b) refl (number (after_is (breaks-chain Short s k l b))))
          go (goes_on keeps) = absurd (omega (arith, number (after_is (keeps-chain Short s k keeps))))

      -- the next bucket
      pub checking-on : Checking s n (k + 1) (o + a.opened) (max longest a.opened)
      unfolding longest_below
      checking-on = record {
        few = ended.1;
        longest-is = rw (w.longest-is, ← long, add-one k);
        rest = ap (λ j. check_buckets Short n s j (o + a.opened)) (add-one k) ∙ sym (bucket-ends Short s n k o total ended.0) ∙ w.rest;
      }
        where
          long : length (chain_of Short s k (most_records s)).records ≡ a.opened
          long = omega (arith, total, ended-length Short s k (most_records s - o) {N = most_records s} (omega arith) ended.0)
