-- On any buffer, from any position, a walk hands back few records: those of chains that end lie
-- apart, and on a chain without an end it comes to the count that is refused.
use Prim.Native.Nat.{ℕ, zero, suc, ◌+◌, ◌-◌, ◌≤◌, ◌<◌}
use Rattle.std.specs.Prelude.{◌≡◌, ◌⊎◌, List, [], length}
use Rattle.std.proofs.Math.Path.{refl, ap}
use Rattle.std.proofs.Common.{◌∙◌, inl, inr, arith}
use Rattle.std.proofs.Math.Nat.{zero-add, suc-add}
use Rattle.std.proofs.Math.Decide.{ℕ_discrete}
use Rattle.format.specs.Chain.{most_records}
use Rattle.format.specs.Words.{link, KeepsBelow}
use Rattle.format.proofs.Laws.Below.{below_suc}
use Rattle.format.proofs.Laws.Header.{header-valid}
use Rattle.format.proofs.Laws.Links.{keeps-le}
use Rattle.format.proofs.Laws.Apart.{Apart, visits-length, apart_none, apart-length, apart-chain}
use Rattle.format.specs.declared.Reading.TheVariants.{Short}
use Rattle.listing.specs.Listing.{position, hands_back, stays, position_fault, step}
use Rattle.listing.specs.Paging.{GoesOn, here, on, HasRecord, reached, step_at, most_handed, Ends}
use Rattle.listing.proofs.Laws.Steps.{position-tells, step-refuses, step-number, step-next}
use Rattle.listing.proofs.Laws.Ahead.{Ahead, record-ahead, break-ahead, nothing-ahead, ahead, step-answers}
use Rattle.listing.specs.declared.Position.{Position}

-- a step hands back a record, or stays where it is
data Outcome (s : List ℕ) (q : Position) : Type 0 where
  still : {x p : ℕ} → 0 < x → step s q ≡ stays x p q → Outcome s q
  gives : {r : Position} → 12 ≤ length s → q.count ≤ most_records s → GoesOn s q r → HasRecord s r
      → step s q ≡ hands_back (link s r.bucket r.count) (position r.bucket (suc r.count)) → Outcome s q

outcome : (s : List ℕ) (q : Position) → Outcome s q
outcome s q = go (position_fault s q).number refl
  where
    goes : (position_fault s q).number ≡ 0 → Ahead s q → Outcome s q
    goes e (record-ahead g a) =
        let (header, bucket, count) = position-tells s q e in
        gives (header-valid s header).header-inside count g a (((step-answers s q).goes e).gives g a)
    goes e (break-ahead g l c b) = still b.some (((step-answers s q).goes e).refuses-record g l c b)
    goes e (nothing-ahead g n) = still {x = 28} (omega arith) (((step-answers s q).goes e).done g n)

    go : (m : ℕ) → (position_fault s q).number ≡ m → Outcome s q
    go zero e = goes e (ahead s q (omega (arith, position-tells s q e)))
    go (suc m) e = still {x = (position_fault s q).number} (omega arith) (step-refuses s q refl (λ z. omega arith))

-- n records were handed back before q: d on its own chain, and xs on chains before it that ended
record Handed (s : List ℕ) (q : Position) (n : ℕ) : Type 0 where
  xs : List ℕ
  d : ℕ
  apart : Apart s q.bucket xs
  keeps : KeepsBelow Short s q.bucket d
  counted : d ≤ q.count
  limited : d ≤ length s - 10
  all : n ≤ d + length xs

module _ {s : List ℕ} where
  -- the records of the chains that a step leaves behind lie apart from those of the chains before
  passes : {q r : Position} {xs : List ℕ} → GoesOn s q r → Apart s q.bucket xs → (ys : List ℕ) × Apart s r.bucket ys × (length xs ≤ length ys)
  passes {xs = xs} here a = (xs, a, omega arith)
  passes {q} {xs = xs} (on {n = n} h c g) a =
      let (ys, b, l) = passes g (apart-chain a h) in
      (ys, b, omega (arith, visits-length s q.bucket n xs))

  one_more : {q r : Position} {n : ℕ} → 12 ≤ length s → q.count ≤ most_records s → GoesOn s q r → HasRecord s r
      → Handed s q n → Handed s (position r.bucket (suc r.count)) (suc n)
  one_more long most here a t = record {
    xs = t.xs;
    d = suc t.d;
    apart = t.apart;
    keeps = λ m l. a.1 m (omega (arith, t.counted));
    counted = omega (arith, t.counted);
    limited = omega (arith, t.counted);
    all = omega (arith, t.all);
  }
  one_more {q} {r} long most (on {n = n} h c g) a t =
      let (ys, b, l) = passes g (apart-chain t.apart h) in
      let own : t.d ≤ n = keeps-le h t.keeps in
      record {
        xs = ys;
        d = 1;
        apart = b;
        keeps = λ m i. a.1 m (omega arith);
        counted = omega arith;
        limited = omega arith;
        all = omega (arith, t.all, visits-length s q.bucket n t.xs);
      }

-- each of the first n steps from q hands back a record
abbrev Hands : List ℕ → Position → ℕ → Type 0
Hands s q n = (i : ℕ) → i < n → (step_at i s q).number ≡ 0

-- those handed back before q, and by these steps, are few
handed-few : (s : List ℕ) (n : ℕ) {q : Position} {m : ℕ} → Handed s q m → Hands s q n → m + n ≤ most_handed s
unfolding reached
handed-few s zero t hands = omega (arith, t.all, t.limited, apart-length t.apart)
handed-few s (suc n) {q} {m} t hands = elim (outcome s q) [
  | still some e ↦ absurd (omega (arith, step-number e, hands 0 (omega arith)))
  | gives long most g a e ↦
      omega (arith, handed-few s n (one_more long most g a t) (λ i l. rw (reached, step-next e) at (hands (suc i) (omega arith))))
]

module _ (s : List ℕ) where
  -- a step without a record is answered again and again
  stands-still : (n : ℕ) (q : Position) → ((step s q).number ≡ 0 → ⊥) → step_at n s q ≡ step s q
  unfolding reached
  stands-still zero q none = refl
  stands-still (suc n) q none = elim (outcome s q) [
    | still some e ↦ ap (step_at n s) (step-next e) ∙ stands-still n q none
    | gives long most g a e ↦ absurd (none (step-number e))
  ]

  still_after : (m n : ℕ) (q : Position) → ((step_at m s q).number ≡ 0 → ⊥) → step_at (m + n) s q ≡ step_at m s q
  unfolding reached
  still_after zero n q none = rw zero-add (stands-still n q none)
  still_after (suc m) n q none = rw suc-add (still_after m n (step s q).next none)

  -- the first step without a record, if there is one among n
  first-without : (n : ℕ) (q : Position) → Hands s q n ⊎ ((m : ℕ) × (m < n) × ((step_at m s q).number ≡ 0 → ⊥))
  first-without zero q = inl (λ i l. absurd (omega arith))
  first-without (suc n) q = elim (first-without n q) [
    | inr t ↦ inr (t.0, omega (arith, t.1), t.2)
    | inl hands ↦ elim (ℕ_discrete (step_at n s q).number 0) [
      | yes e ↦ inl (below_suc hands e)
      | no none ↦ inr (n, omega arith, none)
    ]
  ]

  begins : (q : Position) → Handed s q 0
  begins q = record {
    xs = [];
    d = 0;
    apart = apart_none s q.bucket;
    keeps = λ m l. absurd (omega arith);
    counted = omega arith;
    limited = omega arith;
    all = omega arith;
  }

  pub ends : (q : Position) → (m : ℕ) × (m ≤ most_handed s) × Ends s q m
  ends q = elim (first-without (suc (most_handed s)) q) [
    | inl hands ↦ absurd (omega (arith, handed-few s (suc (most_handed s)) (begins q) hands))
    | inr t ↦ (
      t.0,
      omega (arith, t.1),
      record {
        no_record = t.2;
        stays = λ n l. let more : n ≡ t.0 + (n - t.0) = omega arith in rw more (still_after t.0 (n - t.0) q t.2);
      },
    )
  ]
