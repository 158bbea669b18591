-- The records of chains that hold are few: they lie apart.
use Prim.Native.Nat.{ℕ, zero, suc, ◌+◌, ◌≤◌, ◌<◌}
use Rattle.std.specs.Prelude.{◌≡◌, ◌⊎◌, length}
use Rattle.std.proofs.Math.Logic.{inl, inr}
use mathlib.Core.List.Memᴰ
use mathlib.Core.List.{List, [], ◌∷◌, Memᴰ}
use Rattle.std.proofs.Common.{arith}
use Rattle.format.specs.Record.{name_of, bucket_of}
use Rattle.format.specs.Chain.{most_records}
use Rattle.format.specs.Words.{link, Inside, Keeps, KeepsBelow, Holds}
use Rattle.format.proofs.Laws.Pigeonhole.{Distinct, member, pigeonhole}
use Rattle.format.proofs.Laws.Links.{once, keeps-bucket}
use Rattle.format.specs.Places.{Repeat}
use Rattle.format.specs.declared.Reading.{Reading}

-- the records of the first n steps of the chain of bucket k, put before xs
unfoldable pub visits : List ℕ → ℕ → ℕ → List ℕ → List ℕ
visits s k zero xs = xs
visits s k (suc n) xs = link s k n ∷ visits s k n xs

pub visits-length : (s : List ℕ) (k n : ℕ) (xs : List ℕ) → length (visits s k n xs) ≡ length xs + n
unfolding visits
visits-length s k zero xs = omega arith
visits-length s k (suc n) xs = omega (arith, visits-length s k n xs)

pub visits-cases : (s : List ℕ) (k n : ℕ) (xs : List ℕ) {y : ℕ} → Memᴰ y (visits s k n xs)
    → ((m : ℕ) × (m < n) × (y ≡ link s k m)) ⊎ Memᴰ y xs
unfolding visits
visits-cases s k zero xs h = inr h
visits-cases s k (suc n) xs h = elim (Memᴰ.cases_cons h) [
  | inl e ↦ inl (n, omega arith, e)
  | inr i ↦ elim (visits-cases s k n xs i) [ inl t ↦ inl (t.0, omega (arith, t.1), t.2) | inr j ↦ inr j ]
]

-- records that lie inside, none twice, each with a name of a bucket below k
pub record Apart (s : List ℕ) (k : ℕ) (xs : List ℕ) : Type 0 where
  pub distinct : Distinct xs
  pub inside : (y : ℕ) → Memᴰ y xs → Inside s y
  pub lower : (y : ℕ) → Memᴰ y xs → bucket_of s (name_of s y) < k

pub apart-length : {s : List ℕ} {k : ℕ} {xs : List ℕ} → Apart s k xs → length xs ≤ most_records s
apart-length {s} {xs = xs} a = pigeonhole (most_records s) xs a.distinct (λ y h. omega (arith, a.inside y h))

pub apart_none : (s : List ℕ) (k : ℕ) → Apart s k []
apart_none s k = record { distinct = tt; inside = λ y h. absurd (Memᴰ.not-nil h); lower = λ y h. absurd (Memᴰ.not-nil h) }

-- one more record, of bucket k
apart_cons : {ρ : Reading} {s : List ℕ} {k r : ℕ} {xs : List ℕ} → Keeps ρ s k r → (Memᴰ r xs → ⊥) → Apart s (suc k) xs → Apart s (suc k) (r ∷ xs)
apart_cons keeps new a = record {
  distinct = (new, a.distinct);
  inside = λ y h. elim (Memᴰ.cases_cons h) [ inl e ↦ rw e keeps.inside | inr i ↦ a.inside y i ];
  lower = λ y h. elim (Memᴰ.cases_cons h) [ inl e ↦ rw e (omega (arith, keeps-bucket keeps)) | inr i ↦ a.lower y i ];
}

module _ {ρ : Reading} {s : List ℕ} {k : ℕ} {xs : List ℕ} (a : Apart s k xs) where
  -- n records that keep the rules of the chain of bucket k repeat, or lie apart from xs and from
  -- one another
  pub apart-visits : (n : ℕ) → KeepsBelow ρ s k n → Repeat s k n ⊎ Apart s (suc k) (visits s k n xs)
  unfolding visits
  apart-visits zero keeps = inr (record { distinct = a.distinct; inside = a.inside; lower = λ y h. omega (arith, a.lower y h) })
  apart-visits (suc n) keeps =
      let here : Keeps ρ s k (link s k n) = (keeps n (omega arith)).1 in
      elim (apart-visits n (λ m l. keeps m (omega arith))) [
        | inl c ↦ inl (record { first = c.first; second = c.second; order = c.order; below = omega arith; same = c.same })
        | inr b ↦ elim (member (link s k n) (visits s k n xs)) [
          | no new ↦ inr (apart_cons here new b)
          | yes old ↦ elim (visits-cases s k n xs old) [
            | inl t ↦ inl (record { first = t.0; second = n; order = t.1; below = omega arith; same = t.2 })
            | inr i ↦ absurd (omega (arith, a.lower _ i, keeps-bucket here))
          ]
        ]
      ]

  pub apart-chain : {n : ℕ} → Holds ρ s k n → Apart s (suc k) (visits s k n xs)
  apart-chain {n} h = elim (apart-visits n h.keeps) [ inl c ↦ absurd (once h c) | inr b ↦ b ]

  -- these and records of the chain of bucket k that keep the rules and do not repeat are few
  pub apart-few : {n : ℕ} → KeepsBelow ρ s k n → (Repeat s k n → ⊥) → length xs + n ≤ most_records s
  apart-few {n} keeps never = elim (apart-visits n keeps) [
    | inl c ↦ absurd (never c)
    | inr b ↦ omega (arith, apart-length b, visits-length s k n xs)
  ]

  -- with more than there can be, it repeats
  pub repeats : {n : ℕ} → most_records s < length xs + n → KeepsBelow ρ s k n → Repeat s k n
  repeats {n} more keeps = elim (apart-visits n keeps) [
    | inl c ↦ c
    | inr b ↦ absurd (omega (arith, apart-length b, visits-length s k n xs))
  ]

-- the records of one chain that holds
pub holds-few : {ρ : Reading} {s : List ℕ} {k n : ℕ} → Holds ρ s k n → n ≤ most_records s
holds-few {s} {k} h = omega (arith, apart-few (apart_none s k) h.keeps (once h))
