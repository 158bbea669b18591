-- The search for a name among the records of a chain: what it answers, and one of four ways is
-- always at hand.
use Prim.Native.Nat.{ℕ, zero, suc, ◌+◌, ◌-◌, ◌≤◌, ◌<◌}
use Rattle.std.specs.Prelude.{◌≡◌, ◌⊎◌}
use Rattle.std.proofs.Math.Path.{refl}
use Rattle.std.proofs.Common.{sym, ap, ◌∙◌, inl, inr, add-zero, arith}
use mathlib.Core.List.{List, [], ◌∷◌, ◌++◌, append_assoc, append-nil}
use Rattle.std.proofs.Math.Numerals.{add-one}
use Rattle.format.specs.Header.{bucket_field}
use Rattle.format.specs.Record.{name_of}
use Rattle.format.specs.Chain.{chained, chain, chain_of, most_records, itself, opens}
use Rattle.format.specs.Answer.{found, unfound}
use Rattle.format.specs.Call.{unnamed, first_named, search_bucket}
use Rattle.format.specs.Words.{link, link_field, KeepsAt, KeepsBelow, NoneBelow, Holds, Breaks}
use Rattle.format.specs.declared.Found.{Found}
use Rattle.format.specs.declared.Next.{Next}
use Rattle.format.proofs.Laws.Below.{below_suc}
use Rattle.format.proofs.Laws.Names.{equal-same, unequal-other, equal_or_not}
use Rattle.format.proofs.Laws.Along.{links, links-length, chain-along, holds-chain, breaks-chain, keeps-chain}
use Rattle.format.proofs.Laws.Links.{earlier, once, never-breaks}
use Rattle.format.specs.Places.{Repeat}
use Rattle.format.proofs.Laws.Apart.{apart_none, apart-few}
use Rattle.format.proofs.Laws.Course.{ends, breaks, goes_on, course}
use Rattle.format.specs.declared.Reading.TheVariants.{Short}

module _ (s name : List ℕ) where
  -- one record: it bears the name, or it does not
  module _ (r : ℕ) (rs : List ℕ) (o : ℕ) (a : Found) where
    pub search-met : name_of s r ≡ name → first_named s name (r ∷ rs) o a ≡ found r (o + 1)
    unfolding first_named
    search-met e = rw (e, equal-same name)

    pub search-next : (name_of s r ≡ name → ⊥) → first_named s name (r ∷ rs) o a ≡ first_named s name rs (o + 1) a
    unfolding first_named
    search-next h = rw (unequal-other _ _ h)

module _ (s name : List ℕ) (k : ℕ) where
  -- the first n records of the chain, none of which bears it
  search-past : (n : ℕ) (rs : List ℕ) (a : Found) → NoneBelow s name k n → first_named s name (links s k n ++ rs) 0 a ≡ first_named s name rs n a
  unfolding links
  search-past zero rs a none = refl
  search-past (suc n) rs a none =
      rw append_assoc (search-past n (link s k n ∷ rs) a (λ m h. none m (omega arith)))
      ∙ search-next s name (link s k n) rs n a (none n (omega arith))
      ∙ rw add-one

  pub search-unnamed : (n : ℕ) {l : Next} → chain_of Short s k (most_records s) ≡ chained (links s k n) l → NoneBelow s name k n
      → search_bucket s name k ≡ unnamed (bucket_field s k) l (n + opens l)
  unfolding search_bucket first_named
  search-unnamed n e none = rw (search_bucket, e, links-length s k n, ← (append-nil (links s k n))) (search-past n [] _ none)

  -- records that keep the rules and do not repeat are no more than there can be
  pub within : {n : ℕ} → KeepsBelow Short s k n → (Repeat s k n → ⊥) → n ≤ most_records s
  within keeps never = omega (arith, apart-few (apart_none s k) keeps never)

  -- a record that bears a name that none before it bears is no repeat
  first-met : {n : ℕ} → NoneBelow s name k n → name_of s (link s k n) ≡ name → Repeat s k (suc n) → ⊥
  first-met {n} none same c = let (i, l, e) = earlier c n in none i (omega (arith, c.below)) (sym (ap (name_of s) e) ∙ same)

  pub search-absent : (n : ℕ) → Holds Short s k n → NoneBelow s name k n → search_bucket s name k ≡ unfound 30 0 n
  search-absent n h none = search-unnamed n (holds-chain Short s k (within h.keeps (once h)) h) none ∙ rw add-zero

  pub search-finds : (n : ℕ) → KeepsBelow Short s k n → NoneBelow s name k n → KeepsAt Short s k n → name_of s (link s k n) ≡ name
      → search_bucket s name k ≡ found (link s k n) (n + 1)
  unfolding search_bucket links
  search-finds n keeps none here same =
      let more = below_suc keeps here in
      let l : suc n ≤ most_records s = within more (first-met none same) in
      let rest = (chain Short (most_records s - suc n) s k (link_field s k (suc n))).records in
      rw (search_bucket, chain-along Short s k (suc n) (most_records s - suc n) {N = most_records s} (omega arith) more, append_assoc)
      (search-past n (link s k n ∷ rest) _ none ∙ search-met s name (link s k n) rest n _ same)

  pub search-breaks : (n x p : ℕ) → Breaks Short s k n x p → NoneBelow s name k n → search_bucket s name k ≡ unfound x p (n + itself x)
  search-breaks n x p b none = search-unnamed n (breaks-chain Short s k (within b.keeps (λ c. never-breaks c b)) b) none

  pub search-lasts : KeepsBelow Short s k (suc (most_records s)) → NoneBelow s name k (most_records s)
      → search_bucket s name k ≡ unfound 12 (bucket_field s k) (most_records s + 1)
  search-lasts keeps none = search-unnamed (most_records s) (keeps-chain Short s k keeps) none

  -- the first of n records that bears it, if one does
  first-named : (n : ℕ) → NoneBelow s name k n ⊎ ((m : ℕ) × (m < n) × NoneBelow s name k m × (name_of s (link s k m) ≡ name))
  first-named zero = inl (λ m l. absurd (omega arith))
  first-named (suc n) = elim (first-named n) [
    | inr t ↦ inr (t.0, omega (arith, t.1), t.2, t.3)
    | inl none ↦ elim (equal_or_not (name_of s (link s k n)) name) [
      | yes same ↦ inr (n, omega arith, none, same)
      | no other ↦ inl (below_suc none other)
    ]
  ]

pub data Sought (s name : List ℕ) (k : ℕ) : Type 0 where
  absent : {n : ℕ} → Holds Short s k n → NoneBelow s name k n → Sought s name k
  met : {n : ℕ} → KeepsBelow Short s k n → NoneBelow s name k n → KeepsAt Short s k n → name_of s (link s k n) ≡ name → Sought s name k
  broken : {n x p : ℕ} → Breaks Short s k n x p → NoneBelow s name k n → Sought s name k
  lasts : KeepsBelow Short s k (suc (most_records s)) → NoneBelow s name k (most_records s) → Sought s name k

module _ (s name : List ℕ) (k : ℕ) where
  -- by the first of n records that bears the name, and without one
  seek : (n : ℕ) → KeepsBelow Short s k n → (NoneBelow s name k n → Sought s name k) → Sought s name k
  seek n keeps unmet = elim (first-named s name k n) [
    | inl none ↦ unmet none
    | inr t ↦ met {n = t.0} (λ i l. keeps i (omega (arith, t.1))) t.2 (keeps t.0 t.1) t.3
  ]

  pub sought : Sought s name k
  sought = elim (course Short s k (most_records s)) [
    | ends {n = n} l h ↦ seek n h.keeps (absent h)
    | breaks {n = n} l b ↦ seek n b.keeps (broken b)
    | goes_on keeps ↦ seek (most_records s) (λ i l. keeps i (omega arith)) (lasts keeps)
  ]
