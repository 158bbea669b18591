-- Where a key stands between the entries of an index, as a search among them finds it.
use Rattle.std.specs.Prelude.{ℕ, ◌+◌, ◌≤◌, ◌<◌, ◌≡◌, List, length, take, get_or, Result, Ok, Err}
use Rattle.std.proofs.Common.{refl, sym, ap, ◌∙◌, arith}
use Rattle.std.proofs.Math.Decide.{dec_lt}
use Rattle.std.specs.declared.cmp.Ordering.{Ordering}
use Rattle.std.specs.declared.cmp.Ordering.TheVariants.{Less, Equal, Greater}
use Rattle.std.specs.Ordering.{ordering_index}
use Rattle.std.specs.List.Sorted.{IsBinarySearchResult, IsNonDecreasingBy, IsSearchInRange}
use Rattle.std.proofs.lemmas.List.{get_or-take, length-take-le}
use Rattle.std.proofs.lemmas.List.Sorted.{IsNonDecreasingBy-from_default}
use Rattle.keys.specs.Order.{order}
use Rattle.keys.proofs.Laws.{not-less-than-itself, greater-less, less-than-a-lesser, order-equal}
use Rattle.names.specs.Index.{entry, Rising, Holds, Between, Spotted}

module _ (key : ℕ → List ℕ) (index : List ℕ) (n p : ℕ) (fits : n ≤ length index) where
  -- how the key of an entry compares with that of p
  abbrev side : ℕ → Ordering
  side e = order (key e) (key p)

  there : (k : ℕ) → k < n → get_or (take n index) k 0 ≡ get_or index k 0
  there k h = get_or-take n index k 0 h

  module _ (rising : Rising key index n) where
    -- an entry before one compares as less as that does, or less than it
    behind-less : (i j : ℕ) → i < j → j < n → (o : Ordering) → order (entry key index j) (key p) ≡ o → ordering_index (order (entry key index i) (key p)) ≤ ordering_index o
    behind-less i j l h Less e =
        let less = less-than-a-lesser _ _ _ (rising i j l h) e in
        omega (arith, ap ordering_index less)
    behind-less i j l h Equal e =
        let same : entry key index j ≡ key p = order-equal _ _ e in
        let less : order (entry key index i) (key p) ≡ Less = rw same at (rising i j l h) in
        omega (arith, ap ordering_index less)
    behind-less i j l h Greater e = most (order (entry key index i) (key p))
      where
        most : (o : Ordering) → ordering_index o ≤ 2
        most Less = omega arith
        most Equal = omega arith
        most Greater = omega arith

    sides-rise : IsNonDecreasingBy (λ e. ordering_index (side e)) (take n index)
    sides-rise = IsNonDecreasingBy-from_default (λ e. ordering_index (side e)) (take n index) 0 (λ i j l h. let g : j < n = omega (arith, length-take-le n index fits) in go i j l g (dec_lt i j))
      where
        go : (i j : ℕ) → i ≤ j → j < n → Dec (i < j) → ordering_index (side (get_or (take n index) i 0)) ≤ ordering_index (side (get_or (take n index) j 0))
        go i j l g (yes h) = rw (there i (omega arith), there j g) (behind-less i j h g _ refl)
        go i j l g (no h) = let same : i ≡ j = omega arith in rw same (omega arith)

    -- what a search among the entries finds
    pub searched : (r : Result ℕ ℕ) → IsSearchInRange r (length (take n index)) → IsBinarySearchResult side (take n index) r → Spotted key index n p r
    searched (Ok i) h equal = order-equal _ _ (rw (there i (omega (arith, length-take-le n index fits))) at (equal 0))
    searched (Err i) h parted =
        let sides = parted sides-rise in
        record {
          behind = λ k l. rw (there k (omega (arith, h, length-take-le n index fits))) at (sides.0 k 0 (omega arith) l);
          ahead = λ k l g. greater-less _ _ (rw (there k g) at (sides.1 k 0 l (omega (arith, length-take-le n index fits))));
        }

-- how it comes to stand there by halving: at first between none and all, and each comparison with an
-- entry in the middle settles all on one side of it
module _ (key : ℕ → List ℕ) (index : List ℕ) (n : ℕ) (t : List ℕ) where
  pub between-all : Between key index n t 0 n
  between-all = record { behind = λ k h. absurd (omega arith); ahead = λ k h g. absurd (omega arith) }

  -- entry m compares with t as o says
  module _ (rising : Rising key index n) {low high : ℕ} (between : Between key index n t low high) (m : ℕ) (inside : m < n) {o : Ordering}
      (is : o ≡ order (entry key index m) t) where
    pub after-middle : o ≡ Less → Between key index n t (m + 1) high
    after-middle less = record { behind = λ k h. go k h (dec_lt k m); ahead = between.ahead }
      where
        e : order (entry key index m) t ≡ Less
        e = sym is ∙ less

        go : (k : ℕ) → k < m + 1 → Dec (k < m) → order (entry key index k) t ≡ Less
        go k h (yes l) = less-than-a-lesser _ _ _ (rising k m l inside) e
        go k h (no l) = let same : k ≡ m = omega arith in rw same e

    pub before-middle : o ≡ Greater → Between key index n t low m
    before-middle greater = record { behind = between.behind; ahead = λ k h g. go k h g (dec_lt m k) }
      where
        back : order t (entry key index m) ≡ Less
        back = greater-less _ _ (sym is ∙ greater)

        go : (k : ℕ) → m ≤ k → k < n → Dec (m < k) → order t (entry key index k) ≡ Less
        go k h g (yes l) = less-than-a-lesser _ _ _ back (rising m k l g)
        go k h g (no l) = let same : k ≡ m = omega arith in rw same back

-- a key that stands between two neighbours is that of no entry
pub not-held : {key : ℕ → List ℕ} {index : List ℕ} {n i : ℕ} {t : List ℕ} → Between key index n t i i → Holds key index n t → ⊥
not-held {i = i} {t} spot (k, h, e) = go (dec_lt k i)
  where
    go : Dec (k < i) → ⊥
    go (yes l) = not-less-than-itself t (rw e at (spot.behind k l))
    go (no l) = not-less-than-itself t (rw e at (spot.ahead k (omega arith) h))
