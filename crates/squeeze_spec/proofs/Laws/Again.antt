-- A cache that lays out a good catalogue by rising record offsets, and whose icons' buckets rise,
-- holds just that catalogue in the check's order.
use Prim.Native.Nat.{ℕ, zero, suc, ◌+◌, ◌-◌, ◌≤◌, ◌<◌}
use Rattle.std.specs.Prelude.{◌≡◌, refl, ◌⊎◌, List, map, Bool, true, false, eqb, if◌then◌else◌}
use Rattle.std.proofs.Math.Path.{sym, ap}
use Rattle.std.proofs.Common.{◌∙◌}
use Rattle.std.proofs.Math.Logic.{inl, inr}
use Rattle.std.proofs.Math.Decide.{ℕ_discrete}
use native.Mathlib.Omega.{arith}
use Rattle.std.proofs.Math.ListN.{length}
use Rattle.format.specs.Layout.{end_value}
use Rattle.format.specs.Number.{be}
use Rattle.format.specs.Header.{buckets, directories, path_of}
use Rattle.format.specs.Record.{name_of}
use Rattle.format.specs.Chain.{all_records, nth_record, nth_name}
use Rattle.format.specs.Words.{link, Accepted}
use Rattle.format.specs.declared.Reading.TheVariants.{Short}
use Rattle.catalogue.specs.Catalogue.{Catalogue, Good, catalogue_is}
use Rattle.catalogue.specs.LaidOut.{nth_icon, icon_bucket, first_in, Places, Lays}
use Rattle.catalogue.specs.Listed.{firsts, offset_order, icon_of, listed}
use Rattle.catalogue.proofs.Laws.Laid.{laid}
use Rattle.catalogue.proofs.Laws.Kept.{name-stands}
use Rattle.catalogue.proofs.Laws.Chains.{IconAtStep, ChainOf, chain-of}
use Rattle.catalogue.proofs.Laws.Serves.{one-icon, lays-accepted}
use Rattle.catalogue.proofs.Laws.Rising.{Rises, has_some, some-has, firsts-are, rising-are}
use Rattle.catalogue.proofs.Laws.Listed.{listed_back}
use Rattle.squeeze_spec.specs.Squeezed.{kept_records, contents}
use Rattle.squeeze_spec.proofs.Laws.Uses.{new-first}
use Rattle.squeeze_spec.proofs.Laws.Picked.{all-picked}
use Rattle.format.proofs.Laws.InOrder.{in_order, order-of, chain_length_lem, chain-lengths}
use Rattle.format.specs.Places.{chain_length}
use Rattle.squeeze_spec.proofs.Laws.Contents.{BucketsRise}

-- the first of bucket k from the i-th icon on is the end value or the record of such an icon
first-from : (bucket record-at : ℕ → ℕ) (k i d : ℕ)
    → (first_in bucket record-at k i d ≡ end_value) ⊎ ((j : ℕ) × (i ≤ j) × (j < i + d) × (first_in bucket record-at k i d ≡ record-at j))
unfolding first_in
first-from bucket record-at k i zero = inl refl
first-from bucket record-at k i (suc d) = go (eqb (bucket i) k) (first-from bucket record-at k (suc i) d)
  where
    later : ℕ
    later = first_in bucket record-at k (suc i) d

    go : (b : Bool) → (later ≡ end_value) ⊎ ((j : ℕ) × (suc i ≤ j) × (j < suc i + d) × (later ≡ record-at j))
        → ((if b then record-at i else later) ≡ end_value)
        ⊎ ((j : ℕ) × (i ≤ j) × (j < i + suc d) × ((if b then record-at i else later) ≡ record-at j))
    go true h = inr (i, omega arith, omega arith, refl)
    go false (inl e) = inl e
    go false (inr (j, l, g, e)) = inr (j, omega arith, omega arith, e)

module _ {t : List ℕ} {c : Catalogue} {b : ℕ} {q : Places} (good : Good c) (lays : Lays t c b q) (some : 0 < b)
    (rises : Rises q.record-at (length c.icons)) (risen : BucketsRise c b) where
  acc : Accepted Short t
  acc = lays-accepted good lays some

  chain : {k : ℕ} → k < buckets t → ChainOf t c b q k
  chain l = chain-of good lays some (omega (arith, (laid good lays).buckets-are))

  -- the icon at a step of a chain
  icon-at : {k m : ℕ} → k < buckets t → m < chain_length t k → (i : ℕ) × IconAtStep t c b q k m i
  icon-at {k} {m} l g = (chain l).icon-at m (omega (arith, chain_length_lem (chain l).holds))

  -- on a chain the records rise
  step-rises : {k m : ℕ} → k < buckets t → suc m < chain_length t k → link t k m < link t k (suc m)
  unfolding link
  step-rises {k} {m} l g =
      let (i, a) = icon-at {k = k} {m = m} l (omega arith) in
      let next = ap (be 4 t) a.named ∙ (laid good lays).chain-field i a.below in
      elim (first-from (icon_bucket c b) q.record-at (icon_bucket c b i) (suc i) (length c.icons - suc i)) [
        | inl e ↦ absurd (((chain-lengths acc k l).keeps (suc m) g).0 (next ∙ e))
        | inr (j, o, h, e) ↦
            let below : j < length c.icons = omega (arith, a.below) in
            omega (arith, next, e, a.named, rises i j o below)
      ]

  steps-rise : {k m : ℕ} (p : ℕ) → k < buckets t → m < p → p < chain_length t k → link t k m < link t k p
  steps-rise zero l o g = absurd (omega arith)
  steps-rise {k} {m} (suc p) l o g = elim (ℕ_discrete m p) [
    | yes e ↦ rw e (step-rises l g)
    | no a ↦ let before = steps-rise {k = k} {m = m} p l (omega arith) (omega arith) in omega (arith, step-rises l g)
  ]

  -- and from chain to chain
  records-rise : Rises (nth_record t) (length (all_records Short t))
  records-rise i j o g =
      let before : i < length (all_records Short t) = omega arith in
      let (k, m, a) = in_order acc before in
      let (h, p, d) = in_order acc g in
      elim (order-of acc a d o) [
        | inl l ↦
            let (x, y) = icon-at a.bucket a.step in
            let (z, w) = icon-at d.bucket d.step in
            let not_same : x ≡ z → ⊥ = λ e. omega (arith, y.home, w.home, ap (icon_bucket c b) e) in
            let not_after : z < x → ⊥ = λ e. omega (arith, y.home, w.home, risen z x e y.below) in
            let apart : x < z = omega arith in
            omega (arith, a.named, d.named, y.named, w.named, rises x z apart w.below)
        | inr (e, l) ↦
            let other : nth_record t j ≡ link t k p = d.named ∙ ap (λ n. link t n p) (sym e) in
            let within : p < chain_length t k = rw (← e) at d.step in
            omega (arith, a.named, steps-rise p a.bucket l within)
      ]

  -- so the check's order is that of rising offsets
  order_is : offset_order t ≡ all_records Short t
  order_is =
      rising-are (all_records Short t) (nth_record t) (length (all_records Short t)) records-rise
      (λ i l. some-has (all_records Short t) (nth_record t i) i l refl)
      (λ r e. let (n, l, g) = has_some (all_records Short t) r e in (n, l, sym g))
      (length t)
      (λ i l. let (k, m, a) = in_order acc l in omega (arith, a.keeps.inside))
      ∙ firsts-are (nth_record t) (all_records Short t) 0 (λ i l. refl)

  -- no name stands twice in it, so all records stay
  pub all_stay : kept_records t ≡ all_records Short t
  unfolding kept_records
  all_stay =
      all-picked (nth_name t) (nth_record t) (length (all_records Short t))
      (λ j g. new-first (nth_name t) j (λ i o e.
      let before : i < length (all_records Short t) = omega arith in
      let (k, m, a) = in_order acc before in
      let (h, p, d) = in_order acc g in
      let (x, y) = icon-at a.bucket a.step in
      let (z, w) = icon-at d.bucket d.step in
      let first : nth_record t i ≡ q.record-at x = a.named ∙ y.named in
      let second : nth_record t j ≡ q.record-at z = d.named ∙ w.named in
      let names : (nth_icon c x).name ≡ (nth_icon c z).name =
      sym (ap (name_of t) first ∙ name-stands good lays some y.below) ∙ e ∙ ap (name_of t) second ∙ name-stands good lays some w.below in
      let one : x ≡ z = one-icon c good.none-twice y.below w.below names in
      omega (arith, records-rise i j o g, ap q.record-at one)))
      ∙ firsts-are (nth_record t) (all_records Short t) 0 (λ i l. refl)

  pub contents-back : contents t ≡ c
  unfolding contents listed
  contents-back =
      (λ j. catalogue_is (firsts (path_of t) (directories t)) (map (icon_of t) ((all_stay ∙ sym order_is) j)))
      ∙ listed_back good lays some rises
