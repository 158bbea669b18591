-- The records that stay of an accepted cache: they keep the rules, no two have one name, their
-- buckets rise, and a lookup meets only such.
use Rattle.std.specs.Prelude.{ℕ, ◌+◌, ◌≤◌, ◌<◌, ◌≡◌, List, [], map, length, get_or}
use Rattle.std.proofs.Common.{sym, ap, ◌∙◌, arith}
use Rattle.std.proofs.lemmas.List.{length-map}
use Rattle.format.specs.Header.{buckets}
use Rattle.format.specs.Record.{name_of, bucket_of}
use Rattle.format.specs.Chain.{all_records, nth_record, nth_name}
use Rattle.format.specs.Words.{link, Keeps, Accepted, NoneBelow, sum}
use Rattle.format.specs.declared.Reading.TheVariants.{Short}
use Rattle.catalogue.specs.Catalogue.{NoneTwice}
use Rattle.catalogue.proofs.Laws.Names.{map_at}
use Rattle.squeeze_spec.specs.Squeezed.{kept_records}
use Rattle.squeeze_spec.proofs.Laws.Uses.{first-new}
use Rattle.squeeze_spec.proofs.Laws.Picked.{Picked, picked}
use Rattle.format.proofs.Laws.InOrder.{in_order, step-in-order, below_length, buckets-rise}
use Rattle.format.specs.Places.{chain_length}
use Rattle.squeeze_spec.proofs.Laws.Order.{first-on-chain}

module _ {s : List ℕ} (acc : Accepted Short s) where
  pub kept-picked : Picked (nth_name s) (nth_record s) (length (all_records Short s)) (kept_records s)
  unfolding kept_records
  kept-picked = picked (nth_name s) (nth_record s) (length (all_records Short s))

  -- the j-th that stays
  abbrev kept : ℕ → ℕ
  kept j = get_or (kept_records s) j 0

  pub kept-on-chain : (j : ℕ) → j < length (kept_records s) → (k m : ℕ) × (k < buckets s) × (m < chain_length s k) × (kept j ≡ link s k m) × Keeps Short s k (kept j)
  kept-on-chain j l =
      let (i, h) = kept-picked.one j l in
      let (k, m, a) = in_order acc h.below in
      (k, m, a.bucket, a.step, h.gives ∙ a.named, rw h.gives a.keeps)

  pub kept-apart : NoneTwice (map (name_of s) (kept_records s))
  kept-apart j k l g e =
      let size = length-map (kept_records s) (name_of s) in
      let second : k < length (kept_records s) = omega arith in
      let first : j < length (kept_records s) = omega arith in
      let (i, h, o, a, d) = kept-picked.two j k l second in
      first-new (nth_name s) h d.first i o
      (sym (ap (name_of s) a.gives) ∙ sym (map_at (name_of s) (kept_records s) 0 [] j first) ∙ e
      ∙ map_at (name_of s) (kept_records s) 0 [] k second ∙ ap (name_of s) d.gives)

  pub kept-rise : (j k : ℕ) → j < k → k < length (kept_records s) → bucket_of s (name_of s (kept j)) ≤ bucket_of s (name_of s (kept k))
  kept-rise j k l g =
      let (i, h, o, a, d) = kept-picked.two j k l g in
      rw (a.gives, d.gives) (buckets-rise acc o d.below)

  -- the first record on its chain that bears its name stays
  pub met-kept : {k m : ℕ} → k < buckets s → m < chain_length s k → NoneBelow s (name_of s (link s k m)) k m
      → (j : ℕ) × (j < length (kept_records s)) × (kept j ≡ link s k m)
  met-kept {k} {m} l g none =
      let a = step-in-order acc l g in
      let first = first-on-chain acc a (rw a.named none) in
      let (j, o, e) = kept-picked.found (sum (chain_length s) k + m) (below_length acc a) first in
      (j, o, e ∙ a.named)
