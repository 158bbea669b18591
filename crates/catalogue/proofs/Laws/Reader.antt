-- What is listed from an accepted cache: each of its records once, by rising offset; and, where no
-- name stands twice, a good catalogue.
use Rattle.std.specs.Prelude.{ℕ, ◌≤◌, ◌<◌, ◌≡◌, List, [], map, true, length, get_or}
use Rattle.std.proofs.Math.Path.{refl}
use Rattle.std.proofs.Common.{sym, ap, ◌∙◌, arith}
use Rattle.std.proofs.lemmas.Simd.{map-map}
use Rattle.std.proofs.Math.Decide.{dec_lt}
use Rattle.std.proofs.lemmas.List.{length-map}
use Rattle.format.specs.Header.{buckets, directories, path_of, header_fault}
use Rattle.format.specs.Record.{name_of}
use Rattle.format.specs.Chain.{all_records}
use Rattle.format.specs.Words.{OnChain, Accepted, Keeps}
use Rattle.format.proofs.Laws.Header.{header-valid}
use Rattle.format.proofs.Laws.Rules.{tables-keep-header, tables-paths}
use Rattle.format.proofs.Laws.Links.{on_chain}
use Rattle.listing.specs.Paging.{EachOnce}
use Rattle.listing.proofs.Laws.Pages.{pages}
use Rattle.format.specs.Segments.{allowed_path}
use Rattle.format.specs.declared.Reading.TheVariants.{Short}
use Rattle.catalogue.specs.Catalogue.{Icon, Each, GoodIcon, Good, NoneTwice}
use Rattle.catalogue.specs.Fields.{AreBytes}
use Rattle.catalogue.specs.Repeats.{repeat_fault}
use Rattle.catalogue.specs.Listed.{has, firsts, offset_order, icon_of, listed, record_uses}
use Rattle.catalogue.proofs.Laws.Repeats.{none-repeated}
use Rattle.catalogue.proofs.Laws.Rising.{has_some, some-has, firsts-length}
use Rattle.catalogue.proofs.Laws.Elements.{each_map, each_first, each-rising, rising-rises, rising-all, rising-few}
use Rattle.catalogue.proofs.Laws.Icons.{path-allowed, paths-each, icon-allowed}
use Rattle.catalogue.proofs.Laws.Names.{map_at, uses-are}
use Rattle.catalogue.proofs.Laws.Allowed.{each_at}

-- the records by rising offset are those of the check's order
module _ (s : List ℕ) (acc : Accepted Short s) where
  abbrev Held : ℕ → Type 0
  Held r = has (all_records Short s) r ≡ true

  each-held : Each Held (offset_order s)
  each-held = each-rising (all_records Short s) Held (length s) (λ r l h. h)

  held_at : (i : ℕ) → i < length (offset_order s) → Held (get_or (offset_order s) i 0)
  held_at i l = each_at Held (offset_order s) 0 i each-held l

  on-some-chain : (r : ℕ) → Held r → (k m : ℕ) × (k < buckets s) × OnChain s k m r
  on-some-chain r e = (((pages s).each-once acc).each r).0 (has_some (all_records Short s) r e)

  held_keeps : (r : ℕ) → Held r → (k : ℕ) × Keeps Short s k r
  held_keeps r e = let (k, m, l, on) = on-some-chain r e in (k, (on_chain (acc.lower k l).1 on).1)

  pub order-rises : (i j : ℕ) → i < j → j < length (offset_order s) → get_or (offset_order s) i 0 < get_or (offset_order s) j 0
  order-rises = rising-rises (all_records Short s) (length s)

  pub order-each-once : EachOnce s (offset_order s)
  order-each-once = record {
    each = λ r. (
      λ (n, l, e). on-some-chain r (rw e at (held_at n l)),
      λ (k, m, l, on).
          let (n, a, e) = (((pages s).each-once acc).each r).1 (k, m, l, on) in
          let inside = (on_chain (acc.lower k l).1 on).1.inside in
          rising-all (all_records Short s) (length s) r (omega arith) (some-has (all_records Short s) r n a e),
    );
    once = λ m n l g e.
        let before : m < n → ⊥ = λ h. omega (arith, order-rises m n h g) in
        let behind : n < m → ⊥ = λ h. omega (arith, order-rises n m h l) in
        omega arith;
  }

module _ (s : List ℕ) (acc : Accepted Short s) (small : AreBytes s) (apart : (repeat_fault [] (record_uses s)).number ≡ 0) where
  listed-icons : (listed s).icons ≡ map (icon_of s) (offset_order s)
  unfolding listed
  listed-icons = refl

  listed-paths : (listed s).paths ≡ firsts (path_of s) (directories s)
  unfolding listed
  listed-paths = refl

  path-count : length (listed s).paths ≡ directories s
  path-count = ap length listed-paths ∙ firsts-length (path_of s) (directories s)

  header : (header_fault s).number ≡ 0
  header = tables-keep-header s acc.tables-kept

  path-right : (i : ℕ) → i < directories s → allowed_path (path_of s i) ≡ true
  path-right i l = path-allowed s i (paths-each s (directories s) i (rw (tables-paths s header) at acc.tables-kept) l)

  -- two records of the rising order have different names, as they are two of the check's order
  records-apart : NoneTwice (map (name_of s) (offset_order s))
  records-apart i j l g e =
      let size = length-map (offset_order s) (name_of s) in
      let second : j < length (offset_order s) = omega arith in
      let first : i < length (offset_order s) = omega arith in
      let (m, a, p) = has_some (all_records Short s) _ (held_at s acc i first) in
      let (n, d, q) = has_some (all_records Short s) _ (held_at s acc j second) in
      let ordered = order-rises s acc i j l second in
      let other : m ≡ n → ⊥ = λ h. omega (arith, p, q, ap (λ k. get_or (all_records Short s) k 0) h) in
      let named : (k : ℕ) → k < length (all_records Short s) → get_or (map (name_of s) (all_records Short s)) k [] ≡ name_of s (get_or (all_records Short s) k 0) =
      map_at (name_of s) (all_records Short s) 0 [] in
      let same : get_or (map (name_of s) (all_records Short s)) m [] ≡ get_or (map (name_of s) (all_records Short s)) n [] =
      named m a ∙ ap (name_of s) p ∙ sym (map_at (name_of s) (offset_order s) 0 [] i first) ∙ e
      ∙ map_at (name_of s) (offset_order s) 0 [] j second ∙ ap (name_of s) (sym q) ∙ sym (named n d) in
      let once : NoneTwice (map (name_of s) (all_records Short s)) = rw (uses-are s) at (none-repeated [] (record_uses s) apart) in
      let order-size = length-map (all_records Short s) (name_of s) in
      elim (dec_lt m n) [ yes h ↦ once m n h (omega arith) same | no h ↦ once n m (omega arith) (omega arith) (sym same) ]

  pub listed-good : Good (listed s)
  listed-good = record {
    paths-few = rw path-count (header-valid s header).directories-few;
    paths-good = rw listed-paths (each_first (λ p. allowed_path p ≡ true) (path_of s) (directories s) path-right);
    icons-good = rw (path-count, listed-icons)
        (each_map (GoodIcon (directories s)) (icon_of s) (offset_order s)
        (each-rising (all_records Short s) (λ r. GoodIcon (directories s) (icon_of s r)) (length s) (λ r l e. icon-allowed s small (held_keeps s acc r e).1)));
    none-twice = rw listed-icons (rw (map-map (λ (x : Icon). x.name) (icon_of s) (offset_order s)) records-apart);
  }

  pub listed-few : length (all_records Short s) ≤ 65535 → length (listed s).icons ≤ 65535
  listed-few l = rw listed-icons (omega (arith, length-map (offset_order s) (icon_of s), rising-few (all_records Short s) (length s)))
