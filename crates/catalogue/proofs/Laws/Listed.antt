-- A cache that lays out a good catalogue, with its records in catalogue order, lists as that
-- catalogue.
use Rattle.std.specs.Prelude.{ℕ, ◌<◌, ◌≡◌, refl, List, [], map, true, length}
use Rattle.std.proofs.Common.{sym, ap, ◌∙◌, mod-lt, arith}
use Rattle.format.specs.String.{hash}
use Rattle.format.specs.Header.{buckets, directories, path_of}
use Rattle.format.specs.Chain.{all_records}
use Rattle.format.specs.Words.{OnChain}
use Rattle.format.proofs.Laws.Links.{on_chain, chain-on}
use Rattle.format.proofs.Laws.Order.{records-length}
use Rattle.format.specs.declared.Reading.TheVariants.{Short}
use Rattle.listing.proofs.Laws.Pages.{pages}
use Rattle.catalogue.specs.Catalogue.{Catalogue, Good, icon_is, catalogue_is}
use Rattle.catalogue.specs.LaidOut.{nth_icon, icon_bucket, Places, Lays}
use Rattle.catalogue.specs.Listed.{has, firsts, offset_order, icon_of, listed}
use Rattle.catalogue.proofs.Laws.Laid.{Laid, laid}
use Rattle.catalogue.proofs.Laws.Kept.{path-stands, name-stands, images-stand}
use Rattle.catalogue.proofs.Laws.Chains.{chain-of}
use Rattle.catalogue.proofs.Laws.Serves.{lays-accepted, counts, counts-are, all-counted}
use Rattle.catalogue.proofs.Laws.Rising.{Rises, has_some, some-has, rising-are, firsts-are, map-firsts}

module _ {s : List ℕ} {d : Catalogue} {b : ℕ} {q : Places} (good : Good d) (lays : Lays s d b q) (some : 0 < b) where
  abbrev f : Laid s d b q
  f = laid good lays

  -- the records of the cache are those of the icons
  pub record-held : (i : ℕ) → i < length d.icons → has (all_records Short s) (q.record-at i) ≡ true
  record-held i l =
      let k = icon_bucket d b i in
      let below : k < b = mod-lt (hash (nth_icon d i).name) some in
      let w = chain-of good lays some below in
      let (m, g, e) = w.step_of i l refl in
      let on : OnChain s k m (q.record-at i) = rw e at (chain-on w.holds g) in
      let (n, u, h) = (((pages s).each-once (lays-accepted good lays some)).each (q.record-at i)).1 (k, m, omega (arith, f.buckets-are), on) in
      some-has (all_records Short s) (q.record-at i) n u h

  pub record-of-icon : (k m r : ℕ) → k < buckets s → OnChain s k m r → (i : ℕ) × (i < length d.icons) × (r ≡ q.record-at i)
  record-of-icon k m r l on =
      let below : k < b = omega (arith, f.buckets-are) in
      let w = chain-of good lays some below in
      let (i, h) = w.icon-at m (on_chain w.holds on).0 in
      (i, h.below, sym on.named ∙ h.named)

  only-records : (r : ℕ) → has (all_records Short s) r ≡ true → (i : ℕ) × (i < length d.icons) × (r ≡ q.record-at i)
  only-records r e =
      let (k, m, l, on) = (((pages s).each-once (lays-accepted good lays some)).each r).0 (has_some (all_records Short s) r e) in
      record-of-icon k m r l on

  -- as many as there are icons
  pub order-length : length (all_records Short s) ≡ length d.icons
  order-length = records-length (counts good lays some) (buckets s) (counts-are good lays some) ∙ all-counted good lays some

  module _ (rises : Rises q.record-at (length d.icons)) where
    rising-records : offset_order s ≡ firsts q.record-at (length d.icons)
    rising-records =
        rising-are (all_records Short s) q.record-at (length d.icons) rises record-held only-records (length s) (λ i l. omega (arith, f.record-inside i l))

    icon-back : (i : ℕ) → i < length d.icons → icon_of s (q.record-at i) ≡ nth_icon d i
    icon-back i l = λ j. icon_is (name-stands good lays some l j) (images-stand good lays some l j)

    paths-back : firsts (path_of s) (directories s) ≡ d.paths
    paths-back = rw f.directories-are (firsts-are (path_of s) d.paths [] (λ i l. path-stands good lays some l))

    icons-back : map (icon_of s) (offset_order s) ≡ d.icons
    icons-back =
        ap (map (icon_of s)) rising-records
        ∙ map-firsts (icon_of s) q.record-at (length d.icons)
        ∙ firsts-are (λ i. icon_of s (q.record-at i)) d.icons (icon_is [] []) icon-back

    pub listed_back : listed s ≡ d
    unfolding listed
    listed_back = λ j. catalogue_is (paths-back j) (icons-back j)
