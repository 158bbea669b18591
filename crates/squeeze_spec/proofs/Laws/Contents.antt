-- What an accepted cache holds is a good catalogue, whose icons' buckets rise.
use Rattle.std.specs.Prelude.{ℕ, ◌≤◌, ◌<◌, ◌≡◌, List, [], map, true, length, get_or}
use Rattle.std.proofs.Math.Path.{refl}
use Rattle.std.proofs.Common.{ap, ◌∙◌, arith}
use Rattle.std.proofs.lemmas.Simd.{map-map}
use Rattle.std.proofs.lemmas.List.{length-map}
use Rattle.format.specs.Header.{buckets, directories, path_of, header_fault}
use Rattle.format.specs.Words.{Accepted}
use Rattle.format.proofs.Laws.Header.{header-valid}
use Rattle.format.proofs.Laws.Rules.{tables-keep-header, tables-paths}
use Rattle.format.specs.declared.Reading.TheVariants.{Short}
use Rattle.catalogue.specs.Catalogue.{Icon, Catalogue, GoodIcon, Good, icon_is, names, NoneTwice}
use Rattle.catalogue.specs.Fields.{AreBytes}
use Rattle.format.specs.Segments.{allowed_path}
use Rattle.catalogue.specs.LaidOut.{nth_icon, icon_bucket}
use Rattle.catalogue.specs.Listed.{firsts, icon_of}
use Rattle.catalogue.proofs.Laws.Rising.{firsts-length}
use Rattle.catalogue.proofs.Laws.Elements.{each_map, each_first}
use Rattle.catalogue.proofs.Laws.Icons.{path-allowed, paths-each, icon-allowed}
use Rattle.catalogue.proofs.Laws.Names.{map_at}
use Rattle.squeeze_spec.specs.Squeezed.{kept_records, contents}
use Rattle.squeeze_spec.proofs.Laws.Elements.{at_each}
use Rattle.squeeze_spec.proofs.Laws.Kept.{kept-on-chain, kept-apart, kept-rise}

-- the buckets of a catalogue's icons rise, with b buckets
abbrev pub BucketsRise : Catalogue → ℕ → Type 0
BucketsRise c b = (i j : ℕ) → i < j → j < length c.icons → icon_bucket c b i ≤ icon_bucket c b j

module _ (s : List ℕ) where
  pub contents-icons : (contents s).icons ≡ map (icon_of s) (kept_records s)
  unfolding contents
  contents-icons = refl

  pub contents-paths : (contents s).paths ≡ firsts (path_of s) (directories s)
  unfolding contents
  contents-paths = refl

  pub icon-count : length (contents s).icons ≡ length (kept_records s)
  icon-count = ap length contents-icons ∙ length-map (kept_records s) (icon_of s)

  pub path-count : length (contents s).paths ≡ directories s
  path-count = ap length contents-paths ∙ firsts-length (path_of s) (directories s)

  -- the i-th icon is that of the i-th record that stays
  pub icon-is : (i : ℕ) → i < length (kept_records s) → nth_icon (contents s) i ≡ icon_of s (get_or (kept_records s) i 0)
  icon-is i l = ap (λ xs. get_or xs i (icon_is [] [])) contents-icons ∙ map_at (icon_of s) (kept_records s) 0 (icon_is [] []) i l

module _ {s : List ℕ} (acc : Accepted Short s) where
  header : (header_fault s).number ≡ 0
  header = tables-keep-header s acc.tables-kept

  path-right : (i : ℕ) → i < directories s → allowed_path (path_of s i) ≡ true
  path-right i l = path-allowed s i (paths-each s (directories s) i (rw (tables-paths s header) at acc.tables-kept) l)

  pub some-bucket : 0 < buckets s
  some-bucket = (header-valid s header).buckets-some

  -- no name stands twice
  pub contents-apart : NoneTwice (names (contents s).icons)
  contents-apart = rw (contents-icons s) (rw (map-map (λ (x : Icon). x.name) (icon_of s) (kept_records s)) (kept-apart acc))

  pub contents-good : AreBytes s → Good (contents s)
  contents-good small = record {
    paths-few = rw (path-count s) (header-valid s header).directories-few;
    paths-good = rw (contents-paths s) (each_first (λ p. allowed_path p ≡ true) (path_of s) (directories s) path-right);
    icons-good = rw (path-count s, contents-icons s)
        (each_map (GoodIcon (directories s)) (icon_of s) (kept_records s)
        (at_each (λ r. GoodIcon (directories s) (icon_of s r)) (kept_records s) 0
        (λ i l. let (k, m, a, g, e, keeps) = kept-on-chain acc i l in icon-allowed s small keeps)));
    none-twice = contents-apart;
  }

  pub contents-rise : BucketsRise (contents s) (buckets s)
  contents-rise i j l g =
      let second : j < length (kept_records s) = omega (arith, icon-count s) in
      let first : i < length (kept_records s) = omega arith in
      rw (icon-is s i first, icon-is s j second) (kept-rise acc i j l second)
