-- The squeezed cache: what an accepted cache holds, each name once, packed with the same bucket
-- count.
use Rattle.std.specs.Prelude.{ℕ, List, [], ◌∷◌, map, length}
use Rattle.format.specs.Header.{buckets, directories, path_of}
use Rattle.format.specs.Chain.{all_records, nth_record, nth_name}
use Rattle.format.specs.declared.Reading.TheVariants.{Short}
use Rattle.catalogue.specs.Catalogue.{Catalogue, catalogue_is}
use Rattle.catalogue.specs.Listed.{firsts, icon_of}
use Rattle.squeeze_spec.specs.Uses.{stored_once}
use Rattle.squeeze_spec.specs.Packed.{packed}

-- those of the first n records that stay: the first of each name, in the check's order; and all
-- that stay
abbrev pub kept_up_to : List ℕ → ℕ → List ℕ
kept_up_to s n = stored_once (nth_name s) (λ i. nth_record s i ∷ []) n

unfoldable pub kept_records : List ℕ → List ℕ
kept_records s = kept_up_to s (length (all_records Short s))

-- the paths, and the icons of these records
unfoldable pub contents : List ℕ → Catalogue
contents s = catalogue_is (firsts (path_of s) (directories s)) (map (icon_of s) (kept_records s))

unfoldable pub squeezed : List ℕ → List ℕ
squeezed s = packed (contents s) (buckets s)
