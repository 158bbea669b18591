-- The farm cache of document 01 lays out the farm's catalogue, though hen and oat share an image
-- list in it.
use Rattle.std.specs.Prelude.{ℕ, ◌+◌, ◌*◌, ◌≡◌, refl, length, drop, get_or}
use mathlib.Core.List.{List, [], ◌∷◌, ◌++◌, flat_map}
use Rattle.std.proofs.Common.{arith, lit≤}
use Rattle.format.specs.Bytes.{bytes, joined}
use Rattle.format.specs.String.{signed, hash_from, hash_numbers, hash}
use Rattle.format.specs.Farm.{farm, cow, oat}
use Rattle.format.proofs.Laws.Below.{below_suc}
use Rattle.catalogue.specs.LaidOut.{Stands, Places, first_in, Lays}
use Rattle.catalogue.specs.Examples.Catalogues.{hen, farm_catalogue}

farm_places : Places
farm_places = record {
  buckets-at = 12;
  directories-at = 96;
  record-at = λ i. 28 + 12 * i;
  images-at = λ i. get_or (64 ∷ 64 ∷ 76 ∷ []) i 0;
  name-at = λ i. 114 + 4 * i;
  path-at = λ i. 108 + 3 * i;
}

-- xs stand at p, by computing
here : (p : ℕ) (xs : List ℕ) → drop p farm ≡ xs ++ drop (p + length xs) farm → Stands farm p xs
here p xs e = record { rest = drop (p + length xs) farm; there = e }

farm-lays : Lays farm farm_catalogue 3 farm_places
unfolding farm farm_catalogue farm_places hen oat cow flat_map first_in bytes joined signed hash_from hash_numbers hash
farm-lays = record {
  header = here _ _ refl;
  hash = here _ _ refl;
  directories = here _ _ refl;
  records = below_suc (below_suc (below_suc (λ m l. absurd (omega arith)) (here _ _ refl)) (here _ _ refl)) (here _ _ refl);
  lists = below_suc (below_suc (below_suc (λ m l. absurd (omega arith)) (here _ _ refl)) (here _ _ refl)) (here _ _ refl);
  names = below_suc (below_suc (below_suc (λ m l. absurd (omega arith)) (here _ _ refl)) (here _ _ refl)) (here _ _ refl);
  paths = below_suc (below_suc (λ m l. absurd (omega arith)) (here _ _ refl)) (here _ _ refl);
  not-too-long = lit≤ tt;
}
