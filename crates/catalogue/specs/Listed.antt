-- The catalogue that an accepted cache is listed as: its paths by index, and its icons by rising
-- record offset, with their images as they stand. Document 02, request 8.
use Rattle.std.specs.Prelude.{ℕ, zero, suc, List, [], ◌∷◌, ◌++◌, map, Bool, false, ◌||◌, length, eqb, if◌then◌else◌}
use Rattle.format.specs.Layout.{name_field, entries_at}
use Rattle.format.specs.Header.{directories, path_of}
use Rattle.format.specs.Record.{name_of, images_at, images}
use Rattle.format.specs.Chain.{all_records}
use Rattle.format.specs.declared.Reading.TheVariants.{Short}
use Rattle.catalogue.specs.Catalogue.{Icon, Catalogue, icon_is, catalogue_is}
use Rattle.catalogue.specs.Fields.{images_from}
use Rattle.catalogue.specs.Repeats.{Use, use_is}

-- the number r stands in the list
unfoldable pub has : List ℕ → ℕ → Bool
has [] r = false
has (x ∷ xs) r = eqb x r || has xs r

-- those of the numbers below n that stand in the list, rising
unfoldable pub rising : List ℕ → ℕ → List ℕ
rising xs zero = []
rising xs (suc n) = if has xs n then rising xs n ++ (n ∷ []) else rising xs n

-- the records by rising offset
abbrev pub offset_order : List ℕ → List ℕ
offset_order s = rising (all_records Short s) (length s)

-- the first n of what f gives
unfoldable pub firsts : {A : Type 0} → (ℕ → A) → ℕ → List A
firsts f zero = []
firsts f (suc n) = firsts f n ++ (f n ∷ [])

-- the icon of the record r
abbrev pub icon_of : List ℕ → ℕ → Icon
icon_of s r = icon_is (name_of s r) (images_from (images s r) s (entries_at (images_at s r)))

unfoldable pub listed : List ℕ → Catalogue
listed s = catalogue_is (firsts (path_of s) (directories s)) (map (icon_of s) (offset_order s))

-- the names of the records in the check's order, each refused at its NAME_OFFSET
unfoldable pub record_uses : List ℕ → List Use
record_uses s = map (λ r. use_is (name_of s r) (name_field r)) (all_records Short s)
