-- The walk of a chain as salvage makes it: how far it goes, what becomes of each record that it
-- meets, and the row that it ends with. Document 02, request 11. A meeting is a bucket and a step
-- on its chain; the record met is the one that `link` names there.
use Rattle.std.specs.Prelude.{ℕ, zero, suc, List, [], ◌∷◌, Bool, true, false, not, ◌&&◌, ◌||◌, eqb, if◌then◌else◌}
use Rattle.format.specs.Layout.{record_size, name_field, images_field, end_value}
use Rattle.format.specs.Bytes.{joined}
use Rattle.format.specs.Part.{inside}
use Rattle.format.specs.Fault.{no_fault, unless, ◌or_else◌, if_kept}
use Rattle.format.specs.String.{among}
use Rattle.format.specs.Header.{buckets, bucket_field}
use Rattle.format.specs.Record.{name_of, images_at, name_fault, valid_image_list}
use Rattle.format.specs.Chain.{most_records}
use Rattle.format.specs.Words.{link, link_field}
use Rattle.format.specs.declared.Fault.{Fault}
use Rattle.salvage_spec.specs.Lists.{first_failing}

pub record Meeting : Type 0 where
  pub bucket : ℕ
  pub step : ℕ

abbrev pub meeting : ℕ → ℕ → Meeting
meeting k n = record { bucket = k; step = n }

-- a step below m of bucket k's chain names the record r
unfoldable pub named_below : List ℕ → ℕ → ℕ → ℕ → Bool
named_below s k r zero = false
named_below s k r (suc m) = eqb (link s k m) r || named_below s k r m

-- no lower step names the record of step n
abbrev pub fresh : List ℕ → ℕ → ℕ → Bool
fresh s k n = not (named_below s k (link s k n) n)

-- the walk goes on behind the record before step n: at 8, 17 or 9, the faults of a name, the chain
-- ends there
unfoldable pub passed : List ℕ → ℕ → ℕ → Bool
passed s k zero = true
passed s k (suc n) = eqb (name_fault s k (link s k n)).number 0

-- the walk comes to step n, and it names a record
abbrev pub comes : List ℕ → ℕ → ℕ → Bool
comes s k n = passed s k n && not (eqb (link s k n) end_value)

-- what cuts the chain before the record of step n: 12 at the bucket's field if this chain has met
-- it before, 7 at the field that names it if it does not lie inside
unfoldable pub cut_at : List ℕ → ℕ → ℕ → Fault
cut_at s k n =
    unless (fresh s k n) 12 (bucket_field s k)
    or_else unless (inside s (link s k n) record_size) 7 (link_field s k n)

-- the walk of bucket k's chain meets the record of step n
abbrev pub meets : List ℕ → ℕ → ℕ → Bool
meets s k n = comes s k n && eqb (cut_at s k n).number 0

-- how many records the walk meets: up to the first step that meets none. They are distinct records
-- that lie inside, so there are no more than the search passes, and its bound is never felt.
unfoldable pub met : List ℕ → ℕ → ℕ
met s k = first_failing (most_records s) (meets s k) 0

-- the row that stands after the rows of the chain's meetings, if any
unfoldable pub cut : List ℕ → ℕ → Fault
cut s k = if comes s k (met s k) then cut_at s k (met s k) else no_fault

-- what becomes of the record r on bucket k's chain where the icons with the names ts are kept: it
-- goes at 8, 17 or 9 of its name, then at 10, then at 20 for a name equal to a kept one. It is kept
-- where the number is 0, else this is its row. An equal name lies on the same chain (Laws/Names),
-- so ts are those of this chain.
unfoldable pub fate_among : List ℕ → ℕ → List (List ℕ) → ℕ → Fault
fate_among s k ts r =
    name_fault s k r
    or_else unless (valid_image_list s (images_at s r)) 10 (images_field r)
    or_else unless (not (among (name_of s r) ts)) 20 (name_field r)

-- the names kept below step n of bucket k's chain, the last first
unfoldable pub kept_names : List ℕ → ℕ → ℕ → List (List ℕ)
kept_names s k zero = []
kept_names s k (suc n) =
    let ts = kept_names s k n in
    if_kept (fate_among s k ts (link s k n)) (name_of s (link s k n) ∷ ts) ts

-- what becomes of the record met at step n
unfoldable pub fate : List ℕ → ℕ → ℕ → Fault
fate s k n = fate_among s k (kept_names s k n) (link s k n)

-- the meetings of one chain, and all of them
unfoldable pub chain_meetings : List ℕ → ℕ → List Meeting
chain_meetings s k = joined (λ n. meeting k n ∷ []) (met s k)

unfoldable pub meetings : List ℕ → List Meeting
meetings s = joined (chain_meetings s) (buckets s)
