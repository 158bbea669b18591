-- How the chains of a written cache come about: the writer takes the icons in order, and appends
-- each to the chain of its bucket, of which it remembers the last record. Document 02, request 8.
use Rattle.std.specs.Prelude.{ℕ, zero, suc, List, ◌++◌, eqb, if◌then◌else◌}
use Rattle.format.specs.Layout.{header_size, entry_field, chain_field, end_value}
use Rattle.format.specs.Bytes.{bytes}
use Rattle.catalogue.specs.Catalogue.{Catalogue}
use Rattle.catalogue.specs.LaidOut.{icon_bucket, Places}

-- the record of the last icon of bucket k among the first n, or the end value: what is remembered
unfoldable pub last_in : (ℕ → ℕ) → (ℕ → ℕ) → ℕ → ℕ → ℕ
last_in bucket record-at k zero = end_value
last_in bucket record-at k (suc n) = if eqb (bucket n) k then record-at n else last_in bucket record-at k n

-- the record of icon n while it is the last of its bucket
abbrev pub new_record : Places → ℕ → List ℕ
new_record q n = bytes 4 end_value ++ bytes 4 (q.name-at n) ++ bytes 4 (q.images-at n)

-- the field that then leads to it: its bucket's, or the CHAIN_OFFSET of the record remembered
unfoldable pub lead_field : Catalogue → ℕ → Places → ℕ → ℕ
lead_field d b q n =
    let k = icon_bucket d b n in
    let r = last_in (icon_bucket d b) q.record-at k n in
    if eqb r end_value then entry_field header_size k else chain_field r
