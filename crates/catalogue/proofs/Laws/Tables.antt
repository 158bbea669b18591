-- What stands in a table of offsets, and the lengths of a header and of a record.
use Rattle.std.specs.Prelude.{ℕ, ◌+◌, ◌*◌, ◌^◌, ◌≤◌, ◌<◌, ◌≡◌, List, length}
use Rattle.std.proofs.Common.{◌∙◌, arith, length-append}
use Rattle.format.specs.Layout.{entry_field}
use Rattle.format.specs.Number.{be}
use Rattle.format.specs.Bytes.{bytes, joined}
use Rattle.format.proofs.Laws.Bytes.{bytes-length, joined_length}
use Rattle.catalogue.specs.Catalogue.{Catalogue}
use Rattle.catalogue.specs.LaidOut.{Stands, Places, table_bytes, header_bytes, record_bytes}
use Rattle.catalogue.proofs.Laws.Stands.{stands-first, stands-next, stands-inside, stands-part, stands-number}

abbrev entries : (ℕ → ℕ) → ℕ → List ℕ
entries f i = bytes 4 (f i)

entries-length : (f : ℕ → ℕ) (n : ℕ) → length (joined (entries f) n) ≡ 4 * n
entries-length f n = joined_length (entries f) 4 (λ i. bytes-length 4 (f i)) n

pub table-length : (f : ℕ → ℕ) (n : ℕ) → length (table_bytes f n) ≡ 4 + 4 * n
table-length f n = length-append (bytes 4 n) (joined (entries f) n) ∙ rw (bytes-length 4 n, entries-length f n)

-- a table that stands somewhere: where it ends, its count, and its entries
module _ {s : List ℕ} {p : ℕ} (f : ℕ → ℕ) (n : ℕ) (h : Stands s p (table_bytes f n)) where
  pub table-inside : p + 4 + 4 * n ≤ length s
  table-inside = let l : 0 < length (table_bytes f n) = omega (arith, table-length f n) in omega (arith, stands-inside h l, table-length f n)

  pub table-count : n < 256 ^ 4 → be 4 s p ≡ n
  table-count l = stands-number 4 l (stands-first (bytes 4 n) (joined (entries f) n) h)

  pub table-entry : {i : ℕ} → i < n → f i < 256 ^ 4 → be 4 s (entry_field p i) ≡ f i
  table-entry {i} l fits =
      let behind = rw (bytes-length 4 n) at (stands-next (bytes 4 n) (joined (entries f) n) h) in
      stands-number 4 fits (rw (entries-length f i) at (stands-part (entries f) n l behind))

pub header-length : (q : Places) → length (header_bytes q) ≡ 12
header-length q = simp (length-append, bytes-length)

pub record-length : (d : Catalogue) (b : ℕ) (q : Places) (n i : ℕ) → length (record_bytes d b q n i) ≡ 12
record-length d b q n i = simp (length-append, bytes-length)
