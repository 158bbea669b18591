-- The header, the hash and the records with the first n icons, and behind them the record of one
-- icon more: how long they are, where each stands, and when they are those of all n + 1.
use Rattle.std.specs.Prelude.{ℕ, suc, ◌+◌, ◌*◌, ◌≡◌, List, [], ◌++◌, length}
use Rattle.std.proofs.Common.{sym, ap, append-nil, arith, length-append}
use Rattle.format.specs.Bytes.{bytes, joined}
use Rattle.format.proofs.Laws.Bytes.{bytes-length, joined_length}
use Rattle.catalogue.specs.Catalogue.{Catalogue}
use Rattle.catalogue.specs.LaidOut.{Stands, icon_bucket, first_of, Places, header_bytes, hash_bytes, record_bytes}
use Rattle.catalogue.specs.Written.{records_begin, front}
use Rattle.catalogue.specs.Append.{new_record}
use Rattle.catalogue.proofs.Laws.Stands.{stands-first, stands-next, stands-behind, stands_at, stands_same, stands-join, stands-whole}
use Rattle.catalogue.proofs.Laws.Append.{ends}
use Rattle.catalogue.proofs.Laws.Tables.{header-length, record-length, table-length}

-- the record of icon i with CHAIN_OFFSET r
abbrev pub record_with : Places → ℕ → ℕ → List ℕ
record_with q r i = bytes 4 r ++ bytes 4 (q.name-at i) ++ bytes 4 (q.images-at i)

module _ (d : Catalogue) (b : ℕ) (q : Places) where
  -- an entry is a bucket's field, with the first m icons
  abbrev pub entries : ℕ → ℕ → List ℕ
  entries m k = bytes 4 (first_of d b q m k)

  abbrev pub tables : ℕ → List ℕ
  tables m = header_bytes q ++ hash_bytes d b q m

  pub tables-length : (m : ℕ) → length (tables m) ≡ records_begin b
  tables-length m = omega (arith, length-append (header_bytes q) (hash_bytes d b q m), header-length q, table-length (first_of d b q m) b)

  pub records-size : (m i : ℕ) → length (joined (record_bytes d b q m) i) ≡ 12 * i
  records-size m i = joined_length (record_bytes d b q m) 12 (record-length d b q m) i

  pub front_length : (m : ℕ) → length (front d b q m) ≡ records_begin b + 12 * m
  front_length m = omega (arith, length-append (tables m) (joined (record_bytes d b q m) m), tables-length m, records-size m m)

  module _ (n : ℕ) where
    abbrev pub begun : List ℕ
    begun = front d b q n ++ new_record q n

    pub new-length : length (new_record q n) ≡ 12
    new-length = simp (length-append, bytes-length)

    pub begun-length : length begun ≡ records_begin b + 12 * n + 12
    begun-length = omega (arith, length-append (front d b q n) (new_record q n), front_length n, new-length)

    pub record PartsStand : Type 0 where
      pub header : Stands begun 0 (header_bytes q)
      pub count : Stands begun 12 (bytes 4 b)
      pub fields : Stands begun 16 (joined (entries n) b)
      pub tables : Stands begun 0 (tables n)
      pub records : Stands begun (records_begin b) (joined (record_bytes d b q n) n)
      pub new : Stands begun (records_begin b + 12 * n) (new_record q n)

    pub parts-stand : PartsStand
    parts-stand =
        let whole : Stands begun 0 begun = record { rest = []; there = sym (append-nil begun) } in
        let front-stands = stands-first (front d b q n) (new_record q n) whole in
        let tables-stand = stands-first (tables n) (joined (record_bytes d b q n) n) front-stands in
        let hash-stands = stands-behind (header_bytes q) (hash_bytes d b q n) (header-length q) tables-stand in
        record {
          header = stands-first (header_bytes q) (hash_bytes d b q n) tables-stand;
          count = stands-first (bytes 4 b) (joined (entries n) b) hash-stands;
          fields = stands_at (stands-next (bytes 4 b) (joined (entries n) b) hash-stands) (omega (arith, bytes-length 4 b));
          tables = tables-stand;
          records = stands-behind (tables n) (joined (record_bytes d b q n) n) (tables-length n) front-stands;
          new = stands-behind (front d b q n) (new_record q n) (front_length n) whole;
        }

    -- the new record is that of the last icon
    new-record : new_record q n ≡ record_bytes d b q (suc n) n
    new-record = ap (λ r. record_with q r n) (sym (ends (icon_bucket d b) q.record-at n))

    -- put together again
    pub assembled : {t : List ℕ} → length t ≡ length begun → Stands t 0 (tables (suc n)) → Stands t (records_begin b) (joined (record_bytes d b q (suc n)) n)
        → Stands t (records_begin b + 12 * n) (new_record q n) → t ≡ front d b q (suc n)
    unfolding joined
    assembled e tables-stand records new =
        let all-records = stands-join (joined (record_bytes d b q (suc n)) n) (record_bytes d b q (suc n) n) records (stands_at (stands_same new new-record) (omega (arith, records-size (suc n) n))) in
        stands-whole
        (stands-join (tables (suc n)) (joined (record_bytes d b q (suc n)) (suc n)) tables-stand (stands_at all-records (omega (arith, tables-length (suc n)))))
        (omega (arith, begun-length, front_length (suc n)))
