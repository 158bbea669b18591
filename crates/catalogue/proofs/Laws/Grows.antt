-- One icon more: its record is put behind the others, and one field is changed. So the records of
-- all icons come about, one by one.
use Prim.Native.Nat.{ℕ, suc, ◌+◌, ◌*◌, ◌≤◌, ◌<◌}
use Rattle.std.specs.Prelude.{◌≡◌, List, ◌++◌, length, if◌then◌else◌}
use Rattle.std.proofs.Common.{sym, ◌∙◌, mod-lt, arith, ne_eqb, length-append, lit≤}
use Rattle.std.proofs.Math.Path.{ap}
use Rattle.std.proofs.Math.Dec.{eqb}
use Rattle.format.specs.Layout.{entry_field, end_value}
use Rattle.format.specs.Bytes.{bytes, joined, put}
use Rattle.format.specs.String.{hash}
use Rattle.format.proofs.Laws.Bytes.{bytes-length, joined_same}
use Rattle.format.proofs.Laws.Put.{put-length, put-more, put-inside}
use Rattle.catalogue.specs.Catalogue.{Catalogue}
use Rattle.catalogue.specs.LaidOut.{Stands, nth_icon, icon_bucket, first_of, next_of, Places, header_bytes, hash_bytes, record_bytes}
use Rattle.catalogue.specs.Written.{records_begin, front}
use Rattle.catalogue.specs.Append.{new_record, lead_field}
use Rattle.catalogue.proofs.Laws.Stands.{stands-first, stands-next, stands-part, stands_same, stands_at, stands-join}
use Rattle.catalogue.proofs.Laws.Putting.{stands_after, stands-before, put-known, stands-changed}
use Rattle.catalogue.proofs.Laws.Tables.{header-length, record-length}
use Rattle.catalogue.proofs.Laws.Append.{Last, nothing, last, last-is, Begins, Follows, begins, follows}
use Rattle.catalogue.proofs.Laws.Front.{record_with, entries, tables-length, records-size, front_length, begun, new-length, begun-length, PartsStand, parts-stand, assembled}

-- records stand where the writer puts them, and no offset of one is the end value
module _ (d : Catalogue) (b : ℕ) (q : Places) (some : 0 < b) (n : ℕ)
    (at_place : (i : ℕ) → q.record-at i ≡ records_begin b + 12 * i) (real : (i : ℕ) → i < n → q.record-at i ≡ end_value → ⊥) where
  abbrev k : ℕ
  k = icon_bucket d b n

  abbrev s : List ℕ
  s = begun d b q n

  abbrev parts : PartsStand d b q n
  parts = parts-stand d b q n

  -- the four bytes that are put into the field
  abbrev led : List ℕ
  led = bytes 4 (q.record-at n)

  k-below : k < b
  k-below = mod-lt (hash (nth_icon d n).name) some

  size : length s ≡ records_begin b + 12 * n + 12
  size = begun-length d b q n

  -- the icon begins its bucket's chain
  step-begins : Begins (icon_bucket d b) q.record-at n → put s (entry_field 12 k) led ≡ front d b q (suc n)
  step-begins h =
      let p = entry_field 12 k in
      let ys = entries d b q (suc n) k in
      let width = bytes-length 4 (first_of d b q (suc n) k) in
      let room : p + length ys ≤ length s = omega (arith, size, k-below) in
      let header = stands-before s p ys room (omega (arith, header-length q)) parts.header in
      let count = stands-before s p ys room (omega (arith, bytes-length 4 b)) parts.count in
      let fields : Stands (put s p ys) 16 (joined (entries d b q (suc n)) b) =
      stands-changed (entries d b q n) (entries d b q (suc n)) 4 k b (lit≤ tt) (λ i. bytes-length 4 (first_of d b q n i)) (λ i. bytes-length 4 (first_of d b q (suc n) i))
      (λ i l other. ap (bytes 4) (sym (h.other-fields i (λ e. other (sym e))))) b (omega arith) k-below (omega (arith, size)) parts.fields in
      let table = stands-join (bytes 4 b) (joined (entries d b q (suc n)) b) count (stands_at fields (omega (arith, bytes-length 4 b))) in
      let same-records : joined (record_bytes d b q n) n ≡ joined (record_bytes d b q (suc n)) n =
      joined_same (record_bytes d b q n) (record_bytes d b q (suc n)) n (λ i l. ap (λ r. record_with q r i) (sym (h.chains i l))) in
      sym (ap (λ r. put s p (bytes 4 r)) h.own-field)
      ∙ assembled d b q n
      (put-length s p ys room)
      (stands-join (header_bytes q) (hash_bytes d b q (suc n)) header (stands_at table (omega (arith, header-length q))))
      (stands_same (stands_after s p ys room (omega (arith, k-below)) parts.records) same-records)
      (stands_after s p ys room (omega (arith, k-below)) parts.new)

  -- it goes behind icon i, of whose record only the first four bytes change
  module _ (i : ℕ) (below : i < n) (h : Follows (icon_bucket d b) q.record-at n i) where
    abbrev r : ℕ
    r = records_begin b + 12 * i

    four_bytes : put s r (record_bytes d b q (suc n) i) ≡ put s r (bytes 4 (next_of d b q (suc n) i))
    four_bytes =
        let old = bytes 4 (next_of d b q n i) in
        let new = bytes 4 (next_of d b q (suc n) i) in
        let name = bytes 4 (q.name-at i) in
        let images = bytes 4 (q.images-at i) in
        let two : length (old ++ name) ≡ 8 = simp (length-append, bytes-length) in
        let two-new : length (new ++ name) ≡ 8 = simp (length-append, bytes-length) in
        let record-stands : Stands s r (record_bytes d b q n i) = stands_at (stands-part (record_bytes d b q n) n below parts.records) (omega (arith, records-size d b q n i)) in
        let name-at = stands-next old name (stands-first (old ++ name) images record-stands) in
        put-known s r (new ++ name) images (stands_at (stands-next (old ++ name) images record-stands) (omega arith))
        ∙ put-known s r new name (stands_at name-at (omega (arith, bytes-length 4 (next_of d b q n i), bytes-length 4 (next_of d b q (suc n) i))))

    step_follows : put s r led ≡ front d b q (suc n)
    step_follows =
        let ys = record_bytes d b q (suc n) i in
        let width = record-length d b q (suc n) i in
        let room : r + length ys ≤ length s = omega (arith, size) in
        let same-table : hash_bytes d b q n ≡ hash_bytes d b q (suc n) =
        ap (λ l. bytes 4 b ++ l) (joined_same (entries d b q n) (entries d b q (suc n)) b (λ j l. ap (bytes 4) (sym (h.fields j)))) in
        let records : Stands (put s r ys) (records_begin b) (joined (record_bytes d b q (suc n)) n) =
        stands-changed (record_bytes d b q n) (record_bytes d b q (suc n)) 12 i n (lit≤ tt) (record-length d b q n) (record-length d b q (suc n))
        (λ j l other. ap (λ t. record_with q t j) (sym (h.other-chains j l other))) n (omega arith) below (omega (arith, size)) parts.records in
        ap (λ t. put s r (bytes 4 t)) (sym h.own-chain)
        ∙ sym four_bytes
        ∙ assembled d b q n
        (put-length s r ys room)
        (stands_same (stands-before s r ys room (omega (arith, tables-length d b q n)) parts.tables) (ap (λ l. header_bytes q ++ l) same-table))
        records
        (stands_after s r ys room (omega arith) parts.new)

  -- one icon more: its record behind the others, and its offset in the field that leads to it
  front-step : put s (lead_field d b q n) led ≡ front d b q (suc n)
  unfolding lead_field
  front-step = go (last-is (icon_bucket d b) q.record-at k n)
    where
      go : {r : ℕ} → Last (icon_bucket d b) q.record-at k n r → put s (if eqb r end_value then entry_field 12 k else r) led ≡ front d b q (suc n)
      go (nothing none) = step-begins (begins (icon_bucket d b) q.record-at n none)
      go (last i l own none) =
          ap (λ t. put s (if t then entry_field 12 k else q.record-at i) led) (ne_eqb _ _ (real i l))
          ∙ ap (λ p. put s p led) (at_place i)
          ∙ step_follows i l (follows (icon_bucket d b) q.record-at n i l own none)

  -- that field lies inside
  pub lead-below : lead_field d b q n + 4 ≤ records_begin b + 12 * suc n
  unfolding lead_field
  lead-below = go (last-is (icon_bucket d b) q.record-at k n)
    where
      go : {r : ℕ} → Last (icon_bucket d b) q.record-at k n r → (if eqb r end_value then entry_field 12 k else r) + 4 ≤ records_begin b + 12 * suc n
      go (nothing none) = omega (arith, k-below)
      go (last i l own none) = rw (ne_eqb _ _ (real i l)) (omega (arith, at_place i))

  -- in a buffer: two things put make one icon more
  pub front-grows : (lent : List ℕ) → records_begin b + 12 * suc n ≤ length lent
      → put (put (put lent 0 (front d b q n)) (records_begin b + 12 * n) (new_record q n)) (lead_field d b q n) led ≡ put lent 0 (front d b q (suc n))
  front-grows lent room =
      let inside : lead_field d b q n + length led ≤ length s = omega (arith, size, lead-below, bytes-length 4 (q.record-at n)) in
      ap (λ l. put l (lead_field d b q n) led)
      (put-more lent 0 (front d b q n) (new_record q n) (omega (arith, front_length d b q n)) (omega (arith, new-length d b q n)))
      ∙ put-inside lent 0 s (lead_field d b q n) led (omega arith) (omega (arith, size)) inside
      ∙ ap (put lent 0) front-step
