-- A number that is read has the bytes that it was read from; and a string is read on by a byte, by
-- eight bytes, and to its end.
use Rattle.std.specs.Prelude.{◌≡◌, refl, ℕ, zero, suc, ◌+◌, ◌*◌, ◌/◌, ◌%◌, ◌^◌, ◌<◌, ◌≤◌, List, [], ◌∷◌, ◌++◌, map, length, take, drop, ◌≢◌, slice_index, slice_index_or}
use Rattle.std.proofs.Common.{sym, ap, ap₂, ◌∙◌, arith, length-append, length-drop, take-suc, get_or-drop, take-append-drop, drop-drop}
use Rattle.std.proofs.lemmas.List.{map-append}
use Rattle.format.specs.Number.{be}
use Rattle.format.specs.Bytes.{bytes}
use Rattle.format.specs.String.{string, signed, hash_from, hash}
use Rattle.format.proofs.Laws.Strings.{string-stops, string-goes-on, string-front, passed-stops, passed-next}
use Rattle.format.proofs.Laws.Paths.{string-first}
use Rattle.format.proofs.Laws.Bytes.{bytes-length}
use Rattle.format.proofs.Laws.Hashes.{hash-from-none}
use Rattle.zero_bytes.proofs.Laws.{string-on, string-cut}
use Rattle.hash_words.proofs.Laws.Hashed.{hash-on}
use Rattle.name_hash.specs.Reached.{Reached}

-- a number that is read has the bytes that it was read from
pub bytes_read : (w : ℕ) (s : List ℕ) (p : ℕ) → ((i : ℕ) → slice_index s i < 256) → p + w ≤ length s → bytes w (be w s p) ≡ take w (drop p s)
unfolding be bytes
bytes_read zero s p small h = refl
bytes_read (suc w) s p small h =
    let low : slice_index s (p + w) < 256 = small (p + w) in
    let high_part : (be w s p * 256 + slice_index s (p + w)) / 256 ≡ be w s p = omega arith in
    let low_part : (be w s p * 256 + slice_index s (p + w)) % 256 ≡ slice_index s (p + w) = omega arith in
    rw (high_part, low_part, bytes_read w s p small (omega arith))
    (sym (take-suc (drop p s) w 0 (omega (arith, length-drop p s)) ∙ ap (λ x. take w (drop p s) ++ (x ∷ [])) (get_or-drop p s w 0)))

-- the hash goes on from one part to the other
hash-both : (h : ℕ) (xs ys : List ℕ) → hash_from h (map signed (xs ++ ys)) ≡ hash_from (hash_from h (map signed xs)) (map signed ys)
hash-both h xs ys = ap (hash_from h) (map-append signed xs ys) ∙ hash-on h (map signed xs) (map signed ys)

module _ {t : List ℕ} {i h : ℕ} (r : Reached t i h) where
  -- the end
  pub reached-stop : slice_index_or t i 0 ≡ 0 → (i ≡ length (string t)) × (h ≡ hash (string t))
  unfolding hash_from
  reached-stop e = (sym (passed-stops t i r.passed e), rw (string-stops t i e) at r.goes_on)

  -- a byte
  pub reached-next : (slice_index t i ≢ 0) → i < length t → Reached t (i + 1) ((31 * h + signed (slice_index t i)) % 2 ^ 32)
  unfolding hash_from
  reached-next nz l = record { inside = omega arith; passed = passed-next t i r.passed nz; goes_on = rw (string-goes-on t i nz) at r.goes_on }

  -- eight bytes, as a number
  module _ (small : (j : ℕ) → slice_index t j < 256) (room : i + 8 ≤ length t) where
    abbrev word : ℕ
    word = be 8 t i

    their : bytes 8 word ≡ take 8 (drop i t)
    their = bytes_read 8 t i small room

    rest : drop i t ≡ bytes 8 word ++ drop (i + 8) t
    rest = sym (take-append-drop 8 (drop i t)) ∙ ap₂ ◌++◌ (sym their) (drop-drop 8 i t)

    pub reached-eight : length (string (bytes 8 word)) ≡ 8 → Reached t (i + 8) (hash_from h (map signed (bytes 8 word)))
    reached-eight e =
        let full : length (string (bytes 8 word)) ≡ length (bytes 8 word) = e ∙ sym (bytes-length 8 word) in
        let on = ap string rest ∙ string-on (bytes 8 word) (drop (i + 8) t) full in
        let longer = ap length on ∙ length-append (bytes 8 word) (string (drop (i + 8) t)) in
        record {
          inside = room;
          passed = omega (arith, r.passed, longer, bytes-length 8 word);
          goes_on = sym (hash-both h (bytes 8 word) (string (drop (i + 8) t))) ∙ ap (λ u. hash_from h (map signed u)) (sym on) ∙ r.goes_on;
        }

    pub reached-end : {n : ℕ} → n ≡ length (string (bytes 8 word)) → n < 8
        → (i + n ≡ length (string t)) × (hash_from h (map signed (take n (bytes 8 word))) ≡ hash (string t))
    reached-end {n} e l =
        let cut : length (string (bytes 8 word)) < length (bytes 8 word) = omega (arith, e, bytes-length 8 word) in
        let is = ap string rest ∙ string-cut (bytes 8 word) (drop (i + 8) t) cut in
        let front = ap (λ k. take k (bytes 8 word)) e ∙ string-front (bytes 8 word) in
        (omega (arith, r.passed, ap length is, e), ap (λ u. hash_from h (map signed u)) (front ∙ sym is) ∙ r.goes_on)

-- the start
pub reached-start : (t : List ℕ) → ((j : ℕ) → slice_index t j < 256) → Reached t 0 0
reached-start t small = record { inside = omega arith; passed = omega arith; goes_on = hash-from-none (string t) (rw (string-first t) (small 0)) }
