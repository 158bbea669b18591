-- What a byte counts as, that the hash of a name goes on from 0 byte by byte, and the bucket that
-- it gives.
use Rattle.std.specs.Prelude.{ℕ, suc, ◌+◌, ◌-◌, ◌*◌, ◌%◌, ◌^◌, ◌<◌, ◌≡◌, refl, List, [], ◌∷◌, map, Bool, true, false, ◌&&◌, length, take, get_or, T, ltb, eqb, if◌then◌else◌}
use Rattle.std.proofs.Common.{ap, arith, lt-ltb, ltb-true, ltb-false, take_all}
use Rattle.format.specs.String.{string, signed, hash_from, hash_numbers, hash, allowed}
use Rattle.format.specs.Header.{buckets}
use Rattle.format.specs.Record.{bucket_of}
use Rattle.format.proofs.Laws.Texts.{allowed-tells}

-- 127 counts as 127, 128 as -128 and 255 as -1
ends : T (eqb (signed 127) 127 && eqb (signed 128) (2 ^ 32 - 128) && eqb (signed 255) (2 ^ 32 - 1))
unfolding signed
ends = tt

-- request 1's example, the two bytes of é, signed and as they stand; and the first of them alone,
-- which is signed too
accented : T (eqb (hash (0xC3 ∷ 0xA9 ∷ [])) 4294965318 && eqb (hash_numbers (0xC3 ∷ 0xA9 ∷ [])) 6214 && eqb (hash (0xC3 ∷ [])) 4294967235)
unfolding hash hash_numbers hash_from signed
accented = tt

signed_low : (b : ℕ) → b < 128 → signed b ≡ b
unfolding signed
signed_low b l = rw (lt-ltb b 128 l)

-- the signed number is below 2^32; raised by 128 and wrapped, it is the byte raised by 128 and
-- wrapped
pub signed-raised : (b : ℕ) → b < 256 → (signed b < 2 ^ 32) × ((signed b + 128) % 2 ^ 32 ≡ (b + 128) % 2 ^ 8)
unfolding signed
signed-raised b l = go (ltb b 128) refl
  where
    go : (t : Bool) → ltb b 128 ≡ t → let n = if t then b else 2 ^ 32 + b - 256 in (n < 2 ^ 32) × ((n + 128) % 2 ^ 32 ≡ (b + 128) % 2 ^ 8)
    go true e = let low = ltb-true b 128 e in (omega arith, omega arith)
    go false e = let high = ltb-false b 128 e in (omega arith, omega arith)

-- each byte is below 128
abbrev pub Ascii : List ℕ → Type 0
Ascii name = (i : ℕ) → i < length name → get_or name i 0 < 128

map-ascii : (name : List ℕ) → Ascii name → map signed name ≡ name
map-ascii [] low = refl
map-ascii (b ∷ t) low = cc (signed_low b (low 0 (omega arith)), map-ascii t (λ i l. low (suc i) (omega arith)))

-- such a name has document 01's hash, where each byte counts as it stands
pub ascii-hash : (name : List ℕ) → Ascii name → hash name ≡ hash_numbers name
unfolding hash
ascii-hash name low = ap hash_numbers (map-ascii name low)

-- the first byte is the hash of itself, so the hash may go on from 0 through all the bytes
pub hash-from-none : (t : List ℕ) → get_or t 0 0 < 256 → hash_from 0 (map signed t) ≡ hash t
unfolding hash hash_numbers hash_from
hash-from-none [] small = refl
hash-from-none (b ∷ t) small =
    let itself : (31 * 0 + signed b) % 2 ^ 32 ≡ signed b = omega (arith, (signed-raised b small).0) in
    ap (λ h. hash_from h (map signed t)) itself

-- a name that may be asked for is hashed whole: no zero byte cuts it, and it is not too long
pub allowed-hash : (name : List ℕ) → allowed name ≡ true → hash (take 255 (string name)) ≡ hash name
allowed-hash name e = ap hash (rw (allowed-tells name e).uncut (take_all 255 name (allowed-tells name e).within))

-- the bucket of a name from its hash and the count of the buckets
pub hash-bucket : (s name : List ℕ) {h b : ℕ} → h ≡ hash name → b ≡ buckets s → h % b ≡ bucket_of s name
hash-bucket s name e q = rw (e, q)
