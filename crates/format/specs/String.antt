-- Strings, and the hash of a name: document 01, 'The layout', and requests 1 and 7. A string is
-- given by the part of the buffer from its offset on.
use Rattle.std.specs.Prelude.{ℕ, zero, suc, ◌+◌, ◌-◌, ◌*◌, ◌%◌, ◌^◌, List, [], ◌∷◌, map, Bool, true, false, ◌&&◌, ◌||◌, length, ltb, leb, eqb, if◌then◌else◌}
use Rattle.format.specs.Layout.{longest_name}
use Rattle.format.specs.Fault.{fault, no_fault}
use Rattle.format.specs.declared.Fault.{Fault}
use Rattle.format.specs.declared.Extent.{Extent}
use Rattle.format.specs.declared.Extent.TheVariants.{Whole, Empty, Long, Cut}

-- the bytes before the first zero byte
unfoldable pub string : List ℕ → List ℕ
string [] = []
string (zero ∷ t) = []
string (suc b ∷ t) = suc b ∷ string t

-- what a string is that a zero byte ends after n bytes
abbrev pub ended : ℕ → Extent
ended n = if eqb n 0 then Empty else Whole n

-- what the string at the front of t is, within the limit: too long if its first limit + 1 bytes lie
-- inside without a zero byte, else cut off if no zero byte comes
unfoldable pub extent : ℕ → List ℕ → Extent
extent limit t =
    let n = length (string t) in
    if ltb limit n then Long else if leb (length t) n then Cut else ended n

unfoldable pub is_whole : Extent → Bool
is_whole (Whole n) = true
is_whole Empty = false
is_whole Long = false
is_whole Cut = false

-- the rule that a string breaks, at p, by what it is: rule x where it is empty or too long, and 17
-- where it is cut off (request 7)
unfoldable pub string_fault : Extent → ℕ → ℕ → Fault
string_fault (Whole n) x p = no_fault
string_fault Empty x p = fault x p
string_fault Long x p = fault x p
string_fault Cut x p = fault 17 p

-- the same length and the same bytes
unfoldable pub same_bytes : List ℕ → List ℕ → Bool
same_bytes [] [] = true
same_bytes [] (b ∷ t) = false
same_bytes (a ∷ s) [] = false
same_bytes (a ∷ s) (b ∷ t) = eqb a b && same_bytes s t

-- t is one of the texts
unfoldable pub among : List ℕ → List (List ℕ) → Bool
among t [] = false
among t (u ∷ us) = same_bytes t u || among t us

-- the string at the front of t is whole, as a name, and is `name`
abbrev pub spells_name : List ℕ → List ℕ → Bool
spells_name t name = is_whole (extent longest_name t) && same_bytes (string t) name

-- a byte as a signed number, modulo 2^32: 128 to 255 count as -128 to -1 (request 1; in document 01
-- bytes count as 0 to 255)
unfoldable pub signed : ℕ → ℕ
signed b = if ltb b 128 then b else 2 ^ 32 + b - 256

-- the hash after the numbers that are left: 31 times the hash so far plus the number, modulo 2^32
unfoldable pub hash_from : ℕ → List ℕ → ℕ
hash_from h [] = h
hash_from h (n ∷ t) = hash_from ((31 * h + n) % 2 ^ 32) t

-- document 01's hash, of any numbers: the first, then one step for each later one
unfoldable pub hash_numbers : List ℕ → ℕ
hash_numbers [] = 0
hash_numbers (n ∷ t) = hash_from n t

-- the hash of a name: that of its bytes as signed numbers
unfoldable pub hash : List ℕ → ℕ
hash name = hash_numbers (map signed name)

-- a text of 1 to `limit` bytes, none of them zero
abbrev pub text_within : ℕ → List ℕ → Bool
text_within limit t = ltb 0 (length t) && leb (length t) limit && eqb (length (string t)) (length t)

-- a name that may be asked for
unfoldable pub allowed : List ℕ → Bool
allowed name = text_within longest_name name
