-- Laws of strings: where one stops and how it goes on, what is left of it, and what each answer of
-- `extent` says of it.
use Rattle.std.specs.Prelude.{ℕ, zero, suc, ◌+◌, ◌-◌, ◌≤◌, ◌<◌, ◌≡◌, refl, List, [], ◌∷◌, Bool, true, false, take, drop, get_or, ltb, leb, eqb, if◌then◌else◌}
use Rattle.std.proofs.Common.{zero-le, suc-le-suc, add-one, arith, take_all}
use Rattle.std.proofs.Math.Path.{ap}
use Rattle.std.proofs.lemmas.Bool.{false≢true}
use Rattle.std.proofs.Math.Nat.{sub_self}
use borrow.Author.Tests.{lt-ltb, le-ltb, le-leb, lt-leb, ne_eqb, ltb-true, ltb-false, leb-true, leb-false, eqb-true, eqb-false}
use Rattle.std.proofs.Math.ListN.{length, get_or-eq_default}
use Rattle.std.proofs.Math.Seq.{take-nil, drop-nil}
use Rattle.format.specs.String.{string, ended, extent, is_whole}
use Rattle.format.specs.declared.Extent.{Extent}
use Rattle.format.specs.declared.Extent.TheVariants.{Whole, Empty, Long, Cut}

-- `get_or` counts a byte past the end as 0
pub string-stops : (t : List ℕ) (i : ℕ) → get_or t i 0 ≡ 0 → string (drop i t) ≡ []
unfolding string
string-stops [] i e = rw drop-nil
string-stops (zero ∷ t) zero e = refl
string-stops (suc b ∷ t) zero e = absurd (omega arith)
string-stops (b ∷ t) (suc i) e = string-stops t i e

pub string-goes-on : (t : List ℕ) (i : ℕ) → (get_or t i 0 ≡ 0 → ⊥) → string (drop i t) ≡ get_or t i 0 ∷ string (drop (i + 1) t)
unfolding string
string-goes-on [] i nz = absurd (nz refl)
string-goes-on (zero ∷ t) zero nz = absurd (nz refl)
string-goes-on (suc b ∷ t) zero nz = refl
string-goes-on (b ∷ t) (suc i) nz = rw add-one (rw add-one at (string-goes-on t i nz))

-- what is left of the string, within the limit, from byte i on
abbrev pub left : ℕ → List ℕ → ℕ → List ℕ
left limit t i = take (limit - i) (string (drop i t))

module _ (limit : ℕ) (t : List ℕ) (i : ℕ) where
  pub none_left : get_or t i 0 ≡ 0 → left limit t i ≡ []
  none_left e = rw (string-stops t i e, take-nil)

  pub none_within : i ≡ limit → left limit t i ≡ []
  none_within e = rw (e, sub_self)

  pub one_less : i < limit → (get_or t i 0 ≡ 0 → ⊥) → left limit t i ≡ get_or t i 0 ∷ left limit t (i + 1)
  one_less l nz =
      let e : limit - i ≡ suc (limit - (i + 1)) = omega arith in
      rw (string-goes-on t i nz, e)

-- i bytes of the string are passed: these and those of the string of the rest are together as many
-- as the whole string's
abbrev pub Passed : List ℕ → ℕ → Type 0
Passed t i = i + length (string (drop i t)) ≡ length (string t)

module _ (t : List ℕ) (i : ℕ) (passed : Passed t i) where
  pub passed-stops : get_or t i 0 ≡ 0 → length (string t) ≡ i
  passed-stops e = omega (arith, ap length (string-stops t i e))

  pub passed-ends : length t ≤ i → length (string t) ≡ i
  passed-ends h = passed-stops (get_or-eq_default t 0 h)

  pub passed-next : (get_or t i 0 ≡ 0 → ⊥) → Passed t (i + 1)
  passed-next nz = omega (arith, ap length (string-goes-on t i nz))

-- what is answered after i bytes: at a zero byte, at one byte more than the limit, and at the end
module _ (limit : ℕ) (t : List ℕ) (i : ℕ) (passed : Passed t i) where
  pub extent-ended : i < length t → i ≤ limit → get_or t i 0 ≡ 0 → ended i ≡ extent limit t
  unfolding extent
  extent-ended l h e = rw (passed-stops t i passed e, le-ltb limit i h, lt-leb (length t) i l)

  pub extent-long : i ≡ limit → (get_or t i 0 ≡ 0 → ⊥) → Long ≡ extent limit t
  unfolding extent
  extent-long e nz = rw (lt-ltb limit (length (string t)) (omega (arith, ap length (string-goes-on t i nz))))

  pub extent-cut : i ≤ limit → length t ≤ i → Cut ≡ extent limit t
  unfolding extent
  extent-cut h l = rw (passed-ends t i passed l, le-ltb limit i h, le-leb (length t) i l)

pub string-fits : (t : List ℕ) → length (string t) ≤ length t
unfolding string
string-fits [] = zero-le
string-fits (zero ∷ t) = zero-le
string-fits (suc b ∷ t) = suc-le-suc (string-fits t)

pub string-front : (t : List ℕ) → take (length (string t)) t ≡ string t
unfolding string
string-front [] = refl
string-front (zero ∷ t) = refl
string-front (suc b ∷ t) = ap (λ s. suc b ∷ s) (string-front t)

-- what a whole string is: it has bytes, no more than the limit, and a zero byte stands after them
pub record WholeString (limit : ℕ) (t : List ℕ) : Type 0 where
  pub some : 0 < length (string t)
  pub within : length (string t) ≤ limit
  pub ended : length (string t) < length t

-- each answer of `extent`, with what it says of the string
pub data Judged (limit : ℕ) (t : List ℕ) : Extent → Type 0 where
  long : limit < length (string t) → Judged limit t Long
  cut : length (string t) ≤ limit → length t ≤ length (string t) → Judged limit t Cut
  empty : 0 < length t → length (string t) ≡ 0 → Judged limit t Empty
  whole : {n : ℕ} → n ≡ length (string t) → WholeString limit t → Judged limit t (Whole n)

-- what holds of the string gives the answer
pub judgement : (limit : ℕ) (t : List ℕ) {r : Extent} → Judged limit t r → r ≡ extent limit t
unfolding extent
judgement limit t (long h) = simp (lt-ltb _ _ h)
judgement limit t (cut h g) = simp (le-ltb _ _ h, le-leb _ _ g)
judgement limit t (empty h e) = simp (e, le-ltb limit 0 zero-le, lt-leb _ _ h)
judgement limit t (whole e h) =
    let has-bytes : length (string t) ≡ 0 → ⊥ = λ z. omega arith in
    simp (e, le-ltb _ _ h.within, lt-leb _ _ h.ended, ne_eqb _ _ has-bytes)

-- and the answer says what holds of it
pub judged : (limit : ℕ) (t : List ℕ) → Judged limit t (extent limit t)
unfolding extent
judged limit t = go (ltb limit (length (string t))) refl (leb (length t) (length (string t))) refl (eqb (length (string t)) 0) refl
  where
    go : (a : Bool) → ltb limit (length (string t)) ≡ a → (b : Bool) → leb (length t) (length (string t)) ≡ b → (c : Bool) → eqb (length (string t)) 0 ≡ c
        → Judged limit t (if a then Long else if b then Cut else if c then Empty else Whole (length (string t)))
    go true p b q c s = long (ltb-true _ _ p)
    go false p true q c s = cut (ltb-false _ _ p) (leb-true _ _ q)
    go false p false q true s = empty (omega (arith, leb-false, eqb-true)) (eqb-true _ _ s)
    go false p false q false s = whole refl (record { some = omega (arith, eqb-false); within = ltb-false _ _ p; ended = leb-false _ _ q })

pub whole_length : (limit : ℕ) (t : List ℕ) (n : ℕ) → extent limit t ≡ Whole n → n ≡ length (string t)
whole_length limit t n e = go (rw e at (judged limit t))
  where
    go : Judged limit t (Whole n) → n ≡ length (string t)
    go (whole g h) = g

pub whole-is-whole : (limit : ℕ) (t : List ℕ) (n : ℕ) → extent limit t ≡ Whole n → is_whole (extent limit t) ≡ true
unfolding is_whole
whole-is-whole limit t n e = rw e

pub whole-string : (limit : ℕ) (t : List ℕ) → is_whole (extent limit t) ≡ true → WholeString limit t
unfolding is_whole
whole-string limit t e = go (judged limit t) e
  where
    go : {r : Extent} → Judged limit t r → is_whole r ≡ true → WholeString limit t
    go (long h) q = absurd (false≢true q)
    go (cut h g) q = absurd (false≢true q)
    go (empty h g) q = absurd (false≢true q)
    go (whole g h) q = h

-- so as many bytes as the limit allows are all of it, read from any part that is the same
pub whole-within : (limit : ℕ) {u t : List ℕ} → u ≡ t → is_whole (extent limit t) ≡ true → take limit (string u) ≡ string t
whole-within limit {u} {t} e w = rw e (take_all limit (string t) (whole-string limit t w).within)
