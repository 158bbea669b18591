-- Texts of 1 to a limit of bytes, none of them zero: what one tells; that one is a whole string
-- where a zero byte ends it; and that the bytes of a whole string are one, and lie inside.
use Rattle.std.specs.Prelude.{ℕ, zero, suc, ◌+◌, ◌≤◌, ◌<◌, ◌≡◌, refl, List, [], ◌∷◌, ◌++◌, true, length, drop}
use Rattle.std.proofs.Common.{sym, ap, ◌∙◌, arith, ltb-true, leb-true, eqb-true, lt-ltb, le-leb, eq-eqb, length-append, length-drop}
use Rattle.std.proofs.Math.Bool.{and-eq-true_iff}
use Rattle.std.proofs.Math.Seq.{take-length}
use Rattle.format.specs.String.{string, extent, is_whole, text_within, allowed}
use Rattle.format.proofs.Laws.Faults.{also}
use Rattle.format.proofs.Laws.Strings.{string-front, judgement, whole, whole-is-whole, whole-string}

-- it has bytes, not too many, and is its own string, since no zero byte cuts it
pub record TextWithin (limit : ℕ) (t : List ℕ) : Type 0 where
  pub some : 0 < length t
  pub within : length t ≤ limit
  pub uncut : string t ≡ t

pub text-tells : (limit : ℕ) (t : List ℕ) → text_within limit t ≡ true → TextWithin limit t
text-tells limit t e =
    let all = (and-eq-true_iff _ _).0 e in
    let sized = (and-eq-true_iff _ _).0 all.0 in
    record {
      some = ltb-true _ _ sized.0;
      within = leb-true _ _ sized.1;
      uncut = sym (string-front t) ∙ rw (eqb-true (length (string t)) (length t) all.1) (take-length t);
    }

pub allowed-tells : (name : List ℕ) → allowed name ≡ true → TextWithin 255 name
unfolding allowed
allowed-tells name e = text-tells 255 name e

-- a zero byte ends it
string-until : (t rest : List ℕ) → string t ≡ t → string (t ++ 0 ∷ rest) ≡ t
unfolding string
string-until [] rest e = refl
string-until (zero ∷ t) rest e = cc
string-until (suc b ∷ t) rest e = ap (λ u. suc b ∷ u) (string-until t rest (cc))

module _ {limit : ℕ} {t : List ℕ} (h : TextWithin limit t) {s : List ℕ} (rest : List ℕ) (parts : s ≡ t ++ 0 ∷ rest) where
  pub ended-string : string s ≡ t
  ended-string = ap string parts ∙ string-until t rest h.uncut

  pub ended-whole : is_whole (extent limit s) ≡ true
  ended-whole =
      let same = ap length ended-string in
      let longer : length t < length s = omega (arith, simp length-append at (ap length parts)) in
      whole-is-whole limit s (length t)
      (sym (judgement limit s (whole (sym same) (record { some = omega arith; within = omega arith; ended = omega arith }))))

-- the bytes of a whole string
string-twice : (t : List ℕ) → string (string t) ≡ string t
unfolding string
string-twice [] = refl
string-twice (zero ∷ t) = refl
string-twice (suc b ∷ t) = ap (λ l. suc b ∷ l) (string-twice t)

pub whole-text : (limit : ℕ) (t : List ℕ) → is_whole (extent limit t) ≡ true → text_within limit (string t) ≡ true
whole-text limit t e =
    let w = whole-string limit t e in
    also (also (lt-ltb _ _ w.some) (le-leb _ _ w.within)) (eq-eqb _ _ (ap length (string-twice t)))

pub whole-allowed : (t : List ℕ) → is_whole (extent 255 t) ≡ true → allowed (string t) ≡ true
unfolding allowed
whole-allowed t e = whole-text 255 t e

pub whole-inside : (limit : ℕ) (s : List ℕ) (p : ℕ) → is_whole (extent limit (drop p s)) ≡ true → p + length (string (drop p s)) ≤ length s
whole-inside limit s p e = omega (arith, (whole-string limit (drop p s) e).ended, length-drop p s)
