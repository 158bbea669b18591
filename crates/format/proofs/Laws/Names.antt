-- Names: the comparison by their bytes is by what they are; and how a part of a buffer spells one.
use Rattle.std.specs.Prelude.{ℕ, zero, suc, ◌<◌, ◌≡◌, refl, ◌⊎◌, true, false, length, take, drop, get_or, eqb}
use Rattle.std.proofs.Common.{sym, ◌∙◌, inl, inr, eqb-true, eq-eqb, take-append-drop, drop-cons}
use mathlib.Core.List.{List, [], ◌∷◌, ◌++◌, List-discrete}
use Rattle.std.proofs.Math.Bool.{and-eq-true_iff, or-true, not-eq-not}
use Rattle.std.proofs.lemmas.Bool.{false≢true}
use Rattle.std.proofs.Math.Decide.{ℕ_discrete}
use Rattle.format.specs.String.{string, extent, is_whole, same_bytes, among, spells_name, allowed}
use Rattle.format.proofs.Laws.Faults.{also}
use Rattle.format.proofs.Laws.Strings.{string-front, whole-string}
use Rattle.format.proofs.Laws.Texts.{allowed-tells, ended-string, ended-whole}

pub same-equal : (a b : List ℕ) → same_bytes a b ≡ true → a ≡ b
unfolding same_bytes
same-equal [] [] e = refl
same-equal [] (y ∷ b) e = absurd (false≢true e)
same-equal (x ∷ a) [] e = absurd (false≢true e)
same-equal (x ∷ a) (y ∷ b) e = let h = (and-eq-true_iff (eqb x y) (same_bytes a b)).0 e in cc (eqb-true x y h.0, same-equal a b h.1)

pub equal-same : (a : List ℕ) → same_bytes a a ≡ true
unfolding same_bytes
equal-same [] = refl
equal-same (x ∷ a) = rw (eq-eqb x x refl) (equal-same a)

pub unequal-other : (a b : List ℕ) → (a ≡ b → ⊥) → same_bytes a b ≡ false
unequal-other a b h = (not-eq-not {b = false}).0 (λ e. h (same-equal a b e))

pub other-unequal : (a b : List ℕ) → same_bytes a b ≡ false → a ≡ b → ⊥
other-unequal a b e q = false≢true (sym e ∙ rw q (equal-same b))

pub equal_or_not : (a b : List ℕ) → Dec (a ≡ b)
equal_or_not a b = List-discrete ℕ_discrete a b

-- a name is one of a list and one name more, if it is that name or one of the list
pub among_first_lem : (n : List ℕ) (ms : List (List ℕ)) → among n (n ∷ ms) ≡ true
unfolding among
among_first_lem n ms = rw (equal-same n)

pub among-rest : (n m : List ℕ) (ms : List (List ℕ)) → among n ms ≡ true → among n (m ∷ ms) ≡ true
unfolding among
among-rest n m ms e = rw (e, or-true)

pub among-either : (n m : List ℕ) (ms : List (List ℕ)) → among n (m ∷ ms) ≡ true → (n ≡ m) ⊎ (among n ms ≡ true)
unfolding among
among-either n m ms e = elim (equal_or_not n m) [
  | yes h ↦ inl h
  | no h ↦ inr (rw (unequal-other n m h) at e)
]

-- the part begins with the name and a zero byte
pub record Begins (part name : List ℕ) : Type 0 where
  pub bytes : take (length name) part ≡ name
  pub room : length name < length part
  pub ended : get_or part (length name) 0 ≡ 0

string-zero : (t : List ℕ) → get_or t (length (string t)) 0 ≡ 0
unfolding string
string-zero [] = refl
string-zero (zero ∷ t) = refl
string-zero (suc b ∷ t) = string-zero t

-- that is how a part spells a name that may be asked for
module _ (part name : List ℕ) where
  pub spells-begins : spells_name part name ≡ true → Begins part name
  spells-begins e =
      let both = (and-eq-true_iff (is_whole (extent 255 part)) _).0 e in
      let same = same-equal (string part) name both.1 in
      rw (← same) (record { bytes = string-front part; room = (whole-string 255 part both.0).ended; ended = string-zero part })

  pub begins-spells : allowed name ≡ true → Begins part name → spells_name part name ≡ true
  begins-spells may b =
      let rest = drop (suc (length name)) part in
      let parts : part ≡ name ++ 0 ∷ rest =
      sym (take-append-drop (length name) part) ∙ rw (drop-cons part (length name) 0 b.room, b.bytes, b.ended) in
      let text = allowed-tells name may in
      also (ended-whole text rest parts) (rw (ended-string text rest parts) (equal-same name))
