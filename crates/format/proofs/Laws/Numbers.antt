-- Which numbers a judgement can give: 0, or one of a list; the test computes, so that a number that
-- is not among them is refuted by it.
use Prim.Native.Nat.{ℕ, zero, suc}
use Rattle.std.specs.Prelude.{◌≡◌, List, [], ◌∷◌, Bool, true, false, ◌&&◌}
use Rattle.std.proofs.Math.Path.{refl}
use Rattle.std.proofs.Common.{sym, ◌∙◌, subst, ne_eqb}
use Rattle.std.proofs.Math.Bool.{and-eq-true_iff}
use Rattle.std.proofs.lemmas.Bool.{false≢true}
use Rattle.std.proofs.Math.Decide.{ℕ_discrete}
use Rattle.format.specs.Fault.{unless, ◌or_else◌, first_fault}
use Rattle.format.specs.Listed.{listed}
use Rattle.format.specs.declared.Fault.{Fault}
use Rattle.format.specs.declared.Reading.{Reading}
use Rattle.format.specs.declared.Reading.TheVariants.{Short, Long}
use Rattle.format.proofs.Laws.Faults.{or_else-first, or_else-next}

pub record OneOf (ns : List ℕ) (x : ℕ) : Type 0 where
  pub one : listed x (0 ∷ ns) ≡ true

-- the numbers of rules: on the header, on a path, on a record by a reading, at a field of a chain
abbrev pub header_numbers : List ℕ
header_numbers = 1 ∷ 2 ∷ 3 ∷ 4 ∷ 5 ∷ []

abbrev pub tables_numbers : List ℕ
tables_numbers = 6 ∷ 16 ∷ 17 ∷ header_numbers

abbrev pub record_numbers : Reading → List ℕ
record_numbers Short = 8 ∷ 9 ∷ 10 ∷ 11 ∷ 17 ∷ []
record_numbers Long = 22 ∷ 23 ∷ 24 ∷ 8 ∷ 9 ∷ 10 ∷ 11 ∷ 17 ∷ []

abbrev pub link_numbers : Reading → List ℕ
link_numbers ρ = 7 ∷ record_numbers ρ

-- another number is none of them
pub never : {ns : List ℕ} {x : ℕ} (n : ℕ) → OneOf ns x → listed n (0 ∷ ns) ≡ false → x ≡ n → ⊥
never {ns} n h out e = false≢true (sym out ∙ subst (λ y. listed y (0 ∷ ns) ≡ true) e h.one)

module _ {ns : List ℕ} where
  pub unless-one : (b : Bool) (n p : ℕ) → listed n (0 ∷ ns) ≡ true → OneOf ns (unless b n p).number
  unless-one true n p h = record { one = refl }
  unless-one false n p h = record { one = h }

  pub or_else-one : (x y : Fault) → OneOf ns x.number → OneOf ns y.number → OneOf ns (x or_else y).number
  or_else-one x y h g = elim (ℕ_discrete x.number 0) [ yes kept ↦ rw (or_else-next x y kept) g | no broken ↦ rw (or_else-first x y broken) h ]

  pub first_one : (judge : ℕ → Fault) (next : ℕ → ℕ) (n p : ℕ) → ((q : ℕ) → OneOf ns (judge q).number) → OneOf ns (first_fault judge next n p).number
  unfolding first_fault
  first_one judge next zero p each = record { one = refl }
  first_one judge next (suc n) p each = or_else-one _ _ (each p) (first_one judge next n (next p) each)

-- more numbers
abbrev pub includes : List ℕ → List ℕ → Bool
includes ms [] = true
includes ms (n ∷ ns) = listed n ms && includes ms ns

listed_in : (ns ms : List ℕ) (x : ℕ) → includes ms ns ≡ true → listed x ns ≡ true → listed x ms ≡ true
listed_in [] ms x h e = absurd (false≢true e)
listed_in (n ∷ ns) ms x h e =
    let both = (and-eq-true_iff (listed n ms) _).0 h in
    elim (ℕ_discrete x n) [ yes q ↦ rw q both.0 | no q ↦ listed_in ns ms x both.1 (rw (ne_eqb x n q) at e) ]

pub widened : {ns ms : List ℕ} {x : ℕ} → includes (0 ∷ ms) (0 ∷ ns) ≡ true → OneOf ns x → OneOf ms x
widened {ns} {ms} {x} h e = record { one = listed_in (0 ∷ ns) (0 ∷ ms) x h e.one }

-- a record's number is one at its field
pub at_field : (ρ : Reading) {x : ℕ} → OneOf (record_numbers ρ) x → OneOf (link_numbers ρ) x
at_field Short h = widened refl h
at_field Long h = widened refl h

-- the numbers of the long reading are those of any
pub of-any : (ρ : Reading) {x : ℕ} → OneOf (link_numbers ρ) x → OneOf (link_numbers Long) x
of-any Short h = widened refl h
of-any Long h = h
