-- How a number read at one width is made of numbers read at narrower ones, and where the entries of
-- a list that lies inside end.
use Rattle.std.specs.Prelude.{ℕ, zero, suc, ◌+◌, ◌*◌, ◌^◌, ◌≤◌, ◌≡◌, refl, List, true, length, drop, get_or}
use Rattle.std.proofs.Math.Bool.{and-eq-true_iff}
use Rattle.std.proofs.Common.{zero-add, add-zero, add-suc, add_assoc, add-mul, mul-one, mul_assoc, pow-suc, arith, leb-true, le-leb, get_or-drop}
use Rattle.format.specs.Number.{be}
use Rattle.format.specs.Part.{inside, list_inside}
use Rattle.format.proofs.Laws.Faults.{also}

-- one byte is a number of width 1
pub be-byte : (s : List ℕ) (p : ℕ) → be 1 s p ≡ get_or s p 0
unfolding be
be-byte s p = simp (zero-add, add-zero)

-- a number is read at the front of what comes from its offset on
pub be-drop : (w : ℕ) (s : List ℕ) (p : ℕ) → be w s p ≡ be w (drop p s) 0
unfolding be
be-drop zero s p = refl
be-drop (suc w) s p = rw (be-drop w s p, zero-add, get_or-drop)

-- v bytes and the w after them, read as one number
pub be-join : (v w : ℕ) (s : List ℕ) (p : ℕ) → be (v + w) s p ≡ be v s p * 256 ^ w + be w s (p + v)
unfolding be
be-join v zero s p = simp (add-zero, mul-one)
be-join v (suc w) s p = rw (add-suc, be, be-join v w s p) (simp (pow-suc, add-mul, mul_assoc, add_assoc))

-- the last entry of a list ends inside, and a list is inside whose last entry ends there
pub list-ends : (s : List ℕ) (p size : ℕ) → list_inside s p size ≡ true → p + 4 + size * be 4 s p ≤ length s
list-ends s p size h =
    let ends : p + (4 + size * be 4 s p) ≤ length s = leb-true _ _ ((and-eq-true_iff (inside s p 4) _).0 h).1 in
    omega arith

pub list_inside_lem : (s : List ℕ) (p size : ℕ) → p + 4 + size * be 4 s p ≤ length s → list_inside s p size ≡ true
list_inside_lem s p size h =
    let count : p + 4 ≤ length s = omega arith in
    let all : p + (4 + size * be 4 s p) ≤ length s = omega arith in
    also (le-leb _ _ count) (le-leb _ _ all)
