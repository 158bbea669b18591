-- What follows from the definitions: the same flags are set in either numbering, so there and back
-- is the identity. What holds of the numbers 0 to 15 alone is computed at each of them (`agree`).
use Rattle.std.specs.Prelude.{ℕ, zero, suc, ◌+◌, ◌≤◌, ◌<◌, ◌≡◌, refl, List, Bool, true, false, ◌&&◌, eqb, leb, Option, None, Some, MatchOption, IfErr}
use Rattle.std.proofs.Common.{ap, arith, below_more, le-leb, leb-true, eqb-true}
use Rattle.std.proofs.Math.Bool.{and-eq-true_iff}
use Rattle.format.specs.Number.{be}
use Rattle.std.specs.Option.{ok_or}
use Rattle.format.specs.Fault.{fault, unless, outcome, if_kept}
use Rattle.format.specs.Header.{directories}
use Rattle.format.specs.Record.{valid_index, valid_image}
use Rattle.flags.specs.declared.Numbering.{Numbering}
use Rattle.flags.specs.declared.Numbering.TheVariants.{Freedesktop, Gtk}
use Rattle.flags.specs.Flags.{Flag, bitmap, xpm, svg, icon_file, flag_bit, renumbered, numbering, known, valid_flags, flags_is, flags_answer, answer, flags_in, ThereAndBack}

-- two functions agree on each number below n, as a test that antt computes
abbrev pub agree_below : ℕ → (ℕ → ℕ) → (ℕ → ℕ) → Bool
agree_below zero f g = true
agree_below (suc n) f g = eqb (f n) (g n) && agree_below n f g

pub agree : (n : ℕ) (f g : ℕ → ℕ) → agree_below n f g ≡ true → (x : ℕ) → x < n → f x ≡ g x
agree zero f g e x l = absurd (omega arith)
agree (suc n) f g e x l =
    let parts = (and-eq-true_iff (eqb (f n) (g n)) (agree_below n f g)).0 e in
    below_more (λ y. f y ≡ g y) n (agree n f g parts.1) (eqb-true (f n) (g n) parts.0) x (omega arith)

-- from a numbering to itself nothing moves
pub same-numbering : (n : Numbering) (x : ℕ) → x ≤ 15 → renumbered n n x ≡ x
unfolding renumbered
same-numbering n x l = agree 16 (renumbered n n) (λ y. y) (computed n) x (omega arith)
  where
    computed : (n : Numbering) → agree_below 16 (renumbered n n) (λ y. y) ≡ true
    computed Freedesktop = refl
    computed Gtk = refl

-- each flag is set in the result exactly if it was set before
pub same_flags : (n m : Numbering) (x : ℕ) (f : Flag) → flag_bit m (renumbered n m x) f ≡ flag_bit n x f
unfolding renumbered
same_flags n Freedesktop x bitmap = omega arith
same_flags n Freedesktop x xpm = omega arith
same_flags n Freedesktop x svg = omega arith
same_flags n Freedesktop x icon_file = omega arith
same_flags n Gtk x bitmap = omega arith
same_flags n Gtk x xpm = omega arith
same_flags n Gtk x svg = omega arith
same_flags n Gtk x icon_file = omega arith

-- there and back is the identity, over any two numberings
pub renumbered-back : (n m : Numbering) (x : ℕ) → x ≤ 15 → renumbered m n (renumbered n m x) ≡ x
unfolding renumbered
renumbered-back n m x small =
    rw (same_flags n m x bitmap, same_flags n m x xpm, same_flags n m x svg, same_flags n m x icon_file) (same-numbering n x small)

-- whatever the number, no more than the four flags is left of it
pub renumbered-small : (n m : Numbering) (x : ℕ) → renumbered n m x ≤ 15
unfolding renumbered
renumbered-small n Freedesktop x = omega arith
renumbered-small n Gtk x = omega arith

pub valid-facts : (x j k : ℕ) → valid_flags x j k ≡ true → (x ≤ 15) × (j ≤ 1) × (k ≤ 1)
valid-facts x j k e =
    let parts = (and-eq-true_iff (leb x 15 && known j) (known k)).0 e in
    let first_two = (and-eq-true_iff (leb x 15) (known j)).0 parts.0 in
    (leb-true x 15 first_two.0, leb-true j 1 first_two.1, leb-true k 1 parts.1)

-- the two answers
pub answer-valid : (x j k : ℕ) → x ≤ 15 → j ≤ 1 → k ≤ 1 → answer x j k ≡ flags_is 0 0 (renumbered (numbering j) (numbering k) x)
unfolding answer
answer-valid x j k small from to = rw (le-leb x 15 small, le-leb j 1 from, le-leb k 1 to)

pub answer-wrong : (x j k : ℕ) → valid_flags x j k ≡ false → answer x j k ≡ flags_is 27 0 0
unfolding answer
answer-wrong x j k e = rw e

-- flags as they are handed on: refused where there are none, and a refusal has a number
pub handed_on : (r : Option ℕ) (b : Bool) (x : ℕ) → MatchOption r (b ≡ false) (λ y. (b ≡ true) × (y ≡ x))
    → ok_or r (fault 27 0) ≡ outcome (unless b 27 0) x
handed_on None b x e = rw e
handed_on (Some y) b x (e, same) = rw (e, same)

pub has-number : (b : Bool) (x : ℕ) → IfErr (outcome (unless b 27 0) x) (λ f. 0 < f.number)
has-number true x = tt
has-number false x = omega arith

-- spread, they are the answer
pub spread : (x j k : ℕ) → flags_answer (outcome (unless (valid_flags x j k) 27 0) (renumbered (numbering j) (numbering k) x)) ≡ answer x j k
unfolding answer
spread x j k = each (valid_flags x j k) (renumbered (numbering j) (numbering k) x)
  where
    each : (b : Bool) (y : ℕ) → flags_answer (outcome (unless b 27 0) y) ≡ flags_is (unless b 27 0).number (unless b 27 0).place (if_kept (unless b 27 0) y 0)
    each true y = refl
    each false y = refl

-- the place is always 0, so the number and the flags are the whole answer
pub no_place : (x j k : ℕ) → flags_is (answer x j k).number 0 (answer x j k).flags ≡ answer x j k
unfolding answer
no_place x j k = ap (λ p. flags_is (answer x j k).number p (answer x j k).flags) (none (valid_flags x j k))
  where
    none : (t : Bool) → 0 ≡ (unless t 27 0).place
    none true = refl
    none false = refl

answer_back : (x j k : ℕ) → x ≤ 15 → j ≤ 1 → k ≤ 1 → answer (answer x j k).flags k j ≡ flags_is 0 0 x
answer_back x j k small from to =
    let n = numbering j in
    let m = numbering k in
    rw (answer-valid x j k small from to, answer-valid (renumbered n m x) k j (renumbered-small n m x) to from)
    (ap (flags_is 0 0) (renumbered-back n m x small))

pub there_and_back : (x k : ℕ) → x ≤ 15 → k ≤ 1 → ThereAndBack x k
there_and_back x k small low =
    record { in-out = answer_back x k 0 small low (omega arith); out-in = answer_back x 0 k small (omega arith) low }

-- the flags of an image that keeps rule 11 are refused in no known numbering
pub image-taken : (s : List ℕ) (p k : ℕ) → valid_image s p ≡ true → k ≤ 1 → (flags_in (be 2 s (p + 2)) k).number ≡ 0
image-taken s p k e low =
    let x = be 2 s (p + 2) in
    let small = leb-true x 15 ((and-eq-true_iff (valid_index (directories s) (be 2 s p)) (leb x 15)).0 e).1 in
    rw (answer-valid x k 0 small low (omega arith))
