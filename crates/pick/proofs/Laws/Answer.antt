-- Of the lent words, of the answer by what is judged first, and its numbers.
use Rattle.std.specs.Prelude.{ℕ, ◌+◌, ◌*◌, ◌≡◌, refl, List, [], ◌∷◌, length}
use Rattle.std.proofs.Common.{ap}
use borrow.Author.Tests.{eq-eqb, ne_eqb, eqb-true}
use Rattle.format.specs.Fault.{fault}
use Rattle.format.specs.Header.{directories}
use Rattle.format.specs.Record.{images_at, images}
use Rattle.format.specs.Call.{find}
use Rattle.format.specs.declared.Found.{Found}
use Rattle.format.proofs.Laws.Faults.{broken-takes, or_else-first, or_else-next, or_else-none, unless-none, broken-speaks, kept-passes}
use Rattle.format.proofs.Laws.Numbers.{OneOf, unless-one, or_else-one, first_one, widened}
use Rattle.format.proofs.Laws.LookupNumbers.{find_numbers, find-number}
use Rattle.pick.specs.Pick.{fits, first_image, kinds_fault, words_fault, pick_is, pick}

-- the lent words: too few or too many, or six for each directory
module _ (s w : List ℕ) where
  pub words-miscounted : (length w ≡ 6 * directories s → ⊥) → words_fault s w ≡ fault 31 0
  unfolding words_fault
  words-miscounted h = broken-speaks _ _ _ _ (ne_eqb _ _ h)

  pub words-counted : length w ≡ 6 * directories s → words_fault s w ≡ kinds_fault (directories s) w
  unfolding words_fault
  words-counted e = kept-passes _ _ _ _ (eq-eqb _ _ e)

  pub words_count : (words_fault s w).number ≡ 0 → length w ≡ 6 * directories s
  unfolding words_fault
  words_count e = eqb-true _ _ (unless-none _ _ _ (or_else-none _ _ e).0)

-- the answer, by what is judged first
module _ (s name : List ℕ) (size scale : ℕ) (w : List ℕ) {a : Found} (e : find s name ≡ a) where
  pub pick-unfound : (a.number ≡ 0 → ⊥) → pick s name size scale w ≡ pick_is a.number a.place
  unfolding pick
  pick-unfound some =
      let first = or_else-first (fault a.number a.place) (words_fault s w) some in
      rw (e, first) (ap (pick_is a.number) (broken-takes (fault a.number a.place) _ _ some))

  module _ (found : a.number ≡ 0) where
    pub pick-undescribed : ((words_fault s w).number ≡ 0 → ⊥) → pick s name size scale w ≡ pick_is (words_fault s w).number (words_fault s w).place
    unfolding pick
    pick-undescribed some =
        let next = or_else-next (fault a.number a.place) (words_fault s w) found in
        rw (e, next) (ap (pick_is (words_fault s w).number) (broken-takes (words_fault s w) _ _ some))

    pub pick_first : (words_fault s w).number ≡ 0
        → pick s name size scale w ≡ pick_is 0 (first_image (fits w size scale s) (images s a.place) (images_at s a.place + 4))
    unfolding pick
    pick_first none =
        let next = or_else-next (fault a.number a.place) (words_fault s w) found in
        rw (e, next, none)

-- so it never answers 6, 14 or 16
abbrev pub pick_numbers : List ℕ
pick_numbers = 31 ∷ 32 ∷ find_numbers

words-number : (s w : List ℕ) → OneOf (31 ∷ 32 ∷ []) (words_fault s w).number
unfolding words_fault
words-number s w = search (or_else-one, unless-one, first_one)

pub pick-number : (s name : List ℕ) (size scale : ℕ) (w : List ℕ) → OneOf pick_numbers (pick s name size scale w).number
unfolding pick
pick-number s name size scale w = or_else-one _ _ (widened refl (find-number s name)) (widened refl (words-number s w))
