-- What the judgement of a path and of an icon is by what is judged first, and how things in a row
-- are judged one after the other.
use Rattle.std.specs.Prelude.{ℕ, zero, suc, ◌+◌, ◌-◌, ◌≤◌, ◌<◌, ◌≡◌, refl, List, true, false, get_or, Result, Ok, Err}
use Rattle.std.proofs.Common.{sym, ◌∙◌, add-zero, zero-add, arith}
use Rattle.std.proofs.Math.Path.{ap}
use Rattle.std.proofs.Math.Bool.{and-eq-true_iff}
use Rattle.std.proofs.Math.Numerals.{add-one}
use borrow.Author.Tests.{leb-true}
use Rattle.std.proofs.Math.ListN.{length}
use Rattle.format.specs.Number.{be}
use Rattle.format.specs.Layout.{image_size}
use Rattle.format.specs.Fault.{fault, no_fault, unless, ◌or_else◌, first_fault, outcome}
use Rattle.format.specs.declared.Fault.{Fault}
use Rattle.format.proofs.Laws.Outcomes.{outcome-kept, outcome-broken, kept-by, broken-by}
use Rattle.format.proofs.Laws.Faults.{same_number, first-end, first-stop, first-go-on, or_else-none, unless-none, unless-broken, broken-speaks, kept-passes}
use Rattle.catalogue.specs.Row.{row_end}
use Rattle.catalogue.specs.Fields.{path_end, image_end, image_count, image_count_at, first_image_at, icon_end}
use Rattle.catalogue.specs.Judgement.{valid_path_length, valid_path_text, valid_image_field, valid_name_length, valid_name_text, valid_image_count, path_fields_fault, image_field_fault, icon_fields_fault}
use Rattle.catalogue.proofs.Laws.Rows.{end-steps}
use Rattle.entries.specs.Judged.{row_judged}

-- a number of one byte is that byte
pub one_byte : (s : List ℕ) (p : ℕ) → be 1 s p ≡ get_or s p 0
unfolding be
one_byte s p = simp (add-zero, zero-add)

-- what is handed on of fields: a field that is refused, and fields that are kept up to their end
pub refuses : (e : ℕ) {v : Fault} {p : ℕ} {a : Result ℕ Fault} → v ≡ fault 18 p → a ≡ Err (fault 18 p) → a ≡ outcome v e
refuses e is told = rw (told, is)

pub keeps : {v : Fault} {e : ℕ} {a : Result ℕ Fault} → v ≡ no_fault → a ≡ Ok e → a ≡ outcome v e
keeps is told = rw (told, is)

module _ (c : List ℕ) (p : ℕ) where
  pub length-refused : valid_path_length c p ≡ false → path_fields_fault c p ≡ fault 18 p
  unfolding path_fields_fault
  length-refused e = broken-speaks (valid_path_length c p) 17 p _ e

  module _ (l : valid_path_length c p ≡ true) where
    pub length-inside : p + 2 ≤ length c
    length-inside = leb-true _ _ ((and-eq-true_iff _ _).0 ((and-eq-true_iff _ _).0 l).0).0

    pub text-refused : valid_path_text c p ≡ false → path_fields_fault c p ≡ fault 18 (p + 2)
    unfolding path_fields_fault
    text-refused e = kept-passes (valid_path_length c p) 18 p _ l ∙ unless-broken (valid_path_text c p) 18 (p + 2) e

    pub path-kept : valid_path_text c p ≡ true → path_fields_fault c p ≡ no_fault
    unfolding path_fields_fault
    path-kept t = kept-passes (valid_path_length c p) 18 p _ l ∙ rw t

  pub path_inside : (path_fields_fault c p).number ≡ 0 → path_end c p ≤ length c
  unfolding path_fields_fault
  path_inside none = leb-true _ _ ((and-eq-true_iff _ _).0 (unless-none (valid_path_text c p) 17 (p + 2) (or_else-none _ _ none).1)).0

-- things that end inside where they are kept
pub row_inside : (judge : ℕ → Fault) (next : ℕ → ℕ) {most : ℕ} → ((p : ℕ) → (judge p).number ≡ 0 → next p ≤ most)
    → (n p : ℕ) → p ≤ most → (first_fault judge next n p).number ≡ 0 → row_end next n p ≤ most
unfolding first_fault row_end
row_inside judge next each zero p h none = h
row_inside judge next each (suc n) p h none = let (first, rest) = or_else-none _ _ none in row_inside judge next each n (next p) (each p first) rest

row-next : (judge : ℕ → Fault) (next : ℕ → ℕ) (n m p : ℕ) → n ≡ m + 1 → (judge p).number ≡ 0
    → row_judged judge next m (next p) ≡ row_judged judge next n p
unfolding row_end
row-next judge next n m p more kept = rw (first-go-on judge next p n m more kept, more, add-one m)

-- an icon of a catalogue with n directories
module _ (n : ℕ) (c : List ℕ) (p : ℕ) where
  pub name-length-refused : valid_name_length c p ≡ false → icon_fields_fault n c p ≡ fault 18 p
  unfolding icon_fields_fault
  name-length-refused e = broken-speaks (valid_name_length c p) 17 p _ e

  module _ (l : valid_name_length c p ≡ true) where
    pub name-length-inside : p < length c
    name-length-inside = let there : p + 1 ≤ length c = leb-true _ _ ((and-eq-true_iff _ _).0 l).0 in omega arith

    pub name-refused : valid_name_text c p ≡ false → icon_fields_fault n c p ≡ fault 18 (p + 1)
    unfolding icon_fields_fault
    name-refused e = kept-passes (valid_name_length c p) 18 p _ l ∙ broken-speaks (valid_name_text c p) 17 (p + 1) _ e

    module _ (t : valid_name_text c p ≡ true) where
      pub name-inside : image_count_at c p ≤ length c
      name-inside = leb-true _ _ ((and-eq-true_iff _ _).0 t).0

      named : (v : Fault) → unless (valid_name_length c p) 18 p or_else unless (valid_name_text c p) 18 (p + 1) or_else v ≡ v
      named v = kept-passes (valid_name_length c p) 18 p _ l ∙ kept-passes (valid_name_text c p) 18 (p + 1) v t

      pub count-refused : valid_image_count c p ≡ false → icon_fields_fault n c p ≡ fault 18 (image_count_at c p)
      unfolding icon_fields_fault
      count-refused e = named _ ∙ broken-speaks (valid_image_count c p) 17 (image_count_at c p) _ e

      module _ (m : valid_image_count c p ≡ true) where
        pub count-inside : first_image_at c p ≤ length c
        count-inside = leb-true _ _ ((and-eq-true_iff _ _).0 m).0

        -- its images decide
        pub images-decide : outcome (icon_fields_fault n c p) (icon_end c p) ≡ row_judged (image_field_fault n c) image_end (image_count c p) (first_image_at c p)
        unfolding icon_fields_fault
        images-decide =
            ap (λ v. outcome v (icon_end c p)) (named _ ∙ kept-passes (valid_image_count c p) 18 (image_count_at c p) _ m)
            ∙ ap (outcome (first_fault (image_field_fault n c) image_end (image_count c p) (first_image_at c p))) (sym (end-steps image_size (image_count c p) (first_image_at c p)))

  image-inside : (q : ℕ) → (image_field_fault n c q).number ≡ 0 → image_end q ≤ length c
  image-inside q kept = leb-true _ _ ((and-eq-true_iff _ _).0 (unless-none (valid_image_field n c q) 17 q kept)).0

  pub icon-inside : (icon_fields_fault n c p).number ≡ 0 → icon_end c p ≤ length c
  unfolding icon_fields_fault
  icon-inside none =
      let counted = or_else-none _ _ (or_else-none _ _ (or_else-none _ _ none).1).1 in
      let first : first_image_at c p ≤ length c = leb-true _ _ ((and-eq-true_iff _ _).0 (unless-none (valid_image_count c p) 17 _ counted.0)).0 in
      rw (← (end-steps image_size (image_count c p) (first_image_at c p))) (row_inside (image_field_fault n c) image_end image-inside (image_count c p) (first_image_at c p) first counted.1)

-- where one that is kept ends
pub kept-inside : (v : Fault) (e : ℕ) {q most : ℕ} → Ok q ≡ outcome v e → (v.number ≡ 0 → e ≤ most) → q ≤ most
kept-inside v e {q} told h = let (kept, is) = kept-by v e q told in rw is (h kept)

-- where things in a row end that are kept
pub judged-end : (judge : ℕ → Fault) (next : ℕ → ℕ) (n p : ℕ) {e : ℕ} → Ok e ≡ row_judged judge next n p → e ≡ row_end next n p
judged-end judge next n p {e} told = (kept-by (first_fault judge next n p) (row_end next n p) e told).1

-- n things in a row, and p is where the one behind the first i begins: none is left, that one is
-- refused, or it is kept and the rest decides
module _ (judge : ℕ → Fault) (next : ℕ → ℕ) (p : ℕ) {n i : ℕ} where
  pub row-done : n ≤ i → Ok p ≡ row_judged judge next (n - i) p
  unfolding row_end
  row-done l =
      let none : n - i ≡ 0 = omega arith in
      rw none (sym (outcome-kept (first_fault judge next 0 p) p (same_number (first-end judge next p 0 refl))))

  module _ (l : i < n) where
    pub row-stops : (e : ℕ) {f : Fault} → Err f ≡ outcome (judge p) e → Err f ≡ row_judged judge next (n - i) p
    row-stops e {f} told =
        let (broken, is) = broken-by (judge p) e f told in
        rw (is, first-stop judge next p (n - i) (omega arith) broken) (sym (outcome-broken (judge p) (row_end next (n - i) p) broken))

    pub row-goes-on : {q : ℕ} → Ok q ≡ outcome (judge p) (next p) → row_judged judge next (n - (i + 1)) q ≡ row_judged judge next (n - i) p
    row-goes-on {q} told =
        let (kept, is) = kept-by (judge p) (next p) q told in
        rw is (row-next judge next (n - i) (n - (i + 1)) p (omega arith) kept)
