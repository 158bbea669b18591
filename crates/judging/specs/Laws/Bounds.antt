-- How far the icons of a catalogue reach that is judged good: each lies inside, and a word can hold
-- its offset.
use Prim.Native.Nat.{ℕ, zero, suc, ◌+◌, ◌*◌, ◌^◌, ◌≤◌, ◌<◌}
use Rattle.std.specs.Prelude.{◌≡◌, List, ◌&&◌, ltb, Ok}
use Rattle.std.proofs.Math.Path.{refl}
use Rattle.std.proofs.Math.Bool.{and-eq-true_iff}
use Rattle.std.proofs.Math.Nat.{mul-zero, mul-suc}
use native.Mathlib.Omega.{arith}
use borrow.Author.Tests.{leb-true}
use Rattle.std.proofs.Math.ListN.{length}
use Rattle.format.specs.Fault.{first_fault}
use Rattle.format.specs.Part.{inside}
use Rattle.format.specs.declared.Fault.{Fault}
use Rattle.format.proofs.Laws.Outcomes.{kept-by}
use Rattle.format.proofs.Laws.Faults.{or_else-next, or_else-none, unless-none}
use Rattle.catalogue.specs.Row.{row_end}
use Rattle.catalogue.specs.Fields.{AreBytes, path_length, path_end, name_length, image_count_at, image_count, icon_end, path_count, icon_count_at, icon_count, first_icon_at, catalogue_end}
use Rattle.catalogue.specs.Judgement.{valid_path_length, valid_name_length, valid_image_count, path_fields_fault, icon_fields_fault, fields_fault}
use Rattle.catalogue.proofs.Laws.Spans.{number_fits}
use Rattle.judging.specs.Judging.{Listed, parts_at, parted}
use Rattle.entries.specs.Laws.{icon-inside, row_inside}
use Rattle.judging.specs.declared.Parts.{Parts}

module _ (judge : ℕ → Fault) (next : ℕ → ℕ) where
  -- of things that are kept, the first i are
  row-fewer : (i n p : ℕ) → i ≤ n → (first_fault judge next n p).number ≡ 0 → (first_fault judge next i p).number ≡ 0
  unfolding first_fault
  row-fewer zero n p l none = refl
  row-fewer (suc i) zero p l none = absurd (omega arith)
  row-fewer (suc i) (suc n) p l none =
      let (first, rest) = or_else-none _ _ none in
      rw (or_else-next (judge p) (first_fault judge next i (next p)) first) (row-fewer i n (next p) (omega arith) rest)

  -- things of at most w bytes each
  row-short : (w : ℕ) → ((p : ℕ) → (judge p).number ≡ 0 → next p ≤ p + w) → (n p : ℕ) → (first_fault judge next n p).number ≡ 0 → row_end next n p ≤ p + w * n
  unfolding first_fault row_end
  row-short w each zero p none = omega (arith, mul-zero w)
  row-short w each (suc n) p none =
      let (first, rest) = or_else-none _ _ none in
      omega (arith, row-short w each n (next p) rest, each p first, mul-suc w n)

path-short : (c : List ℕ) (p : ℕ) → (path_fields_fault c p).number ≡ 0 → path_end c p ≤ p + 1025
unfolding path_fields_fault
path-short c p none =
    let most : path_length c p ≤ 1023 = leb-true _ _ ((and-eq-true_iff (inside c p 2 && ltb 0 (path_length c p)) _).0 (unless-none (valid_path_length c p) 17 p (or_else-none _ _ none).0)).1 in
    omega arith

module _ (c : List ℕ) (small : AreBytes c) where
  icon-short : (n p : ℕ) → (icon_fields_fault n c p).number ≡ 0 → icon_end c p ≤ p + 8450
  unfolding icon_fields_fault
  icon-short n p none =
      let first = or_else-none _ _ none in
      let third = or_else-none _ _ (or_else-none _ _ first.1).1 in
      let there : p + 1 ≤ length c = leb-true _ _ ((and-eq-true_iff _ _).0 (unless-none (valid_name_length c p) 17 p first.0)).0 in
      let few : image_count c p ≤ 1024 = leb-true _ _ ((and-eq-true_iff (inside c (image_count_at c p) 2) _).0 (unless-none (valid_image_count c p) 17 (image_count_at c p) third.0)).1 in
      let name : name_length c p < 256 = number_fits c small 1 p there in
      omega arith

  icons-listed : (fields_fault c).number ≡ 0 → Listed c (icon_count c) (first_icon_at c)
  unfolding fields_fault
  icons-listed none =
      let first = or_else-none _ _ none in
      let second = or_else-none _ _ first.1 in
      let third = or_else-none _ _ second.1 in
      let icons = (or_else-none _ _ third.1).0 in
      let paths-there : 2 ≤ length c = leb-true _ _ (unless-none _ _ _ first.0) in
      let icons-there : icon_count_at c + 2 ≤ length c = leb-true _ _ (unless-none _ _ _ third.0) in
      let some : path_count c < 65536 = number_fits c small 2 0 paths-there in
      let many : icon_count c < 65536 = number_fits c small 2 (icon_count_at c) icons-there in
      let begin : icon_count_at c ≤ 2 + 1025 * path_count c = row-short (path_fields_fault c) (path_end c) 1025 (path-short c) (path_count c) 2 second.0 in
      let judge = icon_fields_fault (path_count c) c in
      record {
        inside = λ i l. row_inside judge (icon_end c) (icon-inside (path_count c) c) (suc i) (first_icon_at c) icons-there (row-fewer judge (icon_end c) (suc i) (icon_count c) (first_icon_at c) (omega arith) icons);
        small = λ i l.
            let short = row-short judge (icon_end c) 8450 (icon-short (path_count c)) i (first_icon_at c) (row-fewer judge (icon_end c) i (icon_count c) (first_icon_at c) (omega arith) icons) in
            omega arith;
      }

  -- as the parts of the catalogue that were read
  module _ {a : Parts} (told : Ok a ≡ parted c (fields_fault c) (path_count c) (icon_count_at c)) where
    pub parts-listed : Listed c a.icons a.first_icon
    parts-listed = let (good, is) = kept-by (fields_fault c) (parts_at c (path_count c) (icon_count_at c)) a told in rw is (icons-listed good)

    pub parts-few : a.icons < 65536
    unfolding fields_fault
    parts-few =
        let (good, is) = kept-by (fields_fault c) (parts_at c (path_count c) (icon_count_at c)) a told in
        let third = or_else-none _ _ (or_else-none _ _ (or_else-none _ _ good).1).1 in
        rw is (number_fits c small 2 (icon_count_at c) (leb-true _ _ (unless-none _ _ _ third.0)))

  -- a good catalogue is not longer than its most icons and paths make it
  pub catalogue-short : (fields_fault c).number ≡ 0 → length c < 2 ^ 30
  unfolding fields_fault
  catalogue-short none =
      let first = or_else-none _ _ none in
      let second = or_else-none _ _ first.1 in
      let third = or_else-none _ _ second.1 in
      let fourth = or_else-none _ _ third.1 in
      let some : path_count c < 65536 = number_fits c small 2 0 (leb-true _ _ (unless-none _ _ _ first.0)) in
      let many : icon_count c < 65536 = number_fits c small 2 (icon_count_at c) (leb-true _ _ (unless-none _ _ _ third.0)) in
      let begin : icon_count_at c ≤ 2 + 1025 * path_count c = row-short (path_fields_fault c) (path_end c) 1025 (path-short c) (path_count c) 2 second.0 in
      let end = row-short (icon_fields_fault (path_count c) c) (icon_end c) 8450 (icon-short (path_count c)) (icon_count c) (first_icon_at c) fourth.0 in
      let all : length c ≤ catalogue_end c = leb-true _ _ (unless-none _ _ _ fourth.1) in
      omega arith
