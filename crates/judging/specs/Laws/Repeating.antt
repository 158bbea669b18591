-- How the names of icons in a row are asked for one after the other: what is known before each, and
-- what each makes of that.
use Rattle.std.specs.Prelude.{ℕ, suc, ◌+◌, ◌-◌, ◌^◌, ◌≤◌, ◌<◌, ◌≡◌, refl, List, [], ◌∷◌, Bool, length}
use Rattle.std.proofs.Math.Path.{sym, ap}
use Rattle.std.proofs.Common.{◌∙◌, add-one}
use Rattle.std.proofs.Math.Bool.{true, false, not}
use Rattle.std.proofs.Math.Nat.{sub-zero}
use native.Mathlib.Omega.{arith}
use Rattle.format.specs.Fault.{fault, no_fault}
use Rattle.format.specs.String.{among}
use Rattle.format.proofs.Laws.Faults.{broken-speaks, kept-passes}
use Rattle.keys.specs.Key.{key_at}
use Rattle.names.specs.Index.{Represents, Answered}
use Rattle.names.specs.Laws.Index.{nothing-met}
use Rattle.keys.specs.declared.Kind.TheVariants.{Counted}
use Rattle.catalogue.specs.Row.{row_end, row}
use Rattle.catalogue.specs.Fields.{name_text, icon_end}
use Rattle.catalogue.specs.Repeats.{repeat_fault}
use Rattle.catalogue.proofs.Laws.Rows.{end-next}
use Rattle.judging.specs.Judging.{repeat_from, Listed}

-- i of the m icons from `first` on are passed, up to p, and the index holds their names; what is
-- left to ask answers as the whole
pub record Passed (c : List ℕ) (m first : ℕ) (index : List ℕ) (p i : ℕ) : Type 0 where
  pub here : p ≡ row_end (icon_end c) i first
  pub before : List (List ℕ)
  pub known : Represents (key_at Counted c) index i before
  pub rest : repeat_from before c (m - i) p ≡ repeat_from [] c m first

module _ (c : List ℕ) (m first : ℕ) where
  pub passed_first : (index : List ℕ) → Passed c m first index first 0
  unfolding row_end
  passed_first index = record { here = refl; before = []; known = nothing-met _ _; rest = rw sub-zero }

  module _ {index : List ℕ} {p i : ℕ} (h : Passed c m first index p i) where
    pub passed_none : m ≤ i → no_fault ≡ repeat_from [] c m first
    unfolding row repeat_fault
    passed_none l = let none : m - i ≡ 0 = omega arith in rw none at h.rest

    module _ (l : i < m) where
      more : m - i ≡ suc (m - (i + 1))
      more = omega arith

      -- the icon at hand lies inside, and a word can hold its offset
      pub passed-inside : Listed c m first → icon_end c p ≤ length c
      passed-inside all = omega (arith, ap (icon_end c) h.here, end-next (icon_end c) i first, all.inside i l)

      pub passed-small : Listed c m first → p < 2 ^ 32
      passed-small all = rw h.here (all.small i l)

      module _ {index' : List ℕ} {b : Bool} (told : Answered (key_at Counted c) index' i p h.before b) where
        pub passed-repeat : b ≡ true → fault 20 (p + 1) ≡ repeat_from [] c m first
        unfolding row repeat_fault
        passed-repeat e =
            let met : not (among (name_text c p) h.before) ≡ false = ap not (sym told.right ∙ e) in
            sym (broken-speaks (not (among (name_text c p) h.before)) 19 (p + 1) _ met) ∙ rw more at h.rest

        pub passed_on : b ≡ false → {q : ℕ} → q ≡ icon_end c p → Passed c m first index' q (i + 1)
        unfolding row repeat_fault
        passed_on e {q} next =
            let new : not (among (name_text c p) h.before) ≡ true = ap not (sym told.right ∙ e) in
            record {
              here = next ∙ ap (icon_end c) h.here ∙ sym (end-next (icon_end c) i first) ∙ rw add-one;
              before = name_text c p ∷ h.before;
              known = rw e at told.after;
              rest =
                  ap (repeat_from (name_text c p ∷ h.before) c (m - (i + 1))) next
                  ∙ sym (kept-passes (not (among (name_text c p) h.before)) 20 (p + 1) _ new)
                  ∙ rw more at h.rest;
            }
