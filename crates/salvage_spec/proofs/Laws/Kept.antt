-- What becomes of a record that is met: which rules a kept one keeps, and which names the kept ones
-- of its chain bear.
use Prim.Native.Nat.{ℕ, zero, suc, ◌<◌}
use Rattle.std.specs.Prelude.{◌≡◌, List, ◌∷◌, true, false, not}
use Rattle.std.proofs.Math.Path.{sym}
use Rattle.std.proofs.Common.{ap, ◌∙◌}
use Rattle.std.proofs.Math.Logic.{inl, inr}
use Rattle.std.proofs.lemmas.Bool.{false≢true}
use Rattle.std.proofs.Math.Decide.{ℕ_discrete}
use native.Mathlib.Omega.{arith}
use borrow.Author.Tests.{not-true}
use Rattle.format.specs.Layout.{name_field, images_field}
use Rattle.format.specs.Fault.{fault, unless}
use Rattle.format.specs.String.{among}
use Rattle.format.specs.Record.{name_of, images_at, valid_image_list, name_fault}
use Rattle.format.specs.Words.{link}
use Rattle.format.proofs.Laws.Faults.{or_else-none, or_else-first, or_else-next, unless-none, broken-speaks, kept-passes, kept-takes, broken-takes}
use Rattle.format.proofs.Laws.Names.{among_first_lem, among-rest, among-either}
use Rattle.salvage_spec.specs.Meetings.{fate_among, kept_names, fate}

-- what the record of a step tells that is kept
pub record Kept (s : List ℕ) (k n : ℕ) : Type 0 where
  pub named : (name_fault s k (link s k n)).number ≡ 0
  pub listed : valid_image_list s (images_at s (link s k n)) ≡ true
  pub new : among (name_of s (link s k n)) (kept_names s k n) ≡ false

-- which rule sends the record r away: one of its name, that of its image list, or that of equal
-- names
module _ (s : List ℕ) (k : ℕ) (ts : List (List ℕ)) (r : ℕ) where
  pub fate-misnamed : ((name_fault s k r).number ≡ 0 → ⊥) → fate_among s k ts r ≡ name_fault s k r
  unfolding fate_among
  fate-misnamed bad = or_else-first _ _ bad

  module _ (named : (name_fault s k r).number ≡ 0) where
    pub fate-unlisted : valid_image_list s (images_at s r) ≡ false → fate_among s k ts r ≡ fault 10 (images_field r)
    unfolding fate_among
    fate-unlisted bad = or_else-next _ _ named ∙ broken-speaks (valid_image_list s (images_at s r)) _ _ _ bad

    pub fate-named : valid_image_list s (images_at s r) ≡ true → fate_among s k ts r ≡ unless (not (among (name_of s r) ts)) 20 (name_field r)
    unfolding fate_among
    fate-named listed = or_else-next _ _ named ∙ kept-passes (valid_image_list s (images_at s r)) _ _ _ listed

module _ (s : List ℕ) (k : ℕ) where
  pub kept-right : (n : ℕ) → (fate s k n).number ≡ 0 → Kept s k n
  unfolding fate fate_among
  kept-right n e =
      let h = or_else-none _ _ e in
      let g = or_else-none _ _ h.1 in
      record {
        named = h.0;
        listed = unless-none (valid_image_list s (images_at s (link s k n))) _ _ g.0;
        new = not-true _ (unless-none (not (among (name_of s (link s k n)) (kept_names s k n))) _ _ g.1);
      }

  pub right_kept : (n : ℕ) → Kept s k n → (fate s k n).number ≡ 0
  unfolding fate
  right_kept n h = rw (fate-named s k (kept_names s k n) (link s k n) h.named h.listed, h.new)

  -- the names kept, one step more
  pub names_more : (n : ℕ) → (fate s k n).number ≡ 0 → kept_names s k (suc n) ≡ name_of s (link s k n) ∷ kept_names s k n
  unfolding kept_names fate
  names_more n e = kept-takes (fate s k n) _ _ e

  pub names_same : (n : ℕ) → ((fate s k n).number ≡ 0 → ⊥) → kept_names s k (suc n) ≡ kept_names s k n
  unfolding kept_names fate
  names_same n gone = broken-takes (fate s k n) _ _ gone

  -- a record kept below step n bears the name
  abbrev pub KeptOn : List ℕ → ℕ → Type 0
  KeptOn name n = (m : ℕ) × (m < n) × ((fate s k m).number ≡ 0) × (name_of s (link s k m) ≡ name)

  module _ (name : List ℕ) where
    pub among-kept : (n : ℕ) → among name (kept_names s k n) ≡ true → KeptOn name n
    unfolding among kept_names
    among-kept zero e = absurd (false≢true e)
    among-kept (suc n) e = elim (ℕ_discrete (fate s k n).number 0) [
      | yes kept ↦ elim (among-either name (name_of s (link s k n)) (kept_names s k n) (ap (among name) (sym (names_more n kept)) ∙ e)) [
        | inl a ↦ (n, omega arith, kept, sym a)
        | inr t ↦ let (m, l, q, a) = among-kept n t in (m, omega arith, q, a)
      ]
      | no gone ↦ let (m, l, q, a) = among-kept n (ap (among name) (sym (names_same n gone)) ∙ e) in (m, omega arith, q, a)
    ]

    pub kept-among : (n : ℕ) → KeptOn name n → among name (kept_names s k n) ≡ true
    kept-among zero (m, l, q, a) = absurd (omega arith)
    kept-among (suc n) (m, l, q, a) = elim (ℕ_discrete m n) [
      | yes e ↦ rw (← e, names_more m q, a) (among_first_lem name _)
      | no b ↦ elim (ℕ_discrete (fate s k n).number 0) [
        | yes kept ↦ rw (names_more n kept) (among-rest name _ _ (kept-among n (m, omega arith, q, a)))
        | no gone ↦ rw (names_same n gone) (kept-among n (m, omega arith, q, a))
      ]
    ]
