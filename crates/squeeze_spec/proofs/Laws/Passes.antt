-- What passes over the records rest on: which number an icon has, which field leads to its record,
-- and that its name is new or a path's.
use Prim.Native.Nat.{ℕ, zero, suc, ◌+◌, ◌-◌, ◌≤◌, ◌<◌}
use Rattle.std.specs.Prelude.{◌≡◌, Bool, true, false}
use Rattle.std.proofs.Math.Path.{refl, ap}
use Rattle.std.proofs.Common.{sym, ◌∙◌}
use mathlib.Core.List.{List, [], ◌∷◌}
use Rattle.std.proofs.Math.Decide.{ℕ_discrete, dec_lt}
use native.Mathlib.Omega.{arith}
use borrow.Author.Tests.{eq-eqb, ne_eqb}
use Rattle.std.proofs.Math.ListN.{length, get_or, length-append, get_or-append}
use Rattle.std.proofs.Math.Seq.{get_or_at}
use Rattle.format.specs.Layout.{end_value, entry_field}
use Rattle.format.specs.Chain.{all_records, nth_record, nth_name}
use Rattle.format.specs.declared.Reading.TheVariants.{Short}
use Rattle.catalogue.specs.Catalogue.{Catalogue, names, NoneTwice}
use Rattle.catalogue.specs.LaidOut.{nth_path, nth_icon, icon_bucket, Places}
use Rattle.catalogue.specs.Append.{last_in, lead_field}
use Rattle.catalogue.proofs.Laws.Serves.{one-icon}
use Rattle.squeeze_spec.specs.Uses.{is_first, first_use}
use Rattle.squeeze_spec.specs.Packed.{nth_string}
use Rattle.squeeze_spec.specs.Squeezed.{kept_up_to, kept_records}
use Rattle.squeeze_spec.proofs.Laws.Uses.{use-is, stored-first, stored-later}
use Rattle.squeeze_spec.proofs.Laws.Packed.{path-string, name-string}
use Rattle.squeeze_spec.proofs.Laws.Contents.{BucketsRise}

module _ (s : List ℕ) where
  abbrev one : ℕ → List ℕ
  one i = nth_record s i ∷ []

  -- what stays of the first n records stays of more of them, at the same numbers
  abbrev AlsoUpTo : ℕ → ℕ → ℕ → Type 0
  AlsoUpTo m n j = (j < length (kept_up_to s m)) × (get_or (kept_up_to s m) j 0 ≡ get_or (kept_up_to s n) j 0)

  also-one-more : (m n j : ℕ) → AlsoUpTo m n j → (b : Bool) → is_first (nth_name s) m ≡ b → AlsoUpTo (suc m) n j
  also-one-more m n j h true e = rw (stored-first (nth_name s) one m e) (
    omega (arith, h.0, length-append (kept_up_to s m) (one m)),
    get_or-append (kept_up_to s m) (one m) 0 j h.0 ∙ h.1,
  )
  also-one-more m n j h false e = rw (stored-later (nth_name s) one m e) h

  also-same : (m n j : ℕ) → n ≡ m → j < length (kept_up_to s n) → AlsoUpTo m n j
  also-same m n j e l = (omega (arith, ap (λ i. length (kept_up_to s i)) e), ap (λ i. get_or (kept_up_to s i) j 0) (sym e))

  also-more : (m n j : ℕ) → n ≤ m → j < length (kept_up_to s n) → AlsoUpTo m n j
  also-more zero n j g l = also-same 0 n j (omega arith) l
  also-more (suc m) n j g l = elim (ℕ_discrete n (suc m)) [
    | yes e ↦ also-same (suc m) n j e l
    | no a ↦ also-one-more m n j (also-more m n j (omega arith) l) (is_first (nth_name s) m) refl
  ]

  -- a record that stays is the icon that has as its number how many stayed before
  pub kept-number : (n : ℕ) → n < length (all_records Short s) → is_first (nth_name s) n ≡ true
      → (length (kept_up_to s n) < length (kept_records s)) × (get_or (kept_records s) (length (kept_up_to s n)) 0 ≡ nth_record s n)
  unfolding kept_records
  kept-number n l e =
      let xs = kept_up_to s n in
      let next = stored-first (nth_name s) one n e in
      let size : length (kept_up_to s (suc n)) ≡ suc (length xs) = ap length next ∙ length-append xs (one n) ∙ omega arith in
      let here : get_or (kept_up_to s (suc n)) (length xs) 0 ≡ nth_record s n = ap (λ ys. get_or ys (length xs) 0) next ∙ get_or_at xs (nth_record s n) [] 0 (length xs) refl in
      let there = also-more (length (all_records Short s)) (suc n) (length xs) l (omega arith) in
      (there.0, there.1 ∙ here)

-- Where the buckets rise, only the last icon's record has to be remembered: it leads to the next
-- one of its bucket, and else the bucket's field does.
module _ (c : Catalogue) (b : ℕ) (q : Places) (risen : BucketsRise c b) (n : ℕ) (below : n < length c.icons) where
  nothing-of : (k m : ℕ) → ((i : ℕ) → i < m → icon_bucket c b i ≡ k → ⊥) → last_in (icon_bucket c b) q.record-at k m ≡ end_value
  unfolding last_in
  nothing-of k zero none = refl
  nothing-of k (suc m) none = rw (ne_eqb (icon_bucket c b m) k (none m (omega arith))) (nothing-of k m (λ i l. none i (omega arith)))

  last_of : (k m : ℕ) → icon_bucket c b m ≡ k → last_in (icon_bucket c b) q.record-at k (suc m) ≡ q.record-at m
  unfolding last_in
  last_of k m e = rw (eq-eqb _ _ e)

  -- the first icon of its bucket
  pub lead-first : ((m : ℕ) → n ≡ suc m → icon_bucket c b m ≡ icon_bucket c b n → ⊥) → lead_field c b q n ≡ entry_field 12 (icon_bucket c b n)
  unfolding lead_field
  lead-first other =
      let none = nothing-of (icon_bucket c b n) n (λ i l e. elim (ℕ_discrete i (n - 1)) [
        | yes same ↦ other i (omega arith) e
        | no a ↦
            let early = risen i (n - 1) (omega arith) (omega arith) in
            let late = risen (n - 1) n (omega arith) below in
            let same : icon_bucket c b (n - 1) ≡ icon_bucket c b n = omega arith in
            other (n - 1) (omega arith) same
      ]) in
      rw none

  -- a later one
  pub lead-next : {m : ℕ} → n ≡ suc m → icon_bucket c b m ≡ icon_bucket c b n → (q.record-at m ≡ end_value → ⊥) → lead_field c b q n ≡ q.record-at m
  unfolding lead_field
  lead-next {m} e same real =
      let last : last_in (icon_bucket c b) q.record-at (icon_bucket c b n) n ≡ q.record-at m =
      ap (last_in (icon_bucket c b) q.record-at (icon_bucket c b n)) e ∙ last_of (icon_bucket c b n) m same in
      rw (last, ne_eqb _ _ real)

-- The names of a good catalogue differ, so a name uses a path's bytes or its own: only the paths
-- have to be searched.
module _ (c : Catalogue) (apart : NoneTwice (names c.icons)) (i : ℕ) (l : i < length c.icons) where
  pub name_new : ((e : ℕ) → e < length c.paths → nth_path c e ≡ (nth_icon c i).name → ⊥)
      → first_use (nth_string c) (length c.paths + i) ≡ length c.paths + i
  name_new none =
      use-is (nth_string c) (length c.paths + i) (omega arith) refl
      (λ j g e. elim (dec_lt j (length c.paths)) [
        | yes a ↦ none j a (sym (path-string c 0 j a) ∙ e ∙ name-string c 0 i)
        | no a ↦
            let number : j ≡ length c.paths + (j - length c.paths) = omega arith in
            let named = sym (ap (nth_string c) number ∙ name-string c 0 (j - length c.paths)) ∙ e ∙ name-string c 0 i in
            let one = one-icon c apart {i = j - length c.paths} {j = i} (omega arith) l named in
            omega arith
      ])
