-- Rules 8 to 11 and 17 on a record, one law for each rule that is the first to be broken, what a
-- name tells that keeps its rules, and what the comparison with a wanted name tells.
use Rattle.std.specs.Prelude.{ℕ, ◌+◌, ◌≡◌, List, true, false}
use Rattle.std.proofs.Common.{◌∙◌, ap, eq-eqb, ne_eqb, eqb-true}
use Rattle.std.proofs.Math.Bool.{and-eq-true_iff}
use Rattle.format.specs.Fault.{fault, no_fault, unless}
use Rattle.format.specs.String.{is_whole, string_fault}
use Rattle.format.specs.Record.{name_of, bucket_of, images_at, images, name_extent, own_bucket, valid_image_list, bears_name, images_fault, name_fault, list_fault, record_fault}
use Rattle.format.proofs.Laws.Names.{same-equal}
use Rattle.format.proofs.Laws.Faults.{same_number, or_else-none, or_else-first, or_else-next, unless-none, unless-broken, broken-speaks, kept-passes}
use Rattle.format.proofs.Laws.Extents.{string-kept, string-whole, string-broken}
use Rattle.format.specs.declared.Reading.TheVariants.{Short}

-- what a name tells that keeps rules 8, 17 and 9: it is whole, and stands in its own bucket
pub record ValidName (s : List ℕ) (k r : ℕ) : Type 0 where
  pub named : is_whole (name_extent s r) ≡ true
  pub home : bucket_of s (name_of s r) ≡ k

pub name-valid : (s : List ℕ) (k r : ℕ) → (name_fault s k r).number ≡ 0 → ValidName s k r
unfolding name_fault
name-valid s k r e =
    let both = or_else-none _ _ e in
    record { named = string-whole _ _ _ both.0; home = eqb-true _ _ (unless-none _ _ _ both.1) }

module _ (s : List ℕ) (k r : ℕ) where
  pub name-unread : is_whole (name_extent s r) ≡ false → name_fault s k r ≡ string_fault (name_extent s r) 8 (r + 4)
  unfolding name_fault
  name-unread e = or_else-first _ _ (string-broken _ _ _ e)

  module _ (whole : is_whole (name_extent s r) ≡ true) where
    name-passes : name_fault s k r ≡ unless (own_bucket s k r) 9 (r + 4)
    unfolding name_fault
    name-passes = or_else-next _ _ (same_number (string-kept _ 8 (r + 4) whole))

    pub name-foreign : (bucket_of s (name_of s r) ≡ k → ⊥) → name_fault s k r ≡ fault 9 (r + 4)
    name-foreign h = name-passes ∙ unless-broken _ _ _ (ne_eqb _ _ h)

    pub name-home : bucket_of s (name_of s r) ≡ k → name_fault s k r ≡ no_fault
    name-home h = name-passes ∙ ap (λ b. unless b 9 (r + 4)) (eq-eqb _ _ h)

  pub record-misnamed : ((name_fault s k r).number ≡ 0 → ⊥) → record_fault Short s k r ≡ name_fault s k r
  unfolding record_fault
  record-misnamed h = or_else-first _ _ h

  pub record-named : (name_fault s k r).number ≡ 0 → record_fault Short s k r ≡ list_fault s r
  unfolding record_fault
  record-named e = or_else-next _ _ e

module _ (s : List ℕ) (r : ℕ) where
  pub list-broken : valid_image_list s (images_at s r) ≡ false → list_fault s r ≡ fault 10 (r + 8)
  unfolding list_fault
  list-broken e = broken-speaks (valid_image_list s (images_at s r)) _ _ _ e

  pub list-kept : valid_image_list s (images_at s r) ≡ true → list_fault s r ≡ images_fault (images s r) s (images_at s r + 4)
  unfolding list_fault
  list-kept e = kept-passes (valid_image_list s (images_at s r)) _ _ _ e

-- a record that bears the wanted name keeps rules 8, 17 and 9 where that name is at home
pub bears-home : (s wanted : List ℕ) (k r : ℕ) → bucket_of s wanted ≡ k → bears_name s r wanted ≡ true → name_fault s k r ≡ no_fault
bears-home s wanted k r home e =
    let both = (and-eq-true_iff (is_whole (name_extent s r)) _).0 e in
    name-home s k r both.0 (ap (bucket_of s) (same-equal (name_of s r) wanted both.1) ∙ home)
