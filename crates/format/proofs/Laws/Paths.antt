-- Rules 6, 17 and 16 on a path, and the first byte of a string.
use Rattle.std.specs.Prelude.{ℕ, zero, suc, ◌≡◌, refl, List, [], ◌∷◌, true, false, get_or}
use Rattle.std.proofs.Common.{◌∙◌}
use borrow.Author.Tests.{eq-eqb, ne_eqb}
use Rattle.format.specs.Fault.{fault, no_fault, unless, ◌or_else◌}
use Rattle.format.specs.String.{string, is_whole, string_fault}
use Rattle.format.specs.Segments.{slash, valid_segments}
use Rattle.format.specs.Header.{path_field, path_part, path_of, path_extent, relative_path, path_fault}
use Rattle.format.specs.declared.Fault.{Fault}
use Rattle.format.proofs.Laws.Faults.{same_number, or_else-first, or_else-next, unless-broken, broken-speaks, kept-passes}
use Rattle.format.proofs.Laws.Extents.{string-kept, string-broken}

-- a string starts with the first byte of its part; where it is empty that is 0
pub string-first : (t : List ℕ) → get_or (string t) 0 0 ≡ get_or t 0 0
unfolding string
string-first [] = refl
string-first (zero ∷ t) = refl
string-first (suc b ∷ t) = refl

-- the ways in which the path of directory i breaks rules 6, 17 or 16, and how it keeps them
module _ (s : List ℕ) (i : ℕ) where
  abbrev judged_string : Fault
  judged_string = string_fault (path_extent s i) 6 (path_field s i)

  pub path-not-whole : is_whole (path_extent s i) ≡ false → path_fault s i ≡ string_fault (path_extent s i) 6 (path_field s i)
  unfolding path_fault
  path-not-whole e = or_else-first judged_string _ (string-broken _ _ _ e)

  module _ (whole : is_whole (path_extent s i) ≡ true) where
    string-passes : (v : Fault) → judged_string or_else v ≡ v
    string-passes v = or_else-next judged_string v (same_number (string-kept _ _ _ whole))

    pub path-absolute : get_or (path_part s i) 0 0 ≡ slash → path_fault s i ≡ fault 6 (path_field s i)
    unfolding path_fault
    path-absolute e = string-passes _ ∙ broken-speaks (relative_path s i) _ _ _ (rw (string-first, eq-eqb _ _ e))

    module _ (relative : get_or (path_part s i) 0 0 ≡ slash → ⊥) where
      slash-passes : (v : Fault) → unless (relative_path s i) 6 (path_field s i) or_else v ≡ v
      slash-passes v = kept-passes (relative_path s i) _ _ v (rw (string-first, ne_eqb _ _ relative))

      pub path-segments : valid_segments (path_of s i) ≡ false → path_fault s i ≡ fault 16 (path_field s i)
      unfolding path_fault
      path-segments e = string-passes _ ∙ slash-passes _ ∙ unless-broken _ _ _ e

      pub path-kept : valid_segments (path_of s i) ≡ true → path_fault s i ≡ no_fault
      unfolding path_fault
      path-kept e = string-passes _ ∙ slash-passes _ ∙ rw e
