-- A name is a path, or it is new: names differ.
use Rattle.std.specs.Prelude.{ℕ, suc, ◌+◌, ◌≤◌, ◌<◌, ◌≡◌, refl, List, [], ◌∷◌, ◌++◌, Bool, true, false, length, drop}
use Rattle.std.proofs.Common.{sym, ap, ◌∙◌, true≢false, arith, eq-eqb, length-append}
use Rattle.std.proofs.Math.Bool.{not-eq-not}
use Rattle.std.proofs.lemmas.Bool.{false≢true}
use Rattle.format.specs.Header.{directories}
use Rattle.format.specs.Number.{be}
use Rattle.format.specs.String.{among, string, extent, is_whole}
use Rattle.format.specs.Words.{Keeps, Accepted}
use Rattle.format.specs.declared.Reading.TheVariants.{Short}
use Rattle.format.proofs.Laws.Rules.{record-valid}
use Rattle.catalogue.specs.Catalogue.{Icon}
use Rattle.catalogue.specs.LaidOut.{text_and_zero}
use Rattle.keys.specs.Key.{key_at}
use Rattle.keys.specs.declared.Kind.TheVariants.{Ended}
use Rattle.names.specs.Repeat.{seen}
use Rattle.names.specs.Laws.Repeat.{named-seen, seen-named}
use Rattle.squeeze_spec.specs.Uses.{first_with, first_use, is_first, place_of, stored_once}
use Rattle.squeeze_spec.specs.Packed.{nth_string, string_part}
use Rattle.squeeze_spec.specs.Squeezed.{contents}
use Rattle.squeeze_spec.proofs.Laws.Uses.{first-with, use-is, first-new, stored-first, stored-later}
use Rattle.squeeze_spec.proofs.Laws.Packed.{path-string, name-string}
use Rattle.squeeze_spec.proofs.Laws.Contents.{path-count, contents-apart}
use Rattle.squeeze_spec.proofs.Laws.Passes.{name_new}
use Rattle.squeeze_index.specs.Laws.Firsts.{first-own}
use Rattle.squeeze_icons.specs.Staying.{IconAt}
use Rattle.squeeze_paths.specs.Pathed.{strings_up_to, path_at}
use Rattle.squeeze_texts.specs.Named.{NameAt, string_of, Stores}
use Rattle.squeeze_texts.specs.declared.Stored.{Stored}

-- the name of the icon at hand
pub icon-name : {s : List ℕ} {i k r p : ℕ} → IconAt s i k r → p ≡ be 4 s (r + 4) → NameAt s i p
icon-name {s} h read = record { below = h.below; is = ap (λ (x : Icon). x.name) h.is ∙ ap (λ q. string (drop q s)) (sym read) }

pub name-whole : {s : List ℕ} {k r p : ℕ} → Keeps Short s k r → p ≡ be 4 s (r + 4) → is_whole (extent 255 (drop p s)) ≡ true
name-whole {s} {k} {r} h read = rw read (record-valid Short s k r h.rules).named

-- a name as one of the strings
pub string-is : {s : List ℕ} {i p : ℕ} → NameAt s i p → nth_string (contents s) (string_of s i) ≡ key_at Ended s p
string-is {s} {i} h = ap (λ n. nth_string (contents s) (n + i)) (sym (path-count s)) ∙ name-string (contents s) 0 i ∙ h.is

module _ {s : List ℕ} (acc : Accepted Short s) {i p : ℕ} (h : NameAt s i p) where
  abbrev key : ℕ → List ℕ
  key = nth_string (contents s)

  own : key (string_of s i) ≡ key_at Ended s p
  own = string-is h

  -- a path
  module _ (met : among (key_at Ended s p) (seen key (directories s)) ≡ true) where
    earlier : first_with key (key_at Ended s p) (directories s) < directories s
    earlier =
        let (j, l, e) = seen-named key (directories s) (key_at Ended s p) met in
        let f = first-with key (key_at Ended s p) (directories s) in
        let most : directories s ≤ first_with key (key_at Ended s p) (directories s) → ⊥ = λ g. f.none_before j (omega arith) e in
        omega arith

    first-is : first_use key (string_of s i) ≡ first_with key (key_at Ended s p) (directories s)
    first-is =
        let f = first-with key (key_at Ended s p) (directories s) in
        use-is key (string_of s i) (omega (arith, earlier)) (f.has earlier ∙ sym own) (λ j l e. f.none_before j l (e ∙ own))

    name-used : is_first key (string_of s i) ≡ false
    name-used = (not-eq-not {b = false}).0 (λ first.
        let (j, l, e) = seen-named key (directories s) (key_at Ended s p) met in
        first-new key (string_of s i) first j (omega arith) (e ∙ sym own))

    pub stores-used : {at end : ℕ} {x : Stored} → x.place ≡ path_at s at (key_at Ended s p) → x.end ≡ end → Stores s at i end x
    stores-used {at} place e = record {
      new = λ first. absurd (true≢false (sym first ∙ name-used));
      used = λ later. (place ∙ ap (λ j. at + length (stored_once key (string_part (contents s)) j)) (sym first-is), e);
    }

  -- its own
  module _ (unmet : among (key_at Ended s p) (seen key (directories s)) ≡ false) where
    name-own : is_first key (string_of s i) ≡ true
    name-own =
        let none = name_new (contents s) (contents-apart acc) i h.below (λ e l same.
        false≢true (sym unmet ∙ named-seen key (directories s) (key_at Ended s p)
        (e, omega (arith, path-count s), path-string (contents s) 0 e l ∙ same ∙ h.is))) in
        eq-eqb _ _ (rw (path-count s) at none)

    pub stores-new : {at end : ℕ} {x : Stored} → x.place ≡ end → x.end ≡ end + (length (key_at Ended s p) + 1) → Stores s at i end x
    stores-new {end = end} place e = record {
      new = λ first. (place, e ∙ ap (λ n. end + n) (sym (length-append (key_at Ended s p) (0 ∷ [])) ∙ ap (λ t. length (text_and_zero t)) (sym own)));
      used = λ later. absurd (true≢false (sym name-own ∙ later));
    }

-- the strings grow by it, or do not
module _ {s : List ℕ} {at i end : ℕ} {x : Stored} (h : Stores s at i end x) where
  abbrev one : List ℕ
  one = string_part (contents s) (string_of s i)

  behind : string_of s (i + 1) ≡ suc (string_of s i)
  behind = omega arith

  grown : is_first (nth_string (contents s)) (string_of s i) ≡ true → strings_up_to s (string_of s (i + 1)) ≡ strings_up_to s (string_of s i) ++ one
  grown first = ap (strings_up_to s) behind ∙ stored-first (nth_string (contents s)) (string_part (contents s)) (string_of s i) first

  same : is_first (nth_string (contents s)) (string_of s i) ≡ false → strings_up_to s (string_of s (i + 1)) ≡ strings_up_to s (string_of s i)
  same later = ap (strings_up_to s) behind ∙ stored-later (nth_string (contents s)) (string_part (contents s)) (string_of s i) later

  some : 0 < length one
  some = omega (arith, length-append (nth_string (contents s) (string_of s i)) (0 ∷ []))

  by-use : {P : Type 0} → (is_first (nth_string (contents s)) (string_of s i) ≡ true → P) → (is_first (nth_string (contents s)) (string_of s i) ≡ false → P) → P
  by-use {P} a b = go (is_first (nth_string (contents s)) (string_of s i)) a b
    where
      go : (c : Bool) → (c ≡ true → P) → (c ≡ false → P) → P
      go true a b = a refl
      go false a b = b refl

  pub stored_same : x.end ≡ end → strings_up_to s (string_of s (i + 1)) ≡ strings_up_to s (string_of s i)
  stored_same e = by-use (λ first. absurd (omega (arith, (h.new first).1, some))) same

  pub stored_grows : (x.end ≡ end → ⊥) → strings_up_to s (string_of s (i + 1)) ≡ strings_up_to s (string_of s i) ++ one
  stored_grows other = by-use grown (λ later. absurd (other (h.used later).1))

  pub stored-size : (x.end ≡ end → ⊥) → x.end ≡ end + length one
  stored-size other = by-use (λ first. (h.new first).1) (λ later. absurd (other (h.used later).1))

  module _ (ends : end ≡ at + length (strings_up_to s (string_of s i))) where
    pub stored-end : x.end ≡ at + length (strings_up_to s (string_of s (i + 1)))
    stored-end = by-use
        (λ first. omega (arith, (h.new first).1, ap length (grown first), length-append (strings_up_to s (string_of s i)) one))
        (λ later. omega (arith, (h.used later).1, ap length (same later)))

    pub stored-place : x.place ≡ at + place_of (nth_string (contents s)) (string_part (contents s)) (string_of s i)
    stored-place = by-use
        (λ first. (h.new first).0 ∙ ends ∙ ap (λ j. at + length (strings_up_to s j)) (sym (first-own (nth_string (contents s)) (string_of s i) first)))
        (λ later. (h.used later).0)
