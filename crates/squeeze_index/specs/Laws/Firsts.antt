-- What is stored once, by what was met before: a key is a first use exactly if it was not met, and
-- where its part is stored depends on the key alone.
use Rattle.std.specs.Prelude.{ℕ, ◌+◌, ◌<◌, ◌≡◌, List, true, false, length}
use Rattle.std.proofs.Common.{sym, ap, ◌∙◌, arith, eqb-true}
use Rattle.std.proofs.Math.Bool.{not-eq-not}
use Rattle.std.proofs.lemmas.Bool.{false≢true}
use Rattle.format.specs.String.{among}
use Rattle.names.specs.Repeat.{seen}
use Rattle.names.specs.Laws.Repeat.{named-seen, seen-named}
use Rattle.squeeze_spec.specs.Uses.{first_with, first_use, is_first, stored_once, place_of}
use Rattle.squeeze_spec.proofs.Laws.Uses.{first-with, first-with-is, use-same, first-new, new-first}

module _ (key : ℕ → List ℕ) (i : ℕ) where
  pub unmet-first : among (key i) (seen key i) ≡ false → is_first key i ≡ true
  unmet-first e = new-first key i (λ j l same. false≢true (sym e ∙ named-seen key i (key i) (j, l, same)))

  pub met-later : among (key i) (seen key i) ≡ true → is_first key i ≡ false
  met-later e = (not-eq-not {b = false}).0 (λ first.
      let (j, l, same) = seen-named key i (key i) e in
      first-new key i first j l same)

  -- the first use among more
  pub first-among : {n : ℕ} → i < n → first_with key (key i) n ≡ first_use key i
  first-among l =
      let f = first-with key (key i) i in
      first-with-is key (key i) (record { most = omega (arith, f.most); has = λ g. use-same key i; none_before = f.none_before })

  pub first-own : is_first key i ≡ true → first_use key i ≡ i
  first-own e = eqb-true (first_use key i) i e

-- where the part with the key t is stored, of n
abbrev pub stored_at : (ℕ → List ℕ) → (ℕ → List ℕ) → ℕ → ℕ → List ℕ → ℕ
stored_at key part at n t = at + length (stored_once key part (first_with key t n))

module _ (key part : ℕ → List ℕ) (at : ℕ) {i n : ℕ} (l : i < n) where
  pub stored-place : stored_at key part at n (key i) ≡ at + place_of key part i
  stored-place = ap (λ j. at + length (stored_once key part j)) (first-among key i l)

  pub stored-new : is_first key i ≡ true → stored_at key part at n (key i) ≡ at + length (stored_once key part i)
  stored-new e = ap (λ j. at + length (stored_once key part j)) (first-among key i l ∙ first-own key i e)
