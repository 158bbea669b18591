-- The lists that are new from one icon on, by their first uses.
use Prim.Native.Nat.{ℕ, zero, suc, ◌+◌, ◌-◌, ◌≤◌, ◌<◌}
use Rattle.std.specs.Prelude.{◌≡◌, List, [], ◌∷◌, Bool}
use Rattle.std.proofs.Math.Path.{refl, sym}
use Rattle.std.proofs.Common.{ap, ◌∙◌, true≢false, arith, eqb-true}
use Rattle.std.proofs.Math.Logic.{⊎_elim}
use Rattle.std.proofs.Math.Bool.{true, false, not-eq-not}
use Rattle.std.proofs.lemmas.Bool.{false≢true}
use Rattle.std.proofs.Math.Decide.{dec_lt}
use Rattle.format.specs.String.{among}
use Rattle.format.proofs.Laws.Names.{among_first_lem, among-rest, among-either}
use Rattle.squeeze_spec.specs.Uses.{first_use, is_first}
use Rattle.squeeze_spec.proofs.Laws.Uses.{use-same, use-first, use-found}
use Rattle.squeeze_lists.specs.Cells.{news}

module _ (part : ℕ → List ℕ) (a : ℕ) where
  pub news-none : news part a 0 ≡ []
  unfolding news
  news-none = refl

  pub news-first : (m : ℕ) → is_first part (a + m) ≡ true → news part a (suc m) ≡ part (a + m) ∷ news part a m
  unfolding news
  news-first m e = rw e

  pub news-later : (m : ℕ) → is_first part (a + m) ≡ false → news part a (suc m) ≡ news part a m
  unfolding news
  news-later m e = rw e

  -- one of them is a first use
  pub record New (m : ℕ) (t : List ℕ) : Type 0 where
    pub number : ℕ
    pub below : number < m
    pub first : is_first part (a + number) ≡ true
    pub has : part (a + number) ≡ t

  new-more : {m : ℕ} {t : List ℕ} → New m t → New (suc m) t
  new-more h = record { number = h.number; below = omega (arith, h.below); first = h.first; has = h.has }

  pub news-some : (m : ℕ) (t : List ℕ) → among t (news part a m) ≡ true → New m t
  unfolding news among
  news-some zero t e = absurd (false≢true e)
  news-some (suc m) t e = go (is_first part (a + m)) refl (news-some m t)
    where
      go : (b : Bool) → is_first part (a + m) ≡ b → (among t (news part a m) ≡ true → New m t) → New (suc m) t
      go true f rest = ⊎_elim
          (λ same. record { number = m; below = omega arith; first = f; has = sym same })
          (λ was. new-more (rest was))
          (among-either t (part (a + m)) (news part a m) (ap (among t) (sym (news-first m f)) ∙ e))
      go false f rest = new-more (rest (ap (among t) (sym (news-later m f)) ∙ e))

  pub some-news : (m : ℕ) (t : List ℕ) → New m t → among t (news part a m) ≡ true
  some-news zero t h = absurd (omega (arith, h.below))
  some-news (suc m) t h = go (is_first part (a + m)) refl (dec_lt h.number m) (some-news m t)
    where
      earlier : h.number < m → New m t
      earlier l = record { number = h.number; below = l; first = h.first; has = h.has }

      is_last : (h.number < m → ⊥) → h.number ≡ m
      is_last d = omega (arith, h.below)

      go : (b : Bool) → is_first part (a + m) ≡ b → Dec (h.number < m) → (New m t → among t (news part a m) ≡ true) → among t (news part a (suc m)) ≡ true
      go true f (yes l) rest = ap (among t) (news-first m f) ∙ among-rest t (part (a + m)) (news part a m) (rest (earlier l))
      go true f (no d) rest =
          let same : t ≡ part (a + m) = sym h.has ∙ ap (λ i. part (a + i)) (is_last d) in
          ap (among t) (news-first m f) ∙ ap (λ u. among u (part (a + m) ∷ news part a m)) same ∙ among_first_lem (part (a + m)) (news part a m)
      go false f (yes l) rest = ap (among t) (news-later m f) ∙ rest (earlier l)
      go false f (no d) rest = absurd (true≢false (sym h.first ∙ ap (λ i. is_first part (a + i)) (is_last d) ∙ f))

-- what is known of the list of icon n, where all up to icon a + m were looked at, and n is not
-- before these
module _ (part : ℕ → List ℕ) (a m : ℕ) {n : ℕ} (within : a + m ≤ n) where
  -- it is one of the new ones
  module _ (met : among (part n) (news part a m) ≡ true) where
    pub met-use : (j : ℕ) × (j < m) × (first_use part n ≡ a + j)
    met-use = let h = news-some part a m (part n) met in (h.number, h.below, use-found part n (omega (arith, h.below)) h.first h.has)

    pub met-below : first_use part n < a + m
    met-below = let (j, l, e) = met-use in omega arith

    pub met-not-first : is_first part n ≡ false
    met-not-first = (not-eq-not {b = false}).0 (λ first. omega (arith, met-below, eqb-true (first_use part n) n first))

  -- it is none of them, and was not stored before
  pub unmet-from : among (part n) (news part a m) ≡ false → a ≤ first_use part n → a + m ≤ first_use part n
  unmet-from none l = elim (dec_lt (first_use part n) (a + m)) [
    | yes g ↦
        let f = first_use part n in
        let at : a + (f - a) ≡ f = omega arith in
        absurd (false≢true (sym none ∙ some-news part a m (part n)
        (record { number = f - a; below = omega arith; first = ap (is_first part) at ∙ use-first part n; has = ap part at ∙ use-same part n })))
    | no g ↦ omega arith
  ]
