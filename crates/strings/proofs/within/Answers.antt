-- `strings::within` meets its contract. A text that has bytes is within the limit just where it is
-- found cut off: no zero byte came, and no more bytes are there. Rests on `judged` and
-- `string-fits`.
use Rattle.std.proofs.Common.{◌≡◌, ℕ, ◌<◌, ◌≤◌, true, false, List, length, sym, refl, ◌∙◌, arith, lt-ltb, eq-eqb, ne_eqb, le-leb}
use mathlib.Core.Bool.{and-false}
use borrow.Author.Tests.{lt-leb}
use Rattle.format.specs.declared.Extent.{Extent}
use Rattle.format.specs.declared.Extent.TheVariants.{Cut}
use Rattle.format.specs.String.{string, extent, text_within}
use Rattle.format.proofs.Laws.Strings.{string-fits, Judged, judged, long, cut, empty, whole}
use Rattle.strings.proofs.within.Goals as goal

module _ (limit : ℕ) (t : List ℕ) {r : Extent} (a : r ≡ extent limit t) where
  cut-within : 0 < length t → r ≡ Cut → true ≡ text_within limit t
  cut-within some c = go (rw (sym c ∙ a) (judged limit t))
    where
      go : Judged limit t Cut → true ≡ text_within limit t
      go (cut h g) =
          let l : length t ≤ limit = omega arith in
          let e : length (string t) ≡ length t = omega (arith, string-fits t) in
          rw (lt-ltb _ _ some, le-leb _ _ l, eq-eqb _ _ e)

  other-not : (r ≡ Cut → ⊥) → false ≡ text_within limit t
  other-not n = go (rw a (judged limit t)) n
    where
      go : {q : Extent} → Judged limit t q → (q ≡ Cut → ⊥) → false ≡ text_within limit t
      go (long h) n = let l : limit < length t = omega (arith, string-fits t) in rw (lt-leb _ _ l, and-false)
      go (cut h g) n = absurd (n refl)
      go (empty h e) n = let d : length (string t) ≡ length t → ⊥ = λ q. omega arith in rw (ne_eqb _ _ d, and-false)
      go (whole e h) n = let d : length (string t) ≡ length t → ⊥ = λ q. omega arith in rw (ne_eqb _ _ d, and-false)

pub returns-in-Cut : goal.returns-in-Cut
returns-in-Cut c limit t size told = cut-within limit t told (omega arith) c.in-Cut.is

pub returns-in_default : goal.returns-in_default
returns-in_default c limit t size told = other-not limit t told c.in_default.not-Cut
