-- `squeeze_icons::same` meets its contract: only equal keys compare as equal.
use Rattle.std.proofs.Common.{◌≡◌, ℕ, List, Bool, true, false, Ordering, Less, Equal, Greater, is_eq, sym, ◌∙◌}
use Rattle.std.proofs.lemmas.Bool.{false≢true}
use Rattle.keys.specs.Order.{order}
use Rattle.keys.proofs.Laws.{order-equal, less_other, greater-other}
use Rattle.squeeze_icons.proofs.same.Goals as goal

told : (x y : List ℕ) (b : Bool) (o : Ordering) → o ≡ order x y → b ≡ is_eq o → (b ≡ true → x ≡ y) × (b ≡ false → x ≡ y → ⊥)
told x y b Less e f = (λ t. absurd (false≢true (sym f ∙ t)), λ t. less_other x y (sym e))
told x y b Equal e f = (λ t. order-equal x y (sym e), λ t. absurd (false≢true (sym t ∙ f)))
told x y b Greater e f = (λ t. absurd (false≢true (sym f ∙ t)), λ t. greater-other x y (sym e))

pub returns : goal.returns
returns c = told _ _ _ c.compare.result c.compare.ensures c.is_eq.ensures
