-- What holds of each element of a list, by its number, and the first n of what a function gives.
use Rattle.std.specs.Prelude.{ℕ, zero, suc, ◌<◌, ◌≡◌, List, [], ◌∷◌, map, length, get_or}
use Rattle.std.proofs.Common.{sym, ap, ◌∙◌, arith}
use Rattle.std.proofs.Math.Decide.{ℕ_discrete}
use Rattle.std.proofs.Math.ListN.{get_or-append}
use Rattle.std.proofs.lemmas.List.{get_or_at}
use Rattle.catalogue.specs.Catalogue.{Each}
use Rattle.catalogue.specs.Listed.{firsts}
use Rattle.catalogue.proofs.Laws.Rising.{firsts-length}

pub at_each : {A : Type 0} (P : A → Type 0) (xs : List A) (d : A) → ((i : ℕ) → i < length xs → P (get_or xs i d)) → Each P xs
at_each P [] d h = tt
at_each P (x ∷ xs) d h = (h 0 (omega arith), at_each P xs d (λ i l. h (suc i) (omega arith)))

pub firsts_at : {A : Type 0} (f : ℕ → A) (n : ℕ) (d : A) (i : ℕ) → i < n → get_or (firsts f n) i d ≡ f i
unfolding firsts
firsts_at f zero d i l = absurd (omega arith)
firsts_at f (suc n) d i l = elim (ℕ_discrete i n) [
  | yes e ↦ get_or_at (firsts f n) (f n) [] d i (firsts-length f n ∙ sym e) ∙ ap f (sym e)
  | no a ↦ get_or-append (firsts f n) (f n ∷ []) d i (omega (arith, firsts-length f n)) ∙ firsts_at f n d i (omega arith)
]

pub each-unmap : {A B : Type 0} (P : B → Type 0) (f : A → B) (xs : List A) → Each P (map f xs) → Each (λ x. P (f x)) xs
each-unmap P f [] h = tt
each-unmap P f (x ∷ xs) h = (h.0, each-unmap P f xs h.1)
