-- The first of its name in the check's order is the first on its chain.
use Rattle.std.specs.Prelude.{ℕ, ◌+◌, ◌<◌, ◌≡◌, List, true, length}
use Rattle.std.proofs.Common.{sym, ap, ◌∙◌, inl, inr, arith}
use Rattle.format.specs.Record.{name_of, bucket_of}
use Rattle.format.specs.Chain.{all_records, nth_name}
use Rattle.format.specs.Words.{link, Accepted, NoneBelow, sum}
use Rattle.format.proofs.Laws.InOrder.{in_order, step-in-order, below_length, order-of, home}
use Rattle.format.specs.Places.{chain_length, StandsAt}
use Rattle.format.specs.declared.Reading.TheVariants.{Short}
use Rattle.squeeze_spec.specs.Uses.{is_first}
use Rattle.squeeze_spec.proofs.Laws.Uses.{first-new, new-first}

module _ {s : List ℕ} (acc : Accepted Short s) where
  -- A name is the first of its kind in the check's order exactly if it is so on its own chain.
  module _ {n k m : ℕ} (a : StandsAt s n k m) where
    pub first-on-chain : NoneBelow s (nth_name s n) k m → is_first (nth_name s) n ≡ true
    first-on-chain none =
        new-first (nth_name s) n (λ o l e.
        let before : o < length (all_records Short s) = omega (arith, below_length acc a) in
        let (j, p, d) = in_order acc before in
        let same : j ≡ k = sym (home acc d) ∙ ap (bucket_of s) e ∙ home acc a in
        elim (order-of acc d a l) [
          | inl h ↦ omega arith
          | inr h ↦ none p h.1 (ap (λ i. name_of s (link s i p)) (sym same) ∙ sym (ap (name_of s) d.named) ∙ e)
        ])

    pub none-below-first : is_first (nth_name s) n ≡ true → NoneBelow s (nth_name s n) k m
    none-below-first first p l e =
        let there : p < chain_length s k = omega (arith, a.step) in
        let d = step-in-order acc a.bucket there in
        first-new (nth_name s) n first (sum (chain_length s) k + p) (omega (arith, a.place)) (ap (name_of s) d.named ∙ e)
