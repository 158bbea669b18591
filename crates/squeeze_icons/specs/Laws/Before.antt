-- The records before one on its chain, one after the other, until it is met itself.
use Rattle.std.specs.Prelude.{ℕ, ◌+◌, ◌≤◌, ◌<◌, ◌≡◌, List, true, false, length}
use Rattle.std.proofs.Common.{sym, ◌∙◌, arith}
use Rattle.std.proofs.Math.Path.{ap}
use Rattle.std.proofs.Math.Bool.{not-eq-not}
use Rattle.std.proofs.Math.Numerals.{add-one}
use Rattle.format.specs.Number.{be}
use Rattle.format.specs.Header.{bucket_field}
use Rattle.format.specs.Record.{name_of}
use Rattle.format.specs.Words.{link, Holds, Accepted, NoneBelow}
use Rattle.format.specs.declared.Reading.TheVariants.{Short}
use Rattle.format.proofs.Laws.Below.{below_suc}
use Rattle.format.proofs.Laws.Links.{one-step}
use Rattle.squeeze_spec.specs.Uses.{is_first}
use Rattle.format.specs.Chain.{nth_name}
use Rattle.format.proofs.Laws.InOrder.{chain-lengths}
use Rattle.format.specs.Places.{chain_length}
use Rattle.squeeze_spec.proofs.Laws.Order.{first-on-chain, none-below-first}
use Rattle.in_order.specs.Cursor.{Here}

-- i records are passed, and none has the name of record n; r is the next
pub record Passing (s : List ℕ) (n k step r i : ℕ) : Type 0 where
  pub most : i ≤ step
  pub is : r ≡ link s k i
  pub none : NoneBelow s (nth_name s n) k i

module _ {s : List ℕ} {n k own : ℕ} (acc : Accepted Short s) (here : Here s n k own) where
  pub passing-first : {r : ℕ} → r ≡ be 4 s (bucket_field s k) → Passing s n k here.step r 0
  unfolding link
  passing-first read = record { most = omega arith; is = read; none = λ p l. absurd (omega arith) }

  module _ {r i : ℕ} (h : Passing s n k here.step r i) where
    holds : Holds Short s k (chain_length s k)
    holds = chain-lengths acc k here.stands.bucket

    on_chain : i < chain_length s k
    on_chain = omega (arith, h.most, here.stands.step)

    pub passing-inside : r + 12 ≤ length s
    passing-inside = omega (arith, h.is, (holds.keeps i on_chain).1.inside)

    -- it is met itself, and so all before it are passed
    pub passing-all : r ≡ own → is_first (nth_name s) n ≡ true
    passing-all e =
        let same : link s k i ≡ link s k here.step = sym h.is ∙ e ∙ here.is ∙ here.stands.named in
        let last : i ≡ here.step = one-step holds on_chain here.stands.step same in
        first-on-chain acc here.stands (rw last at h.none)

    -- another one
    module _ (other : r ≡ own → ⊥) where
      pub passing-before : i < here.step
      passing-before =
          let apart : i ≡ here.step → ⊥ = λ e. other (h.is ∙ ap (link s k) e ∙ sym here.stands.named ∙ sym here.is) in
          omega (arith, h.most)

      pub passing-same : name_of s r ≡ nth_name s n → is_first (nth_name s) n ≡ false
      passing-same e =
          (not-eq-not {b = false}).0 (λ first. none-below-first acc here.stands first i passing-before (ap (name_of s) (sym h.is) ∙ e))

      pub passing-next : {v : ℕ} → (name_of s r ≡ nth_name s n → ⊥) → v ≡ be 4 s r → Passing s n k here.step v (i + 1)
      unfolding link
      passing-next differs read = rw add-one (record {
        most = omega (arith, passing-before);
        is = read ∙ ap (be 4 s) h.is;
        none = below_suc h.none (λ e. differs (ap (name_of s) h.is ∙ e));
      })
