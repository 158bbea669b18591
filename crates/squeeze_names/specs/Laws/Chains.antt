-- The chains one after the other: a name comes again on its chain exactly if it comes again in the
-- check's order, so that the marks of the chains are those of all records.
use Rattle.std.specs.Prelude.{ℕ, suc, ◌+◌, ◌^◌, ◌<◌, ◌≡◌, refl, List, Bool, true, false, not, ◌||◌}
use Rattle.std.proofs.Common.{sym, ◌∙◌, arith}
use Rattle.std.proofs.Math.Path.{ap}
use Rattle.std.proofs.Math.Bool.{not-eq-not}
use Rattle.std.proofs.lemmas.Bool.{false≢true}
use Rattle.std.proofs.Math.Nat.{zero-add}
use Rattle.std.proofs.Math.Numerals.{add-one}
use Rattle.format.specs.Header.{buckets, bucket_field}
use Rattle.format.specs.Record.{name_of}
use Rattle.format.specs.Words.{link, Holds, sum}
use Rattle.format.specs.declared.Reading.TheVariants.{Short}
use Rattle.format.proofs.Laws.Order.{sum-before}
use Rattle.names.specs.Laws.Repeat.{named-seen, seen-named}
use Rattle.marks.specs.Marks.{marked}
use Rattle.rounds.specs.Stepping.{ahead}
use Rattle.repeats.specs.Along.{name_along}
use Rattle.tables.specs.Laws.{valid-header}
use Rattle.tables.specs.Tables.{Sound}
use Rattle.tables.specs.declared.Tables.{Tables}
use Rattle.gathering.specs.Laws.Repeats.{ahead-link}
use Rattle.format.specs.Chain.{nth_name}
use Rattle.format.proofs.Laws.InOrder.{chain_length_lem, order-length, step-in-order}
use Rattle.format.specs.Places.{chain_length, StandsAt}
use Rattle.squeeze_spec.proofs.Laws.Order.{first-on-chain, none-below-first}
use Rattle.in_order.specs.Laws.{records-few}
use Rattle.squeeze_names.specs.Repeated.{Adds, among_before, comes_again, RepeatsMarked}
use Rattle.squeeze_names.specs.Laws.Adds.{adds_none, adds-behind}

-- the chains below bucket k are looked through; the next record has this number
pub record Through (s old new : List ℕ) (k number : ℕ) : Type 0 where
  pub passed : number ≡ sum (chain_length s) k
  pub marks : Adds old new 0 number (comes_again s)

pub through-none : (s m : List ℕ) → Through s m m 0 0
unfolding sum
through-none s m = record { passed = refl; marks = adds_none m 0 0 (λ i l. absurd (omega arith)) }

module _ {s : List ℕ} {t : Tables} (sound : Sound s t) where
  pub through-all : {old new : List ℕ} {number : ℕ} → Through s old new (buckets s) number → ((i : ℕ) → marked old i ≡ false) → RepeatsMarked s new
  through-all {old} h none i l w =
      let here = h.marks.here i (omega (arith, h.passed, order-length sound.accepted)) (rw zero-add (omega (arith, h.marks.same))) in
      rw zero-add at here ∙ ap (λ b. b || comes_again s i) (none i)

  module _ {k n : ℕ} (l : k < buckets s) (holds : Holds Short s k n) where
    long : chain_length s k ≡ n
    long = chain_length_lem holds

    pub number-few : {number : ℕ} → number ≡ sum (chain_length s) k → number + n < 2 ^ 62
    number-few e =
        omega (arith, long, sum-before (chain_length s) (buckets s) l, order-length sound.accepted, records-few sound.accepted, valid-header sound.tables)

    module _ {f : ℕ} (start : f ≡ bucket_field s k) where
      named : (i : ℕ) → name_along s f i ≡ name_of s (link s k i)
      named i = ap (λ p. name_of s (ahead s p (suc i))) start ∙ ap (name_of s) (ahead-link s k i)

      pub chain-repeats : (i : ℕ) → i < n → among_before (name_along s f) i ≡ comes_again s (sum (chain_length s) k + i)
      chain-repeats i g = go (among_before (name_along s f) i) refl
        where
          stands : StandsAt s (sum (chain_length s) k + i) k i
          stands = step-in-order sound.accepted l (omega (arith, long))

          own : name_along s f i ≡ nth_name s (sum (chain_length s) k + i)
          own = named i ∙ sym (ap (name_of s) stands.named)

          go : (b : Bool) → among_before (name_along s f) i ≡ b → b ≡ comes_again s (sum (chain_length s) k + i)
          go true e = sym (ap not ((not-eq-not {b = false}).0 (λ first.
              let (m, d, same) = seen-named (name_along s f) i _ e in
              none-below-first sound.accepted stands first m d (sym (named m) ∙ same ∙ own))))
          go false e = sym (ap not (first-on-chain sound.accepted stands (λ m d same.
              false≢true (sym e ∙ named-seen (name_along s f) i _ (m, d, named m ∙ same ∙ sym own)))))

      pub through-next : {old m new : List ℕ} {number : ℕ} → Through s old m k number → Adds m new number n (among_before (name_along s f)) → Through s old new (k + 1) (number + n)
      unfolding sum
      through-next {number = number} h more = record {
        passed = rw add-one (omega (arith, h.passed, long));
        marks = adds-behind h.marks (rw zero-add more) (λ i g. chain-repeats i g ∙ ap (λ a. comes_again s (a + i)) (sym h.passed));
      }
