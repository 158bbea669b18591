-- 20 in the check's order: the names on a chain have a hash of its bucket, so none of them stands
-- on a chain before it, and each chain is judged by itself.
use Prim.Native.Nat.{ℕ, zero, suc, ◌+◌, ◌-◌, ◌≤◌, ◌<◌}
use Rattle.std.specs.Prelude.{◌≡◌, refl, true, false}
use Rattle.std.proofs.Math.Path.{sym, ap}
use Rattle.std.proofs.Common.{◌∙◌}
use mathlib.Core.List.{List, [], ◌++◌, map-append}
use Rattle.std.proofs.Math.Bool.{not-eq-not}
use Rattle.std.proofs.lemmas.Bool.{false≢true}
use native.Mathlib.Omega.{arith}
use Rattle.format.specs.Fault.{no_fault, ◌or_else◌}
use Rattle.format.specs.String.{among}
use Rattle.format.specs.Record.{name_of, bucket_of}
use Rattle.format.specs.Header.{buckets}
use Rattle.format.specs.Chain.{Chain, chain_of, most_records, records_below}
use Rattle.format.specs.Words.{link, Accepted}
use Rattle.format.proofs.Laws.Faults.{same_number, or_else-first, or_else-next}
use Rattle.format.proofs.Laws.Along.{links, holds-chain}
use Rattle.format.proofs.Laws.Apart.{holds-few}
use Rattle.format.proofs.Laws.Links.{keeps-bucket}
use Rattle.format.specs.declared.Reading.TheVariants.{Short}
use Rattle.catalogue.specs.Catalogue.{Each}
use Rattle.catalogue.specs.Repeats.{Use, use_is, repeat_fault}
use Rattle.catalogue.specs.Listed.{firsts, record_uses}
use Rattle.catalogue.proofs.Laws.Elements.{each_map, each_first}
use Rattle.catalogue.proofs.Laws.Repeats.{no-repeat, none-repeated}
use Rattle.gathering.specs.Chains.{uses_of, chain_repeat}
use Rattle.gathering.specs.Laws.Repeats.{passed, repeat-append, passed-append, passed-all, repeat-same}

pub links-firsts : (s : List ℕ) (k n : ℕ) → links s k n ≡ firsts (link s k) n
unfolding links firsts
links-firsts s k zero = refl
links-firsts s k (suc n) = rw (links-firsts s k n)

module _ (s : List ℕ) where
  abbrev uses_below : ℕ → List Use
  uses_below k = uses_of s (records_below Short s k)

  abbrev uses_on : ℕ → List Use
  uses_on k = uses_of s (chain_of Short s k (most_records s)).records

  below_next : (k : ℕ) → uses_below (suc k) ≡ uses_below k ++ uses_on k
  unfolding records_below
  below_next k = map-append (λ r. use_is (name_of s r) (r + 4)) (records_below Short s k) (chain_of Short s k (most_records s)).records

  fault-split : (k : ℕ) → repeat_fault [] (uses_below (suc k)) ≡ repeat_fault [] (uses_below k) or_else repeat_fault (passed [] (uses_below k)) (uses_on k)
  fault-split k = ap (repeat_fault []) (below_next k) ∙ repeat-append [] (uses_below k) (uses_on k)

  -- one that is found below k is the first of all
  fault-stays : (k m : ℕ) → ((repeat_fault [] (uses_below k)).number ≡ 0 → ⊥) → repeat_fault [] (uses_below (m + k)) ≡ repeat_fault [] (uses_below k)
  fault-stays k zero some = ap (λ j. repeat_fault [] (uses_below j)) (let e : 0 + k ≡ k = omega arith in e)
  fault-stays k (suc m) some =
      let before = fault-stays k m some in
      let on : suc m + k ≡ suc (m + k) = omega arith in
      ap (λ j. repeat_fault [] (uses_below j)) on ∙ fault-split (m + k)
      ∙ or_else-first _ _ (λ z. some (sym (same_number before) ∙ z)) ∙ before

  module _ (acc : Accepted Short s) where
    each_on : (P : List ℕ → Type 0) (k : ℕ) → k < buckets s → ((t : List ℕ) → bucket_of s t ≡ k → P t) → Each (λ u. P u.name) (uses_on k)
    each_on P k l means =
        let (n, h) = acc.lower k l in
        let records : (chain_of Short s k (most_records s)).records ≡ firsts (link s k) n =
        ap (λ (c : Chain). c.records) (holds-chain Short s k (holds-few h) h) ∙ links-firsts s k n in
        rw records (each_map (λ u. P u.name) (λ r. use_is (name_of s r) (r + 4)) (firsts (link s k) n)
        (each_first (λ r. P (name_of s r)) (link s k) n (λ i g. means _ (keeps-bucket (h.keeps i g).1))))

    names-below : (k : ℕ) → k ≤ buckets s → (t : List ℕ) → among t (passed [] (uses_below k)) ≡ true → bucket_of s t < k
    unfolding records_below passed among
    names-below zero l t e = absurd (false≢true e)
    names-below (suc k) l t e =
        let split : passed [] (uses_below (suc k)) ≡ passed (passed [] (uses_below k)) (uses_on k) = ap (passed []) (below_next k) ∙ passed-append [] (uses_below k) (uses_on k) in
        passed-all (λ x. bucket_of s x < suc k) (uses_on k) (passed [] (uses_below k)) (each_on (λ x. bucket_of s x < suc k) k l (λ x q. omega arith))
        (λ x m. omega (arith, names-below k (omega arith) x m)) t (ap (among t) (sym split) ∙ e)

    pub fault-next : (k : ℕ) → k < buckets s → repeat_fault [] (uses_below (suc k)) ≡ repeat_fault [] (uses_below k) or_else chain_repeat s k
    unfolding among
    fault-next k l =
        fault-split k
        ∙ ap (λ v. repeat_fault [] (uses_below k) or_else v)
        (repeat-same (λ t. bucket_of s t ≡ k) (uses_on k) (passed [] (uses_below k)) [] (each_on (λ t. bucket_of s t ≡ k) k l (λ t e. e))
        (λ t e. (not-eq-not {b = false}).0 (λ m. omega (arith, names-below k (omega arith) t m))))

-- no name on the chains below bucket k was used before
abbrev pub PassedChains : List ℕ → ℕ → Type 0
PassedChains s k = (repeat_fault [] (uses_of s (records_below Short s k))).number ≡ 0

pub chains-first : (s : List ℕ) → PassedChains s 0
unfolding records_below repeat_fault
chains-first s = refl

module _ {s : List ℕ} (acc : Accepted Short s) {k : ℕ} (before : PassedChains s k) where
  module _ (l : k < buckets s) where
    pub chains-next : (chain_repeat s k).number ≡ 0 → PassedChains s (suc k)
    chains-next e = same_number (fault-next s acc k l ∙ or_else-next _ _ before) ∙ e

    pub chains-broken : ((chain_repeat s k).number ≡ 0 → ⊥) → chain_repeat s k ≡ repeat_fault [] (record_uses s)
    unfolding record_uses
    chains-broken some =
        let here = fault-next s acc k l ∙ or_else-next _ _ before in
        let all : buckets s - suc k + suc k ≡ buckets s = omega arith in
        sym (ap (λ j. repeat_fault [] (uses_of s (records_below Short s j))) (sym all) ∙ fault-stays s (suc k) (buckets s - suc k) (λ z. some (sym (same_number here) ∙ z)) ∙ here)

  pub chains-all : k ≡ buckets s → no_fault ≡ repeat_fault [] (record_uses s)
  unfolding record_uses among
  chains-all e =
      let none : (repeat_fault [] (record_uses s)).number ≡ 0 = rw (← e) before in
      sym (no-repeat [] (record_uses s) (λ i l. refl) (none-repeated [] (record_uses s) none))
