-- Records taken into an index chain by chain, and that the index of all is their rising order.
use Prim.Native.Nat.{ℕ, zero, suc, ◌+◌, ◌≤◌, ◌<◌}
use Rattle.std.specs.Prelude.{◌≡◌, refl, List, [], ◌∷◌, ◌++◌, Bool, true, false, ◌&&◌, ◌||◌, length, get_or, eqb, if◌then◌else◌}
use Rattle.std.proofs.Math.Path.{sym, ap}
use Rattle.std.proofs.Common.{◌∙◌, append_assoc, append-nil, add-one, eq-eqb, ne_eqb}
use Rattle.std.proofs.Math.Decide.{ℕ_discrete}
use native.Mathlib.Omega.{arith}
use Rattle.std.proofs.Math.ListN.{length-append}
use Rattle.format.specs.String.{same_bytes, among}
use Rattle.format.specs.Chain.{Chain, chain_of, most_records, records_below, all_records}
use Rattle.format.specs.Words.{link, Holds, Accepted}
use Rattle.format.proofs.Laws.Along.{links, links-length, holds-chain}
use Rattle.format.proofs.Laws.Apart.{holds-few}
use Rattle.format.proofs.Laws.Links.{on_chain}
use Rattle.format.specs.declared.Reading.TheVariants.{Short}
use Rattle.listing.proofs.Laws.Pages.{pages}
use Rattle.names.specs.Index.{Answered}
use Rattle.names.specs.Laws.Index.{nothing-met, offsets-rise}
use Rattle.catalogue.specs.Listed.{has}
use Rattle.catalogue.proofs.Laws.Rising.{has_some, rising-are}
use Rattle.gathering.specs.Order.{Gathered, Ordered}

pub gathered_none : (index : List ℕ) → Gathered index 0 []
unfolding among has
gathered_none index = record { few = omega arith; met = []; known = nothing-met _ index; same = λ r. refl }

number_same : (x r : ℕ) → (eqb x r && true) ≡ eqb r x
number_same x r = elim (ℕ_discrete x r) [ yes e ↦ rw (eq-eqb x r e, eq-eqb r x (sym e)) | no a ↦ rw (ne_eqb x r a, ne_eqb r x (λ e. a (sym e))) ]

or_swap : (a b c : Bool) → (a || (b || c)) ≡ (b || (a || c))
or_swap true true c = refl
or_swap true false c = refl
or_swap false b c = refl

has_last : (rs : List ℕ) (r x : ℕ) → has (rs ++ (r ∷ [])) x ≡ (eqb r x || has rs x)
unfolding has
has_last [] r x = refl
has_last (y ∷ rs) r x = ap (λ b. eqb y x || b) (has_last rs r x) ∙ or_swap (eqb y x) (eqb r x) (has rs x)

-- one more record, by whether it was met before
pub gathered-more : {index after rs : List ℕ} {n r : ℕ} (h : Gathered index n rs) {b : Bool} → Answered (λ p. p ∷ []) after n r h.met b
    → Gathered after (if b then n else n + 1) (rs ++ (r ∷ []))
unfolding among same_bytes
gathered-more {rs = rs} {n} {r} h {b} told = record {
  few = go b;
  met = (r ∷ []) ∷ h.met;
  known = told.after;
  same = λ x. ap (λ c. c || among (x ∷ []) h.met) (number_same x r) ∙ ap (λ c. eqb r x || c) (h.same x) ∙ sym (has_last rs r x);
}
  where
    go : (b : Bool) → (if b then n else n + 1) ≤ length (rs ++ (r ∷ []))
    go true = omega (arith, h.few, length-append rs (r ∷ []))
    go false = omega (arith, h.few, length-append rs (r ∷ []))

-- the records of the chains below k, and m of bucket k's chain
abbrev pub reached : List ℕ → ℕ → ℕ → List ℕ
reached s k m = records_below Short s k ++ links s k m

module _ (s : List ℕ) (k : ℕ) where
  pub reached-first : records_below Short s k ≡ reached s k 0
  unfolding links
  reached-first = sym (append-nil (records_below Short s k))

  pub reached-next : (m : ℕ) {v : ℕ} → v ≡ link s k m → reached s k m ++ (v ∷ []) ≡ reached s k (m + 1)
  unfolding links
  reached-next m e = rw (e, add-one) (append_assoc (records_below Short s k) (links s k m) (link s k m ∷ []))

  pub reached-all : {n : ℕ} → Holds Short s k n → reached s k n ≡ records_below Short s (suc k)
  unfolding records_below
  reached-all h = ap (λ rs. records_below Short s k ++ rs) (sym (ap (λ (c : Chain). c.records) (holds-chain Short s k (holds-few h) h)))

  pub reached-length : (m : ℕ) → length (reached s k m) ≡ length (records_below Short s k) + m
  reached-length m = length-append (records_below Short s k) (links s k m) ∙ rw (links-length s k m)

  pub fewer-below : (m : ℕ) → length (records_below Short s k) ≤ length (records_below Short s (m + k))
  unfolding records_below
  fewer-below zero = let e : 0 + k ≡ k = omega arith in rw e (omega arith)
  fewer-below (suc m) =
      let e : suc m + k ≡ suc (m + k) = omega arith in
      rw e (omega (arith, fewer-below m, length-append (records_below Short s (m + k)) (chain_of Short s (m + k) (most_records s)).records))

-- the index of all records
pub gathered-ordered : {s index : List ℕ} {n : ℕ} → Accepted Short s → Gathered index n (all_records Short s) → Ordered s index n
gathered-ordered {s} {index} {n} acc h =
    rising-are (all_records Short s) (λ i. get_or index i 0) n
    (offsets-rise index n h.known.rising)
    held
    (λ r e. let (i, l, q) = (h.known.exact (r ∷ [])).1 (h.same r ∙ e) in (i, l, cc))
    (length s)
    (λ i l.
    let (m, g, e) = has_some (all_records Short s) (get_or index i 0) (held i l) in
    let (k, j, b, on) = (((pages s).each-once acc).each (get_or index i 0)).0 (m, g, e) in
    omega (arith, (on_chain (acc.lower k b).1 on).1.inside))
  where
    held : (i : ℕ) → i < n → has (all_records Short s) (get_or index i 0) ≡ true
    held i l = sym (h.same (get_or index i 0)) ∙ (h.known.exact (get_or index i 0 ∷ [])).0 (i, l, refl)
