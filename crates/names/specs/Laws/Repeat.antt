-- Laws of the first repeat: keys taken into an index one by one, and block by block where there are
-- more than it has room for. A block is taken in and looked for in all that follow it.
use Prim.Native.Nat.{ℕ, zero, suc, ◌+◌, ◌-◌, ◌≤◌, ◌<◌}
use Rattle.std.specs.Prelude.{◌≡◌, ◌⊎◌, List, Bool, true, false, ◌||◌}
use Rattle.std.proofs.Math.Path.{refl, sym, ap}
use Rattle.std.proofs.Common.{◌∙◌, inr, add-one, below_more}
use Rattle.std.proofs.Math.Logic.{inl, ⊎_elim}
use Rattle.std.proofs.Math.Bool.{not-eq-not, false≢true, or-false, or_assoc, or_comm}
use Rattle.std.proofs.Math.Nat.{add-zero, add-suc}
use native.Mathlib.Omega.{arith}
use Rattle.std.proofs.Math.Decide.{dec_lt}
use Rattle.format.specs.String.{same_bytes, among}
use Rattle.format.proofs.Laws.Names.{among_first_lem, among-rest, among-either}
use Rattle.names.specs.Index.{Answered}
use Rattle.names.specs.Repeat.{Named, Repeated, FirstRepeat, seen, Taken, Looked}
use Rattle.names.specs.Laws.Index.{nothing-met}

or-first : (a b c : Bool) → (a || (b || c)) ≡ (b || (a || c))
or-first a b c = sym (or_assoc a b c) ∙ ap (λ d. d || c) (or_comm a b) ∙ or_assoc b a c

module _ (name : ℕ → List ℕ) where
  -- the first n are those seen
  pub named-seen : (n : ℕ) (t : List ℕ) → Named name n t → among t (seen name n) ≡ true
  unfolding seen
  named-seen zero t (j, l, e) = absurd (omega arith)
  named-seen (suc n) t (j, l, e) = elim (dec_lt j n) [
    | yes h ↦ among-rest t (name n) (seen name n) (named-seen n t (j, h, e))
    | no h ↦
        let last : j ≡ n = omega arith in
        let same : t ≡ name n = sym e ∙ ap name last in
        rw same (among_first_lem (name n) (seen name n))
  ]

  pub seen-named : (n : ℕ) (t : List ℕ) → among t (seen name n) ≡ true → Named name n t
  unfolding seen among
  seen-named zero t e = absurd (false≢true e)
  seen-named (suc n) t e =
      ⊎_elim (λ same. (n, omega arith, sym same)) (λ m. let (j, l, q) = seen-named n t m in (j, omega arith, q)) (among-either t (name n) (seen name n) e)

  -- the first of them, and those behind
  pub seen_parts : {rest : ℕ → List ℕ} (m n : ℕ) → ((i : ℕ) → rest i ≡ name (m + i)) → (t : List ℕ)
      → among t (seen name (m + n)) ≡ (among t (seen name m) || among t (seen rest n))
  unfolding seen among
  seen_parts m zero shift t = rw add-zero (sym (or-false (among t (seen name m))))
  seen_parts {rest} m (suc n) shift t =
      let here : same_bytes t (name (m + n)) ≡ same_bytes t (rest n) = ap (same_bytes t) (sym (shift n)) in
      rw add-suc (ap (λ b. same_bytes t (name (m + n)) || b) (seen_parts m n shift t) ∙ ap (λ b. b || (among t (seen name m) || among t (seen rest n))) here
      ∙ or-first (same_bytes t (rest n)) (among t (seen name m)) (among t (seen rest n)))

  pub none-repeated : FirstRepeat name 0 0
  none-repeated = record { within = omega arith; before = λ i l. absurd (omega arith); here = inl refl }

  -- a repeat among the first b is one among more
  pub repeat-early : {b n r : ℕ} → FirstRepeat name b r → r < b → b ≤ n → FirstRepeat name n r
  repeat-early first l h = record { within = omega (arith, first.within); before = first.before; here = ⊎_elim (λ e. absurd (omega arith)) inr first.here }

-- up to the first repeat none is among those before it, and the first repeat is
module _ {name : ℕ → List ℕ} {n r : ℕ} (first : FirstRepeat name n r) where
  pub not_seen : (i : ℕ) → i < r → among (name i) (seen name i) ≡ false
  not_seen i l = (not-eq-not {b = false}).0 (λ e. first.before i l (seen-named name i (name i) e))

  pub seen-before : r < n → among (name r) (seen name r) ≡ true
  seen-before l = ⊎_elim (λ e. absurd (omega arith)) (named-seen name r (name r)) first.here

-- one by one: the next is asked for by the key of p
module _ {key name : ℕ → List ℕ} where
  pub taken_none : (index : List ℕ) → Taken key name index 0 0
  unfolding seen
  taken_none index = record { first = none-repeated name; known = λ e. nothing-met key index }

  module _ {old new : List ℕ} {i p : ℕ} {answer : Bool} (taken : Taken key name old i i) (is : key p ≡ name i) (asked : Answered key new i p (seen name i) answer) where
    asked-right : among (name i) (seen name i) ≡ answer
    asked-right = rw (← is) (sym asked.right)

    pub taken_more : answer ≡ false → Taken key name new (i + 1) (i + 1)
    unfolding seen
    taken_more e = record {
      first = record { within = omega arith; before = λ k l. go k l (dec_lt k i); here = inl refl };
      known = λ same. rw (add-one, ← is) (rw (e, add-one) at asked.after);
    }
      where
        go : (k : ℕ) → k < i + 1 → Dec (k < i) → Repeated name k → ⊥
        go k l (yes h) again = taken.first.before k h again
        go k l (no h) again =
            let last : k ≡ i = omega arith in
            false≢true (sym (asked-right ∙ e) ∙ named-seen name i (name i) (rw last at again))

    pub taken-again : answer ≡ true → {n : ℕ} → i < n → Taken key name new n i
    taken-again e l = record {
      first = record { within = omega arith; before = taken.first.before; here = inr (seen-named name i (name i) (asked-right ∙ e)) };
      known = λ same. absurd (omega arith);
    }

-- looked for one by one among those met before
module _ {name : ℕ → List ℕ} {met : List (List ℕ)} where
  pub looked-none : Looked name met 0 0
  looked-none = record { within = omega arith; other = λ i l. absurd (omega arith); here = inl refl }

  module _ {i : ℕ} {t : List ℕ} {answer : Bool} (looked : Looked name met i i) (is : t ≡ name i) (asked : answer ≡ among t met) where
    pub looked-more : answer ≡ false → Looked name met (i + 1) (i + 1)
    looked-more e = record { within = omega arith; other = below_more _ i looked.other (rw (← is) (sym asked ∙ e)); here = inl refl }

    pub looked-found : answer ≡ true → {n : ℕ} → i < n → Looked name met n i
    looked-found e l = record { within = omega arith; other = looked.other; here = inr (rw (← is) (sym asked ∙ e)) }

-- block by block: of n, the first b are in the index and no repeats, and of the rest only the first
-- m are none of them
module _ {key name rest : ℕ → List ℕ} {index : List ℕ} {b n m : ℕ} (taken : Taken key name index b b) (shift : (i : ℕ) → rest i ≡ name (b + i)) (fits : b ≤ n)
    (looked : Looked rest (seen name b) (n - b) m) where
  from-rest : (i : ℕ) → b ≤ i → rest (i - b) ≡ name i
  from-rest i h = let e : b + (i - b) ≡ i = omega arith in shift (i - b) ∙ ap name e

  -- so the first repeat among those m is that of all
  pub block-passed : {r : ℕ} → FirstRepeat rest m r → FirstRepeat name n (b + r)
  block-passed {r} first = record {
    within = omega (arith, first.within, looked.within);
    before = λ i l (j, h, e). before i l j h e (dec_lt i b) (dec_lt j b);
    here = here first.here looked.here;
  }
    where
      before : (i : ℕ) → i < b + r → (j : ℕ) → j < i → name j ≡ name i → Dec (i < b) → Dec (j < b) → ⊥
      before i l j h e (yes g) d = taken.first.before i g (j, h, e)
      before i l j h e (no g) (yes d) =
          false≢true (sym (looked.other (i - b) (omega (arith, first.within))) ∙ named-seen name b _ (j, d, e ∙ sym (from-rest i (omega arith))))
      before i l j h e (no g) (no d) =
          first.before (i - b) (omega arith) (j - b, omega arith, from-rest j (omega arith) ∙ e ∙ sym (from-rest i (omega arith)))

      here : (r ≡ m) ⊎ Repeated rest r → (m ≡ n - b) ⊎ (among (rest m) (seen name b) ≡ true) → (b + r ≡ n) ⊎ Repeated name (b + r)
      here (inl e) (inl f) = inl (omega arith)
      here (inl e) (inr f) =
          let (j, l, q) = seen-named name b (rest m) f in
          inr (j, omega arith, q ∙ ap rest (sym e) ∙ shift r)
      here (inr (j, l, e)) f = inr (b + j, omega arith, sym (shift j) ∙ e ∙ shift r)
