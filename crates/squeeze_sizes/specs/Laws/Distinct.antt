-- The bytes of different parts: one part more, and one part fewer at the front.
use Prim.Native.Nat.{ℕ, zero, suc, ◌+◌, ◌≤◌, ◌<◌}
use Rattle.std.specs.Prelude.{◌≡◌, List, Bool, length, if◌then◌else◌}
use Rattle.std.proofs.Math.Path.{refl}
use Rattle.std.proofs.Common.{sym, ap, ◌∙◌, zero-add, length-append}
use Rattle.std.proofs.Math.Logic.{⊎_elim}
use Rattle.std.proofs.Math.Bool.{true, false, not-eq-not, false≢true}
use native.Mathlib.Omega.{arith}
use Rattle.format.specs.Bytes.{joined}
use Rattle.format.specs.String.{among}
use Rattle.format.proofs.Laws.Names.{among_first_lem, among-rest, among-either, equal_or_not}
use Rattle.names.specs.Repeat.{seen}
use Rattle.names.specs.Laws.Repeat.{named-seen, seen-named}
use Rattle.squeeze_spec.specs.Uses.{stored_once}
use Rattle.squeeze_spec.proofs.Laws.Uses.{stored-first, stored-later}
use Rattle.squeeze_index.specs.Laws.Firsts.{unmet-first, met-later}
use Rattle.squeeze_sizes.specs.Distinct.{from, distinct}

module _ (part : ℕ → List ℕ) where
  pub distinct_none : (a : ℕ) → distinct part a 0 ≡ 0
  unfolding joined
  distinct_none a = refl

  pub distinct-all : (n : ℕ) → distinct part 0 n ≡ length (stored_once part part n)
  distinct-all n = λ j. length (stored_once (λ i. part (zero-add i j)) (λ i. part (zero-add i j)) n)

  -- one more: it was there before, or it is new
  module _ (a n : ℕ) where
    pub distinct-met : among (from part a n) (seen (from part a) n) ≡ true → distinct part a (suc n) ≡ distinct part a n
    distinct-met e = ap length (stored-later (from part a) (from part a) n (met-later (from part a) n e))

    pub distinct-new : among (from part a n) (seen (from part a) n) ≡ false → distinct part a (suc n) ≡ distinct part a n + length (from part a n)
    distinct-new e =
        ap length (stored-first (from part a) (from part a) n (unmet-first (from part a) n e))
        ∙ length-append (stored_once (from part a) (from part a) n) (from part a n)

    -- at most that one's bytes more, and no fewer
    step : (b : Bool) → among (from part a n) (seen (from part a) n) ≡ b
        → (distinct part a (suc n) ≤ distinct part a n + length (from part a n)) × (distinct part a n ≤ distinct part a (suc n))
    step true e = let q = distinct-met e in (omega arith, omega arith)
    step false e = let q = distinct-new e in (omega arith, omega arith)

    pub distinct-most : distinct part a (suc n) ≤ distinct part a n + length (from part a n)
    distinct-most = (step _ refl).0

    distinct-step : distinct part a n ≤ distinct part a (suc n)
    distinct-step = (step _ refl).1

  pub distinct-grows : (a m d : ℕ) → distinct part a m ≤ distinct part a (m + d)
  distinct-grows a m zero = let e : m + 0 ≡ m = omega arith in rw e (omega arith)
  distinct-grows a m (suc d) = let e : m + suc d ≡ suc (m + d) = omega arith in rw e (omega (arith, distinct-grows a m d, distinct-step a (m + d)))

  -- what is among the parts from a on is the first of them, or among those behind it
  module _ (a : ℕ) (t : List ℕ) where
    shift : (i : ℕ) → from part a (suc i) ≡ from part (suc a) i
    shift i = let e : a + suc i ≡ suc a + i = omega arith in ap part e

    pub behind-rest : (n : ℕ) → among t (seen (from part (suc a)) n) ≡ true → among t (seen (from part a) (suc n)) ≡ true
    behind-rest n e =
        let (j, l, q) = seen-named (from part (suc a)) n t e in
        named-seen (from part a) (suc n) t (suc j, omega arith, shift j ∙ q)

    pub behind-other : (n : ℕ) → (part a ≡ t → ⊥) → among t (seen (from part (suc a)) n) ≡ false → among t (seen (from part a) (suc n)) ≡ false
    behind-other n other none = (not-eq-not {b = false}).0 (λ e. go (seen-named (from part a) (suc n) t e))
      where
        go : (j : ℕ) × (j < suc n) × (from part a j ≡ t) → ⊥
        go (zero, l, q) = let z : a + 0 ≡ a = omega arith in other (ap part (sym z) ∙ q)
        go (suc j, l, q) = false≢true (sym none ∙ named-seen (from part (suc a)) n t (j, omega arith, sym (shift j) ∙ q))

    pub front-among : (n : ℕ) → part a ≡ t → among t (seen (from part a) (suc n)) ≡ true
    front-among n e = let z : a + 0 ≡ a = omega arith in named-seen (from part a) (suc n) t (0, omega arith, ap part z ∙ e)

  -- the part at a counts for those from a on, unless it comes again
  module _ (a : ℕ) where
    abbrev again : ℕ → Bool
    again n = among (part a) (seen (from part (suc a)) n)

    -- the next one behind
    module _ (n : ℕ) where
      abbrev next : List ℕ
      next = from part (suc a) n

      is-next : from part a (suc n) ≡ next
      is-next = shift a next n

      again-same : next ≡ part a → again (suc n) ≡ true
      unfolding seen
      again-same e = rw e (among_first_lem (part a) (seen (from part (suc a)) n))

      again-other : (next ≡ part a → ⊥) → again (suc n) ≡ again n
      unfolding seen
      again-other other = go (again n) refl
        where
          go : (b : Bool) → again n ≡ b → again (suc n) ≡ b
          go true e = among-rest (part a) next (seen (from part (suc a)) n) e
          go false e = (not-eq-not {b = false}).0 (λ f. ⊎_elim (λ same. other (sym same)) (λ was. false≢true (sym e ∙ was)) (among-either (part a) next (seen (from part (suc a)) n) f))

      longer-met : among next (seen (from part a) (suc n)) ≡ true → distinct part a (suc (suc n)) ≡ distinct part a (suc n)
      longer-met e = distinct-met a (suc n) (rw is-next e)

      longer-new : among next (seen (from part a) (suc n)) ≡ false → distinct part a (suc (suc n)) ≡ distinct part a (suc n) + length next
      longer-new e = distinct-new a (suc n) (rw is-next e) ∙ ap (λ x. distinct part a (suc n) + length x) is-next

    -- what the part at a counts for, by whether it comes again
    abbrev counts : Bool → ℕ
    counts b = if b then 0 else length (part a)

    fewer-same : (n : ℕ) → next n ≡ part a → (b : Bool) → again n ≡ b → distinct part a (suc n) ≡ distinct part (suc a) n + counts b
        → distinct part a (suc (suc n)) ≡ distinct part (suc a) (suc n) + counts (again (suc n))
    fewer-same n e true q before =
        let met = distinct-met (suc a) n (rw (← e) at q) in
        rw (again-same n e) (omega (arith, longer-met n (front-among a (next n) n (sym e)), met))
    fewer-same n e false q before =
        let new = distinct-new (suc a) n (rw (← e) at q) in
        rw (again-same n e) (omega (arith, longer-met n (front-among a (next n) n (sym e)), new, ap length e))

    fewer-other : (n : ℕ) → (next n ≡ part a → ⊥) → (d : Bool) → among (next n) (seen (from part (suc a)) n) ≡ d
        → distinct part a (suc n) ≡ distinct part (suc a) n + counts (again n)
        → distinct part a (suc (suc n)) ≡ distinct part (suc a) (suc n) + counts (again (suc n))
    fewer-other n other true q before =
        rw (again-other n other) (omega (arith, longer-met n (behind-rest a (next n) n q), distinct-met (suc a) n q))
    fewer-other n other false q before =
        rw (again-other n other)
        (omega (arith, longer-new n (behind-other a (next n) n (λ e. other (sym e)) q), distinct-new (suc a) n q))

    pub one_fewer : (n : ℕ) → distinct part a (suc n) ≡ distinct part (suc a) n + counts (again n)
    unfolding seen among
    one_fewer zero =
        let z : a + 0 ≡ a = omega arith in
        distinct-new a 0 refl ∙ rw (distinct_none a, distinct_none (suc a), z)
    one_fewer (suc n) = elim (equal_or_not (next n) (part a)) [
      | yes e ↦ fewer-same n e (again n) refl (one_fewer n)
      | no d ↦ fewer-other n d (among (next n) (seen (from part (suc a)) n)) refl (one_fewer n)
    ]

  -- so fewer parts take no more bytes
  pub distinct-less : (a x n : ℕ) → distinct part (a + x) n ≤ distinct part a (x + n)
  distinct-less a zero n = let e : a + 0 ≡ a = omega arith in let z : 0 + n ≡ n = omega arith in rw (e, z) (omega arith)
  distinct-less a (suc x) n =
      let e : a + suc x ≡ suc a + x = omega arith in
      let z : suc x + n ≡ suc (x + n) = omega arith in
      rw (e, z) (omega (arith, distinct-less (suc a) x n, one_fewer a (x + n)))
