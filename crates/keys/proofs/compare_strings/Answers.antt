-- `keys::compare_strings` meets its contract: what is left of both strings compares as the
-- whole does. A string stops where the byte is 0.
use Prim.Native.Nat.{ℕ, ◌+◌, ◌<◌}
use mathlib.Core.Path.{◌≡◌, sym, ◌∙◌}
use mathlib.Core.List.{List}
use native.Mathlib.Decide.{ℕ_discrete}
use native.Mathlib.Omega.{arith}
use lib.ListN.{length, drop, get_or, get_or-eq_default}
use Rattle.format.specs.String.{string}
use Rattle.format.proofs.Laws.Strings.{string-stops, string-goes-on}
use Rattle.std.specs.declared.cmp.Ordering.TheVariants.{Less, Equal, Greater}
use Rattle.keys.specs.Order.{order}
use Rattle.keys.proofs.Laws.{both_end, end-less, end-greater, first-less, first-greater, first-equal}
use Rattle.keys.proofs.compare_strings.Goals as goal

module _ (a b : List ℕ) (i : ℕ) where
  both-stop : get_or a i 0 ≡ 0 → get_or b i 0 ≡ 0 → order (string (drop i a)) (string (drop i b)) ≡ Equal
  both-stop e f = rw (string-stops a i e, string-stops b i f) both_end

  byte-less : get_or a i 0 < get_or b i 0 → order (string (drop i a)) (string (drop i b)) ≡ Less
  byte-less l = elim (ℕ_discrete (get_or a i 0) 0) [
    | yes e ↦ rw (string-stops a i e, string-goes-on b i (λ f. omega arith)) (end-less _ _)
    | no n ↦ rw (string-goes-on a i n, string-goes-on b i (λ f. omega arith)) (first-less _ _ _ _ l)
  ]

  byte-greater : get_or b i 0 < get_or a i 0 → order (string (drop i a)) (string (drop i b)) ≡ Greater
  byte-greater l = elim (ℕ_discrete (get_or b i 0) 0) [
    | yes e ↦ rw (string-goes-on a i (λ f. omega arith), string-stops b i e) (end-greater _ _)
    | no n ↦ rw (string-goes-on a i (λ f. omega arith), string-goes-on b i n) (first-greater _ _ _ _ l)
  ]

  byte-equal : get_or a i 0 ≡ get_or b i 0 → (get_or a i 0 ≡ 0 → ⊥)
      → order (string (drop i a)) (string (drop i b)) ≡ order (string (drop (i + 1) a)) (string (drop (i + 1) b))
  byte-equal e n = rw (string-goes-on a i n, string-goes-on b i (λ f. n (e ∙ f))) (first-equal _ _ _ _ e)

pub returns-then-x-y : goal.returns-then-x-y
returns-then-x-y c = sym (byte-less _ _ c.loop-i.i (omega arith)) ∙ c.loop-i.invariant.rest

pub returns-then-y-x : goal.returns-then-y-x
returns-then-y-x c = sym (byte-greater _ _ c.loop-i.i (omega arith)) ∙ c.loop-i.invariant.rest

pub returns-then-x-eq0 : goal.returns-then-x-eq0
returns-then-x-eq0 c = sym (both-stop _ _ c.loop-i.i c.if-x-eq0.true (omega arith)) ∙ c.loop-i.invariant.rest

pub loop-i-preserved : goal.loop-i-preserved
loop-i-preserved c =
    record { within = omega arith; rest = sym (byte-equal _ _ c.loop-i.i (omega arith) c.if-x-eq0.false) ∙ c.loop-i.invariant.rest }

pub returns-then-byte-eq0 : goal.returns-then-byte-eq0
returns-then-byte-eq0 c =
    let over = get_or-eq_default c.args.a.now 0 c.loop-i-test.false in
    let end : c.loop-i.i ≡ length c.args.a.now = omega arith in
    sym (both-stop _ _ c.loop-i.i over (rw end (omega arith))) ∙ c.loop-i.invariant.rest

pub returns-else-byte-eq0 : goal.returns-else-byte-eq0
returns-else-byte-eq0 c =
    let over = get_or-eq_default c.args.a.now 0 c.loop-i-test.false in
    let end : c.loop-i.i ≡ length c.args.a.now = omega arith in
    let next : get_or c.args.b.now c.loop-i.i 0 ≡ c.byte.result = rw end (sym c.byte.ensures) in
    sym (byte-less _ _ c.loop-i.i (omega arith)) ∙ c.loop-i.invariant.rest
