-- `copying::copy` meets its contract. The loop's invariant: so many bytes are put, and all else is as
-- it was.
use Prim.Native.Nat.{ℕ, ◌+◌, ◌<◌}
use mathlib.Core.Path.{◌≡◌, refl, sym, ap, ◌∙◌}
use mathlib.Core.List.{List, [], ◌∷◌, ◌++◌}
use native.Mathlib.Numerals.{add-one}
use native.Mathlib.Omega.{arith}
use borrow.Author.Rules.{rules}
use lib.ListN.{length, take, drop, get_or, set, length-drop}
use lib.Seq.{take-suc, get_or-drop, length-take-le, sets-eq}
use Rattle.format.specs.Bytes.{put}
use Rattle.format.proofs.Laws.Put.{put-length, put-nothing, put-more}
use Rattle.copying.proofs.copy.Goals as goal

-- one byte more
more : (s from : List ℕ) (p q i : ℕ) {t : List ℕ} → q + i < length from → p + i < length s → t ≡ put s p (take i (drop q from))
    → set t (p + i) (get_or from (q + i) 0) ≡ put s p (take (i + 1) (drop q from))
unfolding put
more s from p q i {t} there fits before =
    let xs = take i (drop q from) in
    let x = get_or from (q + i) 0 in
    let rest = length-drop q from in
    let size : length xs ≡ i = length-take-le i (drop q from) (omega arith) in
    let room : p + i < length t = omega (arith, ap length before, put-length s p xs (omega arith)) in
    let next : take (i + 1) (drop q from) ≡ xs ++ (x ∷ []) = rw add-one (take-suc (drop q from) i 0 (omega arith) ∙ rw get_or-drop) in
    sets-eq (x ∷ []) t (p + i) (omega arith)
    ∙ ap (λ u. put u (p + i) (x ∷ [])) before
    ∙ put-more s p xs (x ∷ []) {q = p + i} (omega arith) (omega arith)
    ∙ ap (put s p) (sym next)

pub loop-i-init : goal.loop-i-init
loop-i-init c = record { lent = refl; copied = sym (put-nothing _ _) }

pub loop-i-preserved : goal.loop-i-preserved
loop-i-preserved c =
    let a = c.args in
    record {
      lent = search rules;
      copied = more a.out.now a.from.now a.at a.start c.loop-i.i (omega arith) (omega arith) c.loop-i.invariant.copied;
    }
