use Rattle.std.proofs.Common.{◌≡◌, ℕ, ◌+◌, ◌-◌, ◌≤◌, List, ◌++◌, length, take, rules, sym, ap, ◌∙◌, subst, length-take-le}
use Rattle.std.proofs.Math.Seq.{take-append-add}
use Rattle.std.proofs.lemmas.List.{take-append-le}
use Rattle.std.proofs.KnownBytes.{Consumes-trans}
use Rattle.std.specs.Io.KnownBytes.{Consumes}
use borrow.Rule.Slice.PartMut.{put_mid, post_of}
use Rattle.input.proofs.read_full.Goals as goal

-- The front after a read is the front before it, and what was read.
front_grows : (at k n : ℕ) (xs ys : List ℕ) → at ≤ length xs → n ≤ length ys → take at xs ++ take n ys ≡ take (at + n) (put_mid at k xs ys)
front_grows at k n xs ys within fits =
    let front = take at xs in
    let after = post_of at k xs in
    let at_front : length front + n ≡ at + n = ap (λ m. m + n) (length-take-le at xs within) in
    ap (λ l. front ++ l) (sym (take-append-le n ys after fits)) ∙ sym (take-append-add front (ys ++ after) n) ∙ ap (λ m. take m (front ++ (ys ++ after))) at_front

pub loop-done-preserved : goal.loop-done-preserved
loop-done-preserved g c =
    let at = c.loop-done.done in
    let grown = front_grows at (length c.loop-done.bytes - at) c.in-Ok.n c.loop-done.bytes c.read.new.buf c.loop-done.invariant.within c.in-Ok.ensures.bound.0 in
    record {
      within = search rules;
      read = subst (Consumes _ _) grown (Consumes-trans _ _ _ _ _ c.loop-done.invariant.read c.in-Ok.ensures.bytes.0);
    }
