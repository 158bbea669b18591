-- `passes::head::clear` meets its contract: each byte of the end value is 255.
use Rattle.std.proofs.Common.{◌≡◌, ℕ, zero, suc, ◌+◌, ◌-◌, ◌*◌, ◌≤◌, List, ◌++◌, length, take, drop, refl, sym, ap, ◌∙◌, arith, append_assoc, length-drop, length-take-le, rules}
use Rattle.std.proofs.Math.ListN.{replicate, length-replicate}
use Rattle.std.proofs.Math.Seq.{drop-drop}
use Rattle.std.proofs.lemmas.List.{replicate-append-replicate}
use borrow.Rule.Slice.PartMut.{put_mid}
use Rattle.format.specs.Layout.{end_value}
use Rattle.format.specs.Bytes.{bytes, joined, put}
use Rattle.passes.proofs.head.clear.Goals as goal

fields : (n : ℕ) → replicate (4 * n) 255 ≡ joined (λ _. bytes 4 end_value) n
unfolding bytes joined
fields zero = refl
fields (suc n) =
    let more : 4 * suc n ≡ 4 * n + 4 = omega arith in
    rw more (sym (replicate-append-replicate (4 * n) 4 255) ∙ ap (λ l. l ++ bytes 4 end_value) (fields n))

written-to : (s : List ℕ) (a k : ℕ) (xs : List ℕ) → length xs ≡ k → put_mid a k s xs ≡ put s a xs
unfolding put
written-to s a k xs e =
    ap (λ l. take a s ++ (xs ++ l)) (drop-drop k a s)
    ∙ sym (append_assoc (take a s) xs (drop (a + k) s))
    ∙ ap (λ n. take a s ++ xs ++ drop (a + n) s) (sym e)

cleared : (s : List ℕ) (a k n : ℕ) (xs : List ℕ) → k ≡ 4 * n → a + k ≤ length s → xs ≡ replicate (length (take k (drop a s))) 255
    → put_mid a k s xs ≡ put s a (joined (λ _. bytes 4 end_value) n)
cleared s a k n xs size within filled =
    let inside : k ≤ length (drop a s) = omega (arith, length-drop a s) in
    let part : length (take k (drop a s)) ≡ k = length-take-le k (drop a s) inside in
    let wide : length xs ≡ k = ap length filled ∙ length-replicate (length (take k (drop a s))) 255 ∙ part in
    written-to s a k xs wide ∙ ap (put s a) (filled ∙ ap (λ m. replicate m 255) (part ∙ size) ∙ fields n)

pub returns : goal.returns
returns c =
    let a = c.args in
    cleared a.out.now a.at (a.at + 4 * a.n - a.at) a.n c.fill.new.self (omega arith) (omega arith) (c.fill.ensures.after (search rules))
