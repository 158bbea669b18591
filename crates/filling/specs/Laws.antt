-- Parts put one behind the other, or before one that stands already.
use Rattle.std.specs.Prelude.{ℕ, ◌+◌, ◌≤◌, ◌<◌, ◌≡◌, refl, List, [], ◌++◌, length}
use Rattle.std.proofs.Common.{sym, ap, ◌∙◌, add-one, arith, length-append}
use Rattle.format.specs.Bytes.{joined, put}
use Rattle.format.proofs.Laws.Put.{put-length, put-nothing, put_then, put-before}
use Rattle.filling.specs.Puts.{Puts}

module _ {lent out : List ℕ} {at : ℕ} {xs : List ℕ} {n behind : ℕ} (size : length xs ≡ n) (next : behind ≡ at + n) where
  pub puts_whole : at + n ≤ length lent → out ≡ put lent at xs → Puts lent out at xs behind
  puts_whole fits e = record {
    same = ap length e ∙ put-length lent at xs (omega arith);
    filled = λ l. e;
    next = omega arith;
  }

  pub puts-short : length lent < at + n → out ≡ lent → Puts lent out at xs behind
  puts-short short e = record { same = ap length e; filled = λ l. absurd (omega arith); next = omega arith }

pub puts_none : (lent : List ℕ) (at : ℕ) → Puts lent lent at [] at
puts_none lent at = record { same = refl; filled = λ l. sym (put-nothing lent at); next = omega arith }

pub puts-more : {lent out new : List ℕ} {at q r : ℕ} {xs ys : List ℕ} → Puts lent out at xs q → Puts out new q ys r → Puts lent new at (xs ++ ys) r
puts-more {lent} {at = at} {q = q} {xs = xs} {ys} a b =
    let whole = length-append xs ys in
    record {
      same = b.same ∙ a.same;
      filled = λ l.
          put_then lent at xs ys {q = q} (sym a.next) (omega (arith, a.next)) (a.filled (omega arith)) (b.filled (omega (arith, a.next, a.same)));
      next = omega (arith, a.next, b.next);
    }

-- a part that is put before one that stands already
pub puts-before : {lent out new : List ℕ} {at q r : ℕ} {xs ys : List ℕ} → Puts lent out q ys r → Puts out new at xs q → Puts lent new at (xs ++ ys) r
puts-before {lent} {at = at} {q = q} {xs = xs} {ys} a b =
    let whole = length-append xs ys in
    record {
      same = b.same ∙ a.same;
      filled = λ l.
          b.filled (omega (arith, a.same))
          ∙ ap (λ s. put s at xs) (a.filled (omega (arith, b.next)))
          ∙ put-before lent at xs ys {q = q} (sym b.next) (omega (arith, b.next));
      next = omega (arith, a.next, b.next);
    }

-- none yet of the parts that f gives, and the next of them, which may be empty
pub puts_first : (lent : List ℕ) (at : ℕ) (f : ℕ → List ℕ) → Puts lent lent at (joined f 0) at
unfolding joined
puts_first lent at f = puts_none lent at

module _ (f : ℕ → List ℕ) (i : ℕ) {lent out : List ℕ} {at q : ℕ} (a : Puts lent out at (joined f i) q) where
  pub puts-next : {new xs : List ℕ} {r : ℕ} → f i ≡ xs → Puts out new q xs r → Puts lent new at (joined f (i + 1)) r
  unfolding joined
  puts-next e b = rw (add-one, e) (puts-more a b)

  pub puts-skip : f i ≡ [] → Puts lent out at (joined f (i + 1)) q
  puts-skip e = puts-next e (puts_none out q)
