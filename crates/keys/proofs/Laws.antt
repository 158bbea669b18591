-- Laws of the order of keys: only a key itself is equal to it, and what is less than a lesser one
-- is less.
use Rattle.std.specs.Prelude.{ℕ, ◌<◌, ◌≡◌, refl, ◌⊎◌, List, [], ◌∷◌}
use Rattle.std.proofs.Common.{sym, ◌∙◌, inl, inr, arith}
use Rattle.std.proofs.Math.Decide.{dec_lt}
use borrow.Author.Tests.{lt-ltb, le-ltb}
use Rattle.std.specs.Ordering.{nat_cmp}
use Rattle.std.specs.Cmp.Lexicographic.{slice_cmp}
use Rattle.std.proofs.lemmas.Bool.Decides.{nat_tests}
use Rattle.std.specs.declared.cmp.Ordering.TheVariants.{Less, Equal, Greater}
use Rattle.keys.specs.Order.{order}

-- how two numbers compare
data Compared (x y : ℕ) : Type 0 where
  less : x < y → Compared x y
  equal : x ≡ y → Compared x y
  greater : y < x → Compared x y

compared : (x y : ℕ) → Compared x y
compared x y = go (dec_lt x y) (dec_lt y x)
  where
    go : Dec (x < y) → Dec (y < x) → Compared x y
    go (yes h) d = less h
    go (no a) (yes h) = greater h
    go (no a) (no b) = equal (omega arith)

-- where one key has ended, or both
pub both_end : order [] [] ≡ Equal
unfolding order
both_end = refl

pub end-less : (y : ℕ) (b : List ℕ) → order [] (y ∷ b) ≡ Less
unfolding order
end-less y b = refl

pub end-greater : (x : ℕ) (a : List ℕ) → order (x ∷ a) [] ≡ Greater
unfolding order
end-greater x a = refl

-- where neither has, the first numbers decide, unless they are equal
module _ (x y : ℕ) (a b : List ℕ) where
  pub first-less : x < y → order (x ∷ a) (y ∷ b) ≡ Less
  unfolding order
  first-less h = rw (order, lt-ltb x y h)

  pub first-greater : y < x → order (x ∷ a) (y ∷ b) ≡ Greater
  unfolding order
  first-greater h = let g = le-ltb x y (omega arith) in rw (order, g, lt-ltb y x h)

  pub first-equal : x ≡ y → order (x ∷ a) (y ∷ b) ≡ order a b
  unfolding order
  first-equal e =
      let g = le-ltb x y (omega arith) in
      let h = le-ltb y x (omega arith) in
      rw (order, g, h)

pub order-equal : (a b : List ℕ) → order a b ≡ Equal → a ≡ b
unfolding order
order-equal [] [] e = refl
order-equal [] (y ∷ b) e = cc
order-equal (x ∷ a) [] e = cc
order-equal (x ∷ a) (y ∷ b) e = go (compared x y) (order-equal a b)
  where
    go : Compared x y → (order a b ≡ Equal → a ≡ b) → x ∷ a ≡ y ∷ b
    go (less h) same = cc (first-less x y a b h)
    go (greater h) same = cc (first-greater x y a b h)
    go (equal h) same = let t = same (sym (first-equal x y a b h) ∙ e) in cc

pub order-itself : (a : List ℕ) → order a a ≡ Equal
unfolding order
order-itself [] = refl
order-itself (x ∷ a) = first-equal x x a a refl ∙ order-itself a

pub not-less-than-itself : (a : List ℕ) → order a a ≡ Less → ⊥
not-less-than-itself a e = let z : ◌≡◌ {A = ℕ} 0 1 = cc (order-itself a) in omega arith

-- keys that do not compare as equal are not the same
pub less_other : (a b : List ℕ) → order a b ≡ Less → a ≡ b → ⊥
less_other a b e same = not-less-than-itself b (rw same at e)

pub greater-less : (a b : List ℕ) → order a b ≡ Greater → order b a ≡ Less
unfolding order
greater-less [] [] e = cc
greater-less [] (y ∷ b) e = cc
greater-less (x ∷ a) [] e = refl
greater-less (x ∷ a) (y ∷ b) e = go (compared x y) (greater-less a b)
  where
    go : Compared x y → (order a b ≡ Greater → order b a ≡ Less) → order (y ∷ b) (x ∷ a) ≡ Less
    go (less h) back = cc (first-less x y a b h)
    go (greater h) back = first-less y x b a h
    go (equal h) back = first-equal y x b a (sym h) ∙ back (sym (first-equal x y a b h) ∙ e)

pub greater-other : (a b : List ℕ) → order a b ≡ Greater → a ≡ b → ⊥
greater-other a b e same = less_other b a (greater-less a b e) (sym same)

-- why a key is less than another that begins with a number too
less-because : (x y : ℕ) (a b : List ℕ) → order (x ∷ a) (y ∷ b) ≡ Less → (x < y) ⊎ ((x ≡ y) × (order a b ≡ Less))
less-because x y a b e = go (compared x y)
  where
    go : Compared x y → (x < y) ⊎ ((x ≡ y) × (order a b ≡ Less))
    go (less h) = inl h
    go (equal h) = inr (h, sym (first-equal x y a b h) ∙ e)
    go (greater h) = let z : ◌≡◌ {A = ℕ} 0 1 = cc (first-greater x y a b h) in absurd (omega arith)

pub less-than-a-lesser : (a b c : List ℕ) → order a b ≡ Less → order b c ≡ Less → order a c ≡ Less
unfolding order
less-than-a-lesser [] [] c p q = cc
less-than-a-lesser [] (y ∷ b) [] p q = cc
less-than-a-lesser [] (y ∷ b) (z ∷ c) p q = refl
less-than-a-lesser (x ∷ a) [] c p q = cc
less-than-a-lesser (x ∷ a) (y ∷ b) [] p q = cc
less-than-a-lesser (x ∷ a) (y ∷ b) (z ∷ c) p q = go (less-because x y a b p) (less-because y z b c q) (less-than-a-lesser a b c)
  where
    go : (x < y) ⊎ ((x ≡ y) × (order a b ≡ Less)) → (y < z) ⊎ ((y ≡ z) × (order b c ≡ Less)) → (order a b ≡ Less → order b c ≡ Less → order a c ≡ Less)
        → order (x ∷ a) (z ∷ c) ≡ Less
    go (inl g) (inl h) rest = first-less x z a c (omega arith)
    go (inl g) (inr h) rest = first-less x z a c (omega arith)
    go (inr g) (inl h) rest = first-less x z a c (omega arith)
    go (inr g) (inr h) rest = first-equal x z a c (omega arith) ∙ rest g.1 h.1

-- numbers that are keys by themselves
pub numbers-less : (x y : ℕ) → order (x ∷ []) (y ∷ []) ≡ Less → x < y
numbers-less x y e = go (less-because x y [] [] e)
  where
    go : (x < y) ⊎ ((x ≡ y) × (order [] [] ≡ Less)) → x < y
    go (inl h) = h
    go (inr h) = absurd (not-less-than-itself [] h.1)

-- the order of keys is how their numbers compare, first by first, by the library's order of numbers
pub by_numbers : (a b : List ℕ) → slice_cmp nat_cmp a b ≡ order a b
unfolding order
by_numbers [] [] = refl
by_numbers [] (y ∷ b) = refl
by_numbers (x ∷ a) [] = refl
by_numbers (x ∷ a) (y ∷ b) = grind (arith, nat_tests, by_numbers a b)

pub by_number : (x y : ℕ) → nat_cmp x y ≡ order (x ∷ []) (y ∷ [])
unfolding order
by_number x y = grind (arith, nat_tests)
