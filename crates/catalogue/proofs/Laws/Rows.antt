-- Of things that stand one after the other: how many are read, what is read of each, and where they
-- end.
use Prim.Native.Nat.{ℕ, zero, suc, ◌+◌, ◌*◌, ◌<◌}
use Rattle.std.specs.Prelude.{◌≡◌, ◌∷◌, map, length, get_or}
use Rattle.std.proofs.Math.Path.{refl, ap}
use Rattle.std.proofs.Common.{◌∙◌, arith}
use Rattle.std.proofs.Math.Numerals.{add-one}
use Rattle.format.specs.Fault.{first_fault}
use Rattle.format.specs.declared.Fault.{Fault}
use Rattle.format.proofs.Laws.First.{at_first, at-later}
use Rattle.format.proofs.Laws.Faults.{or_else-none}
use Rattle.catalogue.specs.Row.{row_end, row}

module _ {A : Type 0} (what : ℕ → A) (next : ℕ → ℕ) where
  pub row-length : (n p : ℕ) → length (row what next n p) ≡ n
  unfolding row
  row-length zero p = refl
  row-length (suc n) p = ap suc (row-length n (next p))

  -- one more is read before the rest
  pub row_more : (n p m : ℕ) → n ≡ m + 1 → row what next n p ≡ what p ∷ row what next m (next p)
  unfolding row
  row_more n p m e = rw (e, add-one m)

  -- thing i is read where i things end
  pub row_at : (n i p : ℕ) (other : A) → i < n → get_or (row what next n p) i other ≡ what (row_end next i p)
  unfolding row row_end
  row_at zero i p other l = absurd (omega arith)
  row_at (suc n) zero p other l = refl
  row_at (suc n) (suc i) p other l = row_at n i (next p) other (omega arith)

  pub row-map : {B : Type 0} (f : A → B) (n p : ℕ) → map f (row what next n p) ≡ row (λ at. f (what at)) next n p
  unfolding row
  row-map f zero p = refl
  row-map f (suc n) p = ap (λ l. f (what p) ∷ l) (row-map f n (next p))

pub end_more : (next : ℕ → ℕ) (n p m : ℕ) → n ≡ m + 1 → row_end next n p ≡ row_end next m (next p)
unfolding row_end
end_more next n p m e = rw (e, add-one m)

pub end-next : (next : ℕ → ℕ) (n p : ℕ) → row_end next (suc n) p ≡ next (row_end next n p)
unfolding row_end
end-next next zero p = refl
end-next next (suc n) p = end-next next n (next p)

-- things of one width
pub end-steps : (w n p : ℕ) → row_end (λ at. at + w) n p ≡ p + w * n
unfolding row_end
end-steps w zero p = let e = at_first p w in omega arith
end-steps w (suc n) p = let e = at-later p w n in end-steps w n (p + w) ∙ omega arith

-- where none breaks a rule, thing i does not
pub row_keeps : (judge : ℕ → Fault) (next : ℕ → ℕ) (n i p : ℕ) → i < n → (first_fault judge next n p).number ≡ 0 → (judge (row_end next i p)).number ≡ 0
unfolding first_fault row_end
row_keeps judge next zero i p l e = absurd (omega arith)
row_keeps judge next (suc n) zero p l e = (or_else-none _ _ e).0
row_keeps judge next (suc n) (suc i) p l e = row_keeps judge next n i (next p) (omega arith) (or_else-none _ _ e).1
