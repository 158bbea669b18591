-- How the walk of a chain ends: one of four ways, and each of them says how many records it met and
-- which row stands for its end.
use Prim.Native.Nat.{ℕ, zero, suc, ◌+◌, ◌<◌}
use Rattle.std.specs.Prelude.{◌≡◌, List, Bool, ◌&&◌, length, if◌then◌else◌}
use Rattle.std.proofs.Math.Path.{refl}
use Rattle.std.proofs.Common.{sym, ◌∙◌, arith}
use Rattle.std.proofs.Math.Bool.{true, false, not, and-false}
use Rattle.std.proofs.lemmas.Bool.{false≢true}
use borrow.Author.Tests.{eq-eqb, ne_eqb, eqb-true, eqb-false, lt-leb, leb-true, leb-false}
use Rattle.std.proofs.Math.Dec.{eqb}
use Rattle.format.specs.Part.{inside}
use Rattle.format.specs.Fault.{no_fault, unless, ◌or_else◌}
use Rattle.format.specs.Layout.{end_value}
use Rattle.format.specs.Header.{bucket_field}
use Rattle.format.specs.Words.{link, link_field}
use Rattle.format.specs.declared.Fault.{Fault}
use Rattle.salvage_spec.specs.Meetings.{named_below, passed, comes, cut_at, met, cut}
use Rattle.salvage_spec.specs.Promise.{Passed, MeetsAt, Ends, misnamed, ended, outside, looped}
use Rattle.salvage_spec.proofs.Laws.Meets.{named-somewhere, named-nowhere, named-there, fresh-unnamed, left_behind, met-stops, met-is}

-- the row that stands for an end at step n
abbrev end_at : List ℕ → ℕ → ℕ → Fault
end_at s k n = if comes s k n then cut_at s k n else no_fault

module _ (s : List ℕ) (k : ℕ) where
  passed_words : (n : ℕ) → passed s k n ≡ true → Passed s k n
  unfolding passed
  passed_words n e m q = eqb-true _ _ (rw q at e)

  not-passed : (n : ℕ) → passed s k n ≡ false → Ends s k n no_fault
  unfolding passed
  not-passed zero e = absurd (false≢true (sym e))
  not-passed (suc m) e = misnamed m refl (eqb-false _ _ e)

  -- where no record is met the walk ends in one of the ways
  ends-here : (n : ℕ) → (MeetsAt s k n → ⊥) → Ends s k n (end_at s k n)
  unfolding cut_at ◌or_else◌
  ends-here n stop =
      go (passed s k n) refl (eqb (link s k n) end_value) refl (inside s (link s k n) 12) refl (named_below s k (link s k n) n) refl
    where
      go : (p : Bool) → passed s k n ≡ p → (e : Bool) → eqb (link s k n) end_value ≡ e → (i : Bool) → inside s (link s k n) 12 ≡ i
          → (r : Bool) → named_below s k (link s k n) n ≡ r
          → Ends s k n (if p && not e then unless (not r) 12 (bucket_field s k) or_else unless i 7 (link_field s k n) else no_fault)
      go false a e b i c r d = not-passed n a
      go true a true b i c r d = ended (passed_words n a) (eqb-true _ _ b)
      go true a false b i c true d = let (m, l, e) = named-somewhere s k (link s k n) n d in looped (passed_words n a) m l e
      go true a false b false c false d = outside (passed_words n a) (eqb-false _ _ b) (λ h. omega (arith, leb-false (link s k n + 12) (length s) c))
      go true a false b true c false d = absurd (stop (record {
        passed = passed_words n a;
        real = eqb-false _ _ b;
        inside = leb-true _ _ c;
        fresh = named-nowhere s k (link s k n) n d;
      }))

  pub walk_ends : Ends s k (met s k) (cut s k)
  unfolding cut
  walk_ends = ends-here (met s k) (met-stops s k)

  -- and each way says which row it is
  module _ (n : ℕ) (all : (m : ℕ) → m < n → MeetsAt s k m) where
    ends-row : {f : Fault} → Ends s k n f → end_at s k n ≡ f
    unfolding cut_at ◌or_else◌ passed
    ends-row (misnamed m e bad) = rw (e, ne_eqb _ _ bad)
    ends-row (ended p e) = rw (eq-eqb _ _ e, and-false)
    ends-row (outside p real out) =
        let new = fresh-unnamed s k (link s k n) n (λ m l e. out (rw e at (all m l).inside)) in
        rw (left_behind s k n p, ne_eqb _ _ real, new, lt-leb (link s k n + 12) (length s) (omega arith))
    ends-row (looped p m l e) =
        let real : link s k n ≡ end_value → ⊥ = λ q. (all m l).real (e ∙ q) in
        rw (left_behind s k n p, ne_eqb _ _ real, named-there s k (link s k n) n m l e)

    ends-unmet : {f : Fault} → Ends s k n f → MeetsAt s k n → ⊥
    ends-unmet (misnamed m e bad) w = bad (w.passed m e)
    ends-unmet (ended p e) w = w.real e
    ends-unmet (outside p real out) w = out w.inside
    ends-unmet (looped p m l e) w = w.fresh m l e

    -- so a walk that met n records and ends in one of the ways has met them all
    pub ends-met : {f : Fault} → Ends s k n f → (met s k ≡ n) × (cut s k ≡ f)
    unfolding cut
    ends-met h = let e = met-is s k n all (ends-unmet h) in (e, rw e (ends-row h))
