-- What holds of a chain that comes back to a record.
use Prim.Native.Nat.{ℕ, suc, ◌+◌, ◌-◌, ◌≤◌, ◌<◌}
use mathlib.Core.Path.{◌≡◌, ap, ◌∙◌}
use mathlib.Core.List.{List}
use native.Mathlib.Decide.{dec_lt}
use native.Mathlib.Omega.{arith}
use Rattle.format.specs.Layout.{end_value}
use Rattle.format.specs.Words.{link, link_field, Keeps, KeepsBelow}
use Rattle.format.proofs.Laws.Links.{earlier}
use Rattle.format.specs.Places.{Repeat}
use Rattle.format.specs.declared.Reading.TheVariants.{Short}
use Rattle.rounds.specs.Stepping.{ahead, InsideBelow}
use Rattle.rounds.specs.Laws.{ahead-field}
use Rattle.chains.specs.Walk.{Stands}

-- if the chain comes back to a record by `stop`, what holds up to there holds of all records
pub all_alike : {s : List ℕ} {k stop most : ℕ} (P : ℕ → Type 0) → (stop < most → Repeat s k (suc stop)) → ((m : ℕ) → m < suc stop → P (link s k m))
    → (m : ℕ) → m < suc most → P (link s k m)
all_alike {s} {k} {stop} {most} P back below m g = elim (dec_lt stop most) [
  | no q ↦ below m (omega arith)
  | yes q ↦ let (i, h, d) = earlier (back q) m in rw d (below i (omega (arith, (back q).below)))
]

-- so they keep the rules, and can be stepped
module _ {s : List ℕ} {k stop most f o : ℕ} (back : stop < most → Repeat s k (suc stop)) (w : Stands s k f o) (last : o ≡ stop + 1) where
  pub turned-keeps : KeepsBelow Short s k (suc most)
  turned-keeps = all_alike (λ x. (x ≡ end_value → ⊥) × Keeps Short s k x) back (λ m l. w.keeps m (omega arith))

  module _ (few : stop ≤ most) where
    pub turned-inside : InsideBelow s f (most + 1 - o)
    unfolding link_field
    turned-inside m g =
        let next : o + m ≡ suc (stop + m) = omega arith in
        omega (arith, ap (λ x. ahead s x m) w.field ∙ ahead-field s k o m ∙ ap (link_field s k) next, (turned-keeps (stop + m) (omega arith)).1.inside)

    pub turned-last : ahead s f (most + 1 - o) ≡ link s k most
    unfolding link_field
    turned-last =
        let all : o + (most + 1 - o) ≡ suc most = omega arith in
        ap (λ x. ahead s x (most + 1 - o)) w.field ∙ ahead-field s k o _ ∙ ap (link_field s k) all
