-- The end of the walk of one chain.
use Rattle.std.specs.Prelude.{ℕ, ◌*◌, ◌^◌, ◌≤◌, ◌<◌, ◌≡◌, List, ◌++◌, length, Option, Some, None}
use Rattle.std.proofs.Common.{sym, ap, ◌∙◌, append-nil, arith}
use Rattle.std.proofs.Math.Nat.{le_antisymm}
use Rattle.std.proofs.Math.Decide.{ℕ_discrete}
use Rattle.format.specs.Bytes.{joined}
use Rattle.format.specs.declared.Fault.{Fault}
use Rattle.format.proofs.Laws.Faults.{kept-takes, broken-takes}
use Rattle.filling.specs.Puts.{Puts}
use Rattle.filling.specs.Laws.{puts-more}
use Rattle.salvage_spec.specs.Meetings.{met, cut}
use Rattle.salvage_spec.specs.Salvage.{chain_icons}
use Rattle.salvage_spec.specs.Call.{row_words}
use Rattle.salvage_spec.specs.Pieces.{row_if, meeting_rows, chain_piece, chain_rows}
use Rattle.salvage_spec.proofs.Laws.Meets.{met-few}
use Rattle.salvage_reach.specs.Ways.{named_rule}
use Rattle.salvage_walk.specs.declared.Sums.{Sums}
use Rattle.salvage_walk.specs.Walk.{Grows, Steps, Walks}
use Rattle.salvage_walk.specs.Laws.Chain.{steps-many}
use Rattle.salvage_walk.specs.Laws.Grows.{grows-wider}

-- at the end of a chain, with the row of what cuts it or without
module _ {s : List ℕ} {k : ℕ} {c d w v index : List ℕ} {f n : ℕ} {a b : Sums} (h : Steps s k c d w v index f n a b) (all : met s k ≤ n) (short : length s ≤ 2 ^ 24) where
  few : n ≤ 2 ^ 24
  few = omega (arith, h.within, met-few s k)

  whole : Grows c d w v (chain_piece s k) (joined (meeting_rows s k) (met s k)) (length (chain_icons s k)) (2 * n) a b
  unfolding chain_icons
  whole = let e : n ≡ met s k = le_antisymm h.within all in rw (← e) h.grows

  walked : {v' : List ℕ} {b' : Sums} → length v' ≡ length w → Grows c d w v' (chain_piece s k) (chain_rows s k) (length (chain_icons s k)) (2 ^ 26) a b'
      → Walks s k c d w v' a b'
  walked same g = record { same_bytes = g.bytes.same; same-words = same; whole = λ l. g; many = λ l. omega (arith, g.icons) }

  pub walks-uncut : (cut s k).number ≡ 0 → Walks s k c d w v a b
  walks-uncut e =
      let none : chain_rows s k ≡ joined (meeting_rows s k) (met s k) = ap (λ x. joined (meeting_rows s k) (met s k) ++ x) (kept-takes (cut s k) _ _ e) ∙ append-nil _ in
      walked h.grows.words.same (rw none (grows-wider (omega (arith, few)) whole))

  pub walks-cut : {v' : List ℕ} {q : ℕ} {x : Fault} → cut s k ≡ x → (x.number ≡ 0 → ⊥) → Puts v v' b.words (row_words x) q
      → Walks s k c d w v' a (record { icons = b.icons; bytes = b.bytes; words = q })
  walks-cut {x = x} e bad put =
      let some : chain_rows s k ≡ joined (meeting_rows s k) (met s k) ++ row_words x =
      ap (λ y. joined (meeting_rows s k) (met s k) ++ row_if y) e ∙ ap (λ y. joined (meeting_rows s k) (met s k) ++ y) (broken-takes x _ _ bad) in
      let g = whole in
      walked (put.same ∙ g.words.same) (rw some (record {
        icons = g.icons;
        bytes = g.bytes;
        words = puts-more g.words put;
        bytes-few = g.bytes-few;
        words-few = omega (arith, g.words-few, put.next, few);
      }))

-- what cuts a chain, as the walk says it
module _ (v : Fault) {o : Option Fault} (e : named_rule v ≡ o) where
  pub cut_none : ((f : Fault) → o ≡ Some f → ⊥) → v.number ≡ 0
  cut_none none = elim (ℕ_discrete v.number 0) [ yes h ↦ h | no n ↦ absurd (none v (sym e ∙ broken-takes v None (Some v) n)) ]

  pub cut_some : (f : Fault) → o ≡ Some f → (v ≡ f) × (f.number ≡ 0 → ⊥)
  cut_some f q = elim (ℕ_discrete v.number 0) [
    | yes h ↦ let other : ◌≡◌ {A = Option Fault} None (Some f) = sym (kept-takes v None (Some v) h) ∙ e ∙ q in cc
    | no n ↦ let same : ◌≡◌ {A = Option Fault} (Some v) (Some f) = sym (broken-takes v None (Some v) n) ∙ e ∙ q in let is : v ≡ f = cc in (is, rw is at n)
  ]

-- too many icons
pub walks-many : {s : List ℕ} {k : ℕ} {c d w v index : List ℕ} {f n : ℕ} {a b : Sums} → Steps s k c d w v index f n a b → 65535 < b.icons → Walks s k c d w v a b
walks-many h many = record {
  same_bytes = h.grows.bytes.same;
  same-words = h.grows.words.same;
  whole = λ l. absurd (omega arith);
  many = λ l. steps-many h many;
}
