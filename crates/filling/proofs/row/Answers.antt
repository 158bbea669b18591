-- `filling::row` meets its contract, whether there is room for two words or not.
use Prim.Native.Nat.{ℕ, ◌+◌, ◌≤◌}
use mathlib.Core.Path.{◌≡◌, refl}
use mathlib.Core.List.{List, [], ◌∷◌}
use native.Mathlib.Numerals.{add-one}
use native.Mathlib.Omega.{arith}
use lib.ListN.{length, set}
use lib.Seq.{sets-eq}
use Rattle.format.specs.Bytes.{put}
use Rattle.filling.specs.Laws.{puts_whole, puts-short}
use Rattle.filling.proofs.row.Goals as goal
use Rattle.filling.proofs.row.Goals.{then-at-report, else-at-report}

stored : (s : List ℕ) (p a b : ℕ) → p + 2 ≤ length s → set (set s p a) (p + 1) b ≡ put s p (a ∷ b ∷ [])
unfolding put
stored s p a b fits = rw add-one (sets-eq (a ∷ b ∷ []) s p fits)

pub returns : goal.returns
returns c = elim c.if-at-report.branch [
  | then-at-report w ↦
      rw w.report-is (puts_whole refl refl (omega arith) (stored c.args.report.now c.args.at c.args.number c.args.place (omega arith)))
  | else-at-report w ↦ rw w.report-is (puts-short refl refl (omega arith) refl)
]
