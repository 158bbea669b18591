-- `go_further` meets its contract: an arm for each clause of the definition.
use Rattle.std.proofs.Common.{◌≡◌, ℕ, ◌∙◌, sym, ap, arith}
use Rattle.format.specs.declared.Next.{Next}
use Rattle.tables.specs.Laws.{valid-header}
use Rattle.chains.specs.declared.Walked.{Walked}
use Rattle.listing.specs.Reach.{reached}
use Rattle.listing.proofs.go_further.Goals as goal

-- what comes after the records passed
follows : (k n : ℕ) {w : Walked} (v : Walked) {l : Next} → w ≡ v → w.after ≡ l → reached k n l ≡ reached k n v.after
follows k n v e is = ap (reached k n) (sym is ∙ ap (λ (w : Walked). w.after) e)

pub finish-chain-requires-clause-most_in_bounds : goal.finish-chain-requires-clause-most_in_bounds
finish-chain-requires-clause-most_in_bounds c = (omega (arith, c.requires.bucket_bound), omega (arith, valid-header c.requires.tables_of))

pub step_to-requires : goal.step_to-requires
step_to-requires c = omega (arith, c.requires.bucket_bound, valid-header c.requires.tables_of)

pub returns-in-Record : goal.returns-in-Record
returns-in-Record c = rw c.step_to.ensures (follows _ _ _ (c.finish-chain.ensures _ c.go_on-judged.ensures) c.in-Record.is)

pub returns-in-Broken : goal.returns-in-Broken
returns-in-Broken c = follows _ _ _ (c.finish-chain.ensures _ c.go_on-judged.ensures) c.in-Broken.is

pub returns-in-End : goal.returns-in-End
returns-in-End c = follows _ _ _ (c.finish-chain.ensures _ c.go_on-judged.ensures) c.in-End.is
