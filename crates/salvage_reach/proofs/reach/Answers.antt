-- `salvage_reach::reach` meets its contract: the chain stops by itself, or the first step of its
-- round tells where it is cut.
use mathlib.Core.Path.{◌≡◌, ap, ◌∙◌}
use Prim.Native.Nat.{ℕ}
use mathlib.Core.List.{List}
use native.Mathlib.Omega.{arith}
use Rattle.format.specs.Number.{be}
use Rattle.format.specs.Header.{bucket_field}
use Rattle.format.specs.Words.{link}
use Rattle.tables.specs.Laws.{valid-header, same-field, field-inside}
use Rattle.salvage_reach.specs.Laws.Ahead.{round-runs, round-reached}
use Rattle.salvage_reach.proofs.reach.Goals as goal

-- the first record
first : (s : List ℕ) (k : ℕ) {f r : ℕ} → f ≡ bucket_field s k → r ≡ be 4 s f → r ≡ link s k 0
unfolding link
first s k e q = q ∙ ap (be 4 s) e

pub u32_at-first-requires : goal.u32_at-first-requires
u32_at-first-requires c =
    omega (arith, c.bucket_field-place.ensures, same-field c.requires.0 c.args.bucket, field-inside c.requires.0 _ c.requires.1)

pub lead_in-before-requires : goal.lead_in-before-requires
lead_in-before-requires c =
    let field = c.bucket_field-place.ensures ∙ same-field c.requires.0 _ in
    rw (first c.args.cache.now c.args.bucket field c.u32_at-first.ensures) (round-runs c.in-Turns.ensures)

pub overflow_add-result : goal.overflow_add-result
overflow_add-result c = omega (arith, c.lead_in-before.ensures.before, c.in-Turns.ensures.near, valid-header c.requires.0)

pub returns-in-Turns : goal.returns-in-Turns
returns-in-Turns c =
    let field = c.bucket_field-place.ensures ∙ same-field c.requires.0 _ in
    let from = first c.args.cache.now c.args.bucket field c.u32_at-first.ensures in
    rw field (round-reached c.in-Turns.ensures c.lead_in-before.result (rw from at c.lead_in-before.ensures))
