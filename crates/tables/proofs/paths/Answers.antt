-- `tables::paths` meets its contract. The loop's invariant: the judgement of the paths that are
-- left is that of all. Each turn is one of the laws `first-stop` and `first-go-on`.
use Prim.Native.Nat.{◌+◌, ◌-◌, ◌<◌}
use mathlib.Core.Path.{◌≡◌, ◌∙◌, sym}
use native.Mathlib.Omega.{arith}
use Rattle.std.proofs.lemmas.Result.{err_from_is_err_and}
use Rattle.format.specs.Header.{directories, path_fault}
use Rattle.format.proofs.Laws.Faults.{first-end, first-stop, first-go-on}
use Rattle.format.proofs.Laws.Outcomes.{kept-by, broken-by}
use Rattle.tables.specs.Laws.{same-directories}
use Rattle.tables.specs.Tables.{part_of}
use Rattle.tables.proofs.Handed.{breaks, keeps}
use Rattle.tables.proofs.paths.Goals as goal

pub returns-in_err-path : goal.returns-in_err-path
returns-in_err-path c =
    let s = c.args.cache.now in
    let broken = broken-by (path_fault s c.loop-i.i) (part_of s c.loop-i.i) _ c.in_err-path.ensures in
    let left : 0 < directories s - c.loop-i.i = omega (arith, same-directories c.requires) in
    let all = sym c.loop-i.invariant ∙ first-stop (path_fault s) _ _ _ left broken.0 in
    let p = err_from_is_err_and c.from_residual.result c.from_residual.ensures.1 in
    rw (p.1, p.2, broken.1) (breaks tt all broken.0)

pub loop-i-preserved : goal.loop-i-preserved
loop-i-preserved c =
    let s = c.args.cache.now in
    let kept = kept-by (path_fault s c.loop-i.i) (part_of s c.loop-i.i) _ c.in_ok-path.ensures in
    let one : directories s - c.loop-i.i ≡ directories s - (c.loop-i.i + 1) + 1 = omega (arith, same-directories c.requires) in
    sym (first-go-on (path_fault s) _ _ _ _ one kept.0) ∙ c.loop-i.invariant

pub returns : goal.returns
returns c = keeps tt (sym c.loop-i.invariant ∙ first-end _ _ _ _ (omega (arith, same-directories c.requires)))
