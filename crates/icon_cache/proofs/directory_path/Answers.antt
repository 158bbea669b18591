-- `icon_cache::directory_path` meets its contract: the part lies inside (`ends-inside`) and is the
-- path, or empty with a refusal (`is-path`).
use Rattle.std.proofs.Common.{arith}
use Rattle.std.proofs.Math.Nat.{add-sub_cancel_left}
use Rattle.icon_cache.proofs.Meets.{ends-inside, is-path}
use Rattle.icon_cache.proofs.directory_path.Goals as goal

pub returns-in_default : goal.returns-in_default
returns-in_default c = is-path _ _ c.in_default.ensures.answer

pub overflow_add-end : goal.overflow_add-end
overflow_add-end c = omega (arith, ends-inside _ _ c.in-Ok.ensures.answer)

pub slice_bounds-result-end-2 : goal.slice_bounds-result-end-2
slice_bounds-result-end-2 c = omega (arith, ends-inside _ _ c.in-Ok.ensures.answer)

pub returns : goal.returns
returns c = rw (add-sub_cancel_left c.in-Ok.part.start c.in-Ok.part.length) (is-path _ _ c.in-Ok.ensures.answer)
