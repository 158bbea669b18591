-- `tables::read` meets its contract: the law `header-valid` says that each of the four numbers lies
-- inside.
use native.Mathlib.Omega.{arith}
use Rattle.format.proofs.Laws.Header.{header-valid}
use Rattle.tables.proofs.read.Goals as goal

pub u32_at-buckets_at-requires : goal.u32_at-buckets_at-requires
u32_at-buckets_at-requires c = omega (arith, header-valid _ c.requires)

pub u32_at-buckets-requires : goal.u32_at-buckets-requires
u32_at-buckets-requires c = omega (arith, header-valid _ c.requires)

pub u32_at-directories_at-requires : goal.u32_at-directories_at-requires
u32_at-directories_at-requires c = omega (arith, header-valid _ c.requires)

pub u32_at-directories-requires : goal.u32_at-directories-requires
u32_at-directories-requires c = omega (arith, header-valid _ c.requires)
