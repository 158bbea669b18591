-- `chains::walk` meets its contract: it stands at the bucket's field.
use Rattle.std.proofs.Common.{arith}
use Rattle.chains.proofs.Way.{stands-first}
use Rattle.chains.proofs.walk.Goals as goal

pub pass-requires : goal.pass-requires
pass-requires c =
    let pre = c.requires in
    record { tables_of = pre.tables_of; stands = stands-first pre.tables_of pre.bucket_bound.0 c.bucket_field-field.ensures; opened_le_most = (omega arith, pre.bucket_bound.1) }
