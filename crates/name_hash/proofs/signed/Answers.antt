-- `name_hash::signed` meets its contract: what it answers and the signed number are the same when 128
-- is added to both and wrapped. Rests on `signed-raised` and `taken-away`.
use Rattle.std.proofs.Common.{sym, ◌∙◌, mod-eq_of_lt, arith}
use Rattle.format.specs.String.{signed}
use Rattle.format.proofs.Laws.Hashes.{signed-raised}
use Rattle.name_hash.proofs.Wrapping.{taken-away}
use Rattle.name_hash.proofs.signed.Goals as goal

pub returns : goal.returns
returns c =
    let b = c.args.byte in
    let raised = signed-raised b (omega (arith, c.well_formed.0)) in
    let same = c.wrapping_sub_u32.ensures.value ∙ c.wrapping_add_u8-raised.ensures.value ∙ sym raised.1 in
    taken-away 128 (signed b) c.wrapping_sub_u32.type_inv same ∙ mod-eq_of_lt raised.0
