-- `hash_words::signed_sum` meets its contract, by the laws of Laws/Signed.
use native.Mathlib.Omega.{arith}
use Rattle.hash_words.proofs.Laws.Signed.{sum-small, sum-signed}
use Rattle.hash_words.proofs.signed_sum.Goals as goal

pub overflow_add-result : goal.overflow_add-result
overflow_add-result c = record { fits = omega (arith, sum-small c.args.w c.sum.ensures) }

pub returns : goal.returns
returns c = record { sum = sum-signed c.args.w c.sum.ensures; small = omega (arith, sum-small c.args.w c.sum.ensures) }
