-- `hash_words::sum` meets its contract: what it computes step by step are the word's pairs, its pairs of
-- pairs and its two halves, by the laws of Laws/Pairs.
use Prim.Native.Nat.{◌<◌, ◌^◌}
use native.Mathlib.Omega.{arith}
use Rattle.hash_words.proofs.Laws.Pairs.{halves}
use Rattle.hash_words.proofs.sum.Goals as goal

fits : (c : goal.Start) → c.args.w < 2 ^ 64
fits c = omega (arith, c.well_formed.0)

pub returns : goal.returns
returns c = halves c.args.w (fits c)
