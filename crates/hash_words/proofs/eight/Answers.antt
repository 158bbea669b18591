-- `hash_words::eight` meets its contract: a multiple and a sum are the eight steps (`goes_on`).
use mathlib.Core.Path.{refl}
use native.Mathlib.Omega.{arith}
use Rattle.hash_words.proofs.Laws.Hashed.{goes_on}
use Rattle.hash_words.proofs.eight.Goals as goal

pub returns : goal.returns
returns c = let a = c.args in goes_on 8 a.w c.signed_sum.result (omega (arith, c.well_formed.0)) refl c.signed_sum.ensures.sum
