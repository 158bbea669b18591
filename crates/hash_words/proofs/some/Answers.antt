-- `hash_words::some` meets its contract: what is shifted down are the first bytes as a number of their
-- own (`first-bytes`), with nothing but zero bytes before them (`zeros-before`).
use Prim.Native.Nat.{◌-◌, ◌/◌, ◌%◌, ◌^◌, ◌<◌}
use mathlib.Core.Path.{sym, ap, ◌∙◌}
use mathlib.Core.List.{map}
use native.Mathlib.Omega.{arith}
use Rattle.format.specs.String.{signed, hash_from}
use Rattle.hash_words.specs.Sums.{sum_of}
use Rattle.hash_words.proofs.Laws.Hashed.{goes_on}
use Rattle.hash_words.proofs.Laws.Front.{zeros-before, first-bytes, shifted, front-small}
use Rattle.hash_words.proofs.some.Goals as goal

-- the first bytes of the word as a number of their own
pub returns : goal.returns
returns c =
    let a = c.args in
    let front = a.w / 256 ^ (8 - a.n) in
    let few : a.n < 8 = omega (arith, c.requires) in
    let small = front-small a.n a.w few (omega (arith, c.well_formed.1.0)) in
    let sum = c.signed_sum.ensures.sum ∙ ap (λ t. sum_of signed 8 t % 2 ^ 32) (shifted a.n a.w few)
    ∙ ap (λ x. x % 2 ^ 32) (zeros-before a.n 8 front (omega (arith, c.requires)) small) in
    goes_on a.n front c.signed_sum.result (omega (arith, c.well_formed.0)) c.power.ensures.0 sum
    ∙ ap (λ t. hash_from a.h (map signed t)) (sym (first-bytes a.n 8 a.w (omega (arith, c.requires))))
