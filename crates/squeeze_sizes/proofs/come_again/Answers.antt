-- `squeeze_sizes::come_again` meets its contract, by what stands beside the entry.
use Rattle.std.proofs.Common.{refl}
use Rattle.squeeze_sizes.proofs.come_again.Goals as goal

pub returns-then-again-e-ne0 : goal.returns-then-again-e-ne0
returns-then-again-e-ne0 c = record { first = λ none. absurd (c.if-again-e-ne0.true none); later = λ some. (refl, refl) }

pub returns : goal.returns
returns c = record { first = λ none. (refl, refl); later = λ some. absurd (some c.if-again-e-ne0.false) }
