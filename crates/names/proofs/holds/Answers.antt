-- `names::holds` meets its contract, by what `find` ensures of the spot.
use Rattle.std.proofs.Common.{◌≡◌, ℕ, List, Result, Ok, Err, is_ok, sym, ◌∙◌}
use Rattle.format.specs.String.{among}
use Rattle.names.specs.Index.{Represents, Within, Spotted}
use Rattle.names.specs.Laws.Index.{found-met, missing-not-met}
use Rattle.names.proofs.holds.Goals as goal

is-met : {key : ℕ → List ℕ} {index : List ℕ} {n : ℕ} {before : List (List ℕ)} (p : ℕ) → Represents key index n before → (r : Result ℕ ℕ) → Within n r → Spotted key index n p r
    → is_ok r ≡ among (key p) before
is-met p known (Ok i) within spotted = sym (found-met known within spotted)
is-met p known (Err i) within spotted = sym (missing-not-met known spotted)

pub returns : goal.returns
returns c = λ before known.
    c.is_ok.ensures.value ∙ is-met _ known c.find.result c.find.ensures.within (c.find.ensures.spotted known.rising)
