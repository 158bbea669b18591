-- A string that is whole has some count of bytes.
use Rattle.std.proofs.Common.{◌≡◌, ℕ, true, refl}
use Rattle.std.proofs.lemmas.Bool.{false≢true}
use Rattle.format.specs.declared.Extent.{Extent}
use Rattle.format.specs.declared.Extent.TheVariants.{Whole, Empty, Long, Cut}
use Rattle.format.specs.String.{is_whole}

pub has-size : (r : Extent) → is_whole r ≡ true → ((n : ℕ) → r ≡ Whole n → ⊥) → ⊥
unfolding is_whole
has-size (Whole n) w none = none n refl
has-size Empty w none = false≢true w
has-size Long w none = false≢true w
has-size Cut w none = false≢true w
