-- `strings::judge` meets its contract: an arm for each clause of the definitions.
use Rattle.std.proofs.Common.{refl, ⊎_elim}
use Rattle.format.specs.String.{is_whole, string_fault}
use Rattle.strings.proofs.judge.Goals as goal

pub returns-in-Empty : goal.returns-in-Empty
unfolding is_whole string_fault
returns-in-Empty c = ⊎_elim (λ e. rw e (refl, refl)) (λ e. rw e (refl, refl)) c.in-Empty.is

pub returns-in-Cut : goal.returns-in-Cut
unfolding is_whole string_fault
returns-in-Cut c = rw c.in-Cut.is (refl, refl)
