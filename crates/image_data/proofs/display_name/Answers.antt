-- `image_data::display_name` meets its contract, and keeps the promise.
use Rattle.std.proofs.Common.{◌∙◌, ap}
use Rattle.image_data.specs.Call.{string_answer}
use Rattle.image_data.proofs.Laws.Called.{display-spread}
use Rattle.image_data.proofs.Laws.Inside.{string-within}
use Rattle.image_data.proofs.Laws.Promise.{promise}
use Rattle.image_data.proofs.display_name.Goals as goal

pub returns-clause-answer : goal.returns-clause-answer
returns-clause-answer c = ap string_answer c.display.ensures ∙ display-spread _ _ _ _

pub returns-clause-kept : goal.returns-clause-kept
returns-clause-kept c = λ accepted image. rw (returns-clause-answer c) ((promise _ _).text _ accepted image)

pub returns-clause-inside : goal.returns-clause-inside
returns-clause-inside c = string-within _ _ _ _ _ (returns-clause-answer c)
