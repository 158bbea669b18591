-- `records::with_images` meets its contract: the room decides between the two answers
-- (`found-short`, `found-enough`), and with enough of it what `write_images` leaves in the words is
-- what the definition asks for.
use Rattle.std.proofs.Common.{sym, ap, ◌∙◌, refl}
use Rattle.format.specs.Number.{be}
use Rattle.format.specs.Call.{answer_words}
use Rattle.format.proofs.Laws.Lookup.{found-short, found-enough}
use Rattle.records.proofs.with_images.Goals as goal

pub returns-then-words-images-clause-answer : goal.returns-then-words-images-clause-answer
returns-then-words-images-clause-answer c =
    let images-are = c.u32_at-images.ensures ∙ ap (be 4 c.args.cache.now) c.u32_at-at.ensures in
    rw (images-are, c.u32_at-at.ensures) (sym (found-short _ _ _ _ (rw (← images-are) c.if-words-images.true)))

pub returns-then-words-images-clause-lent : goal.returns-then-words-images-clause-lent
unfolding answer_words
returns-then-words-images-clause-lent c = refl

pub returns-clause-answer : goal.returns-clause-answer
returns-clause-answer c =
    let images-are = c.u32_at-images.ensures ∙ ap (be 4 c.args.cache.now) c.u32_at-at.ensures in
    rw images-are (sym (found-enough _ _ _ _ (rw (← images-are) c.if-words-images.false)))

pub returns-clause-lent : goal.returns-clause-lent
unfolding answer_words
returns-clause-lent c = c.write_images.ensures ∙ rw c.u32_at-at.ensures
