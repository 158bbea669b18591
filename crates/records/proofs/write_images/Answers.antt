-- `records::write_images` meets its contract. The images are written from the last to the first, so
-- what stands from the present word on is always the end of what is wanted: that is the loop's
-- invariant. Rests on the laws `two-stored` and `words-cons`.
use Rattle.std.proofs.Common.{◌≡◌, ◌+◌, ◌-◌, ◌*◌, ◌∙◌, arith}
use native.Mathlib.Nat.{sub_self}
use Rattle.format.specs.Record.{image_words}
use Rattle.format.proofs.Laws.Images.{two-stored, words-cons}
use Rattle.records.proofs.write_images.Goals as goal

pub loop-i-init : goal.loop-i-init
unfolding image_words
loop-i-init c = rw sub_self

pub loop-i-preserved : goal.loop-i-preserved
loop-i-preserved c =
    let a = c.args in
    let i = c.loop-i.i in
    let words-after : 2 * (i - 1) + 2 ≡ 2 * i = omega arith in
    let image-after : a.at + 8 * (i - 1) + 8 ≡ a.at + 8 * i = omega arith in
    let one-image = words-cons a.cache.now (a.m - (i - 1)) (a.at + 8 * (i - 1)) (a.m - i) (omega arith) in
    two-stored c.loop-i.words (2 * (i - 1)) _ _ (omega arith)
    ∙ rw (words-after, c.loop-i.invariant, one-image, image-after, c.first_word.ensures.word, c.u32_at.ensures)
