-- `pick::pick` meets its contract: a law for each of its three answers. A record that is found
-- keeps the rules (`found-keeps`), so that its images lie inside and name directories of the cache.
use Rattle.std.proofs.Common.{◌≡◌, ◌∙◌, sym, ap, arith}
use Rattle.std.proofs.lemmas.Result.{err_from_is_err_and}
use Rattle.format.specs.declared.Reading.TheVariants.{Short}
use Rattle.format.specs.Number.{be}
use Rattle.format.specs.Record.{images_at, images}
use Rattle.format.proofs.Laws.Outcomes.{kept-by, broken-by}
use Rattle.format.proofs.Laws.Rules.{record-valid}
use Rattle.format.proofs.Laws.Lookup.{query-header, found-asked}
use Rattle.format.proofs.Laws.LookupAnswers.{found-keeps}
use Rattle.pick.specs.Pick.{words_fault, pick_is}
use Rattle.pick.proofs.Laws.Answer.{words_count, pick-unfound, pick-undescribed, pick_first}
use Rattle.pick.proofs.pick.Goals as goal

pub returns-then-found-ne0-clause-answer : goal.returns-then-found-ne0-clause-answer
returns-then-found-ne0-clause-answer c = sym (pick-unfound _ _ _ _ _ (sym c.find-found.ensures) c.if-found-ne0.true)

pub judge_words-requires : goal.judge_words-requires
judge_words-requires c = query-header _ _ (found-asked _ _ (sym c.find-found.ensures) c.if-found-ne0.false)

pub returns-in_err-judge_words-clause-answer : goal.returns-in_err-judge_words-clause-answer
returns-in_err-judge_words-clause-answer c =
    let told = err_from_is_err_and c.from_residual.result c.from_residual.ensures.1 in
    let broken = broken-by _ _ _ c.in_err-judge_words.ensures in
    rw (told.1, told.2, broken.1) (sym (pick-undescribed _ _ _ _ _ (sym c.find-found.ensures) c.if-found-ne0.false broken.0))

pub overflow_add-found : goal.overflow_add-found
overflow_add-found c =
    let keeps = found-keeps _ _ (sym c.find-found.ensures) c.if-found-ne0.false in
    omega (arith, keeps.inside)

pub u32_at-at-requires : goal.u32_at-at-requires
u32_at-at-requires c =
    let keeps = found-keeps _ _ (sym c.find-found.ensures) c.if-found-ne0.false in
    omega (arith, keeps.inside)

pub u32_at-images-requires : goal.u32_at-images-requires
u32_at-images-requires c =
    let keeps = found-keeps _ _ (sym c.find-found.ensures) c.if-found-ne0.false in
    let valid = record-valid Short _ _ _ keeps.rules in
    let list_at : c.u32_at-at.result ≡ images_at c.args.cache.now c.find-found.result.place = c.u32_at-at.ensures in
    omega (arith, list_at, valid.listed)

pub first_image-requires-clause-m_in_bounds : goal.first_image-requires-clause-m_in_bounds
first_image-requires-clause-m_in_bounds c =
    let keeps = found-keeps _ _ (sym c.find-found.ensures) c.if-found-ne0.false in
    let valid = record-valid Short _ _ _ keeps.rules in
    let list_at : c.u32_at-at.result ≡ images_at c.args.cache.now c.find-found.result.place = c.u32_at-at.ensures in
    let images-are : c.u32_at-images.result ≡ images c.args.cache.now c.find-found.result.place = c.u32_at-images.ensures ∙ ap (be 4 c.args.cache.now) list_at in
    rw (images-are, list_at) valid.listed

pub first_image-requires-clause-at_value : goal.first_image-requires-clause-at_value
first_image-requires-clause-at_value c =
    let keeps = found-keeps _ _ (sym c.find-found.ensures) c.if-found-ne0.false in
    let valid = record-valid Short _ _ _ keeps.rules in
    let list_at : c.u32_at-at.result ≡ images_at c.args.cache.now c.find-found.result.place = c.u32_at-at.ensures in
    let images-are : c.u32_at-images.result ≡ images c.args.cache.now c.find-found.result.place = c.u32_at-images.ensures ∙ ap (be 4 c.args.cache.now) list_at in
    rw (images-are, list_at) valid.images-kept

pub first_image-requires-clause-words_len : goal.first_image-requires-clause-words_len
first_image-requires-clause-words_len c =
    let none = kept-by (words_fault c.args.cache.now c.args.directories.now) _ _ c.in_ok-judge_words.ensures in
    words_count _ _ none.0

pub returns-clause-answer : goal.returns-clause-answer
returns-clause-answer c =
    let list_at : c.u32_at-at.result ≡ images_at c.args.cache.now c.find-found.result.place = c.u32_at-at.ensures in
    let images-are : c.u32_at-images.result ≡ images c.args.cache.now c.find-found.result.place = c.u32_at-images.ensures ∙ ap (be 4 c.args.cache.now) list_at in
    let none = kept-by (words_fault c.args.cache.now c.args.directories.now) _ _ c.in_ok-judge_words.ensures in
    let picked = rw (images-are, list_at) at c.first_image.ensures.image in
    ap (pick_is 0) picked ∙ sym (pick_first _ _ _ _ _ (sym c.find-found.ensures) c.if-found-ne0.false none.0)
