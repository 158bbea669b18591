-- `salvage_icons::fate::meet` meets its contract: each way out is a law of what becomes of a record
-- (`meets-misnamed`, `meets-unlisted`, `meets-equal`, `meets-kept`).
use mathlib.Core.Path.{refl, sym, ap, ◌∙◌}
use lib.ListN.{drop}
use Rattle.std.proofs.lemmas.Result.{err_from_is_err_and}
use Rattle.format.specs.String.{string}
use Rattle.format.specs.Record.{name_fault, valid_image_list}
use Rattle.format.proofs.Laws.Outcomes.{kept-by, broken-by}
use Rattle.salvage_icons.specs.Laws.Fate.{meets-misnamed, meets-unlisted, meets-equal, meets-kept}
use Rattle.salvage_icons.proofs.fate.meet.Goals as goal

pub returns-in_err-judge_name : goal.returns-in_err-judge_name
returns-in_err-judge_name c ts known =
    let a = c.args in
    let bad = broken-by (name_fault a.cache.now a.bucket a.«record») tt _ c.in_err-judge_name.ensures in
    let p = err_from_is_err_and c.from_residual.result c.from_residual.ensures.1 in
    rw (p.1, p.2, bad.1) (meets-misnamed _ _ _ known bad.0 refl)

pub returns-then-not-valid_image_list : goal.returns-then-not-valid_image_list
returns-then-not-valid_image_list c ts known =
    let a = c.args in
    let named = kept-by (name_fault a.cache.now a.bucket a.«record») tt _ c.in_ok-judge_name.ensures in
    let listed = c.valid_image_list.ensures ∙ ap (valid_image_list a.cache.now) c.u32_at-list.ensures in
    meets-unlisted _ _ _ named.0 known (sym listed ∙ c.if-not-valid_image_list.true)

pub returns-then-met : goal.returns-then-met
returns-then-met c ts known =
    let a = c.args in
    let named = kept-by (name_fault a.cache.now a.bucket a.«record») tt _ c.in_ok-judge_name.ensures in
    let listed = c.valid_image_list.ensures ∙ ap (valid_image_list a.cache.now) c.u32_at-list.ensures in
    let read = ap (λ p. string (drop p a.cache.now)) c.u32_at-name.ensures in
    meets-equal _ _ _ named.0 (sym listed ∙ c.if-not-valid_image_list.false) read (rw c.if-met.true at (c.met.ensures ts known))

pub returns : goal.returns
returns c ts known =
    let a = c.args in
    let named = kept-by (name_fault a.cache.now a.bucket a.«record») tt _ c.in_ok-judge_name.ensures in
    let listed = c.valid_image_list.ensures ∙ ap (valid_image_list a.cache.now) c.u32_at-list.ensures in
    let read = ap (λ p. string (drop p a.cache.now)) c.u32_at-name.ensures in
    meets-kept _ _ _ named.0 (sym listed ∙ c.if-not-valid_image_list.false) read (rw c.if-met.false at (c.met.ensures ts known))
