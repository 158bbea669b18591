-- `salvage_paths::keep_image` meets its contract: each way out is a law of what is kept of an image
-- (`bad-goes`, `stays_plain`, `told-goes`, `told-stays`).
use mathlib.Core.Path.{sym, ◌∙◌}
use Rattle.tables.specs.Laws.{valid-header, same-directories}
use Rattle.salvage_paths.specs.Laws.Table.{bad-goes, stays_plain, told-goes, told-stays}
use Rattle.salvage_paths.proofs.keep_image.Goals as goal

pub returns-then-not-valid_image : goal.returns-then-not-valid_image
returns-then-not-valid_image c = bad-goes _ _ (sym c.valid_image.ensures ∙ c.if-not-valid_image.true)

pub returns-then-t-eq0 : goal.returns-then-t-eq0
returns-then-t-eq0 c =
    let valid = sym c.valid_image.ensures ∙ c.if-not-valid_image.false in
    rw c.u16_at-index.ensures (stays_plain _ _ valid (sym (same-directories c.requires.tables_of.0) ∙ c.if-t-eq0.true))

pub returns-then-new : goal.returns-then-new
returns-then-new c =
    let valid = sym c.valid_image.ensures ∙ c.if-not-valid_image.false in
    let few = (valid-header c.requires.tables_of.0).directories-few in
    told-goes _ _ valid (λ z. c.if-t-eq0.false (same-directories c.requires.tables_of.0 ∙ z)) c.requires.closes few (rw c.u16_at-index.ensures at c.if-new.true)

pub returns-else-new : goal.returns-else-new
returns-else-new c =
    let valid = sym c.valid_image.ensures ∙ c.if-not-valid_image.false in
    let few = (valid-header c.requires.tables_of.0).directories-few in
    rw c.u16_at-index.ensures
    (told-stays _ _ valid (λ z. c.if-t-eq0.false (same-directories c.requires.tables_of.0 ∙ z)) c.requires.closes few (rw c.u16_at-index.ensures at c.if-new.false))
