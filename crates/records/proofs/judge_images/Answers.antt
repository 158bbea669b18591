-- `records::judge_images` meets its contract: the test asks what rule 10 asks, the images of a list
-- that keeps it end inside, and the laws `list-broken` and `list-kept` say which rule is the first
-- to be broken.
use Rattle.std.proofs.Common.{sym, ap, ◌∙◌, arith}
use mathlib.Core.Bool.{and-eq-true_iff}
use Rattle.format.specs.Record.{valid_image_list}
use Rattle.format.proofs.Laws.Header.{header-valid}
use Rattle.format.proofs.Laws.Reads.{list-ends}
use Rattle.format.proofs.Laws.Records.{list-broken, list-kept}
use Rattle.tables.specs.Laws.{same-directories}
use Rattle.tables.proofs.Handed.{breaks}
use Rattle.records.proofs.judge_images.Goals as goal

pub returns-then-not-valid_image_list : goal.returns-then-not-valid_image_list
returns-then-not-valid_image_list c =
    let listed = c.valid_image_list.ensures ∙ ap (valid_image_list c.args.cache.now) c.u32_at-at.ensures in
    breaks tt (list-broken _ _ (sym listed ∙ c.if-not-valid_image_list.true)) (λ z. omega arith)

pub images-requires : goal.images-requires
images-requires c =
    let count = same-directories c.requires.tables_of in
    let ends = list-ends _ _ 8 ((and-eq-true_iff _ _).0 (sym c.valid_image_list.ensures ∙ c.if-not-valid_image_list.false)).0 in (
      omega (arith, count, (header-valid _ c.requires.tables_of.header).directories-few),
      count,
      omega (arith, ends, c.u32_at-m.ensures),
    )

pub returns : goal.returns
returns c =
    let listed = c.valid_image_list.ensures ∙ ap (valid_image_list c.args.cache.now) c.u32_at-at.ensures in
    c.images.ensures ∙ rw (c.u32_at-m.ensures, c.u32_at-at.ensures)
    (rw (list-kept _ _ (sym listed ∙ c.if-not-valid_image_list.false)))
