-- `entries::icon` meets its contract: each `return` is one law of the icon's fields, and its images
-- decide where the fields before them are kept.
use Rattle.std.proofs.Common.{◌≡◌, ◌+◌, sym, ap, ◌∙◌, Err}
use Rattle.format.specs.Number.{be}
use Rattle.format.specs.Fault.{fault}
use Rattle.catalogue.specs.Fields.{image_count_at, image_count, image_end}
use Rattle.catalogue.specs.Judgement.{image_field_fault}
use Rattle.entries.specs.Judged.{row_judged}
use Rattle.entries.specs.Laws.{name-length-refused, name-refused, count-refused, images-decide}
use Rattle.entries.proofs.icon.Goals as goal

pub returns-then-not-valid_name_length : goal.returns-then-not-valid_name_length
returns-then-not-valid_name_length c =
    let a = c.args in rw (name-length-refused a.n a.catalogue.now a.at (sym c.if-not-valid_name_length.ensures))

pub returns-then-not-valid_name_text : goal.returns-then-not-valid_name_text
returns-then-not-valid_name_text c =
    let a = c.args in rw (name-refused a.n a.catalogue.now a.at (sym c.if-not-valid_name_length.ensures) (sym c.if-not-valid_name_text.ensures))

pub returns-then-not-valid_image_count : goal.returns-then-not-valid_image_count
returns-then-not-valid_image_count c =
    let a = c.args in
    let count : a.at + 1 + c.byte.result ≡ image_count_at a.catalogue.now a.at = ap (λ n. a.at + 1 + n) c.byte.ensures.0 in
    let wrong = rw count at c.if-not-valid_image_count.ensures in
    rw (count-refused a.n a.catalogue.now a.at (sym c.if-not-valid_name_length.ensures) (sym c.if-not-valid_name_text.ensures) (sym wrong)) (ap (λ p. Err (fault 18 p)) count)

pub returns : goal.returns
returns c =
    let a = c.args in
    let s = a.catalogue.now in
    let count : a.at + 1 + c.byte.result ≡ image_count_at s a.at = ap (λ n. a.at + 1 + n) c.byte.ensures.0 in
    let few = rw count at c.if-not-valid_image_count.ensures in
    let m-is = c.u16_at-m.ensures ∙ ap (be 2 s) count in
    c.images.ensures
    ∙ ap (λ m. row_judged (image_field_fault a.n s) image_end m (a.at + 1 + c.byte.result + 2)) m-is
    ∙ ap (λ p. row_judged (image_field_fault a.n s) image_end (image_count s a.at) (p + 2)) count
    ∙ sym (images-decide a.n s a.at (sym c.if-not-valid_name_length.ensures) (sym c.if-not-valid_name_text.ensures) (sym few))
