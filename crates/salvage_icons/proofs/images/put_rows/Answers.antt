-- `salvage_icons::images::put_rows` meets its contract. The loop's invariant is `RowsTo`: the rows
-- of the images passed are put.
use mathlib.Core.Path.{sym, ◌∙◌}
use native.Mathlib.Omega.{arith}
use Rattle.tables.specs.Laws.{valid-header, same-directories}
use Rattle.salvage_icons.specs.Laws.Images.{scan, rows_none, rows-valid, rows-broken}
use Rattle.salvage_icons.proofs.images.put_rows.Goals as goal
use Rattle.salvage_icons.proofs.images.put_rows.Goals.{then-not-valid_image, else-not-valid_image}

pub valid_words-valid-requires : goal.valid_words-valid-requires
valid_words-valid-requires c = omega (arith, same-directories c.requires.0, valid-header c.requires.0)

pub loop-i-init : goal.loop-i-init
loop-i-init c = rows_none _ _ _ _

pub row-next-requires : goal.row-next-requires
row-next-requires c =
    let h = scan _ c.args.«record» c.valid_words-valid.ensures (same-directories c.requires.0) c.list-all.ensures in
    let few = (valid-header c.requires.0).not-too-long in
    (omega (arith, h.count, c.requires.1.few, c.loop-i.invariant.few, c.requires.2), omega (arith, h.first, h.count, c.requires.1.listed, few))

pub loop-i-preserved : goal.loop-i-preserved
loop-i-preserved c =
    let h = scan _ c.args.«record» c.valid_words-valid.ensures (same-directories c.requires.0) c.list-all.ensures in
    elim c.if-not-valid_image.branch [
      | then-not-valid_image w ↦
          rw (w.report-is, w.next-is) (rows-broken c.loop-i.invariant (rw h.first at (sym c.valid_image.ensures ∙ w.if-not-valid_image.true)) (rw h.first at w.row-next.ensures))
      | else-not-valid_image w ↦
          rw (w.report-is, w.next-is) (rows-valid c.loop-i.invariant (rw h.first at (sym c.valid_image.ensures ∙ w.if-not-valid_image.false)))
    ]
