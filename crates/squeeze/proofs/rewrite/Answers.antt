-- `squeeze::rewrite` meets its contract: there is too little room, or too many bytes, or the whole.
use Rattle.std.proofs.Common.{◌∙◌, arith}
use Rattle.squeeze.specs.Laws.Answer.{size-measured, sound-checked, short-refused, long-refused, squeezed-told}
use Rattle.squeeze.proofs.rewrite.Goals as goal

pub returns-then-out-length : goal.returns-then-out-length
returns-then-out-length c =
    let size = c.size-length.ensures ∙ size-measured c.requires.0 c.measure-sizes.ensures in
    let told = short-refused c.args.cache.now c.args.out.now (sound-checked c.requires.0) c.requires.2 c.requires.3 (omega (arith, size, c.if-out-length.true)) in
    record { answer = told.answer; refused = told.refused; lent = told.leaves }

pub returns-then-length-gt16777216 : goal.returns-then-length-gt16777216
returns-then-length-gt16777216 c =
    let size = c.size-length.ensures ∙ size-measured c.requires.0 c.measure-sizes.ensures in
    let told = long-refused c.args.cache.now c.args.out.now (sound-checked c.requires.0) c.requires.2 c.requires.3 (omega (arith, size, c.if-out-length.false)) (omega (arith, size, c.if-length-gt16777216.true)) in
    record { answer = told.answer; refused = told.refused; lent = told.leaves }

-- there is room
pub fill-requires : goal.fill-requires
fill-requires c =
    let size = c.size-length.ensures ∙ size-measured c.requires.0 c.measure-sizes.ensures in
    let w = c.requires.1 in
    let k = c.measure-sizes.auto in (
      c.requires.0,
      record { index-wide = omega (arith, w.index-wide, k); places-wide = omega (arith, w.places-wide, k); marked = w.marked },
      c.measure-sizes.ensures,
      record {
        accepted = c.requires.0.accepted;
        room = omega (arith, size, c.if-out-length.false);
        short = omega (arith, size, c.if-length-gt16777216.false);
        few = c.requires.2;
      },
    )

pub returns : goal.returns
returns c =
    let size = c.size-length.ensures ∙ size-measured c.requires.0 c.measure-sizes.ensures in
    let told = squeezed-told _ _ (sound-checked c.requires.0) c.requires.2 c.requires.3 (omega (arith, size, c.if-out-length.false)) (omega (arith, size, c.if-length-gt16777216.false)) size c.fill.ensures in
    record { answer = told.answer; refused = told.refused; lent = told.leaves }
