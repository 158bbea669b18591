-- `image_data::string` meets its contract: the string is whole, or rule 24 is broken.
use Rattle.std.proofs.Common.{sym, ap}
use Rattle.format.specs.Fault.{outcome}
use Rattle.format.specs.declared.Fault.{Fault}
use Rattle.format.specs.Notes.{note_fault}
use Rattle.format.proofs.Laws.Faults.{unless-kept, unless-broken}
use Rattle.format.proofs.Laws.Strings.{whole_length, whole-is-whole}
use Rattle.image_data.specs.Call.{string_of}
use Rattle.notes.proofs.Laws.{not_whole}
use Rattle.image_data.proofs.string.Goals as goal

pub returns-in_default : goal.returns-in_default
unfolding note_fault
returns-in_default c =
    let broken = unless-broken _ 24 _ (rw c.extent_at.ensures at (not_whole _ c.in_default.not-Whole)) in
    ap (λ (v : Fault). outcome v (string_of c.args.cache.now c.args.field)) (sym broken)

pub returns : goal.returns
unfolding note_fault
returns c =
    let whole = sym c.in-Whole.ensures in
    let kept = unless-kept _ 24 _ (whole-is-whole 255 _ _ whole) in
    rw (c.u32_at.ensures, whole_length 255 _ _ whole) (ap (λ (v : Fault). outcome v (string_of c.args.cache.now c.args.field)) (sym kept))
