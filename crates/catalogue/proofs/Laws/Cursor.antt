-- The icons of bytes that are judged good, one by one, as a loop over them meets them.
use Rattle.std.specs.Prelude.{ℕ, ◌<◌, ◌≡◌, List}
use Rattle.std.proofs.Math.Bool.{and-eq-true_iff}
use Rattle.std.proofs.Common.{leb-true}
use Rattle.format.proofs.Laws.Faults.{or_else-none, unless-none}
use Rattle.catalogue.specs.Row.{row_end}
use Rattle.catalogue.specs.Fields.{icon_end, path_count, icon_count, first_icon_at}
use Rattle.catalogue.specs.Cursor.{IconThere}
use Rattle.catalogue.specs.Judgement.{icon_fields_fault, fields_fault}
use Rattle.catalogue.proofs.Laws.Rows.{row_keeps}

icon-tells : (n : ℕ) (c : List ℕ) (p : ℕ) → (icon_fields_fault n c p).number ≡ 0 → IconThere c p
unfolding icon_fields_fault
icon-tells n c p e =
    let second = or_else-none _ _ (or_else-none _ _ e).1 in
    let third = or_else-none _ _ second.1 in
    let text = (and-eq-true_iff _ _).0 (unless-none _ _ _ second.0) in
    let count = (and-eq-true_iff _ _).0 (unless-none _ _ _ third.0) in
    record { name-inside = leb-true _ _ text.0; count-inside = leb-true _ _ count.0; named = text.1; few = leb-true _ _ count.1 }

-- icon i stands where i icons end
pub icon-there : (c : List ℕ) (i : ℕ) → (fields_fault c).number ≡ 0 → i < icon_count c → IconThere c (row_end (icon_end c) i (first_icon_at c))
unfolding fields_fault
icon-there c i e l =
    let third = or_else-none _ _ (or_else-none _ _ (or_else-none _ _ e).1).1 in
    let icons = (or_else-none _ _ third.1).0 in
    icon-tells (path_count c) c _ (row_keeps (icon_fields_fault (path_count c) c) (icon_end c) (icon_count c) i (first_icon_at c) l icons)
