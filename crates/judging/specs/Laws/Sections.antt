-- What the judgement of a whole catalogue is by what is judged first, section by section.
use Rattle.std.specs.Prelude.{ℕ, ◌+◌, ◌≤◌, ◌<◌, ◌≡◌, length, Result, Ok, Err}
use Rattle.std.proofs.Math.Path.{sym}
use Rattle.std.proofs.Common.{◌∙◌, le-leb}
use mathlib.Core.List.{List, []}
use Rattle.std.proofs.lemmas.Bool.{lt-leb}
use Rattle.format.specs.Number.{be}
use Rattle.format.specs.Fault.{fault, no_fault, first_fault, verdict}
use Rattle.format.specs.declared.Fault.{Fault}
use Rattle.format.proofs.Laws.Outcomes.{outcome-kept, outcome-broken, kept-by, broken-by}
use Rattle.format.proofs.Laws.Faults.{or_else-first, or_else-next, unless-broken, broken-speaks, kept-passes}
use Rattle.catalogue.specs.Row.{row_end}
use Rattle.catalogue.specs.Fields.{path_end, icon_end, path_count, icon_count_at}
use Rattle.catalogue.specs.Judgement.{path_fields_fault, icon_fields_fault, fields_fault}
use Rattle.catalogue.specs.Repeats.{repeat_fault, icon_uses, catalogue_fault}
use Rattle.judging.specs.Judging.{icons_fault, parts_at, parted, repeat_from}
use Rattle.judging.specs.declared.Parts.{Parts}

-- an answer that refuses
pub parted-broken : (c : List ℕ) (n p : ℕ) {v : Fault} {a : Result Parts Fault} → a ≡ Err v → (v.number ≡ 0 → ⊥) → a ≡ parted c v n p
parted-broken c n p {v} e broken = e ∙ sym (outcome-broken v (parts_at c n p) broken)

-- an answer with parts is of fields that are all kept
pub fields-kept : (c : List ℕ) (n p : ℕ) {a : Parts} → Ok a ≡ parted c (fields_fault c) n p → (fields_fault c).number ≡ 0
fields-kept c n p {a} told = (kept-by (fields_fault c) (parts_at c n p) a told).0

-- the icons, counted at p: the count is cut off, or they decide, or what follows them
module _ (c : List ℕ) (n p : ℕ) where
  abbrev icons : Fault
  icons = first_fault (icon_fields_fault n c) (icon_end c) (be 2 c p) (p + 2)

  abbrev end : ℕ
  end = row_end (icon_end c) (be 2 c p) (p + 2)

  pub count_cut : length c < p + 2 → icons_fault c n p ≡ fault 18 p
  unfolding icons_fault
  count_cut l = broken-speaks _ 17 p _ (lt-leb _ _ l)

  module _ (there : p + 2 ≤ length c) where
    pub icons-refused : (icons.number ≡ 0 → ⊥) → icons_fault c n p ≡ icons
    unfolding icons_fault
    icons-refused broken = kept-passes _ 18 p _ (le-leb _ _ there) ∙ or_else-first _ _ broken

    pub more-follows : icons.number ≡ 0 → end < length c → icons_fault c n p ≡ fault 18 end
    unfolding icons_fault
    more-follows kept l = kept-passes _ 18 p _ (le-leb _ _ there) ∙ or_else-next _ _ kept ∙ unless-broken _ 18 end (lt-leb _ _ l)

    pub icons-kept : icons.number ≡ 0 → length c ≤ end → icons_fault c n p ≡ no_fault
    unfolding icons_fault
    icons-kept kept l = kept-passes _ 18 p _ (le-leb _ _ there) ∙ or_else-next _ _ kept ∙ rw (le-leb (length c) end l)

-- the whole: its count is cut off, or the paths decide, or the icons
module _ (c : List ℕ) where
  abbrev paths : Fault
  paths = first_fault (path_fields_fault c) (path_end c) (path_count c) 2

  pub first-count-cut : length c < 2 → fields_fault c ≡ fault 18 0
  unfolding fields_fault
  first-count-cut l = broken-speaks _ 17 0 _ (lt-leb _ _ l)

  module _ (there : 2 ≤ length c) where
    pub paths-refused : (paths.number ≡ 0 → ⊥) → fields_fault c ≡ paths
    unfolding fields_fault
    paths-refused broken = kept-passes _ 18 0 _ (le-leb _ _ there) ∙ or_else-first _ _ broken

    pub icons-decide : paths.number ≡ 0 → fields_fault c ≡ icons_fault c (path_count c) (icon_count_at c)
    unfolding fields_fault icons_fault
    icons-decide kept = kept-passes _ 18 0 _ (le-leb _ _ there) ∙ or_else-next _ _ kept

-- all that is judged: the fields decide, or the names
module _ (c : List ℕ) where
  pub fields-refused : ((fields_fault c).number ≡ 0 → ⊥) → catalogue_fault c ≡ fields_fault c
  unfolding catalogue_fault
  fields-refused broken = or_else-first (fields_fault c) (repeat_fault [] (icon_uses c)) broken

  pub names-decide : (fields_fault c).number ≡ 0 → catalogue_fault c ≡ repeat_fault [] (icon_uses c)
  unfolding catalogue_fault
  names-decide kept = or_else-next (fields_fault c) (repeat_fault [] (icon_uses c)) kept

  -- the parts of good fields, and what is judged of their names
  module _ {a : Parts} (told : Ok a ≡ parted c (fields_fault c) (path_count c) (icon_count_at c)) where
    parts-are : ((fields_fault c).number ≡ 0) × (a ≡ parts_at c (path_count c) (icon_count_at c))
    parts-are = kept-by (fields_fault c) (parts_at c (path_count c) (icon_count_at c)) a told

    names-are : repeat_from [] c a.icons a.first_icon ≡ catalogue_fault c
    names-are = let (good, is) = parts-are in rw (is, names-decide good)

    pub names-refused : {f : Fault} → Err f ≡ verdict (repeat_from [] c a.icons a.first_icon) → Err f ≡ parted c (catalogue_fault c) (path_count c) (icon_count_at c)
    names-refused {f} e =
        let (broken, is) = broken-by (catalogue_fault c) tt f (rw names-are at e) in
        rw is (sym (outcome-broken (catalogue_fault c) (parts_at c (path_count c) (icon_count_at c)) broken))

    pub names-kept : Ok tt ≡ verdict (repeat_from [] c a.icons a.first_icon) → Ok a ≡ parted c (catalogue_fault c) (path_count c) (icon_count_at c)
    names-kept e =
        let kept = (kept-by (catalogue_fault c) tt tt (rw names-are at e)).0 in
        rw parts-are.1 (sym (outcome-kept (catalogue_fault c) (parts_at c (path_count c) (icon_count_at c)) kept))
