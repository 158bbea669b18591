-- Of names used before, use by use; and no name is refused exactly where none stands twice.
use Rattle.std.specs.Prelude.{ℕ, zero, suc, ◌<◌, ◌≡◌, refl, List, [], ◌∷◌, map, Bool, true, false, ◌||◌, length, get_or}
use Rattle.std.proofs.Common.{sym, ap, ◌∙◌, true≢false, arith}
use Rattle.std.proofs.Math.Bool.{not}
use Rattle.std.proofs.lemmas.Bool.{not-true}
use Rattle.format.specs.Fault.{fault, no_fault}
use Rattle.format.specs.String.{same_bytes, among}
use Rattle.format.proofs.Laws.Names.{unequal-other, other-unequal}
use Rattle.format.proofs.Laws.Faults.{or_else-none, kept-passes, broken-speaks, unless-none}
use Rattle.catalogue.specs.Catalogue.{Icon, NoneTwice, names}
use Rattle.catalogue.specs.Fields.{name_text_at, name_text, icon_end, icon_at, icon_count, first_icon_at, icons_in}
use Rattle.catalogue.specs.Repeats.{Use, use_is, repeat_fault, icon_uses}
use Rattle.catalogue.proofs.Laws.Rows.{row-map}

abbrev pub names_of : List Use → List (List ℕ)
names_of us = map (λ (u : Use). u.name) us

-- one use: its name was used before, or is new
module _ (before : List (List ℕ)) (u : Use) (us : List Use) where
  pub repeat-stops : among u.name before ≡ true → repeat_fault before (u ∷ us) ≡ fault 20 u.place
  unfolding repeat_fault
  repeat-stops e = broken-speaks (not (among u.name before)) 19 u.place _ (ap not e)

  pub repeat-goes-on : among u.name before ≡ false → repeat_fault before (u ∷ us) ≡ repeat_fault (u.name ∷ before) us
  unfolding repeat_fault
  repeat-goes-on e = kept-passes (not (among u.name before)) 20 u.place _ (ap not e)

or-false : (a b : Bool) → (a || b) ≡ false → (a ≡ false) × (b ≡ false)
or-false true b e = (e, absurd (true≢false e))
or-false false b e = (refl, e)

-- none of the names that come is one of those before
abbrev Fresh : List (List ℕ) → List (List ℕ) → Type 0
Fresh before ns = (i : ℕ) → i < length ns → among (get_or ns i []) before ≡ false

pub no-repeat : (before : List (List ℕ)) (us : List Use) → Fresh before (names_of us) → NoneTwice (names_of us) → repeat_fault before us ≡ no_fault
unfolding repeat_fault among
no-repeat before [] fresh apart = refl
no-repeat before (u ∷ us) fresh apart =
    let later : Fresh (u.name ∷ before) (names_of us) = λ i l.
    rw (unequal-other (get_or (names_of us) i []) u.name (λ e. apart 0 (suc i) (omega arith) (omega arith) (sym e)), fresh (suc i) (omega arith)) in
    repeat-goes-on before u us (fresh 0 (omega arith))
    ∙ no-repeat (u.name ∷ before) us later (λ i j h l e. apart (suc i) (suc j) (omega arith) (omega arith) e)

repeat-fresh : (before : List (List ℕ)) (us : List Use) → (repeat_fault before us).number ≡ 0 → Fresh before (names_of us)
unfolding repeat_fault among
repeat-fresh before [] e i l = absurd (omega arith)
repeat-fresh before (u ∷ us) e zero l = not-true _ (unless-none _ _ _ (or_else-none _ _ e).0)
repeat-fresh before (u ∷ us) e (suc i) l =
    (or-false (same_bytes (get_or (names_of us) i []) u.name) (among (get_or (names_of us) i []) before) (repeat-fresh (u.name ∷ before) us (or_else-none _ _ e).1 i (omega arith))).1

pub none-repeated : (before : List (List ℕ)) (us : List Use) → (repeat_fault before us).number ≡ 0 → NoneTwice (names_of us)
unfolding repeat_fault among
none-repeated before [] e i j h l q = omega arith
none-repeated before (u ∷ us) e zero zero h l q = omega arith
none-repeated before (u ∷ us) e zero (suc j) h l q =
    let fresh = repeat-fresh (u.name ∷ before) us (or_else-none _ _ e).1 j (omega arith) in
    other-unequal (get_or (names_of us) j []) u.name (or-false _ (among (get_or (names_of us) j []) before) fresh).0 (sym q)
none-repeated before (u ∷ us) e (suc i) zero h l q = omega arith
none-repeated before (u ∷ us) e (suc i) (suc j) h l q = none-repeated (u.name ∷ before) us (or_else-none _ _ e).1 i j (omega arith) (omega arith) q

-- the names of a catalogue's bytes are those of its icons
pub uses-names : (c : List ℕ) → names_of (icon_uses c) ≡ names (icons_in c)
uses-names c =
    row-map (λ p. use_is (name_text c p) (name_text_at p)) (icon_end c) (λ (u : Use). u.name) (icon_count c) (first_icon_at c)
    ∙ sym (row-map (icon_at c) (icon_end c) (λ (x : Icon). x.name) (icon_count c) (first_icon_at c))
