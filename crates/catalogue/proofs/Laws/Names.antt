-- No name stands twice in the check's order of a cache that lays out a good catalogue.
use Rattle.std.specs.Prelude.{ℕ, zero, suc, ◌+◌, ◌<◌, ◌≡◌, refl, length, get_or}
use Rattle.std.proofs.Common.{sym, ap, ◌∙◌, arith}
use mathlib.Core.List.{List, [], ◌∷◌, map, map-map}
use Rattle.std.proofs.lemmas.List.{length-map}
use Rattle.format.specs.Fault.{no_fault}
use Rattle.format.specs.String.{among}
use Rattle.format.specs.Record.{name_of}
use Rattle.format.specs.Chain.{all_records}
use Rattle.format.specs.declared.Reading.TheVariants.{Short}
use Rattle.listing.proofs.Laws.Pages.{pages}
use Rattle.catalogue.specs.Catalogue.{Catalogue, Good, NoneTwice}
use Rattle.catalogue.specs.Repeats.{Use, use_is, repeat_fault}
use Rattle.catalogue.specs.LaidOut.{nth_icon, Places, Lays}
use Rattle.catalogue.specs.Listed.{record_uses}
use Rattle.catalogue.proofs.Laws.Repeats.{names_of, no-repeat}
use Rattle.catalogue.proofs.Laws.Kept.{name-stands}
use Rattle.catalogue.proofs.Laws.Serves.{one-icon, lays-accepted}
use Rattle.catalogue.proofs.Laws.Listed.{record-of-icon}

pub map_at : {A B : Type 0} (f : A → B) (xs : List A) (v : A) (e : B) (i : ℕ) → i < length xs → get_or (map f xs) i e ≡ f (get_or xs i v)
map_at f [] v e i l = absurd (omega arith)
map_at f (x ∷ xs) v e zero l = refl
map_at f (x ∷ xs) v e (suc i) l = map_at f xs v e i (omega arith)

pub uses-are : (s : List ℕ) → names_of (record_uses s) ≡ map (name_of s) (all_records Short s)
unfolding record_uses
uses-are s = map-map (λ (u : Use). u.name) (λ r. use_is (name_of s r) (r + 4)) (all_records Short s)

module _ {s : List ℕ} {d : Catalogue} {b : ℕ} {q : Places} (good : Good d) (lays : Lays s d b q) (some : 0 < b) where
  -- the icon of the record at place n of the check's order
  icon-in-order : (n : ℕ) → n < length (all_records Short s) → (i : ℕ) × (i < length d.icons) × (get_or (all_records Short s) n 0 ≡ q.record-at i)
  icon-in-order n l =
      let (k, m, g, on) = (((pages s).each-once (lays-accepted good lays some)).each (get_or (all_records Short s) n 0)).0 (n, l, refl) in
      record-of-icon good lays some k m _ g on

  names_apart : NoneTwice (map (name_of s) (all_records Short s))
  names_apart m n h l e =
      let size = length-map (all_records Short s) (name_of s) in
      let below : n < length (all_records Short s) = omega arith in
      let before : m < length (all_records Short s) = omega arith in
      let (i, a, p) = icon-in-order m before in
      let (j, v, r) = icon-in-order n below in
      let same : (nth_icon d i).name ≡ (nth_icon d j).name =
      sym (ap (name_of s) p ∙ name-stands good lays some a) ∙ sym (map_at (name_of s) (all_records Short s) 0 [] m before) ∙ e
      ∙ map_at (name_of s) (all_records Short s) 0 [] n below ∙ ap (name_of s) r ∙ name-stands good lays some v in
      let one : i ≡ j = one-icon d good.none-twice a v same in
      let again : m ≡ n = ((pages s).each-once (lays-accepted good lays some)).once m n before below (p ∙ ap q.record-at one ∙ sym r) in
      omega arith

  pub no-name-twice : repeat_fault [] (record_uses s) ≡ no_fault
  unfolding among
  no-name-twice = no-repeat [] (record_uses s) (λ i l. refl) (rw (uses-are s) names_apart)
