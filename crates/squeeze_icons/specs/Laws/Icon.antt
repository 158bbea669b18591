-- What the icon at hand is, and how many there are.
use Rattle.std.specs.Prelude.{ℕ, zero, suc, ◌≤◌, ◌<◌, ◌≡◌, refl, List, [], ◌∷◌, Bool, true, false, get_or}
use Rattle.std.proofs.Math.Path.{sym, ap}
use Rattle.std.proofs.Common.{◌∙◌, arith, length-append}
use Rattle.std.proofs.Math.ListN.{length}
use Rattle.format.specs.Layout.{end_value}
use Rattle.format.specs.Bytes.{joined}
use Rattle.format.specs.Chain.{all_records, nth_record, nth_name}
use Rattle.format.specs.Words.{Accepted}
use Rattle.format.specs.declared.Reading.TheVariants.{Short}
use Rattle.format.proofs.Laws.Links.{keeps-bucket}
use Rattle.catalogue.specs.Listed.{icon_of}
use Rattle.squeeze_spec.specs.Uses.{is_first}
use Rattle.squeeze_spec.specs.Squeezed.{kept_up_to, kept_records, contents}
use Rattle.squeeze_spec.proofs.Laws.Uses.{stored-first, stored-later}
use Rattle.squeeze_spec.proofs.Laws.Contents.{icon-count, icon-is}
use Rattle.squeeze_spec.proofs.Laws.Passes.{kept-number}
use Rattle.in_order.specs.Cursor.{Real}
use Rattle.in_order.specs.Laws.{records-few, here-keeps, here-below}
use Rattle.squeeze_icons.specs.Staying.{Staying, IconAt}
use Rattle.squeeze_icons.specs.declared.Icons.{Icons}

kept-few : (s : List ℕ) (n : ℕ) → length (kept_up_to s n) ≤ n
unfolding joined
kept-few s zero = omega arith
kept-few s (suc n) = go (is_first (nth_name s) n) refl (kept-few s n)
  where
    one : ℕ → List ℕ
    one i = nth_record s i ∷ []

    go : (b : Bool) → is_first (nth_name s) n ≡ b → length (kept_up_to s n) ≤ n → length (kept_up_to s (suc n)) ≤ suc n
    go true e before = omega (arith, ap length (stored-first (nth_name s) one n e) ∙ length-append (kept_up_to s n) (one n))
    go false e before = omega (arith, ap length (stored-later (nth_name s) one n e))

-- there are no more icons than bytes
pub icons-few : {s : List ℕ} → Accepted Short s → length (contents s).icons ≤ length s
unfolding kept_records
icons-few {s} acc = omega (arith, icon-count s, kept-few s (length (all_records Short s)), records-few acc)

module _ {s : List ℕ} {x : Icons} (acc : Accepted Short s) (h : Staying s x) where
  pub icon-at : Real x.at.«record» → IconAt s x.icon x.at.bucket x.at.«record»
  icon-at real =
      let here = h.at.here real in
      let (g, e) = kept-number s x.at.number (here-below acc here) (h.stays real) in
      let below : x.icon < length (kept_records s) = omega (arith, h.icons) in
      let is = icon-is s x.icon below ∙ ap (icon_of s) (ap (λ i. get_or (kept_records s) i 0) h.icons ∙ e ∙ sym here.is) in
      let keeps = here-keeps here in
      record {
        below = omega (arith, icon-count s);
        is = is;
        keeps = keeps;
        bucket = here.stands.bucket;
        home = rw is (keeps-bucket keeps);
      }

  pub all-passed : x.at.«record» ≡ end_value → x.icon ≡ length (contents s).icons
  unfolding kept_records
  all-passed e = h.icons ∙ ap (λ n. length (kept_up_to s n)) (h.at.all e) ∙ sym (icon-count s)
