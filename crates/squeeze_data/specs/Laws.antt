-- The images of all records, one record after the other: what is left is judged as the whole.
use Rattle.std.specs.Prelude.{ℕ, ◌+◌, ◌≤◌, ◌<◌, ◌≡◌, List, length, drop, get_or}
use Rattle.std.proofs.Math.Numerals.{add-one}
use Rattle.std.proofs.Common.{drop_of_length-le, drop-cons}
use Rattle.format.specs.Fault.{no_fault}
use Rattle.format.proofs.Laws.Faults.{or_else-first, or_else-next}
use Rattle.format.proofs.Laws.Links.{keeps-listed}
use Rattle.squeeze_spec.specs.Call.{record_data_fault, data_fault}
use Rattle.in_order.specs.Cursor.{Here}
use Rattle.squeeze_data.specs.Listed.{ListInside}

pub here-listed : {s : List ℕ} {n k r : ℕ} → Here s n k r → ListInside s r
here-listed h = rw h.is (record { inside = h.stands.keeps.inside; listed = keeps-listed h.stands.keeps })

module _ (s rs : List ℕ) (n : ℕ) where
  pub none_left : length rs ≤ n → data_fault s (drop n rs) ≡ no_fault
  unfolding data_fault
  none_left l = rw (drop_of_length-le rs l)

  module _ (l : n < length rs) where
    pub data-here : ((record_data_fault s (get_or rs n 0)).number ≡ 0 → ⊥) → data_fault s (drop n rs) ≡ record_data_fault s (get_or rs n 0)
    unfolding data_fault
    data-here some = rw (drop-cons rs n 0 l) (or_else-first _ _ some)

    pub data-later : (record_data_fault s (get_or rs n 0)).number ≡ 0 → data_fault s (drop n rs) ≡ data_fault s (drop (n + 1) rs)
    unfolding data_fault
    data-later none = rw (drop-cons rs n 0 l, add-one n) (or_else-next _ _ none)
