-- The walk over the icons that stay turn by turn: a record stays or goes.
use Rattle.std.specs.Prelude.{ℕ, suc, ◌+◌, ◌≡◌, List, [], ◌∷◌, true, false, length}
use Rattle.std.proofs.Math.Path.{refl}
use Rattle.std.proofs.Common.{sym, ap, ◌∙◌, add-one, arith, length-append}
use Rattle.format.specs.Bytes.{joined}
use Rattle.squeeze_spec.specs.Uses.{is_first}
use Rattle.format.specs.Chain.{nth_record, nth_name}
use Rattle.squeeze_spec.specs.Squeezed.{kept_up_to}
use Rattle.squeeze_spec.proofs.Laws.Uses.{stored-first, stored-later}
use Rattle.in_order.specs.Cursor.{At}
use Rattle.in_order.specs.declared.Cursor.{Cursor}
use Rattle.squeeze_icons.specs.Staying.{Seeking}

module _ {s : List ℕ} where
  -- at the start
  pub seeking-first : {c : Cursor} → At s c → c.number ≡ 0 → Seeking s 0 c
  unfolding joined
  seeking-first at e = record { at = at; icons = rw e refl }

  module _ (c : Cursor) {d : Cursor} (at : At s d) (next : d.number ≡ c.number + 1) where
    onward : (m : ℕ) → m ≡ length (kept_up_to s (suc c.number)) → Seeking s m d
    onward m count = record { at = at; icons = count ∙ ap (λ i. length (kept_up_to s i)) (sym (add-one c.number) ∙ sym next) }

    -- one that goes
    pub seeking-gone : {n : ℕ} → n ≡ length (kept_up_to s c.number) → is_first (nth_name s) c.number ≡ false → Seeking s n d
    seeking-gone {n} e gone = onward n (e ∙ ap length (sym (stored-later (nth_name s) (λ i. nth_record s i ∷ []) c.number gone)))

    -- one that stays
    pub seeking-behind : {n : ℕ} → n ≡ length (kept_up_to s c.number) → is_first (nth_name s) c.number ≡ true → Seeking s (n + 1) d
    seeking-behind {n} e stays =
        let one = nth_record s c.number ∷ [] in
        let more = ap length (stored-first (nth_name s) (λ i. nth_record s i ∷ []) c.number stays) ∙ length-append (kept_up_to s c.number) one in
        onward (n + 1) (omega arith)
