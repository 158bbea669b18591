-- The records tried one by one: the first that bears the name, and what is answered before a record
-- is tried.
use Prim.Native.Nat.{ℕ, zero, suc, ◌+◌, ◌-◌, ◌<◌}
use Rattle.std.specs.Prelude.{◌≡◌, Bool, true, false, length, get_or}
use Rattle.std.proofs.Math.Path.{refl, ap}
use Rattle.std.proofs.Common.{sym, ◌∙◌}
use mathlib.Core.List.{List, [], ◌∷◌}
use native.Mathlib.Omega.{arith}
use Rattle.format.specs.Fault.{fault, if_kept}
use Rattle.format.specs.String.{allowed, same_bytes}
use Rattle.format.specs.Record.{name_of, bears_name}
use Rattle.format.specs.Chain.{all_records, nth_record, nth_name}
use Rattle.format.specs.Answer.{found, unfound, looked_up}
use Rattle.format.specs.Call.{check, first_named, with_images, found_answer}
use Rattle.format.specs.declared.CheckAnswer.{CheckAnswer}
use Rattle.format.specs.declared.Fault.{Fault}
use Rattle.format.specs.declared.Found.{Found}
use Rattle.format.specs.declared.Reading.TheVariants.{Short}
use Rattle.format.proofs.Laws.Faults.{kept-takes, broken-speaks, kept-passes}
use Rattle.format.proofs.Laws.Names.{same-equal, other-unequal}
use Rattle.format.proofs.Laws.Rules.{record-valid}
use Rattle.format.proofs.Laws.Search.{search-met, search-next}
use Rattle.in_order.specs.Cursor.{Here}
use Rattle.in_order.specs.Laws.{here-keeps}
use Rattle.plain_lookup.specs.Plain.{plain_fault, try_all, plain_find, plain_lookup}

-- the record at hand bears the name exactly if that is its name
module _ {s : List ℕ} {n k r : ℕ} (h : Here s n k r) (name : List ℕ) where
  bears-same : bears_name s r name ≡ same_bytes (name_of s r) name
  bears-same = rw (record-valid Short s k r (here-keeps h).rules).named refl

  pub bears-name : {b : Bool} → b ≡ bears_name s r name → b ≡ true → nth_name s n ≡ name
  bears-name e b = ap (name_of s) (sym h.is) ∙ same-equal (name_of s r) name (sym bears-same ∙ sym e ∙ b)

  pub bears-other : {b : Bool} → b ≡ bears_name s r name → b ≡ false → nth_name s n ≡ name → ⊥
  bears-other e b same = other-unequal (name_of s r) name (sym bears-same ∙ sym e ∙ b) (ap (name_of s) h.is ∙ same)

module _ (s name : List ℕ) where
  -- of some records none of the first n bears the name, and the next one does; or none at all
  first-at : (rs : List ℕ) (o n : ℕ) (a : Found) → n < length rs → ((i : ℕ) → i < n → name_of s (get_or rs i 0) ≡ name → ⊥) → name_of s (get_or rs n 0) ≡ name
      → first_named s name rs o a ≡ found (get_or rs n 0) (o + n + 1)
  first-at [] o n a l none same = absurd (omega arith)
  first-at (r ∷ rs) o zero a l none same =
      let e : o + 1 ≡ o + 0 + 1 = omega arith in
      search-met s name r rs o a same ∙ ap (found r) e
  first-at (r ∷ rs) o (suc n) a l none same =
      let e : o + 1 + n + 1 ≡ o + suc n + 1 = omega arith in
      search-next s name r rs o a (none 0 (omega arith)) ∙ first-at rs (o + 1) n a (omega arith) (λ i g. none (suc i) (omega arith)) same
      ∙ ap (found (get_or rs n 0)) e

  none-at : (rs : List ℕ) (o : ℕ) (a : Found) → ((i : ℕ) → i < length rs → name_of s (get_or rs i 0) ≡ name → ⊥) → first_named s name rs o a ≡ a
  unfolding first_named
  none-at [] o a none = refl
  none-at (r ∷ rs) o a none = search-next s name r rs o a (none 0 (omega arith)) ∙ none-at rs (o + 1) a (λ i l. none (suc i) (omega arith))

  pub tried-met : {n : ℕ} → n < length (all_records Short s) → ((i : ℕ) → i < n → nth_name s i ≡ name → ⊥) → nth_name s n ≡ name → try_all s name ≡ found (nth_record s n) (n + 1)
  unfolding try_all
  tried-met {n} l none same =
      let e : 0 + n + 1 ≡ n + 1 = omega arith in
      first-at (all_records Short s) 0 n _ l none same ∙ ap (found (nth_record s n)) e

  pub tried-none : ((i : ℕ) → i < length (all_records Short s) → nth_name s i ≡ name → ⊥) → try_all s name ≡ unfound 30 0 (length (all_records Short s))
  unfolding try_all
  tried-none none = none-at (all_records Short s) 0 _ none

  -- what is refused before
  plain-judged : allowed name ≡ true → plain_fault s name ≡ fault (check Short s).number (check Short s).place
  unfolding plain_fault
  plain-judged e = kept-passes (allowed name) 13 0 _ e

  pub plain-unallowed : (room : ℕ) → allowed name ≡ false → plain_lookup s name room ≡ looked_up 13 0 0 0
  unfolding plain_lookup plain_find plain_fault with_images
  plain-unallowed room e =
      let v : plain_fault s name ≡ fault 13 0 = broken-speaks (allowed name) 12 0 _ e in
      ap (λ (v : Fault). with_images s room (if_kept v (try_all s name) (unfound v.number v.place 0))) v

  pub plain-refused : (room : ℕ) {a : CheckAnswer} → allowed name ≡ true → a ≡ check Short s → (a.number ≡ 0 → ⊥) → plain_lookup s name room ≡ looked_up a.number a.place 0 0
  unfolding plain_lookup plain_find with_images
  plain-refused room {a} e is broken =
      let some : a.number ≡ suc (a.number - 1) = omega arith in
      let v : plain_fault s name ≡ fault (suc (a.number - 1)) a.place = plain-judged e ∙ ap (λ (c : CheckAnswer). fault c.number c.place) (sym is) ∙ ap (λ n. fault n a.place) some in
      ap (λ (v : Fault). with_images s room (if_kept v (try_all s name) (unfound v.number v.place 0))) v ∙ ap (λ n. looked_up n a.place 0 0) (sym some)

  module _ (room : ℕ) (e : allowed name ≡ true) (kept : (check Short s).number ≡ 0) where
    pub plain-tries : plain_find s name ≡ try_all s name
    unfolding plain_find
    plain-tries = kept-takes (plain_fault s name) (try_all s name) _ (ap (λ (v : Fault). v.number) (plain-judged e) ∙ kept)

    pub plain-met : {r o : ℕ} → try_all s name ≡ found r o → plain_lookup s name room ≡ found_answer s room r o
    unfolding plain_lookup with_images
    plain-met t = ap (with_images s room) (plain-tries ∙ t)

    pub plain-none : {o : ℕ} → try_all s name ≡ unfound 30 0 o → plain_lookup s name room ≡ looked_up 30 0 0 o
    unfolding plain_lookup with_images
    plain-none t = ap (with_images s room) (plain-tries ∙ t)
