-- What becomes of a record that is met, by what is judged first; and what a kept one tells.
use Rattle.std.specs.Prelude.{ℕ, ◌+◌, ◌≤◌, ◌≡◌, List, ◌∷◌, true, false, length, Ok, Err}
use Rattle.std.proofs.Common.{sym, ◌∙◌, arith, leb-true}
use Rattle.std.proofs.Math.Bool.{and-eq-true_iff}
use Rattle.format.specs.Fault.{fault, no_fault}
use Rattle.format.specs.Part.{list_inside}
use Rattle.format.specs.String.{among}
use Rattle.format.specs.Record.{name_of, images_at, name_fault, valid_image_list}
use Rattle.format.specs.declared.Fault.{Fault}
use Rattle.format.proofs.Laws.Faults.{same_number, or_else-none, unless-none, broken-takes}
use Rattle.format.proofs.Laws.Outcomes.{outcome-broken}
use Rattle.format.proofs.Laws.Reads.{list-ends}
use Rattle.format.proofs.Laws.Records.{name-valid}
use Rattle.keys.specs.Key.{key_at}
use Rattle.keys.specs.declared.Kind.TheVariants.{Ended}
use Rattle.names.specs.Index.{Represents, Answered}
use Rattle.names.specs.Laws.Index.{met-again}
use Rattle.salvage_spec.specs.Meetings.{fate_among}
use Rattle.salvage_spec.proofs.Laws.Kept.{fate-misnamed, fate-unlisted, fate-named}
use Rattle.salvage_icons.specs.Kept.{Kept, Meets}

module _ (s : List ℕ) (k r : ℕ) {index : List ℕ} {n : ℕ} {ts : List (List ℕ)} where
  -- a record that goes leaves the names as they are
  goes : {w : Fault} → Represents (key_at Ended s) index n ts → (w.number ≡ 0 → ⊥) → w ≡ fate_among s k ts r → Meets s k r index n ts (Err w)
  goes known bad e =
      let gone = rw e at bad in record {
        fate = rw e (sym (outcome-broken (fate_among s k ts r) tt gone));
        known = rw (broken-takes (fate_among s k ts r) (n + 1) n gone, broken-takes (fate_among s k ts r) (name_of s r ∷ ts) ts gone) known;
      }

  pub meets-misnamed : {w : Fault} → Represents (key_at Ended s) index n ts → (w.number ≡ 0 → ⊥) → w ≡ name_fault s k r → Meets s k r index n ts (Err w)
  meets-misnamed known bad e = goes known bad (e ∙ sym (fate-misnamed s k ts r (λ z. bad (same_number e ∙ z))))

  module _ (named : (name_fault s k r).number ≡ 0) where
    pub meets-unlisted : Represents (key_at Ended s) index n ts → valid_image_list s (images_at s r) ≡ false → Meets s k r index n ts (Err (fault 10 (r + 8)))
    meets-unlisted known bad = goes known (λ z. omega arith) (sym (fate-unlisted s k ts r named bad))

    -- by the answer of the index, asked for the offset of its name
    module _ (listed : valid_image_list s (images_at s r) ≡ true) where
      module _ {p : ℕ} (read : key_at Ended s p ≡ name_of s r) where
        pub meets-equal : Answered (key_at Ended s) index n p ts true → Meets s k r index n ts (Err (fault 20 (r + 4)))
        meets-equal a =
            let met : among (name_of s r) ts ≡ true = rw read at (sym a.right) in
            goes (met-again a.after (sym a.right)) (λ z. omega arith) (sym (fate-named s k ts r named listed ∙ rw met))

        pub meets-kept : Answered (key_at Ended s) index n p ts false → Meets s k r index n ts (Ok tt)
        meets-kept a =
            let new : among (name_of s r) ts ≡ false = rw read at (sym a.right) in
            let kept : fate_among s k ts r ≡ no_fault = fate-named s k ts r named listed ∙ rw new in
            record { fate = rw kept; known = rw kept (rw read at a.after) }

-- what a record tells that is kept
pub kept-tells : (s : List ℕ) (k r : ℕ) (ts : List (List ℕ)) → r + 12 ≤ length s → (fate_among s k ts r).number ≡ 0 → Kept s r
unfolding fate_among
kept-tells s k r ts inside e =
    let first = or_else-none _ _ e in
    let list = (and-eq-true_iff (list_inside s (images_at s r) 8) _).0 (unless-none (valid_image_list s (images_at s r)) _ _ (or_else-none _ _ first.1).0) in
    record {
      inside = inside;
      named = (name-valid s k r first.0).named;
      listed = list-ends s (images_at s r) 8 list.0;
      few = leb-true _ _ list.1;
    }
