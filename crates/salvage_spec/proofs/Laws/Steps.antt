-- The meetings, the icons and the report are gathered over the same steps: what goes through them
-- piece by piece is known from one step.
use Prim.Native.Nat.{ℕ, zero, suc}
use Rattle.std.specs.Prelude.{◌≡◌, Bool}
use Rattle.std.proofs.Math.Path.{refl, ap}
use Rattle.std.proofs.Common.{sym, ◌∙◌, arith}
use mathlib.Core.List.{List, [], ◌∷◌, ◌++◌, append-nil, map, map-append}
use Rattle.std.proofs.Math.Bool.{true, false}
use Rattle.std.proofs.Math.Dec.{eqb-suc-zero}
use Rattle.format.specs.Fault.{unless, if_kept}
use Rattle.format.specs.Header.{buckets}
use Rattle.format.specs.Record.{images, valid_image}
use Rattle.format.specs.Words.{link}
use Rattle.format.specs.Bytes.{joined}
use Rattle.format.proofs.Laws.Bytes.{joined_same}
use Rattle.salvage_spec.specs.Lists.{those}
use Rattle.salvage_spec.specs.Meetings.{Meeting, meeting, met, cut, fate, chain_meetings, meetings}
use Rattle.salvage_spec.specs.Salvage.{image_place, Entry, of_meeting, of_image, of_cut, image_entries, meeting_entries, chain_entries}
use Rattle.salvage_spec.specs.Promise.{is_gone}
use Rattle.salvage_spec.proofs.Laws.Lists.{joined-none, through, those-append, those-none, those-one}

module _ (s : List ℕ) where
  module _ {B : Type 0} (h : List Meeting → List B) (none : h [] ≡ []) (pieces : (x y : List Meeting) → h (x ++ y) ≡ h x ++ h y) where
    pub over-meetings : h (meetings s) ≡ joined (λ k. joined (λ n. h (meeting k n ∷ [])) (met s k)) (buckets s)
    unfolding meetings chain_meetings
    over-meetings =
        through h none pieces (chain_meetings s) (buckets s)
        ∙ joined_same _ _ (buckets s) (λ k l. through h none pieces (λ n. meeting k n ∷ []) (met s k))

  -- What goes through the report piece by piece and leaves out the entries of images and of ends
  -- has, of the chains' entries, those of the meetings that go.
  module _ {B : Type 0} (h : List Entry → List B) (none : h [] ≡ []) (pieces : (x y : List Entry) → h (x ++ y) ≡ h x ++ h y)
      (no-image : (p : ℕ) → h (of_image p ∷ []) ≡ []) (no_cut : (k : ℕ) → h (of_cut k ∷ []) ≡ []) where
    of-images : (r : ℕ) → h (image_entries s r) ≡ []
    unfolding image_entries
    of-images r = through h none pieces _ (images s r) ∙ joined-none _ (images s r) (λ i l. go (valid_image s (image_place s r i)) i)
      where
        go : (t : Bool) (i : ℕ) → h (if_kept (unless t 11 (image_place s r i)) [] (of_image (image_place s r i) ∷ [])) ≡ []
        go true i = none
        go false i = no-image (image_place s r i)

    of_cut_none : (k : ℕ) → h (if_kept (cut s k) [] (of_cut k ∷ [])) ≡ []
    of_cut_none k = go (cut s k).number
      where
        go : (x : ℕ) → h (elim x as (λ n. List Entry) [ zero ↦ [] | suc n ↦ of_cut k ∷ [] ]) ≡ []
        go zero = none
        go (suc x) = no_cut k

    of-meeting : (k n : ℕ) → h (meeting_entries s k n) ≡ if_kept (fate s k n) [] (h (of_meeting (meeting k n) ∷ []))
    unfolding meeting_entries
    of-meeting k n = go (fate s k n).number
      where
        go : (x : ℕ) → h (elim x as (λ y. List Entry) [ zero ↦ image_entries s (link s k n) | suc y ↦ of_meeting (meeting k n) ∷ [] ])
            ≡ elim x as (λ y. List B) [ zero ↦ [] | suc y ↦ h (of_meeting (meeting k n) ∷ []) ]
        go zero = of-images (link s k n)
        go (suc x) = refl

    of-chain : (k : ℕ) → h (chain_entries s k) ≡ joined (λ n. if_kept (fate s k n) [] (h (of_meeting (meeting k n) ∷ []))) (met s k)
    unfolding chain_entries
    of-chain k =
        pieces (joined (meeting_entries s k) (met s k)) _
        ∙ ap (λ l. h (joined (meeting_entries s k) (met s k)) ++ l) (of_cut_none k)
        ∙ append-nil _
        ∙ through h none pieces (meeting_entries s k) (met s k)
        ∙ joined_same _ _ (met s k) (λ n l. of-meeting k n)

    -- and these are the meetings that go, if each is taken for what `of` gives
    pub of-chains : (of : Meeting → B) → ((k n : ℕ) → ((fate s k n).number ≡ 0 → ⊥) → h (of_meeting (meeting k n) ∷ []) ≡ of (meeting k n) ∷ [])
        → h (joined (chain_entries s) (buckets s)) ≡ map of (those (is_gone s) (meetings s))
    of-chains of one =
        through h none pieces (chain_entries s) (buckets s)
        ∙ joined_same _ _ (buckets s) (λ k l. of-chain k ∙ joined_same _ _ (met s k) (λ n g. go k n (fate s k n).number refl))
        ∙ sym (over-meetings (λ ms. map of (those (is_gone s) ms)) (rw (those-none (is_gone s))) taken-append)
      where
        taken-append : (x y : List Meeting) → map of (those (is_gone s) (x ++ y)) ≡ map of (those (is_gone s) x) ++ map of (those (is_gone s) y)
        taken-append x y = rw (those-append (is_gone s) x y) (map-append of (those (is_gone s) x) (those (is_gone s) y))

        go : (k n x : ℕ) → (fate s k n).number ≡ x
            → if_kept (fate s k n) [] (h (of_meeting (meeting k n) ∷ [])) ≡ map of (those (is_gone s) (meeting k n ∷ []))
        go k n zero e = rw (those-one (is_gone s) (meeting k n), e)
        go k n (suc x) e = rw (those-one (is_gone s) (meeting k n), e, eqb-suc-zero x) (one k n (λ z. omega arith))
