-- The whole answer in plain words: one of its cases always stands, and the answer is that of the
-- case.
use Rattle.std.specs.Prelude.{ℕ, suc, ◌+◌, ◌*◌, ◌≤◌, ◌<◌, ◌≡◌, refl, ◌↔◌, List, length, leb}
use Rattle.std.proofs.Common.{sym, ap, ◌∙◌, zero-add, arith, le-leb, leb-true, leb-false}
use Rattle.std.proofs.Math.Bool.{and-eq-true_iff}
use Rattle.std.proofs.lemmas.Bool.{false≢true, lt-leb}
use Rattle.std.proofs.Math.Decide.{ℕ_discrete}
use Rattle.format.specs.Number.{be}
use Rattle.format.specs.Fault.{fault}
use Rattle.format.specs.Header.{directories}
use Rattle.format.specs.Record.{images_at, images, image_fault}
use Rattle.format.specs.Call.{find}
use Rattle.format.proofs.Laws.First.{First, found, none, first}
use Rattle.format.proofs.Laws.Faults.{unless-none, first-at, first-kept, kept-each}
use Rattle.format.proofs.Laws.Rules.{record-valid}
use Rattle.format.proofs.Laws.LookupAnswers.{found-keeps}
use Rattle.format.proofs.Laws.LookupNumbers.{lookup-enough}
use Rattle.format.specs.declared.Reading.TheVariants.{Short}
use Rattle.pick.specs.Pick.{PickAnswer, fits, first_image, kind_fault, words_fault, pick_is, pick}
use Rattle.pick.specs.Picking.{SixEach, type_word, Described, FirstUnknown, image_at, FirstFits, NoneFits, Case, miscounted, unknown-type, first_fits, none-fits, answer_in, RealImage, Picks}
use Rattle.pick.proofs.Laws.Fitting.{index_below, fits-nowhere, image-at, image-nowhere, nowhere-image}
use Rattle.pick.proofs.Laws.Answer.{words-miscounted, words-counted, pick-unfound, pick-undescribed, pick_first}

module _ (s : List ℕ) (size scale : ℕ) (w : List ℕ) (r : ℕ) where
  by-images : Described s w → First (λ j. fits w size scale s (image_at s r j)) (images s r) → Case s size scale w r
  by-images d (found j l here before) = first_fits j d (record { listed = l; here = here; before = before })
  by-images d (none fail) = none-fits d fail

  by-types : SixEach s w → First (λ i. leb 3 (type_word w i)) (directories s) → Case s size scale w r
  by-types six (found i l here before) =
      unknown-type i six (record { below = l; unknown = leb-true 3 (type_word w i) here; before = λ j g. omega (arith, leb-false 3 (type_word w j) (before j g)) })
  by-types six (none fail) = by-images (six, λ i l. omega (arith, leb-false 3 (type_word w i) (fail i l))) (first _ _)

  -- one of the cases always stands
  pub case-of : Case s size scale w r
  case-of = elim (ℕ_discrete (length w) (6 * directories s)) [ yes six ↦ by-types six (first _ _) | no wrong ↦ miscounted wrong ]

-- what is judged of the words
module _ (s w : List ℕ) (six : SixEach s w) where
  unknown-judged : (i : ℕ) → FirstUnknown s w i → words_fault s w ≡ fault 32 (6 * i)
  unknown-judged i u =
      let broken : kind_fault w (0 + 6 * i) ≡ fault 32 (6 * i) = rw (zero-add, lt-leb _ 2 u.unknown) in
      let kept : (j : ℕ) → j < i → (kind_fault w (0 + 6 * j)).number ≡ 0 = λ j l. rw (zero-add, le-leb _ 2 (u.before j l)) in
      words-counted s w six ∙ first-at (kind_fault w) 6 (directories s) 0 i u.below (rw broken (λ z. omega arith)) kept ∙ broken

  described-judged : ((i : ℕ) → i < directories s → type_word w i ≤ 2) → (words_fault s w).number ≡ 0
  described-judged known =
      rw (words-counted s w six) (first-kept (kind_fault w) 6 (directories s) 0 (λ j l. rw (zero-add, le-leb _ 2 (known j l))))

-- the name is found: what the words and the images of its record decide
module _ (s name : List ℕ) (size scale : ℕ) (w : List ℕ) (is_found : (find s name).number ≡ 0) where
  abbrev r : ℕ
  r = (find s name).place

  judged : {n p : ℕ} → words_fault s w ≡ fault (suc n) p → pick s name size scale w ≡ pick_is (suc n) p
  judged e = pick-undescribed s name size scale w refl is_found (rw e (λ z. omega arith)) ∙ rw e

  described : Described s w → pick s name size scale w ≡ pick_is 0 (first_image (fits w size scale s) (images s r) (images_at s r + 4))
  described d = pick_first s name size scale w refl is_found (described-judged s w d.0 d.1)

  answer : (c : Case s size scale w r) → pick s name size scale w ≡ answer_in s size scale w r c
  answer (miscounted wrong) = judged (words-miscounted s w wrong)
  answer (unknown-type i six u) = judged (unknown-judged s w six i u)
  answer (first_fits j d f) = described d ∙ ap (pick_is 0) (image-at _ _ _ j f.listed f.here f.before)
  answer (none-fits d fail) = described d ∙ ap (pick_is 0) (image-nowhere _ _ _ fail)

  zero-none : Described s w → ((pick s name size scale w).place ≡ 0) ↔ NoneFits s size scale w r
  zero-none d = (
    λ e. nowhere-image _ _ _ (omega arith) (ap (λ (a : PickAnswer). a.place) (sym (described d)) ∙ e),
    λ fail. ap (λ (a : PickAnswer). a.place) (answer (none-fits d fail)),
  )

  -- an image that fits keeps rule 11, and its index is not 0xFFFF
  real : (j : ℕ) → FirstFits s size scale w r j → RealImage s (image_at s r j)
  real j f =
      let valid = record-valid Short s _ _ (found-keeps s name refl is_found).rules in
      let kept = unless-none _ _ _ (kept-each (image_fault s) 8 (images s r) (images_at s r + 4) j f.listed valid.images-kept) in
      let there : be 2 s (image_at s r j) ≡ 0xFFFF → ⊥ = λ e. false≢true (sym (fits-nowhere w size scale s _ e) ∙ f.here) in
      record { inside = omega (arith, f.listed, valid.listed); directory = index_below _ _ ((and-eq-true_iff _ _).0 kept).0 there }

  image-in : (c : Case s size scale w r) → (answer_in s size scale w r c).number ≡ 0 → ((answer_in s size scale w r c).place ≡ 0 → ⊥)
      → RealImage s (answer_in s size scale w r c).place
  image-in (miscounted wrong) zero_number some = absurd (omega arith)
  image-in (unknown-type i six u) zero_number some = absurd (omega arith)
  image-in (first_fits j d f) zero_number some = real j f
  image-in (none-fits d fail) zero_number some = absurd (some refl)

module _ (s name : List ℕ) (size scale : ℕ) (w : List ℕ) where
  image : (pick s name size scale w).number ≡ 0 → ((pick s name size scale w).place ≡ 0 → ⊥) → RealImage s (pick s name size scale w).place
  image = elim (ℕ_discrete (find s name).number 0) [
    | yes is_found ↦ let c = case-of s size scale w (find s name).place in rw (answer s name size scale w is_found c) (image-in s name size scale w is_found c)
    | no refused ↦ rw (pick-unfound s name size scale w refl refused) (λ e some. absurd (refused e))
  ]

  pub picks : Picks s name size scale w
  picks room enough =
      let (same_number, same_place) = lookup-enough s name room enough in
      record {
        refuses = rw (same_number, same_place) (pick-unfound s name size scale w refl);
        answers = rw (same_number, same_place) (answer s name size scale w);
        none = rw (same_number, same_place) (zero-none s name size scale w);
        image = image;
      }
