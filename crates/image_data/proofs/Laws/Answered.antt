-- Where nothing behind an IMAGE_DATA_OFFSET is broken, each call by it answers 0 or 33.
use Rattle.std.specs.Prelude.{ℕ, ◌≡◌, refl, List, Bool, true, false, ltb}
use Rattle.std.proofs.Math.Logic.{inl}
use Rattle.std.proofs.Common.{inr, arith}
use borrow.Author.Tests.{ltb-true}
use Rattle.format.specs.Layout.{entries_at}
use Rattle.format.specs.Number.{be}
use Rattle.format.specs.Part.{inside}
use Rattle.format.specs.Fault.{unless, ◌or_else◌}
use Rattle.format.proofs.Laws.Faults.{or_else-first, or_else-next, or_else-none, unless-none}
use Rattle.format.specs.declared.Fault.{Fault}
use Rattle.format.specs.ImageData.{meta_data_field, rectangle_field, points_field, names_field, point_size, display_name_size, language_field, text_field, there}
use Rattle.format.specs.Notes.{valid_entries, note_fault, rectangle_fault, points_fault, names_fault, image_data_fault}
use Rattle.image_data.specs.Call.{meta_at, rectangle_at, display_name_at, bytes_fault, part_fault, meta_fault, entry_fault, rectangle_call_fault, rectangle, point_fault, attach_point, display_fault, display, display_language, display_text}
use Rattle.image_data.specs.Promise.{Answered}
use Rattle.image_data.proofs.Laws.Kept.{data-kept, meta-kept, rectangle-kept, points_kept, names-kept, strings-kept}

-- the part is there or not; a rule that is kept; one judgement after the other
lacking : (b : Bool) → Answered (unless b 33 0).number
lacking true = inl refl
lacking false = inr refl

kept : (b : Bool) (n p : ℕ) → b ≡ true → (unless b n p).number ≡ 0
kept b n p e = rw e

after : (x y : Fault) → Answered x.number → (x.number ≡ 0 → Answered y.number) → Answered (x or_else y).number
after x y (inl e) h = rw (or_else-next x y e) (h e)
after x y (inr e) h = rw (or_else-first x y (λ z. omega arith)) (inr e)

-- after the test whether a part is there, what is judged only where it is
behind : (b : Bool) (y : Fault) → (b ≡ true → Answered y.number) → Answered (unless b 33 0 or_else y).number
behind b y h = after (unless b 33 0) y (lacking b) (λ e. h (unless-none b 32 0 e))

-- a part that keeps rule 22 if it is there
part-answered : (s : List ℕ) (p size place : ℕ) → (there p ≡ true → inside s p size ≡ true) → Answered (part_fault s p size place).number
unfolding part_fault
part-answered s p size place h = behind (there p) _ (λ here. inl (kept _ 22 place (h here)))

-- an IMAGE_DATA_OFFSET in the field f, in a buffer that keeps rules 1 and 2, with nothing broken
-- behind it
module _ (s : List ℕ) (f : ℕ) (bytes : (bytes_fault s).number ≡ 0) (none : (image_data_fault s f).number ≡ 0) where
  -- the way to the meta data, and what holds where it is gone to its end
  meta-answered : Answered (meta_fault s (be 4 s f)).number
  unfolding meta_fault part_fault
  meta-answered =
      after _ _ (inl bytes)
      (λ _. after _ _
      (part-answered s (be 4 s f) _ 0 (λ here. (data-kept s f here none).0))
      (λ way.
      let there-data = unless-none _ 32 0 (or_else-none _ _ way).0 in
      part-answered s (meta_at s (be 4 s f)) _ _ (λ here. (meta-kept s (meta_data_field (be 4 s f)) here (data-kept s f there-data none).1).0)))

  parts-kept : (meta_fault s (be 4 s f)).number ≡ 0
      → ((rectangle_fault s (rectangle_field (meta_at s (be 4 s f)))).number ≡ 0)
      × ((points_fault s (points_field (meta_at s (be 4 s f)))).number ≡ 0)
      × ((names_fault s (names_field (meta_at s (be 4 s f)))).number ≡ 0)
  unfolding meta_fault part_fault
  parts-kept h =
      let parts = or_else-none _ _ (or_else-none _ _ h).1 in
      let here = data-kept s f (unless-none _ 32 0 (or_else-none _ _ parts.0).0) none in
      let meta = meta-kept s (meta_data_field (be 4 s f)) (unless-none _ 32 0 (or_else-none _ _ parts.1).0) here.1 in
      (meta.1, meta.2, meta.3)

  -- an entry of a list that keeps rule 22 if it is there
  entry-answered : (g size i : ℕ) → (there (be 4 s g) ≡ true → valid_entries s (be 4 s g) size ≡ true)
      → Answered (entry_fault s g size i).number
  unfolding entry_fault
  entry-answered g size i h =
      behind (there (be 4 s g)) _ (λ here. after _ _ (inl (kept _ 22 g (h here))) (λ _. lacking (ltb i (be 4 s (be 4 s g)))))

  -- the four calls
  pub rectangle-answered : Answered (rectangle s (be 4 s f)).number
  unfolding rectangle rectangle_call_fault
  rectangle-answered =
      after _ _ meta-answered
      (λ way. part-answered s (rectangle_at s (be 4 s f)) _ _
      (λ here. rectangle-kept s (rectangle_field (meta_at s (be 4 s f))) here (parts-kept way).0))

  pub point-answered : (i : ℕ) → Answered (attach_point s (be 4 s f) i).number
  unfolding attach_point point_fault
  point-answered i =
      let g = points_field (meta_at s (be 4 s f)) in
      after _ _ meta-answered
      (λ way. entry-answered g point_size i (λ here. points_kept s g here (parts-kept way).1))

  -- where the way to display name i is gone to its end, both its strings are right
  entry-strings : (i : ℕ) → (meta_fault s (be 4 s f)).number ≡ 0
      → (entry_fault s (names_field (meta_at s (be 4 s f))) display_name_size i).number ≡ 0
      → ((note_fault s (language_field (display_name_at s (be 4 s f) i))).number ≡ 0)
      × ((note_fault s (text_field (display_name_at s (be 4 s f) i))).number ≡ 0)
  unfolding entry_fault
  entry-strings i way h =
      let g = names_field (meta_at s (be 4 s f)) in
      let first = or_else-none _ _ h in
      let low = ltb-true i (be 4 s (be 4 s g)) (unless-none _ 32 0 (or_else-none _ _ first.1).1) in
      let names = names-kept s g (unless-none _ 32 0 first.0) (parts-kept way).2 in
      strings-kept (be 4 s (be 4 s g)) s (entries_at (be 4 s g)) names.1 i low

  display-answered : (i g : ℕ)
      → ((meta_fault s (be 4 s f)).number ≡ 0 → (entry_fault s (names_field (meta_at s (be 4 s f))) display_name_size i).number ≡ 0 → (note_fault s g).number ≡ 0)
      → Answered (display s (be 4 s f) i g).number
  unfolding display display_fault
  display-answered i g h =
      let names = names_field (meta_at s (be 4 s f)) in
      after _ _ meta-answered
      (λ way. after _ _
      (entry-answered names display_name_size i (λ here. (names-kept s names here (parts-kept way).2).0))
      (λ entry. inl (h way entry)))

  pub language-answered : (i : ℕ) → Answered (display_language s (be 4 s f) i).number
  language-answered i =
      display-answered i (language_field (display_name_at s (be 4 s f) i)) (λ way entry. (entry-strings i way entry).0)

  pub text-answered : (i : ℕ) → Answered (display_text s (be 4 s f) i).number
  text-answered i =
      display-answered i (text_field (display_name_at s (be 4 s f) i)) (λ way entry. (entry-strings i way entry).1)
