-- What the rules leave of image data and of what is behind it, where nothing there is broken.
use Rattle.std.specs.Prelude.{ℕ, ◌+◌, ◌*◌, ◌<◌, ◌≡◌, List, true}
use Rattle.format.specs.Layout.{entries_at, image_size, data_field}
use Rattle.format.specs.Number.{be}
use Rattle.format.specs.Part.{inside}
use Rattle.format.specs.Fault.{first_fault, step_on}
use Rattle.format.proofs.Laws.Faults.{or_else-none, unless-none, kept-each}
use Rattle.format.specs.declared.Fault.{Fault}
use Rattle.format.specs.ImageData.{image_data_size, meta_data_field, meta_data_size, rectangle_field, points_field, names_field, rectangle_size, point_size, display_name_size, language_field, text_field, there}
use Rattle.format.specs.Notes.{valid_entries, if_there, note_fault, display_name_fault, rectangle_fault, points_fault, names_fault, meta_data_fault, image_data_fault, notes_fault}

of-there : (p : ℕ) (x : Fault) → there p ≡ true → (if_there p x).number ≡ 0 → x.number ≡ 0
of-there p x e h = rw e at h

-- what the rules leave of image data, of meta data and of its parts that are there
module _ (s : List ℕ) (f : ℕ) (here : there (be 4 s f) ≡ true) where
  pub data-kept : (image_data_fault s f).number ≡ 0 → (inside s (be 4 s f) image_data_size ≡ true) × ((meta_data_fault s (meta_data_field (be 4 s f))).number ≡ 0)
  unfolding image_data_fault
  data-kept h =
      let parts = or_else-none _ _ (of-there (be 4 s f) _ here h) in
      (unless-none _ 21 _ parts.0, (or_else-none _ _ parts.1).1)

  pub meta-kept : (meta_data_fault s f).number ≡ 0
      → (inside s (be 4 s f) meta_data_size ≡ true) × ((rectangle_fault s (rectangle_field (be 4 s f))).number ≡ 0)
      × ((points_fault s (points_field (be 4 s f))).number ≡ 0) × ((names_fault s (names_field (be 4 s f))).number ≡ 0)
  unfolding meta_data_fault
  meta-kept h =
      let first = or_else-none _ _ (of-there (be 4 s f) _ here h) in
      let second = or_else-none _ _ first.1 in
      let third = or_else-none _ _ second.1 in
      (unless-none _ 21 _ first.0, second.0, third.0, third.1)

  pub rectangle-kept : (rectangle_fault s f).number ≡ 0 → inside s (be 4 s f) rectangle_size ≡ true
  unfolding rectangle_fault
  rectangle-kept h = unless-none _ 21 _ (of-there (be 4 s f) _ here h)

  pub points_kept : (points_fault s f).number ≡ 0 → valid_entries s (be 4 s f) point_size ≡ true
  unfolding points_fault
  points_kept h = unless-none _ 21 _ (of-there (be 4 s f) _ here h)

  pub names-kept : (names_fault s f).number ≡ 0
      → (valid_entries s (be 4 s f) display_name_size ≡ true) × ((first_fault (display_name_fault s) (step_on display_name_size) (be 4 s (be 4 s f)) (entries_at (be 4 s f))).number ≡ 0)
  unfolding names_fault
  names-kept h =
      let parts = or_else-none _ _ (of-there (be 4 s f) _ here h) in
      (unless-none _ 21 _ parts.0, parts.1)

-- each of n display names has both its strings
pub strings-kept : (n : ℕ) (s : List ℕ) (e : ℕ) → (first_fault (display_name_fault s) (step_on display_name_size) n e).number ≡ 0 → (i : ℕ) → i < n
    → ((note_fault s (language_field (e + display_name_size * i))).number ≡ 0) × ((note_fault s (text_field (e + display_name_size * i))).number ≡ 0)
unfolding display_name_fault
strings-kept n s e h i l = or_else-none _ _ (kept-each (display_name_fault s) display_name_size n e i l h)

-- where nothing is broken behind m images, nothing is behind each of them
pub images-kept : (m : ℕ) (s : List ℕ) (at : ℕ) → (notes_fault m s at).number ≡ 0 → (j : ℕ) → j < m
    → (image_data_fault s (data_field (at + image_size * j))).number ≡ 0
images-kept m s at h j l = kept-each (λ q. image_data_fault s (data_field q)) image_size m at j l h
