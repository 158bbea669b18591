-- The bytes of the catalogue and the words of the report are made of the pieces.
use Rattle.std.specs.Prelude.{ℕ, zero, suc, ◌*◌, ◌≡◌, length}
use Rattle.std.proofs.Math.Path.{refl, ap}
use Rattle.std.proofs.Common.{◌∙◌, arith}
use mathlib.Core.List.{List, [], ◌∷◌, ◌++◌, append-nil, flat_map}
use Rattle.format.specs.Bytes.{bytes, joined}
use Rattle.format.specs.Fault.{if_kept}
use Rattle.format.specs.Header.{directories, buckets, path_of, path_fault}
use Rattle.format.specs.Record.{images, image_fault}
use Rattle.format.specs.Words.{link}
use Rattle.format.specs.declared.Fault.{Fault}
use Rattle.format.proofs.Laws.Bytes.{joined_same, flat_append}
use Rattle.catalogue.specs.Catalogue.{path_bytes, image_bytes, icon_bytes}
use Rattle.salvage_spec.specs.Meetings.{meeting, met, cut, fate}
use Rattle.salvage_spec.specs.Salvage.{paths_below, kept_image, image_place, icon, chain_icons, icons, catalogue, Entry, of_path, of_meeting, of_image, of_cut, row, image_entries, meeting_entries, chain_entries, path_entries, entries}
use Rattle.salvage_spec.specs.Call.{salvage_bytes, row_words, salvage_words}
use Rattle.salvage_spec.specs.Pieces.{path_piece, path_row, image_piece, image_rows, meeting_rows, chain_piece, chain_rows}
use Rattle.salvage_spec.proofs.Laws.Lists.{through}

module _ {A B : Type 0} (f : A → List B) where
  flat-joined : (g : ℕ → List A) (n : ℕ) → flat_map f (joined g n) ≡ joined (λ i. flat_map f (g i)) n
  unfolding flat_map
  flat-joined = through (flat_map f) refl (flat_append f)

  flat-one : (a : A) → flat_map f (a ∷ []) ≡ f a
  unfolding flat_map
  flat-one a = append-nil (f a)

  -- by a judgement
  flat-if : (v : Fault) (x y : List A) → flat_map f (if_kept v x y) ≡ if_kept v (flat_map f x) (flat_map f y)
  flat-if v x y = go v.number
    where
      go : (n : ℕ) → flat_map f (elim n as (λ m. List A) [ zero ↦ x | suc m ↦ y ]) ≡ elim n as (λ m. List B) [ zero ↦ flat_map f x | suc m ↦ flat_map f y ]
      go zero = refl
      go (suc n) = refl

  -- one if it is kept, or one if it is not
  flat-kept : (v : Fault) (a : A) → flat_map f (if_kept v (a ∷ []) []) ≡ if_kept v (f a) []
  unfolding flat_map
  flat-kept v a = flat-if v (a ∷ []) [] ∙ ap (λ x. if_kept v x []) (flat-one a)

  flat-broken : (v : Fault) (a : A) → flat_map f (if_kept v [] (a ∷ [])) ≡ if_kept v [] (f a)
  unfolding flat_map
  flat-broken v a = flat-if v [] (a ∷ []) ∙ ap (if_kept v []) (flat-one a)

module _ (s : List ℕ) where
  pub path-pieces : (n : ℕ) → flat_map path_bytes (paths_below s n) ≡ joined (path_piece s) n
  unfolding paths_below
  path-pieces n = flat-joined path_bytes _ n ∙ joined_same _ _ n (λ i l. flat-kept path_bytes (path_fault s i) (path_of s i))

  pub image-pieces : (r : ℕ) → flat_map image_bytes (icon s r).images ≡ joined (image_piece s r) (images s r)
  unfolding icon
  image-pieces r = flat-joined image_bytes (λ i. kept_image s (image_place s r i)) (images s r)

  icon-pieces : flat_map icon_bytes (icons s) ≡ joined (chain_piece s) (buckets s)
  unfolding icons chain_icons
  icon-pieces =
      flat-joined icon_bytes (chain_icons s) (buckets s)
      ∙ joined_same _ _ (buckets s) (λ k l.
      flat-joined icon_bytes _ (met s k) ∙ joined_same _ _ (met s k) (λ n g. flat-kept icon_bytes (fate s k n) (icon s (link s k n))))

  -- the whole catalogue
  pub bytes-pieces : salvage_bytes s
      ≡ bytes 2 (length (paths_below s (directories s))) ++ joined (path_piece s) (directories s) ++ bytes 2 (length (icons s)) ++ joined (chain_piece s) (buckets s)
  unfolding catalogue
  bytes-pieces = rw (path-pieces (directories s), icon-pieces)

  -- the words of an entry, and of entries
  abbrev entry_words : Entry → List ℕ
  entry_words e = row_words (row s e)

  abbrev words_of : List Entry → List ℕ
  words_of es = flat_map entry_words es

  path-words : words_of (path_entries s) ≡ joined (path_row s) (directories s)
  unfolding path_entries row
  path-words = flat-joined entry_words _ (directories s) ∙ joined_same _ _ (directories s) (λ i l. flat-broken entry_words (path_fault s i) (of_path i))

  image-words : (r : ℕ) → words_of (image_entries s r) ≡ image_rows s r
  unfolding image_entries row
  image-words r =
      flat-joined entry_words _ (images s r)
      ∙ joined_same _ _ (images s r) (λ i l. flat-broken entry_words (image_fault s (image_place s r i)) (of_image (image_place s r i)))

  meeting-words : (k n : ℕ) → words_of (meeting_entries s k n) ≡ meeting_rows s k n
  unfolding meeting_entries row
  meeting-words k n =
      flat-if entry_words (fate s k n) (image_entries s (link s k n)) (of_meeting (meeting k n) ∷ [])
      ∙ ap (λ x. if_kept (fate s k n) x (words_of (of_meeting (meeting k n) ∷ []))) (image-words (link s k n))
      ∙ ap (if_kept (fate s k n) (image_rows s (link s k n))) (flat-one entry_words (of_meeting (meeting k n)))

  chain-words : (k : ℕ) → words_of (chain_entries s k) ≡ chain_rows s k
  unfolding chain_entries row
  chain-words k =
      flat_append entry_words (joined (meeting_entries s k) (met s k)) _
      ∙ ap (λ x. x ++ words_of (if_kept (cut s k) [] (of_cut k ∷ []))) (flat-joined entry_words (meeting_entries s k) (met s k) ∙ joined_same _ _ (met s k) (λ n l. meeting-words k n))
      ∙ ap (λ x. joined (meeting_rows s k) (met s k) ++ x) (flat-broken entry_words (cut s k) (of_cut k))

  -- the whole report
  pub words-pieces : salvage_words s ≡ joined (path_row s) (directories s) ++ joined (chain_rows s) (buckets s)
  unfolding entries
  words-pieces =
      flat_append entry_words (path_entries s) _
      ∙ ap (λ x. x ++ words_of (joined (chain_entries s) (buckets s))) path-words
      ∙ ap (λ x. joined (path_row s) (directories s) ++ x)
      (flat-joined entry_words (chain_entries s) (buckets s) ∙ joined_same _ _ (buckets s) (λ k l. chain-words k))

  two-words : (es : List Entry) → length (words_of es) ≡ 2 * length es
  unfolding flat_map
  two-words [] = refl
  two-words (e ∷ es) = omega (arith, two-words es)

  pub words_count : length (salvage_words s) ≡ 2 * length (entries s)
  words_count = two-words (entries s)
