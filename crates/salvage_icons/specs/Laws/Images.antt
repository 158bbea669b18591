-- The images of a record that is kept, one after the other: what is put for them, and how many
-- stay.
use Rattle.std.specs.Prelude.{ℕ, ◌+◌, ◌*◌, ◌≤◌, ◌≡◌, refl, true, false, length}
use Rattle.std.proofs.Common.{ap, ◌∙◌, add-one, arith}
use mathlib.Core.List.{List, [], ◌∷◌, append-nil, flat_map}
use Rattle.std.proofs.Math.ListN.{length-append}
use Rattle.format.specs.Bytes.{bytes, joined}
use Rattle.format.specs.Header.{directories}
use Rattle.format.specs.Record.{images_at, images, valid_image}
use Rattle.records.specs.ValidWords.{valid_words}
use Rattle.records.specs.declared.ValidWords.{ValidWords}
use Rattle.catalogue.specs.Catalogue.{Image, image_bytes}
use Rattle.catalogue.proofs.Laws.Images.{image-length}
use Rattle.filling.specs.Puts.{Puts}
use Rattle.filling.specs.Laws.{puts_first, puts-next, puts-skip, puts-before}
use Rattle.salvage_spec.specs.Salvage.{reindexed, kept_image, image_place, icon}
use Rattle.salvage_spec.specs.Pieces.{image_piece, images_piece, image_row}
use Rattle.salvage_icons.specs.declared.images.ImageList.{ImageList}
use Rattle.salvage_icons.specs.Kept.{list_of}

-- what the loops over the images of the record r know from their start
pub record Scan (s : List ℕ) (r : ℕ) (w : ValidWords) (p m : ℕ) : Type 0 where
  pub words : w ≡ valid_words (directories s)
  pub first : p ≡ images_at s r + 4
  pub count : m ≡ images s r

pub scan : (s : List ℕ) (r : ℕ) {w : ValidWords} {n : ℕ} {all : ImageList} → w ≡ valid_words n → n ≡ directories s → all ≡ list_of s r
    → Scan s r w all.first all.count
scan s r a b c = record { words = a ∙ ap valid_words b; first = ap (λ (l : ImageList). l.first) c; count = ap (λ (l : ImageList). l.count) c }

-- what is kept of each image of it
abbrev kept_of : List ℕ → ℕ → ℕ → List Image
kept_of s r i = kept_image s (image_place s r i)

-- what is put for its first n images, of which so many stay; each has 8 bytes
pub record PutTo (s : List ℕ) (r : ℕ) (lent out : List ℕ) (at n stay next : ℕ) : Type 0 where
  pub put : Puts lent out at (joined (image_piece s r) n) next
  pub stays : stay ≡ length (joined (kept_of s r) n)
  pub stay-few : stay ≤ n
  pub next-few : next ≤ at + 8 * n

pub put-none : (s : List ℕ) (r : ℕ) (lent : List ℕ) (at : ℕ) → PutTo s r lent lent at 0 0 at
unfolding joined
put-none s r lent at = record { put = puts_first lent at (image_piece s r); stays = refl; stay-few = omega arith; next-few = omega arith }

module _ {s : List ℕ} {r : ℕ} {lent out : List ℕ} {at n stay next : ℕ} (h : PutTo s r lent out at n stay next) where
  pub put-stays : {new : List ℕ} {i behind : ℕ} → kept_of s r n ≡ reindexed s (image_place s r n) i ∷ []
      → Puts out new next (image_bytes (reindexed s (image_place s r n) i)) behind → PutTo s r lent new at (n + 1) (stay + 1) behind
  unfolding flat_map joined
  put-stays {i = i} e b =
      let image = reindexed s (image_place s r n) i in
      record {
        put = puts-next (image_piece s r) n h.put (ap (flat_map image_bytes) e ∙ append-nil (image_bytes image)) b;
        stays = rw (add-one n, e) (omega (arith, length-append (joined (kept_of s r) n) (image ∷ []), h.stays));
        stay-few = omega (arith, h.stay-few);
        next-few = omega (arith, b.next, image-length image, h.next-few);
      }

  pub put-goes : kept_of s r n ≡ [] → PutTo s r lent out at (n + 1) stay next
  unfolding flat_map joined
  put-goes e = record {
    put = puts-skip (image_piece s r) n h.put (ap (flat_map image_bytes) e);
    stays = rw (add-one n, e, append-nil (joined (kept_of s r) n)) h.stays;
    stay-few = omega (arith, h.stay-few);
    next-few = omega (arith, h.next-few);
  }

-- all of them, with their count before them
pub put_all : {s : List ℕ} {r : ℕ} {lent out new : List ℕ} {at q n stay next : ℕ} → PutTo s r lent out q n stay next → n ≡ images s r
    → Puts out new at (bytes 2 stay) q → Puts lent new at (images_piece s r) next
unfolding icon
put_all h e count = puts-before (rw e at h.put) (rw (h.stays, e) at count)

-- the rows of its first n images
pub record RowsTo (s : List ℕ) (r : ℕ) (lent out : List ℕ) (at n next : ℕ) : Type 0 where
  pub put : Puts lent out at (joined (image_row s r) n) next
  pub few : next ≤ at + 2 * n

pub rows_none : (s : List ℕ) (r : ℕ) (lent : List ℕ) (at : ℕ) → RowsTo s r lent lent at 0 at
rows_none s r lent at = record { put = puts_first lent at (image_row s r); few = omega arith }

module _ {s : List ℕ} {r : ℕ} {lent out : List ℕ} {at n next : ℕ} (h : RowsTo s r lent out at n next) where
  pub rows-valid : valid_image s (image_place s r n) ≡ true → RowsTo s r lent out at (n + 1) next
  rows-valid e = record { put = puts-skip (image_row s r) n h.put (rw e); few = omega (arith, h.few) }

  pub rows-broken : {new : List ℕ} {behind : ℕ} → valid_image s (image_place s r n) ≡ false → Puts out new next (11 ∷ image_place s r n ∷ []) behind
      → RowsTo s r lent new at (n + 1) behind
  rows-broken e b = record { put = puts-next (image_row s r) n h.put (rw e) b; few = omega (arith, b.next, h.few) }
