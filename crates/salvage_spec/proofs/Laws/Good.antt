-- The catalogue is good: the writer answers neither 18 nor 20 to it.
use Prim.Native.Nat.{ℕ, zero, suc, ◌+◌, ◌^◌, ◌≤◌, ◌<◌}
use Rattle.std.specs.Prelude.{◌≡◌, Bool, eqb, leb, if◌then◌else◌}
use Rattle.std.proofs.Math.Path.{refl}
use Rattle.std.proofs.Common.{sym, ◌∙◌, pow-suc}
use mathlib.Core.List.{List, [], ◌∷◌}
use Rattle.std.proofs.Math.Bool.{true, false, not, and-eq-true_iff}
use native.Mathlib.Omega.{arith}
use borrow.Author.Tests.{ne_eqb, lt-ltb, eqb-true, eqb-false, leb-true}
use Rattle.std.proofs.Math.ListN.{length, get_or-map}
use Rattle.std.proofs.lemmas.List.{length-map}
use Rattle.format.specs.Number.{be}
use Rattle.format.specs.Part.{list_inside}
use Rattle.format.specs.Header.{header_fault, directories, buckets, path_fault}
use Rattle.format.specs.Record.{name_part, images_at, images, valid_index, valid_image_list, valid_image}
use Rattle.format.specs.Words.{link}
use Rattle.format.proofs.Laws.Header.{header-valid}
use Rattle.format.proofs.Laws.Records.{name-valid}
use Rattle.format.proofs.Laws.Texts.{whole-allowed}
use Rattle.format.proofs.Laws.Images.{names-directory}
use Rattle.catalogue.specs.Catalogue.{Image, Icon, Each, icon_is, names, NoneTwice, allowed_image, GoodImage, GoodIcon, Good}
use Rattle.catalogue.specs.Fields.{AreBytes}
use Rattle.format.specs.Bytes.{joined}
use Rattle.salvage_spec.specs.Meetings.{met}
use Rattle.salvage_spec.specs.Salvage.{paths_below, new_index, reindexed, kept_image, image_place, icon, chain_icons, icons, catalogue}
use Rattle.salvage_spec.proofs.Laws.Lists.{few-joined, each-joined, any-two-at}
use Rattle.salvage_spec.proofs.Laws.Paths.{paths-few, paths-good, index_below}
use Rattle.salvage_spec.proofs.Laws.Kept.{Kept, kept-right}
use Rattle.salvage_spec.proofs.Laws.Names.{of-kept, names-differ}

-- numbers of w bytes are below 256 to the w
be-below : (s : List ℕ) → AreBytes s → (w p : ℕ) → be w s p < 256 ^ w
unfolding be
be-below s small zero p = omega arith
be-below s small (suc w) p = rw (pow-suc 256 w) (omega (arith, be-below s small w p, small (p + w)))

module _ (s : List ℕ) where
  image-few : (p : ℕ) → length (kept_image s p) ≤ 1
  unfolding kept_image
  image-few p = go (valid_image s p) (eqb (directories s) 0) (path_fault s (be 2 s p)).number
    where
      go : (a b : Bool) (x : ℕ)
          → length (if not a then [] else if b then reindexed s p (be 2 s p) ∷ [] else
          elim x as (λ y. List Image) [ zero ↦ reindexed s p (new_index s (be 2 s p)) ∷ [] | suc y ↦ [] ]) ≤ 1
      go false b x = omega arith
      go true true x = omega arith
      go true false zero = omega arith
      go true false (suc x) = omega arith

  images-few : (r : ℕ) → valid_image_list s (images_at s r) ≡ true → length (icon s r).images ≤ 1024
  unfolding icon
  images-few r e =
      let most : images s r ≤ 1024 = leb-true _ _ ((and-eq-true_iff (list_inside s (images_at s r) 8) _).0 e).1 in
      omega (arith, few-joined (λ i. kept_image s (image_place s r i)) (images s r) (λ i l. image-few (image_place s r i)))

  module _ (small : AreBytes s) where
    abbrev count : ℕ
    count = length (paths_below s (directories s))

    flags-right : (p : ℕ) → valid_image s p ≡ true → leb (be 2 s (p + 2)) 15 ≡ true
    flags-right p e = ((and-eq-true_iff (valid_index (directories s) (be 2 s p)) _).0 e).1

    -- an image that is kept, with no directories in the file, and with some
    image-good : (p : ℕ) → Each (GoodImage count) (kept_image s p)
    unfolding kept_image paths_below joined
    image-good p = go (valid_image s p) refl (eqb (directories s) 0) refl (path_fault s (be 2 s p)).number refl
      where
        offset : be 4 s (p + 4) < 2 ^ 32
        offset = be-below s small 4 (p + 4)

        as-it-stands : valid_image s p ≡ true → directories s ≡ 0 → allowed_image count (reindexed s p (be 2 s p)) ≡ true
        as-it-stands e q = rw q (rw q at e)

        closed-up : valid_image s p ≡ true → (directories s ≡ 0 → ⊥) → (path_fault s (be 2 s p)).number ≡ 0
            → allowed_image count (reindexed s p (new_index s (be 2 s p))) ≡ true
        closed-up e some kept =
            let index : be 2 s p < directories s = names-directory s p e some in
            let below = index_below s (directories s) (be 2 s p) index kept in
            let filled : count ≡ 0 → ⊥ = λ z. omega arith in
            rw (ne_eqb count 0 filled, lt-ltb _ _ below) (flags-right p e)

        go : (a : Bool) → valid_image s p ≡ a → (b : Bool) → eqb (directories s) 0 ≡ b → (x : ℕ) → (path_fault s (be 2 s p)).number ≡ x
            → Each (GoodImage count) (if not a then [] else if b then reindexed s p (be 2 s p) ∷ [] else
            elim x as (λ y. List Image) [ zero ↦ reindexed s p (new_index s (be 2 s p)) ∷ [] | suc y ↦ [] ])
        go false e b q x o = tt
        go true e true q x o = ((as-it-stands e (eqb-true _ _ q), offset), tt)
        go true e false q zero o = ((closed-up e (eqb-false _ _ q) o, offset), tt)
        go true e false q (suc x) o = tt

    icon-good : (k n : ℕ) → Kept s k n → GoodIcon count (icon s (link s k n))
    unfolding icon
    icon-good k n h = record {
      named = whole-allowed (name_part s (link s k n)) (name-valid s k (link s k n) h.named).named;
      few = images-few (link s k n) h.listed;
      images-good = each-joined _ _ (images s (link s k n)) (λ i l. image-good (image_place s (link s k n) i));
    }

    icons-good : Each (GoodIcon count) (icons s)
    unfolding icons chain_icons
    icons-good = each-joined _ _ (buckets s) (λ k l. each-joined _ _ (met s k) (λ n g. of-kept s _ k n (λ e. icon-good k n (kept-right s k n e))))

    names_apart : NoneTwice (names (icons s))
    names_apart i j l g e =
        any-two-at _ (icons s) (icon_is [] []) (names-differ s) i j l (omega (arith, length-map (icons s) (λ (x : Icon). x.name)))
        (sym (get_or-map (λ (x : Icon). x.name) (icons s) i (icon_is [] [])) ∙ e ∙ get_or-map (λ (x : Icon). x.name) (icons s) j (icon_is [] []))

    pub good : (header_fault s).number ≡ 0 → Good (catalogue s)
    unfolding catalogue
    good e = record {
      paths-few = omega (arith, paths-few s (directories s), (header-valid s e).directories-few);
      paths-good = paths-good s (directories s);
      icons-good = icons-good;
      none-twice = names_apart;
    }
