-- The icon of a record that is kept: of which bytes of the cache it is made.
use Rattle.std.specs.Prelude.{ℕ, ◌+◌, ◌≤◌, ◌≡◌, List, ◌++◌, length, take, drop}
use Rattle.std.proofs.Math.Path.{sym, ap}
use Rattle.std.proofs.Common.{◌∙◌, append_assoc, arith}
use Rattle.format.specs.Number.{be}
use Rattle.format.specs.Bytes.{bytes, joined}
use Rattle.format.specs.String.{string}
use Rattle.format.specs.Record.{name_of, name_part, images}
use Rattle.format.proofs.Laws.Strings.{whole-string, string-front}
use Rattle.format.proofs.Laws.Texts.{whole-inside}
use Rattle.catalogue.specs.Catalogue.{icon_bytes}
use Rattle.salvage_spec.specs.Salvage.{icon}
use Rattle.salvage_spec.specs.Pieces.{image_piece, images_piece}
use Rattle.salvage_spec.proofs.Laws.Pieces.{image-pieces}
use Rattle.salvage_icons.specs.Kept.{Kept}

-- what is read of the record r: where its name stands, and how long it is
pub record Read (s : List ℕ) (r name size : ℕ) : Type 0 where
  pub at : name ≡ be 4 s (r + 4)
  pub long : size ≡ length (string (drop name s))

module _ {s : List ℕ} {r name size : ℕ} (h : Read s r name size) where
  read-size : size ≡ length (name_of s r)
  read-size = h.long ∙ ap (λ p. length (string (drop p s))) h.at

  text-is : take size (drop name s) ≡ name_of s r
  text-is = ap (λ n. take n (drop name s)) read-size ∙ ap (λ p. take (length (name_of s r)) (drop p s)) h.at ∙ string-front (name_part s r)

  pub icon-is : bytes 1 size ++ take size (drop name s) ++ images_piece s r ≡ icon_bytes (icon s r)
  unfolding icon
  icon-is =
      ap (λ t. bytes 1 size ++ t ++ images_piece s r) text-is
      ∙ ap (λ n. bytes 1 n ++ name_of s r ++ images_piece s r) read-size
      ∙ sym (append_assoc (bytes 1 (length (name_of s r)) ++ name_of s r) (bytes 2 (length (icon s r).images)) (joined (image_piece s r) (images s r)))
      ∙ ap (λ t. bytes 1 (length (name_of s r)) ++ name_of s r ++ bytes 2 (length (icon s r).images) ++ t) (sym (image-pieces s r))

  -- the name lies inside and is short
  module _ (kept : Kept s r) where
    pub name-inside : name + size ≤ length s
    name-inside = omega (arith, read-size, h.at, whole-inside 255 s (be 4 s (r + 4)) kept.named)

    pub name-short : size ≤ 255
    name-short = omega (arith, read-size, (whole-string 255 (name_part s r) kept.named).within)
