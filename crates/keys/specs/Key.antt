-- What the key of an offset is.
use Rattle.std.specs.Prelude.{ℕ, ◌+◌, ◌*◌, List, [], ◌∷◌, take, drop}
use Rattle.format.specs.Number.{be}
use Rattle.format.specs.String.{string}
use Rattle.keys.specs.declared.Kind.{Kind}
use Rattle.keys.specs.declared.Kind.TheVariants.{Ended, Counted, Offset, Images}

-- the name that follows the byte at p, which says how long it is; no more bytes than there are
abbrev pub name_after : List ℕ → ℕ → List ℕ
name_after s p = take (be 1 s p) (drop (p + 1) s)

-- the image list at p: its count and as many images; no more bytes than there are
abbrev pub list_from : List ℕ → ℕ → List ℕ
list_from s p = take (4 + 8 * be 4 s p) (drop p s)

-- the key of the offset p of s
abbrev pub key_at : Kind → List ℕ → ℕ → List ℕ
key_at Ended s p = string (drop p s)
key_at Counted s p = name_after s p
key_at Offset s p = p ∷ []
key_at Images s p = list_from s p
