-- `salvage_icons::icon::put` meets its contract: the parts of the icon are put one behind the
-- other.
use native.Mathlib.Omega.{arith}
use Rattle.format.proofs.Laws.Bytes.{bytes-length}
use Rattle.filling.specs.Laws.{puts-more}
use Rattle.catalogue.proofs.Laws.Spans.{part_length}
use Rattle.salvage_icons.specs.Laws.Icon.{Read, icon-is, name-inside, name-short}
use Rattle.salvage_icons.proofs.icon.put.Goals as goal
use Prim.Native.Nat.{ℕ, ◌+◌, ◌≤◌}
use mathlib.Core.List.{List}
use lib.ListN.{take, drop}
use Rattle.format.specs.Bytes.{bytes}
use Rattle.filling.specs.Puts.{Puts}
use Rattle.salvage_icons.specs.Kept.{Kept}

-- where the images go
images-at : {s lent out a b : List ℕ} {r name size at p q : ℕ} → Read s r name size → Kept s r → Puts lent out at (bytes 1 size) p → Puts a b p (take size (drop name s)) q → q ≤ at + 256
images-at {s} {name = name} {size = size} read kept first second =
    omega (
      arith,
      name-short read kept,
      first.next,
      bytes-length 1 size,
      second.next,
      part_length s name size (name-inside read kept),
    )

pub overflow_cast-size : goal.overflow_cast-size
overflow_cast-size c =
    let read : Read c.args.cache.now c.args.«record» c.u32_at-name.result c.name_length-size.result = record { at = c.u32_at-name.ensures; long = c.name_length-size.ensures } in
    omega (arith, name-short read c.requires.2)

pub text-images_at-requires : goal.text-images_at-requires
text-images_at-requires c =
    let read : Read c.args.cache.now c.args.«record» c.u32_at-name.result c.name_length-size.result = record { at = c.u32_at-name.ensures; long = c.name_length-size.ensures } in (
      name-inside read c.requires.2,
      omega (arith, name-short read c.requires.2, c.byte-name_at.ensures.next, bytes-length 1 c.name_length-size.result, c.requires.3),
    )

pub put-requires : goal.put-requires
put-requires c =
    let read : Read c.args.cache.now c.args.«record» c.u32_at-name.result c.name_length-size.result = record { at = c.u32_at-name.ensures; long = c.name_length-size.ensures } in
    (c.requires.0, c.requires.1, c.requires.2, omega (arith, images-at read c.requires.2 c.byte-name_at.ensures c.text-images_at.ensures, c.requires.3))

pub returns : goal.returns
returns c =
    let read : Read c.args.cache.now c.args.«record» c.u32_at-name.result c.name_length-size.result = record { at = c.u32_at-name.ensures; long = c.name_length-size.ensures } in
    let all = puts-more (puts-more c.byte-name_at.ensures c.text-images_at.ensures) c.put.ensures.0 in
    (rw (icon-is read) at all, omega (arith, c.put.ensures.1, images-at read c.requires.2 c.byte-name_at.ensures c.text-images_at.ensures))
