-- `salvage_icons::images::put` meets its contract. The loop's invariant is `PutTo`: the images
-- passed that stay are put and counted. Their count is put before them (`put_all`).
use Prim.Native.Nat.{ℕ, ◌+◌}
use mathlib.Core.Path.{◌≡◌, refl}
use mathlib.Core.List.{List, []}
use Rattle.std.specs.Prelude.{Option, Some, None}
use Rattle.salvage_spec.specs.Salvage.{kept_image}
use Rattle.salvage_paths.specs.Closed.{KeepsImage}
use native.Mathlib.Omega.{arith}
use Rattle.format.specs.Record.{images}
use Rattle.format.proofs.Laws.Bytes.{bytes-length}
use Rattle.tables.specs.Laws.{valid-header, same-directories}
use Rattle.salvage_icons.specs.Laws.Images.{scan, put-none, put-stays, put-goes, put_all}
use Rattle.salvage_icons.proofs.images.put.Goals as goal
use Rattle.salvage_icons.proofs.images.put.Goals.{in-Some, in_default}

-- an image that does not stay goes
goes_unless : (s : List ℕ) (p : ℕ) (r : Option ℕ) → KeepsImage s p r → ((i : ℕ) → r ≡ Some i → ⊥) → kept_image s p ≡ []
goes_unless s p None e n = e
goes_unless s p (Some i) e n = absurd (n i refl)

pub valid_words-valid-requires : goal.valid_words-valid-requires
valid_words-valid-requires c = omega (arith, same-directories c.requires.0, valid-header c.requires.0)

pub loop-i-init : goal.loop-i-init
loop-i-init c = put-none _ _ _ _

pub loop-i-preserved : goal.loop-i-preserved
loop-i-preserved c =
    let h = scan _ c.args.«record» c.valid_words-valid.ensures (same-directories c.requires.0) c.list-all.ensures in
    elim c.match-keep_image.branch [
      | in-Some w ↦
          rw (w.out-is, w.stay-is, w.next-is) (put-stays c.loop-i.invariant (rw h.first at w.in-Some.ensures) (rw h.first at w.put_image-next.ensures))
      | in_default w ↦
          let gone = goes_unless _ _ _ c.keep_image.ensures w.in_default.not-Some in
          rw (w.out-is, w.stay-is, w.next-is) (put-goes c.loop-i.invariant (rw h.first at gone))
    ]

pub returns : goal.returns
returns c =
    let h = scan _ c.args.«record» c.valid_words-valid.ensures (same-directories c.requires.0) c.list-all.ensures in
    let all : c.loop-i.i ≡ images c.args.cache.now c.args.«record» = omega (arith, h.count) in
    let next : c.args.at + 2 ≡ c.short.result = omega (arith, c.short.ensures.next, bytes-length 2 c.loop-i.stay) in
    (put_all c.loop-i.invariant all (rw next c.short.ensures), omega (arith, c.loop-i.invariant.next-few, h.count, c.requires.2.few))
