-- `export::putting::icon` meets its contract: the name is put behind its length, and the images
-- behind their count.
use Rattle.std.proofs.Common.{◌≡◌, ℕ, ◌+◌, ◌*◌, ◌≤◌, List, ◌++◌, length, ap, ◌∙◌, arith, length-append}
use Rattle.format.specs.Bytes.{bytes, put}
use Rattle.format.proofs.Laws.Bytes.{bytes-length}
use Rattle.format.proofs.Laws.Put.{put_then}
use Rattle.catalogue.specs.Catalogue.{icon_bytes}
use Rattle.catalogue.specs.Fields.{AreBytes, part}
use Rattle.catalogue.specs.Listed.{icon_of}
use Rattle.catalogue.proofs.Laws.Spans.{part_length}
use Rattle.export.specs.Parts.{Kept, parts_of}
use Rattle.export.specs.declared.parts.IconParts.{IconParts}
use Rattle.export.specs.Laws.Parts.{icon-inside, icon-length, icon-is}
use Rattle.export.proofs.putting.icon.Goals as goal

-- the parts lie inside, there is room for them, and there are few
record Fits (s : List ℕ) (r : ℕ) (p : IconParts) (place most : ℕ) : Type 0 where
  named : p.name + p.length ≤ length s
  listed : p.images + 8 * p.count ≤ length s
  short : p.length ≤ 255
  few : p.count ≤ 1024
  size : length (icon_bytes (icon_of s r)) ≡ 3 + p.length + 8 * p.count
  room : place + (3 + p.length + 8 * p.count) ≤ most

fits : (s : List ℕ) (r : ℕ) {p : IconParts} (place room : ℕ) → Kept s r → p ≡ parts_of s r → place + length (icon_bytes (icon_of s r)) ≤ room → Fits s r p place room
fits s r place room kept read enough =
    let inside = icon-inside kept in
    let name = ap (λ (p : IconParts). p.name) read in
    let long = ap (λ (p : IconParts). p.length) read in
    let list = ap (λ (p : IconParts). p.images) read in
    let count = ap (λ (p : IconParts). p.count) read in
    let size = icon-length s r in
    record { named = omega arith; listed = omega arith; short = omega arith; few = omega arith; size = omega arith; room = omega arith }

pub overflow_mul-size : goal.overflow_mul-size
overflow_mul-size c =
    let a = c.args in
    let f = fits a.cache.now a.«record» a.place (length a.out.now) c.requires.kept c.icon-parts.ensures c.requires.record_in_bounds in
    omega (arith, f.few)

pub overflow_cast-parts : goal.overflow_cast-parts
overflow_cast-parts c =
    let a = c.args in
    let f = fits a.cache.now a.«record» a.place (length a.out.now) c.requires.kept c.icon-parts.ensures c.requires.record_in_bounds in
    omega (arith, f.short)

pub name-requires : goal.name-requires
name-requires c =
    let a = c.args in
    let f = fits a.cache.now a.«record» a.place (length a.out.now) c.requires.kept c.icon-parts.ensures c.requires.record_in_bounds in
    (f.named, omega (arith, f.room))

pub overflow_cast-parts-2 : goal.overflow_cast-parts-2
overflow_cast-parts-2 c =
    let a = c.args in
    let f = fits a.cache.now a.«record» a.place (length a.out.now) c.requires.kept c.icon-parts.ensures c.requires.record_in_bounds in
    omega (arith, f.few)

pub counted-requires : goal.counted-requires
counted-requires c =
    let a = c.args in
    let f = fits a.cache.now a.«record» a.place (length a.out.now) c.requires.kept c.icon-parts.ensures c.requires.record_in_bounds in
    (f.listed, omega (arith, f.room))

pub overflow_add-result-2 : goal.overflow_add-result-2
overflow_add-result-2 c =
    let a = c.args in
    let f = fits a.cache.now a.«record» a.place (length a.out.now) c.requires.kept c.icon-parts.ensures c.requires.record_in_bounds in
    omega (arith, f.room)

pub returns : goal.returns
returns c =
    let a = c.args in
    let p = c.icon-parts.result in
    let s = a.cache.now in
    let f = fits s a.«record» a.place (length a.out.now) c.requires.kept c.icon-parts.ensures c.requires.record_in_bounds in
    let small : AreBytes s = λ i. omega (arith, c.type_inv.cache i) in
    let front : length (bytes 1 p.length ++ part s p.name p.length) ≡ 1 + p.length =
    length-append (bytes 1 p.length) (part s p.name p.length) ∙ omega (arith, bytes-length 1 p.length, part_length s p.name p.length f.named) in
    let back : length (bytes 2 p.count ++ part s p.images (8 * p.count)) ≡ 2 + 8 * p.count =
    length-append (bytes 2 p.count) (part s p.images (8 * p.count)) ∙ omega (arith, bytes-length 2 p.count, part_length s p.images (8 * p.count) f.listed) in
    record {
      out_after =
          put_then a.out.now a.place (bytes 1 p.length ++ part s p.name p.length) (bytes 2 p.count ++ part s p.images (8 * p.count))
          (omega arith) (omega (arith, f.room)) c.name.ensures c.counted.ensures
          ∙ ap (put a.out.now a.place) (icon-is s small c.icon-parts.ensures c.requires.kept);
      value = omega (arith, f.size);
    }
