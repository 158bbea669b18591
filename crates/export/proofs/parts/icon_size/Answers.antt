-- `export::parts::icon_size` meets its contract: the sizes of the parts add up.
use Rattle.std.proofs.Common.{◌≡◌, List, ℕ, length, ap, arith}
use Rattle.format.specs.Record.{name_of, images}
use Rattle.export.specs.Parts.{parts_of}
use Rattle.export.specs.declared.parts.IconParts.{IconParts}
use Rattle.export.specs.Laws.Parts.{icon-inside, icon-length}
use Rattle.export.proofs.parts.icon_size.Goals as goal

name-size : (s : List ℕ) (r : ℕ) {p : IconParts} → p ≡ parts_of s r → p.length ≡ length (name_of s r)
name-size s r read = ap (λ (p : IconParts). p.length) read

count-is : (s : List ℕ) (r : ℕ) {p : IconParts} → p ≡ parts_of s r → p.count ≡ images s r
count-is s r read = ap (λ (p : IconParts). p.count) read

pub overflow_add-result : goal.overflow_add-result
overflow_add-result c = omega (arith, name-size c.args.cache.now c.args.«record» c.icon-parts.ensures, icon-inside c.requires)

pub overflow_mul-result : goal.overflow_mul-result
overflow_mul-result c = omega (arith, count-is c.args.cache.now c.args.«record» c.icon-parts.ensures, icon-inside c.requires)

pub overflow_add-result-2 : goal.overflow_add-result-2
overflow_add-result-2 c = omega (arith, name-size c.args.cache.now c.args.«record» c.icon-parts.ensures, count-is c.args.cache.now c.args.«record» c.icon-parts.ensures, icon-inside c.requires)

pub returns : goal.returns
returns c =
    let name = name-size c.args.cache.now c.args.«record» c.icon-parts.ensures in
    let count = count-is c.args.cache.now c.args.«record» c.icon-parts.ensures in
    let inside = icon-inside c.requires in
    (omega (arith, icon-length c.args.cache.now c.args.«record»), omega arith)
