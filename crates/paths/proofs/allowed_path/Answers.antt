-- `paths::allowed_path` meets its contract: an `if` for each part of the definition. A text
-- within the limit has a first byte, and its segments were read to its end.
use mathlib.Core.Path.{refl, sym, ap, ◌∙◌}
use borrow.Author.Tests.{eq-eqb, ne_eqb}
use lib.ListN.{take}
use lib.Seq.{take_all}
use Rattle.format.specs.Segments.{valid_segments, allowed_path}
use Rattle.format.proofs.Laws.Texts.{text-tells}
use Rattle.paths.proofs.allowed_path.Goals as goal

pub returns-then-not-within : goal.returns-then-not-within
unfolding allowed_path
returns-then-not-within c = rw (sym (c.within.ensures 1023 _ refl c.read_path-read.ensures.extent) ∙ c.if-not-within.true)

pub bounds-path-0 : goal.bounds-path-0
bounds-path-0 c =
    let told = sym (c.within.ensures 1023 _ refl c.read_path-read.ensures.extent) ∙ c.if-not-within.false in
    (text-tells 1023 _ told).some

pub returns-then-path-eq47 : goal.returns-then-path-eq47
unfolding allowed_path
returns-then-path-eq47 c =
    let told = sym (c.within.ensures 1023 _ refl c.read_path-read.ensures.extent) ∙ c.if-not-within.false in
    rw (told, eq-eqb _ _ c.if-path-eq47.true)

pub returns : goal.returns
unfolding allowed_path
returns c =
    let told = sym (c.within.ensures 1023 _ refl c.read_path-read.ensures.extent) ∙ c.if-not-within.false in
    let text = text-tells 1023 _ told in
    rw (told, ne_eqb _ _ c.if-path-eq47.false)
    (c.read_path-read.ensures.segments ∙ ap (λ t. valid_segments (take 1023 t)) text.uncut ∙ rw (take_all _ _ text.within))
