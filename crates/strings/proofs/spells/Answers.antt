-- `strings::spells` meets its contract: the part spells the name exactly if it begins with it and a
-- zero byte (`Begins`).
use Rattle.std.proofs.Common.{◌≡◌, ℕ, ◌<◌, Bool, true, false, List, length, get_or, take, nat_eq, sym, ◌∙◌, arith, eqb-true, le-ltb, eq-eqb}
use Rattle.std.proofs.lemmas.Bool.{false≢true}
use mathlib.Core.Bool.{not-eq-not}
use Rattle.std.specs.Cmp.Lexicographic.{pointwise, same_text, other_text}
use Rattle.format.specs.String.{spells_name, allowed}
use Rattle.format.proofs.Laws.Names.{Begins, spells-begins, begins-spells}
use Rattle.strings.proofs.spells.Goals as goal
use Rattle.strings.proofs.spells.Goals.{then-part-end, else-part-end}

module _ (part name : List ℕ) where
  -- where the part does not begin so
  otherwise : (Begins part name → ⊥) → false ≡ spells_name part name
  otherwise h = sym ((not-eq-not {b = false}).0 (λ e. h (spells-begins part name e)))

  -- with a zero byte behind as many bytes as the name has, these decide
  decided : allowed name ≡ true → length name < length part → get_or part (length name) 0 ≡ 0 → (r : Bool) → r ≡ pointwise nat_eq name (take (length name) part) → r ≡ spells_name part name
  decided may room ended true e =
      sym (begins-spells part name may (record { bytes = sym (same_text name (take (length name) part) e); room = room; ended = ended }))
  decided may room ended false e = otherwise (λ b. other_text name (take (length name) part) e (sym b.bytes))

pub returns-then-part-end-eq0 : goal.returns-then-part-end-eq0
returns-then-part-end-eq0 c = elim c.if-part-end.branch [
  | then-part-end w ↦
      let ended = eqb-true _ _ (sym w.value-is ∙ c.if-part-end-eq0.true) in
      decided c.args.part.now c.args.name.now c.requires w.if-part-end.true ended c.starts_with.result c.starts_with.ensures.value
  | else-part-end w ↦ absurd (false≢true (sym (le-ltb _ _ w.if-part-end.false) ∙ sym w.value-is ∙ c.if-part-end-eq0.true))
]

pub returns-else-part-end-eq0 : goal.returns-else-part-end-eq0
returns-else-part-end-eq0 c = elim c.if-part-end.branch [
  | then-part-end w ↦
      c.if-part-end-eq0.false ∙ otherwise _ _ (λ b. false≢true (sym c.if-part-end-eq0.false ∙ w.value-is ∙ eq-eqb _ _ b.ended))
  | else-part-end w ↦ c.if-part-end-eq0.false ∙ otherwise _ _ (λ b. omega (arith, b.room, w.if-part-end.false))
]
