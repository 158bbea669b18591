-- `chains::go_round` meets its contract. The loop's invariant: as many steps lead to the field at
-- hand as records were opened.
use Rattle.std.proofs.Common.{◌≡◌, ◌+◌, ◌-◌, ◌∙◌, ap, arith}
use native.Mathlib.Nat.{sub_self}
use Rattle.rounds.specs.Stepping.{ahead}
use Rattle.rounds.specs.Laws.{ahead-next}
use Rattle.chains.specs.Walk.{stepped_to}
use Rattle.chains.proofs.go_round.Goals as goal

pub loop-opened-init : goal.loop-opened-init
unfolding ahead
loop-opened-init c = record { onward = omega arith; within = c.requires.opened_bound.0; stepped = rw sub_self }

pub u32_at-field-requires : goal.u32_at-field-requires
u32_at-field-requires c =
    omega (arith, c.loop-opened.invariant.stepped, c.requires.inside_below (c.loop-opened.opened - c.args.opened) (omega arith))

pub loop-opened-preserved : goal.loop-opened-preserved
loop-opened-preserved c =
    let first = c.args.opened in
    let later : c.loop-opened.opened - first + 1 ≡ c.loop-opened.opened + 1 - first = omega arith in
    record {
      onward = omega arith;
      within = omega arith;
      stepped = rw later at (ahead-next _ _ _ c.loop-opened.invariant.stepped c.u32_at-field.ensures);
    }

pub returns : goal.returns
returns c =
    let a = c.args in
    let all : c.loop-opened.opened ≡ a.most + 1 = omega arith in
    ap (stepped_to c.loop-opened.opened) c.loop-opened.invariant.stepped ∙ rw all
