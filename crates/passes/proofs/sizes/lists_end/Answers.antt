-- `passes::sizes::lists_end` meets its contract: the lists of the icons that are passed end there.
use Rattle.std.proofs.Common.{◌≡◌, ℕ, ◌+◌, ◌*◌, ◌^◌, ◌<◌, List, length, refl, sym, ap, ◌∙◌, arith, add-one, length-append}
use Rattle.format.specs.Bytes.{joined}
use Rattle.catalogue.specs.Row.{row_end}
use Rattle.catalogue.specs.Fields.{image_count, icon_end, catalogue_in}
use Rattle.catalogue.specs.LaidOut.{nth_icon, list_bytes}
use Rattle.catalogue.specs.Written.{lists_up_to}
use Rattle.catalogue.proofs.Laws.Rows.{end-next}
use Rattle.catalogue.proofs.Laws.Written.{part-inside}
use Rattle.passes.specs.Passes.{Judged}
use Rattle.passes.specs.Laws.Icons.{icon-ends, list-size}
use Rattle.passes.proofs.sizes.lists_end.Goals as goal

-- where the list behind that of icon i begins
module _ {c : List ℕ} {n icons first i p : ℕ} (h : Judged c n icons first) (l : i < icons) (here : p ≡ row_end (icon_end c) i first) where
  next : length (lists_up_to (catalogue_in c) (i + 1)) ≡ length (lists_up_to (catalogue_in c) i) + (4 + 8 * image_count c p)
  unfolding joined
  next =
      let d = catalogue_in c in
      rw (add-one i) (omega (arith, list-size h l here, length-append (lists_up_to d i) (list_bytes (nth_icon d i))))

  small : (at : ℕ) → at + length (lists_up_to (catalogue_in c) icons) < 2 ^ 32 → at + length (lists_up_to (catalogue_in c) i) + (4 + 8 * image_count c p) < 2 ^ 32
  small at fits = omega (arith, list-size h l here, part-inside (λ j. list_bytes (nth_icon (catalogue_in c) j)) icons i l)

pub loop-init : goal.loop-init
unfolding joined row_end
loop-init c = record { here = refl; passed = omega arith }

pub list_size-end-requires : goal.list_size-end-requires
list_size-end-requires c = icon-ends c.requires.by_index.1 c.loop-test.true c.loop.invariant.here

pub overflow_add-end : goal.overflow_add-end
overflow_add-end c =
    let inv = c.loop.invariant in
    omega (arith, c.list_size-end.ensures.0, inv.passed, small c.requires.by_index.1 c.loop-test.true inv.here c.args.at c.requires.icons_bound)

pub icon_end-icon-requires : goal.icon_end-icon-requires
icon_end-icon-requires c = icon-ends c.requires.by_index.1 c.loop-test.true c.loop.invariant.here

pub loop-preserved : goal.loop-preserved
loop-preserved c =
    let s = c.args.catalogue.now in
    let inv = c.loop.invariant in
    record {
      here = c.icon_end-icon.ensures ∙ ap (icon_end s) inv.here ∙ sym (end-next (icon_end s) c.loop.counter c.args.first) ∙ rw add-one;
      passed = omega (arith, c.list_size-end.ensures.0, inv.passed, next c.requires.by_index.1 c.loop-test.true inv.here);
    }
