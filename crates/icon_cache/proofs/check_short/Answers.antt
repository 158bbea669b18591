-- `icon_cache::check_short` meets its contract: a broken rule of the header, then one of a path, is
-- the first of the rules 1 to 6, 16 and 17 that is broken, and without one the buckets decide.
use Rattle.std.proofs.Common.{◌∙◌, sym}
use Rattle.format.specs.declared.Reading.TheVariants.{Short}
use Rattle.format.proofs.Laws.Faults.{same_number}
use Rattle.format.proofs.Laws.Outcomes.{kept-by, broken-by}
use Rattle.format.proofs.Laws.Rules.{tables-header, tables-paths}
use Rattle.format.proofs.Laws.Buckets.{check-goes-on, check-refuses}
use Rattle.icon_cache.proofs.Meets.{meets-demand, meets-longest}
use Rattle.icon_cache.proofs.check_short.Goals as goal

pub returns-in-Err-clause-answer : goal.returns-in-Err-clause-answer
returns-in-Err-clause-answer c =
    let broken = broken-by _ _ _ c.in-Err.ensures in
    let e = c.refused.ensures ∙ sym (check-refuses Short _ (tables-header _ broken.0 ∙ sym broken.1) (λ z. broken.0 (sym (same_number broken.1) ∙ z))) in
    e

pub returns-in-Err-clause-demand : goal.returns-in-Err-clause-demand
returns-in-Err-clause-demand c =
    let broken = broken-by _ _ _ c.in-Err.ensures in
    let e = c.refused.ensures ∙ sym (check-refuses Short _ (tables-header _ broken.0 ∙ sym broken.1) (λ z. broken.0 (sym (same_number broken.1) ∙ z))) in
    meets-demand Short _ e

pub returns-in-Err-paths-clause-answer : goal.returns-in-Err-paths-clause-answer
returns-in-Err-paths-clause-answer c =
    let broken = broken-by _ _ _ c.in-Err-paths.ensures in
    let e = c.refused-in-Err-paths.ensures ∙ sym (check-refuses Short _ (tables-paths _ c.read-t.ensures.header ∙ sym broken.1) (λ z. broken.0 (sym (same_number broken.1) ∙ z))) in
    e

pub returns-in-Err-paths-clause-demand : goal.returns-in-Err-paths-clause-demand
returns-in-Err-paths-clause-demand c =
    let broken = broken-by _ _ _ c.in-Err-paths.ensures in
    let e = c.refused-in-Err-paths.ensures ∙ sym (check-refuses Short _ (tables-paths _ c.read-t.ensures.header ∙ sym broken.1) (λ z. broken.0 (sym (same_number broken.1) ∙ z))) in
    meets-demand Short _ e

pub returns-clause-answer : goal.returns-clause-answer
returns-clause-answer c =
    let kept = kept-by _ _ _ c.in_default-paths.ensures in
    let e = c.check_buckets.ensures ∙ sym (check-goes-on Short _ (same_number (tables-paths _ c.read-t.ensures.header) ∙ kept.0)) in
    e

pub returns-clause-demand : goal.returns-clause-demand
returns-clause-demand c =
    let kept = kept-by _ _ _ c.in_default-paths.ensures in
    let e = c.check_buckets.ensures ∙ sym (check-goes-on Short _ (same_number (tables-paths _ c.read-t.ensures.header) ∙ kept.0)) in
    meets-demand Short _ e

pub returns-clause-longest : goal.returns-clause-longest
returns-clause-longest c =
    let kept = kept-by _ _ _ c.in_default-paths.ensures in
    let e = c.check_buckets.ensures ∙ sym (check-goes-on Short _ (same_number (tables-paths _ c.read-t.ensures.header) ∙ kept.0)) in
    meets-longest Short _ e
