-- `icon_cache::lookup` meets its contract: a record that is found keeps the rules, so that its
-- images lie inside (`found-keeps`), and the words are written in the one case that answers 0.
use Rattle.std.proofs.Common.{◌∙◌, sym}
use Rattle.format.proofs.Laws.Links.{keeps-listed}
use Rattle.format.proofs.Laws.Lookup.{lookup-found, lookup-unfound, answer_keeps}
use Rattle.format.proofs.Laws.LookupAnswers.{found-keeps}
use Rattle.icon_cache.proofs.Meets.{lookup-lent, lookup-meets, lookup-opens}
use Rattle.icon_cache.proofs.lookup.Goals as goal

pub returns-then-found-ne0-clause-answer : goal.returns-then-found-ne0-clause-answer
returns-then-found-ne0-clause-answer c = sym (lookup-unfound _ _ _ (sym c.find-found.ensures) c.if-found-ne0.true)

pub returns-then-found-ne0-clause-lent : goal.returns-then-found-ne0-clause-lent
returns-then-found-ne0-clause-lent c =
    let e = sym (lookup-unfound _ _ _ (sym c.find-found.ensures) c.if-found-ne0.true) in
    lookup-lent _ _ _ e (sym (answer_keeps _ _ _ c.if-found-ne0.true))

pub returns-then-found-ne0-clause-demand : goal.returns-then-found-ne0-clause-demand
returns-then-found-ne0-clause-demand c =
    let e = sym (lookup-unfound _ _ _ (sym c.find-found.ensures) c.if-found-ne0.true) in
    lookup-meets _ _ c.args.words.now e

pub returns-then-found-ne0-clause-longest : goal.returns-then-found-ne0-clause-longest
returns-then-found-ne0-clause-longest c =
    let e = sym (lookup-unfound _ _ _ (sym c.find-found.ensures) c.if-found-ne0.true) in
    lookup-opens _ _ c.args.words.now e

pub with_images-requires-clause-record_in_bounds : goal.with_images-requires-clause-record_in_bounds
with_images-requires-clause-record_in_bounds c = (found-keeps _ _ (sym c.find-found.ensures) c.if-found-ne0.false).inside

pub with_images-requires-clause-record_in_bounds_2 : goal.with_images-requires-clause-record_in_bounds_2
with_images-requires-clause-record_in_bounds_2 c = keeps-listed (found-keeps _ _ (sym c.find-found.ensures) c.if-found-ne0.false)

pub returns-clause-answer : goal.returns-clause-answer
returns-clause-answer c =
    let e = c.with_images.ensures.answer ∙ sym (lookup-found _ _ _ (sym c.find-found.ensures) c.if-found-ne0.false) in
    e

pub returns-clause-lent : goal.returns-clause-lent
returns-clause-lent c =
    let e = c.with_images.ensures.answer ∙ sym (lookup-found _ _ _ (sym c.find-found.ensures) c.if-found-ne0.false) in
    lookup-lent _ _ _ e c.with_images.ensures.lent

pub returns-clause-demand : goal.returns-clause-demand
returns-clause-demand c =
    let e = c.with_images.ensures.answer ∙ sym (lookup-found _ _ _ (sym c.find-found.ensures) c.if-found-ne0.false) in
    lookup-meets _ _ c.args.words.now e

pub returns-clause-longest : goal.returns-clause-longest
returns-clause-longest c =
    let e = c.with_images.ensures.answer ∙ sym (lookup-found _ _ _ (sym c.find-found.ensures) c.if-found-ne0.false) in
    lookup-opens _ _ c.args.words.now e
