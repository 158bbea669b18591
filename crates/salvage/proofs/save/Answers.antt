-- `salvage::save` meets its contract: each way out is a law of the call (`many-refused`,
-- `short-refused`, `saves`).
use Prim.Native.Nat.{◌≤◌}
use mathlib.Core.Logic.{inl, inr}
use native.Mathlib.Omega.{arith}
use lib.ListN.{length}
use Rattle.salvage_spec.specs.Salvage.{icons}
use Rattle.salvage_spec.specs.Call.{salvage_bytes, salvage_words}
use Rattle.salvage.specs.Laws.Pass.{pass-written}
use Rattle.salvage.specs.Laws.Call.{refuses, many-refused, short-refused, saves}
use Rattle.salvage.proofs.save.Goals as goal

pub returns-then-sizes-gt65535 : goal.returns-then-sizes-gt65535
returns-then-sizes-gt65535 c =
    let a = c.args in
    let many = many-refused a.cache.now a.catalogue.now a.report.now c.requires.0.header (c.measure-sizes.ensures.many c.if-sizes-gt65535.true) in
    let h = refuses _ _ _ many (λ z. omega arith) in
    record { answer = h.answer; refused = h.refused; bytes = h.bytes_left; words = h.words_left }

pub returns-then-catalogue-sizes : goal.returns-then-catalogue-sizes
returns-then-catalogue-sizes c =
    let a = c.args in
    let sizes = c.measure-sizes.ensures.whole (omega (arith, c.if-sizes-gt65535.false)) in
    let few : length (icons a.cache.now) ≤ 65535 = omega (arith, sizes.icons, c.if-sizes-gt65535.false) in
    let short = short-refused a.cache.now a.catalogue.now a.report.now c.requires.0.header few (inl (omega (arith, sizes.bytes, c.if-catalogue-sizes.true))) in
    let h = refuses _ _ _ short (λ z. omega arith) in
    record { answer = h.answer; refused = h.refused; bytes = h.bytes_left; words = h.words_left }

pub returns-then-report-sizes : goal.returns-then-report-sizes
returns-then-report-sizes c =
    let a = c.args in
    let sizes = c.measure-sizes.ensures.whole (omega (arith, c.if-sizes-gt65535.false)) in
    let few : length (icons a.cache.now) ≤ 65535 = omega (arith, sizes.icons, c.if-sizes-gt65535.false) in
    let short = short-refused a.cache.now a.catalogue.now a.report.now c.requires.0.header few (inr (omega (arith, sizes.words, c.if-report-sizes.true))) in
    let h = refuses _ _ _ short (λ z. omega arith) in
    record { answer = h.answer; refused = h.refused; bytes = h.bytes_left; words = h.words_left }

pub returns : goal.returns
returns c =
    let a = c.args in
    let sizes = c.measure-sizes.ensures.whole (omega (arith, c.if-sizes-gt65535.false)) in
    let few : length (icons a.cache.now) ≤ 65535 = omega (arith, sizes.icons, c.if-sizes-gt65535.false) in
    let all = pass-written c.pass.ensures few in
    let room : length (salvage_bytes a.cache.now) ≤ length a.catalogue.now = omega (arith, sizes.bytes, c.if-catalogue-sizes.false) in
    let rows : length (salvage_words a.cache.now) ≤ length a.report.now = omega (arith, sizes.words, c.if-report-sizes.false) in
    let h = saves a.cache.now a.catalogue.now a.report.now c.requires.0.header few room rows sizes.bytes sizes.words (all.bytes.filled (omega arith)) (all.words.filled (omega arith)) in
    record { answer = h.answer; refused = h.refused; bytes = h.bytes_left; words = h.words_left }
