-- `plain_lookup::plain_lookup` meets its contract: before each turn none of the records tried bears
-- the name.
use Rattle.std.proofs.Common.{◌≡◌, ℕ, ◌+◌, List, length, Bool, true, false, ◌∙◌, refl, sym, ap, arith}
use Rattle.std.proofs.Common.{Ok, Err, if◌then◌else◌}
use Rattle.std.specs.Result.{is_err}
use Rattle.format.specs.String.{allowed}
use Rattle.format.specs.Answer.{looked_up}
use Rattle.format.specs.Call.{found_answer, answer_words}
use Rattle.format.specs.Chain.{nth_name}
use Rattle.format.specs.declared.CheckAnswer.{CheckAnswer}
use Rattle.format.specs.declared.LookupAnswer.{LookupAnswer}
use Rattle.format.proofs.Laws.Below.{below_suc}
use Rattle.format.proofs.Laws.Lookup.{answer_keeps}
use Rattle.format.proofs.Laws.Rules.{tables-keep-header}
use Rattle.format.proofs.Laws.Links.{keeps-listed}
use Rattle.tables.specs.Laws.{valid-header}
use Rattle.tables.specs.Tables.{Sound}
use Rattle.in_order.specs.Laws.{records-few, here-keeps, here-below}
use Rattle.plain_lookup.specs.Plain.{plain_lookup, plain_words}
use Rattle.plain_lookup.proofs.Laws.Tried.{bears-name, bears-other, tried-met, tried-none, plain-unallowed, plain-refused, plain-met, plain-none}
use Rattle.plain_lookup.proofs.plain_lookup.Goals as goal

-- whether the name may be asked for
asked-err : (b : Bool) (h g : ℕ) → true ≡ is_err (if b then Ok h else Err g) → b ≡ false
asked-err true h g e = cc
asked-err false h g e = refl

asked-ok : (b : Bool) (h g : ℕ) → false ≡ is_err (if b then Ok h else Err g) → b ≡ true
asked-ok true h g e = refl
asked-ok false h g e = cc

-- an answer with another number than 0 leaves the words as they were
words-left : (s name words : List ℕ) {a : LookupAnswer} → a ≡ plain_lookup s name (length words) → (a.number ≡ 0 → ⊥) → words ≡ plain_words s name words
words-left s name words {a} e some = sym (answer_keeps s words a some) ∙ ap (answer_words s words) e

pub returns-then-is_err-clause-answer : goal.returns-then-is_err-clause-answer
returns-then-is_err-clause-answer c =
    let unallowed = asked-err _ _ _ (rw (c.asked.ensures, c.if-is_err.true) at c.is_err.ensures.value) in
    let told = c.without.ensures in
    let e = told ∙ sym (plain-unallowed _ _ _ unallowed) in
    e

pub returns-then-is_err-clause-lent : goal.returns-then-is_err-clause-lent
returns-then-is_err-clause-lent c =
    let unallowed = asked-err _ _ _ (rw (c.asked.ensures, c.if-is_err.true) at c.is_err.ensures.value) in
    let told = c.without.ensures in
    let e = told ∙ sym (plain-unallowed _ _ _ unallowed) in
    words-left _ _ _ e (λ z. omega (arith, ap (λ (a : LookupAnswer). a.number) told))

pub returns-then-check-ne0-clause-answer : goal.returns-then-check-ne0-clause-answer
returns-then-check-ne0-clause-answer c =
    let may_be : allowed c.args.name.now ≡ true = asked-ok _ _ _ (rw (c.asked.ensures, c.if-is_err.false) at c.is_err.ensures.value) in
    let told = c.without-then-check-ne0.ensures in
    let e = told ∙ sym (plain-refused _ _ _ may_be c.check_short-check.ensures.answer c.if-check-ne0.true) in
    e

pub returns-then-check-ne0-clause-lent : goal.returns-then-check-ne0-clause-lent
returns-then-check-ne0-clause-lent c =
    let may_be : allowed c.args.name.now ≡ true = asked-ok _ _ _ (rw (c.asked.ensures, c.if-is_err.false) at c.is_err.ensures.value) in
    let told = c.without-then-check-ne0.ensures in
    let e = told ∙ sym (plain-refused _ _ _ may_be c.check_short-check.ensures.answer c.if-check-ne0.true) in
    words-left _ _ _ e (λ z. c.if-check-ne0.true (sym (ap (λ (a : LookupAnswer). a.number) told) ∙ z))

pub read-t-requires : goal.read-t-requires
read-t-requires c =
    let accepted = c.check_short-check.ensures.demand.accepted.0 c.if-check-ne0.false in
    tables-keep-header _ accepted.tables-kept

pub overflow_add-at : goal.overflow_add-at
overflow_add-at c =
    let accepted = c.check_short-check.ensures.demand.accepted.0 c.if-check-ne0.false in
    let sound : Sound c.args.cache.now c.read-t.result = record { tables = c.read-t.ensures; accepted = accepted } in
    let here = c.loop-at.invariant.at.here c.loop-at-test.true in
    omega (arith, here-below accepted here, records-few accepted, valid-header sound.tables)

pub with_images-requires-clause-record_in_bounds_2 : goal.with_images-requires-clause-record_in_bounds_2
with_images-requires-clause-record_in_bounds_2 c =
    let here = c.loop-at.invariant.at.here c.loop-at-test.true in
    keeps-listed (here-keeps here)

pub returns-then-bears-clause-answer : goal.returns-then-bears-clause-answer
returns-then-bears-clause-answer c =
    let may_be : allowed c.args.name.now ≡ true = asked-ok _ _ _ (rw (c.asked.ensures, c.if-is_err.false) at c.is_err.ensures.value) in
    let kept = ap (λ (a : CheckAnswer). a.number) (sym c.check_short-check.ensures.answer) ∙ c.if-check-ne0.false in
    let accepted = c.check_short-check.ensures.demand.accepted.0 c.if-check-ne0.false in
    let here = c.loop-at.invariant.at.here c.loop-at-test.true in
    let s = c.args.cache.now in
    let own = bears-name here _ c.bears.ensures c.if-bears.true in
    let tried = tried-met s _ (here-below accepted here) c.loop-at.invariant.none own in
    let found = plain-met s _ (length c.args.words.now) may_be kept tried in
    let same = c.loop-at.invariant.lent in
    let e = c.with_images.ensures.answer
    ∙ ap (λ w. found_answer s (length w) c.loop-at.at.«record» (c.loop-at.at.number + 1)) same
    ∙ ap (λ r. found_answer s (length c.args.words.now) r (c.loop-at.at.number + 1)) here.is
    ∙ sym found in
    e

pub returns-then-bears-clause-lent : goal.returns-then-bears-clause-lent
returns-then-bears-clause-lent c =
    let may_be : allowed c.args.name.now ≡ true = asked-ok _ _ _ (rw (c.asked.ensures, c.if-is_err.false) at c.is_err.ensures.value) in
    let kept = ap (λ (a : CheckAnswer). a.number) (sym c.check_short-check.ensures.answer) ∙ c.if-check-ne0.false in
    let accepted = c.check_short-check.ensures.demand.accepted.0 c.if-check-ne0.false in
    let here = c.loop-at.invariant.at.here c.loop-at-test.true in
    let s = c.args.cache.now in
    let own = bears-name here _ c.bears.ensures c.if-bears.true in
    let tried = tried-met s _ (here-below accepted here) c.loop-at.invariant.none own in
    let found = plain-met s _ (length c.args.words.now) may_be kept tried in
    let same = c.loop-at.invariant.lent in
    let e = c.with_images.ensures.answer
    ∙ ap (λ w. found_answer s (length w) c.loop-at.at.«record» (c.loop-at.at.number + 1)) same
    ∙ ap (λ r. found_answer s (length c.args.words.now) r (c.loop-at.at.number + 1)) here.is
    ∙ sym found in
    c.with_images.ensures.lent ∙ ap (λ w. answer_words s w c.with_images.result) same ∙ ap (answer_words s c.args.words.now) e

pub loop-at-smaller : goal.loop-at-smaller
loop-at-smaller c =
    let accepted = c.check_short-check.ensures.demand.accepted.0 c.if-check-ne0.false in
    let here = c.loop-at.invariant.at.here c.loop-at-test.true in
    omega (arith, here-below accepted here, c.next-at.ensures.1)

pub loop-at-preserved : goal.loop-at-preserved
loop-at-preserved c =
    let here = c.loop-at.invariant.at.here c.loop-at-test.true in
    let differs = bears-other here _ c.bears.ensures c.if-bears.false in
    record {
      lent = c.loop-at.invariant.lent;
      at = c.next-at.ensures.0;
      none = λ i g. below_suc {P = λ j. nth_name _ j ≡ _ → ⊥} c.loop-at.invariant.none differs i (omega (arith, c.next-at.ensures.1));
    }

pub returns-clause-answer : goal.returns-clause-answer
returns-clause-answer c =
    let may_be : allowed c.args.name.now ≡ true = asked-ok _ _ _ (rw (c.asked.ensures, c.if-is_err.false) at c.is_err.ensures.value) in
    let kept = ap (λ (a : CheckAnswer). a.number) (sym c.check_short-check.ensures.answer) ∙ c.if-check-ne0.false in
    let s = c.args.cache.now in
    let all = c.loop-at.invariant.at.all c.loop-at-test.false in
    let tried = tried-none s _ (λ i g. c.loop-at.invariant.none i (omega arith)) in
    let told = c.without-2.ensures in
    let e = told ∙ ap (looked_up 30 0 0) all ∙ sym (plain-none s _ _ may_be kept tried) in
    e

pub returns-clause-lent : goal.returns-clause-lent
returns-clause-lent c =
    let may_be : allowed c.args.name.now ≡ true = asked-ok _ _ _ (rw (c.asked.ensures, c.if-is_err.false) at c.is_err.ensures.value) in
    let kept = ap (λ (a : CheckAnswer). a.number) (sym c.check_short-check.ensures.answer) ∙ c.if-check-ne0.false in
    let s = c.args.cache.now in
    let all = c.loop-at.invariant.at.all c.loop-at-test.false in
    let tried = tried-none s _ (λ i g. c.loop-at.invariant.none i (omega arith)) in
    let told = c.without-2.ensures in
    let e = told ∙ ap (looked_up 30 0 0) all ∙ sym (plain-none s _ _ may_be kept tried) in
    c.loop-at.invariant.lent ∙ words-left _ _ _ e (λ z. omega (arith, ap (λ (a : LookupAnswer). a.number) told))
