-- `pick::judge_kinds` meets its contract. The loop's invariant: the judgement of the directories
-- that are left is that of all.
use Rattle.std.proofs.Common.{◌≡◌, ◌+◌, ◌-◌, ◌*◌, ◌∙◌, sym, ap, arith}
use Rattle.std.proofs.lemmas.Bool.{le-leb, lt-leb}
use Rattle.format.specs.Fault.{fault, step_on, verdict}
use Rattle.pick.specs.Pick.{kind_fault}
use Rattle.format.proofs.Laws.Faults.{unless-broken, first-end, first-stop, first-go-on}
use Rattle.pick.proofs.judge_kinds.Goals as goal

pub returns-then-words-at-gt2 : goal.returns-then-words-at-gt2
returns-then-words-at-gt2 c =
    let w = c.args.words.now in
    let i = c.loop-i.i in
    let n = c.args.n - i in
    let broken : kind_fault w (6 * i) ≡ fault 32 (6 * i) = unless-broken _ 32 _ (lt-leb _ 2 c.if-words-at-gt2.true) in
    let first = first-stop (kind_fault w) (step_on 6) (6 * i) n (omega arith) (rw broken (λ z. omega arith)) in
    rw (← c.loop-i.invariant, first, broken)

pub loop-i-preserved : goal.loop-i-preserved
loop-i-preserved c =
    let i = c.loop-i.i in
    let here : 6 * (i + 1) ≡ 6 * i + 6 = omega arith in
    rw here (sym (first-go-on _ _ _ _ (c.args.n - (i + 1)) (omega arith) (rw (le-leb _ 2 c.if-words-at-gt2.false))) ∙ c.loop-i.invariant)

pub returns : goal.returns
returns c = rw (← c.loop-i.invariant) (sym (ap verdict (first-end _ _ _ _ (omega arith))))
