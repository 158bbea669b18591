-- `pick::judge_words` meets its contract: the count is that of the cache's directories, and a law
-- for each of the two ways.
use Rattle.std.proofs.Common.{◌∙◌, sym, ap}
use Rattle.format.specs.Fault.{verdict}
use Rattle.tables.specs.Laws.{same-directories}
use Rattle.pick.proofs.Laws.Answer.{words-miscounted, words-counted}
use Rattle.pick.proofs.judge_words.Goals as goal

pub returns-then-words-n : goal.returns-then-words-n
returns-then-words-n c = let s = c.args.cache.now in rw (words-miscounted s c.args.words.now (rw (same-directories c.read-t.ensures) at c.if-words-n.true))

pub returns : goal.returns
returns c =
    let read = c.read-t.ensures in
    c.judge_kinds.ensures ∙ rw (same-directories read) (sym (ap verdict (words-counted _ _ (rw (same-directories read) at c.if-words-n.false))))
