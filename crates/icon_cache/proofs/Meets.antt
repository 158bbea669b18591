-- What equals the definition's answer of the check meets demand 3 and request 9, and the result of
-- a directory's path is the definition's answer.
use Rattle.std.specs.Prelude.{ℕ, ◌+◌, ◌≡◌, ◌≤◌, ◌<◌, refl, List, length, take, drop, Result, Ok, Err, IfErr}
use Rattle.std.proofs.Common.{sym, ap, ◌∙◌, arith}
use Rattle.format.specs.Fault.{no_fault, outcome}
use Rattle.format.specs.Header.{path_fault}
use Rattle.format.specs.Call.{check, lookup, answer_words, lookup_words, directory_fault, directory, directory_part, directory_path}
use Rattle.format.specs.Demand.{CheckDemand, LookupKept, LongestDemand, OpensWithin}
use Rattle.format.specs.declared.CheckAnswer.{CheckAnswer}
use Rattle.format.specs.Answer.{directory_is}
use Rattle.format.specs.declared.DirectoryPart.{DirectoryPart}
use Rattle.format.specs.declared.Fault.{Fault}
use Rattle.format.specs.declared.LookupAnswer.{LookupAnswer}
use Rattle.format.specs.declared.Reading.{Reading}
use Rattle.format.specs.declared.Reading.TheVariants.{Short}
use Rattle.format.proofs.Laws.Demand.{check-demand, lookup-demand}
use Rattle.format.proofs.Laws.Directory.{part-refused, part-judged, part-inside, part-path}
use Rattle.format.proofs.Laws.Faults.{or_else-next, or_else-none, unless-none, unless-kept}
use Rattle.format.proofs.Laws.Longest.{longest-demand}
use Rattle.format.proofs.Laws.Outcomes.{kept-by, broken-by}
use Rattle.tables.specs.Tables.{part_of}
use Rattle.tables.specs.declared.PathPart.{PathPart}
use Rattle.icon_cache.specs.Answers.{part_answer}

module _ (ρ : Reading) (s : List ℕ) {a : CheckAnswer} (e : a ≡ check ρ s) where
  pub meets-demand : CheckDemand ρ s a
  meets-demand = rw e (check-demand ρ s)

  pub meets-longest : LongestDemand ρ s a
  meets-longest = rw e (longest-demand ρ s)

-- the same of the lookup
module _ (s name words : List ℕ) {a : LookupAnswer} (e : a ≡ lookup s name (length words)) where
  pub lookup-lent : {after : List ℕ} → after ≡ answer_words s words a → after ≡ lookup_words s name words
  lookup-lent lent = lent ∙ ap (answer_words s words) e

  pub lookup-meets : LookupKept Short s name a
  lookup-meets = rw e (lookup-demand Short s name (length words))

  pub lookup-opens : OpensWithin s a
  lookup-opens accepted = rw e ((longest-demand Short s).most accepted name (length words))

pub directory-clean : (s : List ℕ) (i : ℕ) → (directory_fault s i).number ≡ 0 → directory_fault s i ≡ no_fault
unfolding directory_fault path_fault
directory-clean s i e =
    let header = or_else-none _ _ e in
    let index = or_else-none _ _ header.1 in
    let whole = or_else-none _ _ index.1 in
    let relative = or_else-none _ _ whole.1 in
    or_else-next _ _ header.0
    ∙ or_else-next _ _ index.0
    ∙ or_else-next _ _ whole.0
    ∙ or_else-next _ _ relative.0
    ∙ unless-kept _ _ _ (unless-none _ 15 _ relative.1)

-- a result by what is judged of the index
module _ (s : List ℕ) (i : ℕ) where
  pub part-answered : (r : Result PathPart Fault) → r ≡ outcome (directory_fault s i) (part_of s i) → part_answer r ≡ directory_part s i
  part-answered (Ok part) e =
      let kept = kept-by _ _ _ e in
      rw kept.1 (sym (part-judged _ _ (directory-clean _ _ kept.0)))
  part-answered (Err v) e =
      let broken = broken-by _ _ _ e in
      rw broken.1 (sym (part-refused _ _ refl broken.0))

  pub part-numbered : (r : Result PathPart Fault) → r ≡ outcome (directory_fault s i) (part_of s i) → IfErr r (λ v. 0 < v.number)
  part-numbered (Ok part) e = tt
  part-numbered (Err v) e =
      let broken = broken-by _ _ _ e in
      rw broken.1 (omega (arith, broken.0))

-- what goes by the answer of a directory's part
module _ (s : List ℕ) (i : ℕ) {a : DirectoryPart} (e : a ≡ directory_part s i) where
  pub judged-alike : directory_is a.number a.place ≡ directory s i
  unfolding directory_part directory
  judged-alike = ap (λ (a : DirectoryPart). directory_is a.number a.place) e

  pub ends-inside : a.start + a.length ≤ length s
  ends-inside = rw e (part-inside s i)

  pub is-path : take a.length (drop a.start s) ≡ directory_path s i
  is-path = rw e (part-path s i)
