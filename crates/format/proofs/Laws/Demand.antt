-- The check's answer in the words of demand 3, and demand 3.
use Rattle.std.specs.Prelude.{ℕ, ◌-◌, ◌≤◌, ◌<◌, ◌≡◌, refl, ◌↔◌, List, length}
use Rattle.std.proofs.Common.{sym, ap, ◌∙◌, mod-lt, arith}
use Rattle.std.proofs.Math.Logic.Iff
use Rattle.format.specs.String.{hash}
use Rattle.format.specs.Header.{buckets, bucket_field, directories}
use Rattle.format.specs.Record.{name_of, bucket_of}
use Rattle.format.specs.Answer.{accepted, refused}
use Rattle.format.specs.Call.{check, lookup}
use Rattle.format.specs.Words.{NoneBelow, OnChain, Holds, Accepted, Loops, Lengths, sum, greatest}
use Rattle.format.specs.Demand.{CheckDemand, LookupKept, Demand3, CheckAnswers}
use Rattle.format.specs.declared.CheckAnswer.{CheckAnswer}
use Rattle.format.proofs.Laws.Faults.{same_number}
use Rattle.format.proofs.Laws.Numbers.{never, of-any}
use Rattle.format.proofs.Laws.Header.{header-valid}
use Rattle.format.proofs.Laws.Rules.{tables-keep-header, tables-number}
use Rattle.format.proofs.Laws.Follow.{at_most_one}
use Rattle.format.proofs.Laws.Links.{on_chain, chain-on, one-step, keeps-bucket, never-breaks, broken-number, holds-short}
use Rattle.format.proofs.Laws.Buckets.{lengths, few, total, check-refuses, answers-accepted, answers-broken, answers-loop}
use Rattle.format.proofs.Laws.Verdict.{Verdict, tables-broken, all_hold, broken, looped, verdict, tables-long, turns-keep}
use Rattle.format.proofs.Laws.Search.{sought}
use Rattle.format.proofs.Laws.Lookup.{query-allowed}
use Rattle.format.proofs.Laws.LookupAnswers.{InChain, in-chain}
use Rattle.format.specs.declared.Reading.{Reading}

number : {a b : CheckAnswer} → a ≡ b → a.number ≡ b.number
number e = ap (λ (a : CheckAnswer). a.number) e

opened : {a b : CheckAnswer} → a ≡ b → a.opened ≡ b.opened
opened e = ap (λ (a : CheckAnswer). a.opened) e

module _ {ρ : Reading} {s : List ℕ} where
  accepts : Accepted ρ s → (len : ℕ → ℕ) → Lengths ρ s (buckets s) len → check ρ s ≡ accepted (directories s) (sum len (buckets s)) (greatest len (buckets s))
  accepts acc len h = answers-accepted len acc.tables-kept h

  loops : {k : ℕ} → Loops ρ s k → check ρ s ≡ refused 12 (bucket_field s k) (length s - 10)
  loops l =
      let (len, h) = lengths l.held in
      answers-loop len (tables-long s l.held.tables-kept) l.bucket l.held.tables-kept h (turns-keep l.turns)

  opens : Verdict ρ s → (check ρ s).opened ≤ length s - 10
  opens (tables-broken e) = omega (arith, opened (check-refuses ρ s e (λ z. omega arith)))
  opens (all_hold acc) =
      let (len, h) = lengths acc in
      omega (arith, opened (accepts acc len h), total len h)
  opens (broken {x = x} l held b) =
      let (len, h) = lengths held in
      let told = opened (answers-broken len l held.tables-kept h b) in
      omega (arith, told, few len h b.keeps (λ c. never-breaks c b), at_most_one x, tables-long s held.tables-kept)
  opens (looped l) = omega (arith, opened (loops l))

  loop-of : Verdict ρ s → (check ρ s).number ≡ 12 → (k : ℕ) × Loops ρ s k
  loop-of (tables-broken e) q =
      let told = number (check-refuses ρ s e (λ z. omega arith)) in
      absurd (never 12 (tables-number s) refl (same_number e ∙ sym told ∙ q))
  loop-of (all_hold acc) q = let (len, h) = lengths acc in absurd (omega (arith, number (accepts acc len h)))
  loop-of (broken l held b) q =
      let (len, h) = lengths held in
      let told = number (answers-broken len l held.tables-kept h b) in
      absurd (never 12 (of-any ρ (broken-number b)) refl (sym told ∙ q))
  loop-of (looped {k = k} l) q = (k, l)

  accepted-of : Verdict ρ s → (check ρ s).number ≡ 0 → Accepted ρ s
  accepted-of (tables-broken e) q = absurd (omega (arith, number (check-refuses ρ s e (λ z. omega arith))))
  accepted-of (all_hold acc) q = acc
  accepted-of (broken l held b) q = let (len, h) = lengths held in absurd (omega (arith, number (answers-broken len l held.tables-kept h b), b.some))
  accepted-of (looped l) q = absurd (omega (arith, number (loops l)))

  module _ (acc : Accepted ρ s) where
    -- a record on the chain of a bucket has a name of that bucket
    chain-bucket : {k n r : ℕ} → k < buckets s → OnChain s k n r → bucket_of s (name_of s r) ≡ k
    chain-bucket l c = keeps-bucket (on_chain (acc.lower _ l).1 c).1

    apart : (j k m n r : ℕ) → j < buckets s → k < buckets s → OnChain s j m r → OnChain s k n r → (j ≡ k) × (m ≡ n)
    apart j k m n r l g c d =
        let e = sym (chain-bucket l c) ∙ chain-bucket g d in
        let h = (acc.lower k g).1 in
        (e, one-step h (on_chain h (rw e at c)).0 (on_chain h d).0 (rw (← e) c.named ∙ sym d.named))

    module _ (name : List ℕ) where
      bucket-below : bucket_of s name < buckets s
      bucket-below = mod-lt (hash name) (header-valid s (tables-keep-header s acc.tables-kept)).buckets-some

      -- no record of the name's chain bears the name: no record of any chain does
      nowhere : {n : ℕ} → Holds ρ s (bucket_of s name) n
          → NoneBelow s name (bucket_of s name) n ↔ ((k m r : ℕ) → k < buckets s → OnChain s k m r → name_of s r ≡ name → ⊥)
      nowhere h = (
        λ none k m r l c e.
            let d : OnChain s (bucket_of s name) m r = rw (sym (chain-bucket l c) ∙ ap (bucket_of s) e) at c in
            none m (on_chain h d).0 (rw d.named e),
        λ none m l. none _ m _ bucket-below (chain-on h l),
      )

pub check-answers : (ρ : Reading) (s : List ℕ) → CheckAnswers ρ s
check-answers ρ s = record {
  accepts = accepts;
  refuses-tables = λ x p e. check-refuses ρ s e (λ z. omega arith);
  refuses-record = λ k n x p len l tables-kept h b. answers-broken len l tables-kept h b;
  refuses-loop = λ k l. loops l;
}

pub check-demand : (ρ : Reading) (s : List ℕ) → CheckDemand ρ s (check ρ s)
check-demand ρ s = record {
  opens = λ l. opens (verdict ρ s);
  loop = (loop-of (verdict ρ s), λ h. number (loops h.1));
  loop-place = λ k l. ap (λ (a : CheckAnswer). a.place) (loops l);
  accepted = (accepted-of (verdict ρ s), λ acc. let (len, h) = lengths acc in number (accepts acc len h));
}

-- a lookup reads shortly, whichever reading accepts the cache
pub lookup-demand : (ρ : Reading) (s name : List ℕ) (room : ℕ) → LookupKept ρ s name (lookup s name room)
lookup-demand ρ s name room acc a =
    let h = acc.lower (bucket_of s name) (bucket-below acc name) in
    record {
      opens = λ n g. (found n g).opens;
      absent = Iff.trans (found h.0 h.1).absent (nowhere acc name h.1);
    }
  where
    found : (n : ℕ) → Holds ρ s (bucket_of s name) n → InChain s name (bucket_of s name) n (lookup s name room)
    found n g =
        in-chain s name (rw (query-allowed s name a) (tables-keep-header s acc.tables-kept)) room (holds-short g) (sought s name (bucket_of s name))

pub demand3 : (ρ : Reading) (s : List ℕ) → Demand3 ρ s
demand3 ρ s = record {
  checks = check-demand ρ s;
  apart = apart;
  few = λ acc len h. total len h;
  looks-up = lookup-demand ρ s;
}
