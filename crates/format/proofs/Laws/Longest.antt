-- Request 9: what the check says of the longest chain.
use Rattle.std.specs.Prelude.{ℕ, ◌≤◌, ◌<◌, ◌≡◌, refl, List, Bool, true, false}
use Rattle.std.proofs.Common.{sym, ap, ◌∙◌, mod-lt, arith}
use Rattle.format.specs.String.{hash, allowed}
use Rattle.format.specs.Header.{buckets}
use Rattle.format.specs.Record.{bucket_of}
use Rattle.format.specs.Call.{check, lookup}
use Rattle.format.specs.Words.{Holds, Accepted, Lengths, greatest}
use Rattle.format.specs.Demand.{LongestDemand}
use Rattle.format.specs.declared.CheckAnswer.{CheckAnswer}
use Rattle.format.specs.declared.LookupAnswer.{LookupAnswer}
use Rattle.format.proofs.Laws.Header.{header-valid}
use Rattle.format.proofs.Laws.Rules.{tables-keep-header}
use Rattle.format.proofs.Laws.Order.{greatest-most, greatest-some}
use Rattle.format.proofs.Laws.Buckets.{lengths}
use Rattle.format.proofs.Laws.Verdict.{Verdict, tables-broken, all_hold, broken, looped, verdict}
use Rattle.format.proofs.Laws.Lookup.{query-unallowed}
use Rattle.format.proofs.Laws.LookupAnswers.{lookup-answers}
use Rattle.format.proofs.Laws.Demand.{check-answers, check-demand, lookup-demand}
use Rattle.format.specs.declared.Reading.{Reading}

longest : {a b : CheckAnswer} → a ≡ b → a.longest ≡ b.longest
longest e = ap (λ (a : CheckAnswer). a.longest) e

module _ {ρ : Reading} {s : List ℕ} (acc : Accepted ρ s) {len : ℕ → ℕ} (h : Lengths ρ s (buckets s) len) where
  some-bucket : 0 < buckets s
  some-bucket = (header-valid s (tables-keep-header s acc.tables-kept)).buckets-some

  says : (check ρ s).longest ≡ greatest len (buckets s)
  says = longest ((check-answers ρ s).accepts acc len h)

  some : (k : ℕ) × (k < buckets s) × Holds ρ s k (check ρ s).longest
  some = let (k, l, e) = greatest-some len (buckets s) some-bucket in (k, l, rw (e ∙ sym says) at (h k l))

  -- a name that is not allowed is refused before a record is opened
  most : (name : List ℕ) (room : ℕ) (a : Bool) → allowed name ≡ a → (lookup s name room).opened ≤ (check ρ s).longest
  most name room true a =
      let l : bucket_of s name < buckets s = mod-lt (hash name) some-bucket in
      omega (arith, (lookup-demand ρ s name room acc a).opens _ (h _ l), greatest-most len (buckets s) l, says)
  most name room false a =
      let refused = (lookup-answers s name room).refuses-query _ _ (query-unallowed s name a) in
      omega (arith, ap (λ (b : LookupAnswer). b.opened) refused)

refused : {ρ : Reading} {s : List ℕ} → Verdict ρ s → ((check ρ s).number ≡ 0 → ⊥) → (check ρ s).longest ≡ 0
refused {ρ} {s} (tables-broken e) x = longest ((check-answers ρ s).refuses-tables _ _ e)
refused {ρ} {s} (all_hold acc) x = absurd (x ((check-demand ρ s).accepted.1 acc))
refused {ρ} {s} (broken l held b) x =
    let (len, h) = lengths held in
    longest ((check-answers ρ s).refuses-record _ _ _ _ len l held.tables-kept h b)
refused {ρ} {s} (looped l) x = longest ((check-answers ρ s).refuses-loop _ l)

pub longest-demand : (ρ : Reading) (s : List ℕ) → LongestDemand ρ s (check ρ s)
longest-demand ρ s = record {
  some = λ e. let acc = (check-demand ρ s).accepted.0 e in some acc (lengths acc).1;
  most = λ e name room. let acc = (check-demand ρ s).accepted.0 e in most acc (lengths acc).1 name room (allowed name) refl;
  refused = refused (verdict ρ s);
}
