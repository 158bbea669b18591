-- Request 2 keeps what it promises.
use Rattle.std.specs.Prelude.{ℕ, ◌≡◌, List, length}
use Rattle.std.proofs.Common.{sym, ap, ◌∙◌}
use Rattle.format.specs.Header.{buckets}
use Rattle.format.specs.Chain.{all_records}
use Rattle.format.specs.Call.{check}
use Rattle.format.specs.Words.{Accepted}
use Rattle.format.specs.declared.CheckAnswer.{CheckAnswer}
use Rattle.format.proofs.Laws.Order.{records-length}
use Rattle.format.proofs.Laws.Buckets.{lengths}
use Rattle.format.proofs.Laws.Demand.{check-answers}
use Rattle.format.specs.declared.Reading.TheVariants.{Short}
use Rattle.listing.specs.Paging.{Pages}
use Rattle.listing.proofs.Laws.Lists.{each-once, lists-all}
use Rattle.listing.proofs.Laws.Ends.{ends}
use Rattle.listing.proofs.Laws.Endless.{endless}
use Rattle.listing.proofs.Laws.Opens.{opens}

module _ {s : List ℕ} (acc : Accepted Short s) where
  as_many : length (all_records Short s) ≡ (check Short s).icons
  as_many = let (len, h) = lengths acc in records-length len (buckets s) h ∙ sym (ap (λ (a : CheckAnswer). a.icons) ((check-answers Short s).accepts acc len h))

pub pages : (s : List ℕ) → Pages s
pages s = record {
  each-once = λ acc. let (len, h) = lengths acc in each-once acc len h;
  as_many = as_many;
  lists = λ acc. let (len, h) = lengths acc in lists-all acc len h;
  ends = ends s;
  endless = endless s;
  opens = opens s;
}
