-- `icon_cache::find` meets its contract: before the search 13 is judged and then the header, and the
-- bucket searched is the name's.
use Rattle.std.proofs.Common.{◌≡◌, ℕ, Bool, true, false, ◌∙◌, refl, sym, arith}
use Rattle.format.proofs.Laws.Faults.{same_number}
use Rattle.format.proofs.Laws.Outcomes.{broken-by}
use Rattle.std.proofs.Common.{Ok, Err, if◌then◌else◌, mod-lt}
use Rattle.format.proofs.Laws.Hashes.{hash-bucket}
use Rattle.format.proofs.Laws.Lookup.{query-unallowed, query-allowed, find-refuses, find-searches}
use Rattle.tables.specs.Laws.{valid-header, same-buckets}
use Rattle.icon_cache.proofs.find.Goals as goal

-- whether the name may be asked for, and its hash
asked-err : (b : Bool) (h g : ℕ) {x : ℕ} → Err x ≡ (if b then Ok h else Err g) → b ≡ false
asked-err true h g e = cc
asked-err false h g e = refl

asked-ok : (b : Bool) (h g : ℕ) {x : ℕ} → Ok x ≡ (if b then Ok h else Err g) → (b ≡ true) × (x ≡ h)
asked-ok true h g e = (refl, cc)
asked-ok false h g e = cc

pub returns-in_default : goal.returns-in_default
returns-in_default c =
    let refused = query-unallowed _ _ (asked-err _ _ _ (sym c.in_default.is ∙ c.asked.ensures)) in
    c.unfound.ensures ∙ sym (find-refuses _ _ refused (λ z. omega arith))

pub returns-in-Err : goal.returns-in-Err
returns-in-Err c =
    let may_be = asked-ok _ _ _ c.in-Ok.ensures in
    let broken = broken-by _ _ _ c.in-Err.ensures in
    c.unfound-in-Err.ensures ∙ sym (find-refuses _ _ (query-allowed _ _ may_be.0 ∙ sym broken.1) (λ z. broken.0 (sym (same_number broken.1) ∙ z)))

pub nonzero_rem-bucket : goal.nonzero_rem-bucket
nonzero_rem-bucket c = let read = c.read-t.ensures in rw (same-buckets read) (valid-header read).buckets-some

pub search-requires-clause-bucket_bound : goal.search-requires-clause-bucket_bound
search-requires-clause-bucket_bound c = let read = c.read-t.ensures in rw (same-buckets read) (mod-lt _ (valid-header read).buckets-some)

pub returns : goal.returns
returns c =
    let may_be = asked-ok _ _ _ c.in-Ok.ensures in
    let bucket-is = hash-bucket _ _ may_be.1 (same-buckets c.read-t.ensures) in
    let asks = same_number (query-allowed _ _ may_be.0) ∙ c.read-t.ensures.header in
    c.search.ensures ∙ rw bucket-is (sym (find-searches _ _ asks))
