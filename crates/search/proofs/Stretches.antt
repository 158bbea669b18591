-- What a stretch of a search tells where a record comes next.
use Prim.Native.Nat.{ℕ, suc, ◌+◌, ◌≤◌}
use mathlib.Core.Path.{◌≡◌, sym, ap, ◌∙◌}
use mathlib.Core.List.{List}
use mathlib.Core.Bool.{true, false}
use native.Mathlib.Omega.{arith}
use lib.ListN.{length}
use Rattle.format.specs.Record.{name_of}
use Rattle.format.specs.Chain.{follow, opens}
use Rattle.format.specs.Answer.{found}
use Rattle.format.specs.Call.{search_bucket}
use Rattle.format.specs.Words.{link, NoneBelow}
use Rattle.format.proofs.Laws.Below.{below_suc}
use Rattle.format.proofs.Laws.Search.{search-finds}
use Rattle.format.specs.declared.Next.TheVariants.{Record}
use Rattle.format.specs.declared.Reading.TheVariants.{Short}
use Rattle.chains.specs.Walk.{Stands}
use Rattle.chains.proofs.Way.{leads-link, leads_keeps, leads-on}
use Rattle.search.specs.Seek.{SeeksTo}
use Rattle.search.specs.declared.Sought.{Sought}

module _ {s name : List ℕ} {k stop : ℕ} {a : Sought} (w : SeeksTo s name k stop a) (small : length s ≤ 16777216) {r : ℕ} (q : a.next ≡ Record r) where
  led : follow Short s k w.field ≡ Record r
  led = sym w.next ∙ q

  at : r ≡ link s k w.passed
  at = leads-link w.stands small led

  counts : a.opened ≡ w.passed + 1
  counts = w.opened ∙ ap (λ l. w.passed + opens l) q

  -- the search stands there
  pub sought-stands : Stands s k r a.opened
  sought-stands = leads-on w.stands small led counts

  -- it bears the name
  pub sought-found : a.bears ≡ true → found r a.opened ≡ search_bucket s name k
  sought-found b =
      let here = leads_keeps w.stands small led w.passed (omega arith) in
      let same = ap (name_of s) (sym at) ∙ w.met r q b in
      ap (found r) counts ∙ ap (λ x. found x (w.passed + 1)) at ∙ sym (search-finds s name k w.passed w.stands.keeps w.none here same)

  -- it does not, and is the last that may be looked at
  module _ (b : a.bears ≡ false) where
    pub sought-last : a.opened ≡ stop + 1
    sought-last = omega (arith, counts, (w.unmet r q b).1)

    pub sought-none : NoneBelow s name k (suc stop)
    sought-none =
        let (other, full) = w.unmet r q b in
        let more = below_suc w.none (λ e. other (ap (name_of s) at ∙ e)) in
        λ m l. more m (omega arith)
