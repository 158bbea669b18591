-- `search::seek` meets its contract: each way out is a law of what a field leads to, as in
-- `follow`, and a record that bears the name keeps rules 8, 17 and 9 (`bears-home`), so `judge` may
-- be told.
use Rattle.std.proofs.Common.{◌≡◌, ℕ, List, false, ◌∙◌, refl, sym, arith}
use Rattle.format.specs.declared.Reading.TheVariants.{Short}
use Rattle.format.specs.Chain.{follow}
use Rattle.format.proofs.Laws.Faults.{same_number}
use Rattle.format.proofs.Laws.Outcomes.{kept-by, broken-by}
use Rattle.format.proofs.Laws.Records.{bears-home}
use Rattle.format.proofs.Laws.Rules.{record-valid}
use Rattle.format.proofs.Laws.Follow.{follow-end, follow-outside, follow-broken, follow-record}
use Rattle.format.specs.declared.Next.TheVariants.{End, Broken}
use Rattle.search.specs.Seek.{seen, Seeks}
use Rattle.search.specs.declared.Seen.{Seen}
use Rattle.search.proofs.seek.Goals as goal

-- the two ways without a record
module _ (s name : List ℕ) (k f : ℕ) {a : Seen} where
  at-end : a ≡ seen End false → follow Short s k f ≡ End → Seeks s name k f a
  at-end e q = rw e (record { next = sym q; bears = λ r h. let z : ◌≡◌ {A = ℕ} 0 1 = cc in absurd (omega arith) })

  at-broken : {x p : ℕ} → a ≡ seen (Broken x p) false → follow Short s k f ≡ Broken x p → Seeks s name k f a
  at-broken e q = rw e (record { next = sym q; bears = λ r h. let z : ◌≡◌ {A = ℕ} 0 1 = cc in absurd (omega arith) })

pub returns-then-value : goal.returns-then-value
returns-then-value c = at-end _ _ _ _ c.nameless.ensures (follow-end Short _ _ _ c.u32_at-value.ensures c.if-value.true)

pub returns-then-cache-record : goal.returns-then-cache-record
returns-then-cache-record c = at-broken _ _ _ _ c.nameless-then-cache-record.ensures (follow-outside Short _ _ _ c.u32_at-value.ensures c.if-value.false c.if-cache-record.true)

pub judge-requires : goal.judge-requires
judge-requires c =
    let pre = c.requires in
    record { tables_of = pre.tables_of; record_in_bounds = c.if-cache-record.false; record_value = λ e. bears-home _ _ _ _ pre.name_value.1 (sym c.bears-bears.ensures ∙ e) }

pub returns-in-Ok : goal.returns-in-Ok
returns-in-Ok c =
    let kept = kept-by _ _ _ c.in-Ok.ensures in
    record {
      next = sym (follow-record Short _ _ _ c.u32_at-value.ensures c.if-value.false c.if-cache-record.false refl kept.0);
      bears = λ r h.
          let named = (record-valid Short _ _ _ kept.0).named in
          let q : c.u32_at-value.result ≡ r = cc in
          c.bears-bears.ensures ∙ rw (named, q);
    }

pub returns-in-Err : goal.returns-in-Err
returns-in-Err c =
    let broken = broken-by _ _ _ c.in-Err.ensures in
    at-broken _ _ _ _ c.nameless-in-Err.ensures
    (follow-broken Short _ _ _ c.u32_at-value.ensures c.if-value.false c.if-cache-record.false broken.1 (λ z. broken.0 (sym (same_number broken.1) ∙ z)))
