-- `search::stretch` meets its contract. The loop's invariant: the search stands on the chain, at
-- the present field, and no record passed bears the name.
use Rattle.std.proofs.Common.{◌≡◌, ℕ, ◌+◌, ◌≤◌, List, length, Bool, true, false, ◌∙◌, sym, ap, arith}
use Rattle.std.proofs.lemmas.Bool.{false≢true}
use Rattle.format.specs.Record.{name_of}
use Rattle.format.specs.Chain.{opens}
use Rattle.format.specs.Words.{NoneBelow}
use Rattle.format.proofs.Laws.Below.{below_suc}
use Rattle.format.proofs.Laws.Follow.{opens_one}
use Rattle.format.proofs.Laws.Names.{same-equal, other-unequal}
use Rattle.format.specs.declared.Next.TheVariants.{Record}
use Rattle.tables.specs.Laws.{valid-header}
use Rattle.chains.specs.Walk.{Stands}
use Rattle.chains.proofs.Way.{leads-link, leads-on}
use Rattle.search.specs.Seek.{Seeks, SeeksTo}
use Rattle.search.specs.declared.Seen.{Seen}
use Rattle.search.proofs.stretch.Goals as goal

-- the answer where a record comes next, whether it bears the name or is the last that may be looked
-- at
tells : {s name : List ℕ} {k f o stop met n : ℕ} {a : Seen} → Stands s k f o → o ≤ stop → NoneBelow s name k o → Seeks s name k f a → a.next ≡ Record met
    → n ≡ o + 1 → (b : Bool) → a.bears ≡ b → (b ≡ false → o ≡ stop) → SeeksTo s name k stop (record { opened = n; next = Record met; bears = b })
tells {s} {name} {k} {f} {o} {stop} {met} {n} {a} stands few none w is opened b known full = record {
  field = f;
  passed = o;
  stands = stands;
  few = few;
  none = none;
  next = sym is ∙ w.next;
  opened = opened;
  met = λ r q yes. same-equal _ _ (sym (w.bears r (is ∙ q)) ∙ known ∙ yes);
  unmet = λ r q not. (other-unequal _ _ (sym (w.bears r (is ∙ q)) ∙ known ∙ not), full not);
}

pub loop-record-init : goal.loop-record-init
loop-record-init c = let pre = c.requires in record { few = pre.opened_le_stop.0; stands = pre.stands.0; none = pre.stands.1 }

pub seek-seen-requires : goal.seek-seen-requires
seek-seen-requires c = let pre = c.requires in record { tables_of = pre.tables_of; field_in_bounds = c.loop-record.invariant.stands.inside; name_value = pre.name_value }

pub overflow_add-opened : goal.overflow_add-opened
overflow_add-opened c = omega (arith, opens_one c.seek-seen.result.next, c.opens-opened.ensures, c.loop-record.invariant.few)

pub returns-in_default : goal.returns-in_default
returns-in_default c =
    let inv = c.loop-record.invariant in
    record {
      field = c.loop-record.field;
      passed = c.loop-record.opened;
      stands = inv.stands;
      few = inv.few;
      none = inv.none;
      next = c.seek-seen.ensures.next;
      opened = ap (λ n. c.loop-record.opened + n) c.opens-opened.ensures;
      met = λ r q b. absurd (false≢true b);
      unmet = λ r q b. absurd (c.in_default.not-Record r q);
    }

pub returns-then-seen : goal.returns-then-seen
returns-then-seen c =
    let opened = ap (λ n. c.loop-record.opened + n) (c.opens-opened.ensures ∙ ap opens c.in-Record.is) in
    let inv = c.loop-record.invariant in
    tells inv.stands inv.few inv.none c.seek-seen.ensures c.in-Record.is opened true c.if-seen.true (λ is. absurd (false≢true (sym is)))

pub returns-then-stop-opened : goal.returns-then-stop-opened
returns-then-stop-opened c =
    let opened = ap (λ n. c.loop-record.opened + n) (c.opens-opened.ensures ∙ ap opens c.in-Record.is) in
    let inv = c.loop-record.invariant in
    tells inv.stands inv.few inv.none c.seek-seen.ensures c.in-Record.is opened false c.if-seen.false (λ is. omega (arith, opened, c.if-stop-opened.true, inv.few))

pub loop-record-smaller : goal.loop-record-smaller
loop-record-smaller c =
    let opened = ap (λ n. c.loop-record.opened + n) (c.opens-opened.ensures ∙ ap opens c.in-Record.is) in
    omega (arith, opened)

pub loop-record-preserved : goal.loop-record-preserved
loop-record-preserved c =
    let small : length c.args.cache.now ≤ 16777216 = omega (arith, valid-header c.requires.tables_of) in
    let led = sym c.seek-seen.ensures.next ∙ c.in-Record.is in
    let opened = ap (λ n. c.loop-record.opened + n) (c.opens-opened.ensures ∙ ap opens c.in-Record.is) in
    let inv = c.loop-record.invariant in
    let other = other-unequal _ _ (sym (c.seek-seen.ensures.bears _ c.in-Record.is) ∙ c.if-seen.false) in
    let more = below_suc inv.none (λ e. other (ap (name_of _) (leads-link inv.stands small led) ∙ e)) in
    record { few = c.if-stop-opened.false; stands = leads-on inv.stands small led opened; none = λ m l. more m (omega (arith, opened)) }
