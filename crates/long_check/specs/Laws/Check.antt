-- The long check's answer, from the short one's and from what the records it found sound are like
-- by the long rules.
use Rattle.std.specs.Prelude.{ℕ, suc, ◌-◌, ◌<◌, ◌≡◌, List}
use Rattle.std.proofs.Math.Path.{refl, sym}
use Rattle.std.proofs.Common.{ap, ◌∙◌, arith, ne_eqb}
use Rattle.std.proofs.Math.Nat.{le_refl}
use Rattle.std.proofs.Math.ListN.{length}
use Rattle.format.specs.Fault.{fault}
use Rattle.format.specs.Header.{tables_fault, buckets}
use Rattle.format.specs.Chain.{itself}
use Rattle.format.specs.Answer.{refused}
use Rattle.format.specs.Call.{check}
use Rattle.format.specs.Words.{TablesKept, Lengths, Region, Accepted, HeldBefore, Breaks, Loops, sum}
use Rattle.format.specs.declared.CheckAnswer.{CheckAnswer}
use Rattle.format.specs.declared.Reading.TheVariants.{Short, Long}
use Rattle.format.proofs.Laws.Numbers.{never}
use Rattle.format.proofs.Laws.Links.{never-breaks, broken-number, breaks-long}
use Rattle.format.proofs.Laws.Buckets.{lengths, few, total}
use Rattle.format.proofs.Laws.Verdict.{Verdict, tables-broken, all_hold, broken, looped, verdict, tables-long, turns, turns-keep, endless}
use Rattle.format.proofs.Laws.Demand.{check-answers}
use Rattle.long_check.specs.Scan.{BreaksLong}
use Rattle.long_check.specs.Check.{unsound, sound_records, Decided}

-- of a record that breaks a rule, and of no other, it is one more that was opened
unsound-is : (x : ℕ) → (x ≡ 0 → ⊥) → (x ≡ 12 → ⊥) → unsound x ≡ itself x
unsound-is x some turns = rw (ne_eqb x 0 some, ne_eqb x 12 turns)

by_answer : {s : List ℕ} {a : CheckAnswer} {sound : ℕ} → check Short s ≡ a → sound_records a ≡ sound → Decided s sound → Decided s (sound_records (check Short s))
by_answer e is d = rw (e, is) d

module _ (s : List ℕ) where
  -- chains with their lengths, and some records of the next
  region : {len : ℕ → ℕ} {k : ℕ} → Lengths Short s k len → Region Short s len k 0
  region h = record { below = h; keeps = λ m l. absurd (omega arith) }

  none-sound : {x p : ℕ} → tables_fault s ≡ fault (suc x) p → Decided s (sound_records (check Short s))
  unfolding sound_records sum
  none-sound {x} {p} e =
      let says = (check-answers Short s).refuses-tables x p e in
      by_answer says (omega arith) (record {
        to = record {
          len = λ j. 0;
          bucket = 0;
          count = 0;
          region = region (λ j l. absurd (omega arith));
          last = omega arith;
          some = λ l. absurd (omega arith);
          all = refl;
          few = omega arith;
        };
        tables-kept = λ l. absurd (omega arith);
        same = λ each. (check-answers Long s).refuses-tables x p e ∙ sym says;
      })

  all_sound : Accepted Short s → Decided s (sound_records (check Short s))
  unfolding sound_records
  all_sound acc =
      let (len, h) = lengths acc in
      let says = (check-answers Short s).accepts acc len h in
      by_answer says refl (record {
        to = record {
          len = len;
          bucket = buckets s;
          count = 0;
          region = region h;
          last = le_refl (buckets s);
          some = λ l. absurd (omega arith);
          all = omega arith;
          few = omega (arith, total len h);
        };
        tables-kept = λ l. acc.tables-kept;
        same = λ each.
            let long = (each len (buckets s) 0 (region h) (omega arith)).below in
            (check-answers Long s).accepts (record { tables-kept = acc.tables-kept; lower = λ j l. (len j, long j l) }) len long ∙ sym says;
      })

  -- the first `n` records of bucket k's chain keep the rules, and the next breaks one
  then-broken : {k n x p : ℕ} → k < buckets s → HeldBefore Short s k → Breaks Short s k n x p → Decided s (sound_records (check Short s))
  unfolding sound_records
  then-broken {k} {n} {x} {p} l held b =
      let (len, h) = lengths held in
      let says = (check-answers Short s).refuses-record k n x p len l held.tables-kept h b in
      let one = unsound-is x (λ e. omega (arith, b.some)) (never 12 (broken-number b) refl) in
      by_answer says (omega (arith, one)) (record {
        to = record {
          len = len;
          bucket = k;
          count = n;
          region = record { below = h; keeps = b.keeps };
          last = omega arith;
          some = λ _. l;
          all = refl;
          few = omega (arith, few len h b.keeps (λ c. never-breaks c b));
        };
        tables-kept = λ _. held.tables-kept;
        same = λ each.
            let long = each len k n (record { below = h; keeps = b.keeps }) (le_refl _) in
            (check-answers Long s).refuses-record k n x p len l held.tables-kept long.below (breaks-long b long.keeps) ∙ sym says;
      })

  turns-round : {k : ℕ} → Loops Short s k → Decided s (sound_records (check Short s))
  unfolding sound_records
  turns-round {k} loop =
      let held = loop.held in
      let (len, h) = lengths held in
      let says = (check-answers Short s).refuses-loop k loop in
      let l = tables-long s held.tables-kept in
      let n = length s - 10 - sum len k in
      let all : Region Short s len k n = record { below = h; keeps = λ m g. turns-keep loop.turns m } in
      by_answer says refl (record {
        to = record {
          len = len;
          bucket = k;
          count = n;
          region = all;
          last = omega (arith, loop.bucket);
          some = λ _. loop.bucket;
          all = omega (arith, total len h);
          few = omega arith;
        };
        tables-kept = λ _. held.tables-kept;
        same = λ each.
            let long = each len k n all (omega (arith, total len h)) in
            (check-answers Long s).refuses-loop k (record {
              bucket = loop.bucket;
              held = record { tables-kept = held.tables-kept; lower = λ j g. (len j, long.below j g) };
              turns = turns (endless len long.below (λ m g. long.keeps m (omega (arith, total len h))));
            }) ∙ sym says;
      })

  pub decided : Decided s (sound_records (check Short s))
  decided = go (verdict Short s)
    where
      go : Verdict Short s → Decided s (sound_records (check Short s))
      go (tables-broken e) = none-sound e
      go (all_hold acc) = all_sound acc
      go (broken l held b) = then-broken l held b
      go (looped loop) = turns-round loop

  -- one of these records breaks a long rule
  pub breaks-decides : {x p passed : ℕ} → TablesKept s → BreaksLong s x p passed → check Long s ≡ refused x p passed
  breaks-decides {x} {p} tables-kept b =
      (check-answers Long s).refuses-record b.bucket b.count x p b.len b.real tables-kept b.below b.breaks ∙ ap (refused x p) (sym b.opened)
