-- Why both lookups answer alike: in an accepted cache each record stands in its name's bucket, so no
-- other bucket has a record that bears the name, and of those in it the first is the same.
use Prim.Native.Nat.{ℕ, ◌+◌, ◌*◌, ◌<◌}
use Rattle.std.specs.Prelude.{◌≡◌, refl, List, Bool, true, false, length, leb, if◌then◌else◌}
use Rattle.std.proofs.Common.{sym, ap, ◌∙◌, mod-lt, arith}
use Rattle.std.proofs.lemmas.Bool.{false≢true}
use Rattle.format.specs.String.{hash, allowed}
use Rattle.format.specs.Header.{buckets, header_fault}
use Rattle.format.specs.Record.{name_of, bucket_of, images_at, images}
use Rattle.format.specs.Chain.{all_records, nth_name}
use Rattle.format.specs.Words.{link, Holds, Accepted, NoneBelow, sum}
use Rattle.format.specs.Demand.{WalkAnswers}
use Rattle.format.specs.Call.{check, lookup, found_answer, answer_words}
use Rattle.format.specs.Answer.{looked_up}
use Rattle.format.specs.declared.Fault.{Fault}
use Rattle.format.specs.declared.LookupAnswer.{LookupAnswer}
use Rattle.format.specs.declared.Reading.TheVariants.{Short}
use Rattle.format.specs.Listed.{listed}
use Rattle.format.proofs.Laws.Header.{header-valid}
use Rattle.format.proofs.Laws.Rules.{tables-keep-header}
use Rattle.format.proofs.Laws.Search.{Sought, absent, met, broken, lasts, sought}
use Rattle.format.proofs.Laws.Lookup.{query-unallowed, query-allowed, found-either}
use Rattle.format.proofs.Laws.LookupAnswers.{lookup-answers}
use Rattle.format.proofs.Laws.Links.{unbroken, keeps-le}
use Rattle.format.proofs.Laws.Below.{below_suc}
use Rattle.format.proofs.Laws.Apart.{holds-few}
use Rattle.format.proofs.Laws.Demand.{demand3}
use Rattle.format.proofs.Laws.InOrder.{chain_length_lem, chain-lengths, in_order, step-in-order, below_length, home}
use Rattle.format.specs.Places.{chain_length, StandsAt}
use Rattle.plain_lookup.specs.Plain.{plain_lookup}
use Rattle.plain_lookup.specs.Promise.{Same, faults_met, PlainPromise}
use Rattle.plain_lookup.proofs.Laws.Tried.{tried-met, tried-none, plain-unallowed, plain-met, plain-none}

module _ {s : List ℕ} (acc : Accepted Short s) (name : List ℕ) where
  -- the name's bucket
  abbrev k : ℕ
  k = bucket_of s name

  header : (header_fault s).number ≡ 0
  header = tables-keep-header s acc.tables-kept

  below : k < buckets s
  below = mod-lt (hash name) (header-valid s header).buckets-some

  -- a record that bears the name stands on that bucket's chain, as rule 9 demands
  own-chain : {n : ℕ} → n < length (all_records Short s) → nth_name s n ≡ name → (m : ℕ) × StandsAt s n k m
  own-chain g same = let (j, m, a) = in_order acc g in (m, rw (sym (home acc a) ∙ ap (bucket_of s) same) at a)

  -- so where none of the first m records of the chain bears it, no record before step m does
  none_before : {m : ℕ} → NoneBelow s name k m → {n : ℕ} → n < sum (chain_length s) k + m → n < length (all_records Short s) → nth_name s n ≡ name → ⊥
  none_before none l g same =
      let (p, a) = own-chain g same in
      none p (omega (arith, a.place)) (sym (ap (name_of s) a.named) ∙ same)

  none-all : NoneBelow s name k (chain_length s k) → (n : ℕ) → n < length (all_records Short s) → nth_name s n ≡ name → ⊥
  none-all none n g same =
      let (p, a) = own-chain g same in
      none p a.step (sym (ap (name_of s) a.named) ∙ same)

  checked : (check Short s).number ≡ 0
  checked = (demand3 Short s).checks.accepted.1 acc

  module _ (room : ℕ) where
    -- the two answers: no record, or the same one
    data Both : Type 0 where
      neither : {n m : ℕ} → plain_lookup s name room ≡ looked_up 30 0 0 n → lookup s name room ≡ looked_up 30 0 0 m → Both
      one : (r n m : ℕ) → plain_lookup s name room ≡ found_answer s room r n → lookup s name room ≡ found_answer s room r m → Both

    both : allowed name ≡ true → Both
    both e = go (sought s name k)
      where
        walks : WalkAnswers s name room k
        walks = (lookup-answers s name room).walks (ap (λ (v : Fault). v.number) (query-allowed s name e) ∙ header)

        holds : Holds Short s k (chain_length s k)
        holds = chain-lengths acc k below

        go : Sought s name k → Both
        go (absent {n = n} h none) =
            neither (plain-none s name room e checked (tried-none s name (none-all (rw (chain_length_lem h) none)))) (walks.absent n h none)
        go (met {n = n} keeps none here same) =
            let step : n < chain_length s k = omega (arith, keeps-le holds (below_suc keeps here)) in
            let stands = step-in-order acc below step in
            let l = below_length acc stands in
            let tried = tried-met s name l (λ i g. none_before none g (omega arith)) (ap (name_of s) stands.named ∙ same) in
            one (link s k n) (sum (chain_length s) k + n + 1) (n + 1) (plain-met s name room e checked tried ∙ ap (λ r. found_answer s room r (sum (chain_length s) k + n + 1)) stands.named) (walks.found n keeps none here same)
        go (broken b none) = absurd (unbroken holds b)
        go (lasts keeps none) = absurd (omega (arith, keeps-le holds keeps, holds-few holds))

    found_alike : (r n m : ℕ) → Same (found_answer s room r n) (found_answer s room r m)
    unfolding found_answer
    found_alike r n m = go (leb (2 * images s r) room)
      where
        two : (b : Bool) → ℕ → LookupAnswer
        two b o = if b then looked_up 0 r (images s r) o else looked_up 14 (images_at s r) (images s r) o

        go : (b : Bool) → Same (two b n) (two b m)
        go true = record { number = refl; place = refl; images = refl }
        go false = record { number = refl; place = refl; images = refl }

    pub same_answer : Same (plain_lookup s name room) (lookup s name room)
    same_answer = go (allowed name) refl
      where
        go : (b : Bool) → allowed name ≡ b → Same (plain_lookup s name room) (lookup s name room)
        go true e = elim (both e) [
          | neither p q ↦ rw (p, q) (record { number = refl; place = refl; images = refl })
          | one r n m p q ↦ rw (p, q) (found_alike r n m)
        ]
        go false e =
            rw (plain-unallowed s name room e, (lookup-answers s name room).refuses-query 12 0 (query-unallowed s name e))
            (record { number = refl; place = refl; images = refl })

    -- and the ordinary one finds no fault with the cache
    pub no-fault : listed (lookup s name room).number faults_met ≡ false
    no-fault = go (allowed name) refl
      where
        go : (b : Bool) → allowed name ≡ b → listed (lookup s name room).number faults_met ≡ false
        go true e = elim (both e) [
          | neither p q ↦ rw q refl
          | one r n m p q ↦ rw q (found-either s room r m (λ a. listed a.number faults_met ≡ false) refl refl)
        ]
        go false e = rw ((lookup-answers s name room).refuses-query 12 0 (query-unallowed s name e)) refl

-- equal answers leave equal words
words-alike : (s words : List ℕ) {a b : LookupAnswer} → Same a b → answer_words s words a ≡ answer_words s words b
unfolding answer_words
words-alike s words {a} {b} h = λ i. answer_words s words (looked_up (h.number i) (h.place i) (h.images i) 0)

pub plain-promise : (s : List ℕ) → PlainPromise s
plain-promise s = record {
  same = λ acc name room. same_answer acc name room;
  words = λ acc name words. words-alike s words (same_answer acc name (length words));
  refused = λ name room met kept. false≢true (sym (no-fault ((demand3 Short s).checks.accepted.0 kept) name room) ∙ met);
}
