-- What a lookup answers, from what the chain of the name's bucket is like: one law for each of the
-- four ways.
use Rattle.std.specs.Prelude.{ℕ, suc, ◌+◌, ◌-◌, ◌≤◌, ◌<◌, ◌≡◌, refl, ◌↔◌, List, length}
use Rattle.std.proofs.Common.{sym, ap, ◌∙◌, arith}
use Rattle.format.specs.Header.{bucket_field}
use Rattle.format.specs.Record.{bucket_of, name_of}
use Rattle.format.specs.Chain.{most_records, itself}
use Rattle.format.specs.Answer.{looked_up}
use Rattle.format.specs.Call.{query_fault, search_bucket, find, found_answer, lookup}
use Rattle.format.specs.Words.{link, Keeps, KeepsAt, KeepsBelow, NoneBelow, Holds, Breaks, Turns}
use Rattle.format.specs.Demand.{WalkAnswers, LookupAnswers}
use Rattle.format.specs.declared.Found.{Found}
use Rattle.format.specs.declared.LookupAnswer.{LookupAnswer}
use Rattle.format.proofs.Laws.Numbers.{never}
use Rattle.format.proofs.Laws.Links.{earlier, once, round, broken-number, keeps-le, before-end, unbroken}
use Rattle.format.proofs.Laws.Apart.{apart_none, repeats}
use Rattle.format.proofs.Laws.Search.{search-absent, search-finds, search-breaks, search-lasts, within, Sought, absent, met, broken, lasts, sought}
use Rattle.format.proofs.Laws.Lookup.{query-long, find-refuses, find-searches, found-asked, found-either, lookup-found, lookup-unfound}
use Rattle.format.proofs.Laws.Verdict.{turns, turns-keep}
use Rattle.format.specs.declared.Reading.TheVariants.{Short}

-- the answer to a lookup in a chain of n records that holds
pub record InChain (s name : List ℕ) (k n : ℕ) (a : LookupAnswer) : Type 0 where
  pub opens : a.opened ≤ n
  pub absent : (a.number ≡ 30) ↔ NoneBelow s name k n

number : {a b : Found} → a ≡ b → a.number ≡ b.number
number e = ap (λ (a : Found). a.number) e

looked : {a b : LookupAnswer} → a ≡ b → a.number ≡ b.number
looked e = ap (λ (a : LookupAnswer). a.number) e

module _ (s name : List ℕ) (asks : (query_fault s name).number ≡ 0) where
  abbrev bucket : ℕ
  bucket = bucket_of s name

  searches : {a : Found} → search_bucket s name bucket ≡ a → find s name ≡ a
  searches e = find-searches s name asks ∙ e

  found-rules : (find s name).number ≡ 0 → Keeps Short s bucket (find s name).place
  found-rules e = go (sought s name bucket)
    where
      go : Sought s name bucket → Keeps Short s bucket (find s name).place
      go (absent {n = n} h none) = absurd (omega (arith, number (searches (search-absent s name bucket n h none))))
      go (met {n = n} keeps none here same) = rw (searches (search-finds s name bucket n keeps none here same)) here.1
      go (broken {n = n} {x = x} {p = p} b none) = absurd (omega (arith, b.some, number (searches (search-breaks s name bucket n x p b none))))
      go (lasts keeps none) = absurd (omega (arith, number (searches (search-lasts s name bucket keeps none))))

  module _ (room : ℕ) where
    says-absent : (n : ℕ) → Holds Short s bucket n → NoneBelow s name bucket n → lookup s name room ≡ looked_up 30 0 0 n
    says-absent n h none = lookup-unfound s name room (searches (search-absent s name bucket n h none)) (λ z. omega arith)

    says-found : (n : ℕ) → KeepsBelow Short s bucket n → NoneBelow s name bucket n → KeepsAt Short s bucket n → name_of s (link s bucket n) ≡ name
        → lookup s name room ≡ found_answer s room (link s bucket n) (n + 1)
    says-found n keeps none here same = lookup-found s name room (searches (search-finds s name bucket n keeps none here same)) refl

    says-broken : (n x p : ℕ) → Breaks Short s bucket n x p → NoneBelow s name bucket n → lookup s name room ≡ looked_up x p 0 (n + itself x)
    says-broken n x p b none = lookup-unfound s name room (searches (search-breaks s name bucket n x p b none)) (λ z. omega (arith, b.some))

    says-endless : KeepsBelow Short s bucket (suc (most_records s)) → NoneBelow s name bucket (most_records s)
        → lookup s name room ≡ looked_up 12 (bucket_field s bucket) 0 (length s - 10)
    says-endless keeps none =
        let opened : most_records s + 1 ≡ length s - 10 = omega (arith, query-long s name asks) in
        lookup-unfound s name room (searches (search-lasts s name bucket keeps none)) (λ z. omega arith) ∙ ap (looked_up 12 (bucket_field s bucket) 0) opened

    -- 12 only of a chain that never ends and has no record that bears the name
    turns-nameless : (lookup s name room).number ≡ 12 → Sought s name bucket → Turns Short s bucket × ((n : ℕ) → name_of s (link s bucket n) ≡ name → ⊥)
    turns-nameless e (absent {n = n} h none) = absurd (omega (arith, looked (says-absent n h none)))
    turns-nameless e (met {n = n} keeps none here same) =
        absurd (found-either s room _ _ (λ a. a.number ≡ 12 → ⊥) (λ q. omega arith) (λ q. omega arith) (rw (says-found n keeps none here same) at e))
    turns-nameless e (broken {n = n} {x = x} {p = p} b none) =
        absurd (never 12 (broken-number b) refl (sym (looked (says-broken n x p b none)) ∙ e))
    turns-nameless e (lasts keeps none) =
        let c = repeats (apart_none s bucket) (omega arith) keeps in
        (turns (round c keeps), λ n same. let (i, l, q) = earlier c n in none i (omega (arith, c.below)) (sym (ap (name_of s) q) ∙ same))

    walk-answers : WalkAnswers s name room bucket
    walk-answers = record {
      absent = says-absent;
      found = says-found;
      refuses-record = says-broken;
      refuses-loop = λ t none. says-endless (λ n l. turns-keep t n) (λ n l. none n);
      loop = (
        λ e. turns-nameless e (sought s name bucket),
        λ h. looked (says-endless (λ n l. turns-keep h.0 n) (λ n l. h.1 n)),
      );
    }

    -- in a chain that holds
    module _ {n : ℕ} (h : Holds Short s bucket n) where
      there : {m : ℕ} → m < n → name_of s (link s bucket m) ≡ name → (a : LookupAnswer) → a.opened ≡ m + 1 → (a.number ≡ 30 → ⊥) → InChain s name bucket n a
      there {m} l same a o x = record { opens = omega arith; absent = (λ e. absurd (x e), λ none. absurd (none m l same)) }

      pub in-chain : Sought s name bucket → InChain s name bucket n (lookup s name room)
      in-chain (absent {n = m} c none) =
          rw (says-absent m c none) (record { opens = keeps-le h c.keeps; absent = (λ e i d. none i (omega (arith, keeps-le c h.keeps)), λ x. refl) })
      in-chain (met {n = m} keeps none here same) =
          let d : m < n = before-end h (λ i g. (keeps i g).0) here.0 in
          rw (says-found m keeps none here same)
          (found-either s room _ _ (InChain s name bucket n) (there d same _ refl (λ e. omega arith)) (there d same _ refl (λ e. omega arith)))
      in-chain (broken b none) = absurd (unbroken h b)
      in-chain (lasts keeps none) = absurd (omega (arith, keeps-le h keeps, within s name bucket h.keeps (once h)))

-- the record that is found keeps the rules
pub found-keeps : (s name : List ℕ) {a : Found} → find s name ≡ a → a.number ≡ 0 → Keeps Short s (bucket_of s name) a.place
found-keeps s name e found = rw (← e) (found-rules s name (found-asked s name e found) (number e ∙ found))

pub lookup-answers : (s name : List ℕ) (room : ℕ) → LookupAnswers s name room
lookup-answers s name room = record {
  refuses-query = λ x p e. lookup-unfound s name room (find-refuses s name e (λ z. omega arith)) (λ z. omega arith);
  walks = λ asks. walk-answers s name asks room;
}
