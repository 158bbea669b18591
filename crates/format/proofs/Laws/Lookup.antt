-- A lookup: what is judged before the search, what the search answers, and the images of the record
-- that is found.
use Prim.Native.Nat.{ℕ, suc, ◌-◌, ◌*◌, ◌≤◌, ◌<◌}
use Rattle.std.specs.Prelude.{◌≡◌, List, ◌∷◌, Bool, length, leb, if◌then◌else◌}
use Rattle.std.proofs.Math.Path.{refl}
use Rattle.std.proofs.Math.Bool.{true, false}
use Rattle.std.proofs.Math.Decide.{ℕ_discrete}
use native.Mathlib.Omega.{arith}
use borrow.Author.Tests.{le-leb, lt-leb}
use Rattle.format.specs.Fault.{fault}
use Rattle.format.specs.String.{allowed}
use Rattle.format.specs.Header.{header_fault}
use Rattle.format.specs.Record.{bucket_of, images_at, images}
use Rattle.format.specs.Answer.{unfound, looked_up}
use Rattle.format.specs.Call.{query_fault, search_bucket, find, found_answer, with_images, lookup, answer_words}
use Rattle.format.specs.declared.Fault.{Fault}
use Rattle.format.specs.declared.Found.{Found}
use Rattle.format.specs.declared.LookupAnswer.{LookupAnswer}
use Rattle.format.proofs.Laws.Faults.{kept-takes, broken-takes, or_else-none, broken-speaks, kept-passes}
use Rattle.format.proofs.Laws.Numbers.{OneOf, header_numbers, unless-one, or_else-one, widened}
use Rattle.format.proofs.Laws.Header.{header-valid, header-number}

-- what is judged before the search
module _ (s name : List ℕ) where
  pub query-unallowed : allowed name ≡ false → query_fault s name ≡ fault 13 0
  unfolding query_fault
  query-unallowed e = broken-speaks _ _ _ _ e

  pub query-allowed : allowed name ≡ true → query_fault s name ≡ header_fault s
  unfolding query_fault
  query-allowed e = kept-passes _ _ _ _ e

  -- a name that is looked for stands in a buffer with a header
  pub query-header : (query_fault s name).number ≡ 0 → (header_fault s).number ≡ 0
  unfolding query_fault
  query-header e = (or_else-none _ _ e).1

  pub query-long : (query_fault s name).number ≡ 0 → 12 ≤ length s
  query-long e = (header-valid s (query-header e)).header-inside

  pub query-number : OneOf (13 ∷ header_numbers) (query_fault s name).number
  unfolding query_fault
  query-number = or_else-one _ _ (unless-one (allowed name) 13 0 refl) (widened refl (header-number s))

  pub find-refuses : {f : Fault} → query_fault s name ≡ f → (f.number ≡ 0 → ⊥) → find s name ≡ unfound f.number f.place 0
  unfolding find
  find-refuses {f} e some = rw e (broken-takes f _ _ some)

  pub find-searches : (query_fault s name).number ≡ 0 → find s name ≡ search_bucket s name (bucket_of s name)
  unfolding find
  find-searches a = kept-takes (query_fault s name) _ _ a

  -- a name that is found was looked for
  pub found-asked : {a : Found} → find s name ≡ a → a.number ≡ 0 → (query_fault s name).number ≡ 0
  found-asked e found = elim (ℕ_discrete (query_fault s name).number 0) [
    | yes asks ↦ asks
    | no refused ↦ absurd (refused (rw (← e, find-refuses refl refused) at found))
  ]

-- an answer with another number than 0 leaves the words as they were
pub answer_keeps : (s words : List ℕ) (a : LookupAnswer) → (a.number ≡ 0 → ⊥) → answer_words s words a ≡ words
unfolding answer_words
answer_keeps s words a h = let some : a.number ≡ suc (a.number - 1) = omega arith in rw (answer_words, some)

-- the two answers to a record that was found
module _ (s : List ℕ) (room r o : ℕ) where
  pub found-enough : 2 * images s r ≤ room → found_answer s room r o ≡ looked_up 0 r (images s r) o
  unfolding found_answer
  found-enough h = rw (found_answer, le-leb _ _ h)

  pub found-short : room < 2 * images s r → found_answer s room r o ≡ looked_up 14 (images_at s r) (images s r) o
  unfolding found_answer
  found-short h = rw (found_answer, lt-leb _ _ h)

  -- what holds of both
  pub found-either : (P : LookupAnswer → Type 0) → P (looked_up 0 r (images s r) o) → P (looked_up 14 (images_at s r) (images s r) o) → P (found_answer s room r o)
  unfolding found_answer
  found-either P enough short = go (leb (2 * images s r) room)
    where
      go : (b : Bool) → P (if b then looked_up 0 r (images s r) o else looked_up 14 (images_at s r) (images s r) o)
      go true = enough
      go false = short

-- the lookup from the search's answer
module _ (s name : List ℕ) (room : ℕ) {a : Found} (e : find s name ≡ a) where
  pub lookup-found : a.number ≡ 0 → lookup s name room ≡ found_answer s room a.place a.opened
  unfolding lookup with_images
  lookup-found none = rw (lookup, e, none)

  pub lookup-unfound : (a.number ≡ 0 → ⊥) → lookup s name room ≡ looked_up a.number a.place 0 a.opened
  unfolding lookup with_images
  lookup-unfound some = let more : a.number ≡ suc (a.number - 1) = omega arith in rw (lookup, e, more)
