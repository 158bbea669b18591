-- What is promised of the plain lookup.
use Rattle.std.specs.Prelude.{ℕ, ◌≡◌, List, [], ◌∷◌, true}
use Rattle.format.specs.Words.{Accepted}
use Rattle.format.specs.Call.{check, lookup, lookup_words}
use Rattle.format.specs.Listed.{listed}
use Rattle.format.specs.declared.LookupAnswer.{LookupAnswer}
use Rattle.format.specs.declared.Reading.TheVariants.{Short}
use Rattle.plain_lookup.specs.Plain.{plain_lookup, plain_words}

-- two answers that differ in the records opened at most
pub record Same (a b : LookupAnswer) : Type 0 where
  pub number : a.number ≡ b.number
  pub place : a.place ≡ b.place
  pub images : a.images ≡ b.images

-- 1 to 12 and 17: the numbers for what is wrong with a cache, and not with the name or the room. (6,
-- of a path, no lookup answers.)
abbrev pub faults_met : List ℕ
faults_met = 1 ∷ 2 ∷ 3 ∷ 4 ∷ 5 ∷ 6 ∷ 7 ∷ 8 ∷ 9 ∷ 10 ∷ 11 ∷ 12 ∷ 17 ∷ []

-- of a cache: where it is accepted both lookups answer alike, whatever the name and the room; and
-- where the ordinary one finds fault with it, the check refuses it
pub record PlainPromise (s : List ℕ) : Type 0 where
  pub same : Accepted Short s → (name : List ℕ) (room : ℕ) → Same (plain_lookup s name room) (lookup s name room)
  pub words : Accepted Short s → (name words : List ℕ) → plain_words s name words ≡ lookup_words s name words
  pub refused : (name : List ℕ) (room : ℕ) → listed (lookup s name room).number faults_met ≡ true → (check Short s).number ≡ 0 → ⊥
