-- Which numbers a search and a lookup can answer, and that with room enough the lookup answers as
-- the search does.
use Rattle.std.specs.Prelude.{ℕ, ◌*◌, ◌≤◌, ◌≡◌, refl, List, ◌∷◌, ◌++◌}
use Rattle.std.proofs.Common.{sym, arith}
use Rattle.std.proofs.Math.Decide.{ℕ_discrete}
use Rattle.format.specs.Record.{bucket_of}
use Rattle.format.specs.Call.{search_bucket, query_fault, find, lookup}
use Rattle.format.proofs.Laws.Numbers.{OneOf, header_numbers, link_numbers, widened}
use Rattle.format.proofs.Laws.Rules.{record-valid}
use Rattle.format.proofs.Laws.Links.{broken-number}
use Rattle.format.proofs.Laws.Search.{search-absent, search-finds, search-breaks, search-lasts, Sought, absent, met, broken, lasts, sought}
use Rattle.format.proofs.Laws.Lookup.{query-number, find-refuses, find-searches, found-enough, found-either, lookup-found, lookup-unfound}
use Rattle.format.proofs.Laws.LookupAnswers.{found-keeps}
use Rattle.format.specs.declared.Reading.TheVariants.{Short}

-- the numbers of a search, and those of a lookup; so neither answers 6 or 16, and a search not 14
abbrev pub find_numbers : List ℕ
find_numbers = 30 ∷ 12 ∷ 13 ∷ header_numbers ++ link_numbers Short

abbrev pub lookup_numbers : List ℕ
lookup_numbers = 14 ∷ find_numbers

module _ (s name : List ℕ) (k : ℕ) where
  search-number : Sought s name k → OneOf find_numbers (search_bucket s name k).number
  search-number (absent {n = n} h none) = rw (search-absent s name k n h none) (record { one = refl })
  search-number (met {n = n} keeps none here same) = rw (search-finds s name k n keeps none here same) (record { one = refl })
  search-number (broken {n = n} {x = x} {p = p} b none) = rw (search-breaks s name k n x p b none) (widened refl (broken-number b))
  search-number (lasts keeps none) = rw (search-lasts s name k keeps none) (record { one = refl })

pub find-number : (s name : List ℕ) → OneOf find_numbers (find s name).number
find-number s name = elim (ℕ_discrete (query_fault s name).number 0) [
  | yes asks ↦ rw (find-searches s name asks) (search-number s name (bucket_of s name) (sought s name (bucket_of s name)))
  | no refused ↦ rw (find-refuses s name refl refused) (widened refl (query-number s name))
]

pub lookup-number : (s name : List ℕ) (room : ℕ) → OneOf lookup_numbers (lookup s name room).number
lookup-number s name room = elim (ℕ_discrete (find s name).number 0) [
  | yes found ↦
      rw (lookup-found s name room refl found)
      (found-either s room _ _ (λ a. OneOf lookup_numbers a.number) (record { one = refl }) (record { one = refl }))
  | no refused ↦ rw (lookup-unfound s name room refl refused) (widened refl (find-number s name))
]

-- with room for the longest list a lookup answers as the search does
pub lookup-enough : (s name : List ℕ) (room : ℕ) → 2 * 1024 ≤ room
    → ((lookup s name room).number ≡ (find s name).number) × ((lookup s name room).place ≡ (find s name).place)
lookup-enough s name room enough = elim (ℕ_discrete (find s name).number 0) [
  | no refused ↦ rw (lookup-unfound s name room refl refused) (refl, refl)
  | yes found ↦
      let few = (record-valid Short _ _ _ (found-keeps s name refl found).rules).few in
      rw (lookup-found s name room refl found, found-enough s room (find s name).place (find s name).opened (omega arith)) (sym found, refl)
]
