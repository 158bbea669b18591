-- Demand 3, request 9, and the whole answers of the check and of a lookup in the words of demand 3
-- (document 01, 'Opened').
use Rattle.std.specs.Prelude.{ℕ, suc, ◌+◌, ◌-◌, ◌≤◌, ◌<◌, ◌≡◌, List, true, ◌↔◌, length}
use Rattle.format.specs.Fault.{fault}
use Rattle.format.specs.String.{allowed}
use Rattle.format.specs.Header.{tables_fault, directories, buckets, bucket_field}
use Rattle.format.specs.Record.{name_of, bucket_of}
use Rattle.format.specs.Chain.{itself}
use Rattle.format.specs.Answer.{accepted, refused, looked_up}
use Rattle.format.specs.Call.{check, query_fault, lookup, found_answer}
use Rattle.format.specs.Words.{link, OnChain, KeepsAt, KeepsBelow, NoneBelow, Holds, Breaks, Turns, TablesKept, Accepted, Loops, Lengths, sum, greatest}
use Rattle.format.specs.declared.Reading.{Reading}
use Rattle.format.specs.declared.Reading.TheVariants.{Short}
use Rattle.format.specs.declared.CheckAnswer.{CheckAnswer}
use Rattle.format.specs.declared.LookupAnswer.{LookupAnswer}

-- what demand 3 says of an answer to the check
pub record CheckDemand (ρ : Reading) (s : List ℕ) (a : CheckAnswer) : Type 0 where
  pub opens : 12 ≤ length s → a.opened ≤ length s - 10
  pub loop : (a.number ≡ 12) ↔ ((k : ℕ) × Loops ρ s k)
  pub loop-place : (k : ℕ) → Loops ρ s k → a.place ≡ bucket_field s k
  pub accepted : (a.number ≡ 0) ↔ Accepted ρ s

-- what demand 3 says of an answer to a lookup of an allowed name in an accepted cache
pub record LookupDemand (ρ : Reading) (s name : List ℕ) (a : LookupAnswer) : Type 0 where
  pub opens : (n : ℕ) → Holds ρ s (bucket_of s name) n → a.opened ≤ n
  pub absent : (a.number ≡ 30) ↔ ((k n r : ℕ) → k < buckets s → OnChain s k n r → name_of s r ≡ name → ⊥)

-- and of any lookup, where the cache is accepted and the name allowed
abbrev pub LookupKept : Reading → List ℕ → List ℕ → LookupAnswer → Type 0
LookupKept ρ s name a = Accepted ρ s → allowed name ≡ true → LookupDemand ρ s name a

-- demand 3: of the check, of the records of an accepted cache, and of every lookup
pub record Demand3 (ρ : Reading) (s : List ℕ) : Type 0 where
  pub checks : CheckDemand ρ s (check ρ s)
  pub apart : Accepted ρ s → (j k m n r : ℕ) → j < buckets s → k < buckets s → OnChain s j m r → OnChain s k n r → (j ≡ k) × (m ≡ n)
  pub few : Accepted ρ s → (len : ℕ → ℕ) → Lengths ρ s (buckets s) len → sum len (buckets s) ≤ length s - 11
  pub looks-up : (name : List ℕ) (room : ℕ) → LookupKept ρ s name (lookup s name room)

-- request 9, of an answer to the check: where it accepts, some chain is as long as it says, and no
-- lookup opens more records, whatever the name and the room
pub record LongestDemand (ρ : Reading) (s : List ℕ) (a : CheckAnswer) : Type 0 where
  pub some : a.number ≡ 0 → (k : ℕ) × (k < buckets s) × Holds ρ s k a.longest
  pub most : a.number ≡ 0 → (name : List ℕ) (room : ℕ) → (lookup s name room).opened ≤ a.longest
  pub refused : (a.number ≡ 0 → ⊥) → a.longest ≡ 0

-- and of an answer to a lookup, beside the check's
abbrev pub OpensWithin : List ℕ → LookupAnswer → Type 0
OpensWithin s a = (check Short s).number ≡ 0 → a.opened ≤ (check Short s).longest

-- The check's whole answer in these words: one of the four cases always stands.
pub record CheckAnswers (ρ : Reading) (s : List ℕ) : Type 0 where
  pub accepts : Accepted ρ s → (len : ℕ → ℕ) → Lengths ρ s (buckets s) len
      → check ρ s ≡ accepted (directories s) (sum len (buckets s)) (greatest len (buckets s))
  pub refuses-tables : (x p : ℕ) → tables_fault s ≡ fault (suc x) p → check ρ s ≡ refused (suc x) p 0
  pub refuses-record : (k n x p : ℕ) (len : ℕ → ℕ) → k < buckets s → TablesKept s → Lengths ρ s k len → Breaks ρ s k n x p
      → check ρ s ≡ refused x p (sum len k + n + itself x)
  pub refuses-loop : (k : ℕ) → Loops ρ s k → check ρ s ≡ refused 12 (bucket_field s k) (length s - 10)

-- The answer of a lookup that comes to its walk; k is the name's bucket.
pub record WalkAnswers (s name : List ℕ) (room k : ℕ) : Type 0 where
  pub absent : (n : ℕ) → Holds Short s k n → NoneBelow s name k n → lookup s name room ≡ looked_up 30 0 0 n
  pub found : (n : ℕ) → KeepsBelow Short s k n → NoneBelow s name k n → KeepsAt Short s k n → name_of s (link s k n) ≡ name
      → lookup s name room ≡ found_answer s room (link s k n) (n + 1)
  pub refuses-record : (n x p : ℕ) → Breaks Short s k n x p → NoneBelow s name k n → lookup s name room ≡ looked_up x p 0 (n + itself x)
  pub refuses-loop : Turns Short s k → ((n : ℕ) → name_of s (link s k n) ≡ name → ⊥)
      → lookup s name room ≡ looked_up 12 (bucket_field s k) 0 (length s - 10)
  pub loop : ((lookup s name room).number ≡ 12) ↔ (Turns Short s k × ((n : ℕ) → name_of s (link s k n) ≡ name → ⊥))

-- A lookup's whole answer: refused before its walk, or as the chain of the name's bucket is.
pub record LookupAnswers (s name : List ℕ) (room : ℕ) : Type 0 where
  pub refuses-query : (x p : ℕ) → query_fault s name ≡ fault (suc x) p → lookup s name room ≡ looked_up (suc x) p 0 0
  pub walks : (query_fault s name).number ≡ 0 → WalkAnswers s name room (bucket_of s name)
