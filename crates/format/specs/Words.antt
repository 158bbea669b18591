-- Document 01, 'The words of demand 3': they know nothing of how far a chain is followed; a record
-- is its offset.
use Rattle.std.specs.Prelude.{ℕ, zero, suc, ◌+◌, ◌≤◌, ◌<◌, max, ◌≡◌, List, length}
use Rattle.format.specs.Layout.{record_size, chain_field, end_value}
use Rattle.format.specs.Number.{be}
use Rattle.format.specs.Fault.{fault}
use Rattle.format.specs.Header.{tables_fault, buckets, bucket_field}
use Rattle.format.specs.Record.{record_fault, name_of}
use Rattle.format.specs.Chain.{link_fault}
use Rattle.format.specs.declared.Reading.{Reading}

-- the offset at step n of bucket k's chain: in its field, then in each record's CHAIN_OFFSET
unfoldable pub link : List ℕ → ℕ → ℕ → ℕ
link s k zero = be 4 s (bucket_field s k)
link s k (suc n) = be 4 s (chain_field (link s k n))

-- the field where it stands: the bucket's field, then the CHAIN_OFFSET of the record before
unfoldable pub link_field : List ℕ → ℕ → ℕ → ℕ
link_field s k zero = bucket_field s k
link_field s k (suc n) = chain_field (link s k n)

-- a record lies wholly inside
abbrev pub Inside : List ℕ → ℕ → Type 0
Inside s r = r + record_size ≤ length s

-- step n names a record that lies inside
abbrev pub Goes : List ℕ → ℕ → ℕ → Type 0
Goes s k n = (link s k n ≡ end_value → ⊥) × Inside s (link s k n)

-- a record lies on the chain of bucket k at step n
pub record OnChain (s : List ℕ) (k n r : ℕ) : Type 0 where
  pub before : (m : ℕ) → m < n → Goes s k m
  pub named : link s k n ≡ r
  pub real : r ≡ end_value → ⊥

-- the end value is never reached, and each step names a record that lies inside
abbrev pub NeverEnds : List ℕ → ℕ → Type 0
NeverEnds s k = (n : ℕ) → Goes s k n

-- none of 1 to 6 stands, nor 16 or 17 on a path
abbrev pub TablesKept : List ℕ → Type 0
TablesKept s = (tables_fault s).number ≡ 0

-- By a reading ρ.
module _ (ρ : Reading) where
  -- the record r keeps the rules, as a record of bucket k's chain: 7 to 11 and 17, in the long
  -- reading 22 to 24 too
  pub record Keeps (s : List ℕ) (k r : ℕ) : Type 0 where
    pub inside : Inside s r
    pub rules : (record_fault ρ s k r).number ≡ 0

  -- step n names a record that keeps the rules
  abbrev pub KeepsAt : List ℕ → ℕ → ℕ → Type 0
  KeepsAt s k n = (link s k n ≡ end_value → ⊥) × Keeps s k (link s k n)

  abbrev pub KeepsBelow : List ℕ → ℕ → ℕ → Type 0
  KeepsBelow s k n = (m : ℕ) → m < n → KeepsAt s k m

  -- the chain of bucket k reaches the end value after n records, its length; each keeps the rules
  pub record Holds (s : List ℕ) (k n : ℕ) : Type 0 where
    pub keeps : KeepsBelow s k n
    pub ends : link s k n ≡ end_value

  -- after n records that keep the rules, the chain of bucket k leads to one that breaks rule x at p
  pub record Breaks (s : List ℕ) (k n x p : ℕ) : Type 0 where
    pub keeps : KeepsBelow s k n
    pub real : link s k n ≡ end_value → ⊥
    pub broken : link_fault ρ s k (link_field s k n) (link s k n) ≡ fault x p
    pub some : 0 < x

  -- the chain of bucket k never ends, and each record on it keeps the rules
  pub record Turns (s : List ℕ) (k : ℕ) : Type 0 where
    pub endless : NeverEnds s k
    pub keeps : (n : ℕ) → Keeps s k (link s k n)

  -- all that is checked before the chain of bucket k held
  pub record HeldBefore (s : List ℕ) (k : ℕ) : Type 0 where
    pub tables-kept : TablesKept s
    pub lower : (j : ℕ) → j < k → (n : ℕ) × Holds s j n

  -- none of 1 to 6 stands, nor 16 or 17 on a path, and every chain holds
  abbrev pub Accepted : List ℕ → Type 0
  Accepted s = HeldBefore s (buckets s)

  -- bucket k is the one at which a loop is reported
  pub record Loops (s : List ℕ) (k : ℕ) : Type 0 where
    pub bucket : k < buckets s
    pub held : HeldBefore s k
    pub turns : Turns s k

  -- the chains of the buckets below k hold, and `len` gives their lengths
  abbrev pub Lengths : List ℕ → ℕ → (ℕ → ℕ) → Type 0
  Lengths s k len = (j : ℕ) → j < k → Holds s j (len j)

  -- the same, and the first n records of bucket k's chain keep the rules
  pub record Region (s : List ℕ) (len : ℕ → ℕ) (k n : ℕ) : Type 0 where
    pub below : Lengths s k len
    pub keeps : KeepsBelow s k n

-- the first n of these lengths added up
unfoldable pub sum : (ℕ → ℕ) → ℕ → ℕ
sum len zero = 0
sum len (suc n) = sum len n + len n

-- the greatest of the first n of them, 0 of none
unfoldable pub greatest : (ℕ → ℕ) → ℕ → ℕ
greatest len zero = 0
greatest len (suc n) = max (greatest len n) (len n)

-- none of the first n records of bucket k's chain bears the name
abbrev pub NoneBelow : List ℕ → List ℕ → ℕ → ℕ → Type 0
NoneBelow s name k n = (m : ℕ) → m < n → name_of s (link s k m) ≡ name → ⊥
