-- The way along a chain from one of its fields on. A field leads to a record, and that record's
-- CHAIN_OFFSET, which stands first in it, is the next field.
use Rattle.std.specs.Prelude.{ℕ, zero, suc, ◌+◌, ◌≤◌, ◌<◌, ◌≡◌, List, length}
use Rattle.format.specs.Layout.{chain_field}
use Rattle.format.specs.Number.{be}
use Rattle.rounds.specs.declared.Round.{Round}

-- the field that n steps from the field f on lead to
unfoldable pub ahead : List ℕ → ℕ → ℕ → ℕ
ahead s f zero = f
ahead s f (suc n) = chain_field (be 4 s (ahead s f n))

-- the first n of them, f itself counted, lie inside
abbrev pub InsideBelow : List ℕ → ℕ → ℕ → Type 0
InsideBelow s f n = (m : ℕ) → m < n → ahead s f m + 4 ≤ length s

-- a round that at most `most` steps find: from its start, its steps lead back there
pub record Runs (s : List ℕ) (f most : ℕ) (a : Round) : Type 0 where
  pub within : a.start + a.steps ≤ most
  pub inside : InsideBelow s f (a.start + a.steps)
  pub back : ahead s f (a.start + a.steps) ≡ ahead s f a.start

-- step m, not behind the start, is the first from which the round runs
pub record LeadsIn (s : List ℕ) (f : ℕ) (a : Round) (m : ℕ) : Type 0 where
  pub before : m ≤ a.start
  pub back : ahead s f (m + a.steps) ≡ ahead s f m
  pub first : (i : ℕ) → i < m → ahead s f (i + a.steps) ≡ ahead s f i → ⊥

-- within n steps a field is met again
pub record ComesBack (s : List ℕ) (f n : ℕ) : Type 0 where
  pub first : ℕ
  pub second : ℕ
  pub order : first < second
  pub within : second ≤ n
  pub same : ahead s f second ≡ ahead s f first

-- a look from step `done` on as far as step `far` sees that by step n the chain comes back, or n is
-- as far as it sees. That a round is found where there is one is not said: no answer hangs on it,
-- only the time
pub record Turning (s : List ℕ) (f done far n : ℕ) : Type 0 where
  pub onward : done ≤ n
  pub within : n ≤ far
  pub back : n < far → ComesBack s f n
