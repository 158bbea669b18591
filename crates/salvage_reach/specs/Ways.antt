-- What a field of a chain holds for the walk, and what is known of a chain once it is known how it
-- goes.
use Rattle.std.specs.Prelude.{ℕ, ◌+◌, ◌*◌, ◌<◌, ◌≤◌, ◌≡◌, List, eqb, length, Option, Some, None, if◌then◌else◌}
use Rattle.format.specs.Layout.{end_value}
use Rattle.format.specs.Number.{be}
use Rattle.format.specs.Fault.{if_kept}
use Rattle.format.specs.Record.{name_fault}
use Rattle.format.specs.Words.{link, link_field, Inside}
use Rattle.format.specs.declared.Fault.{Fault}
use Rattle.salvage_spec.specs.Meetings.{met, cut}
use Rattle.salvage_reach.specs.declared.Turn.{Turn}
use Rattle.salvage_reach.specs.declared.Turn.TheVariants.{Ended, Outside, Misnamed, Passes}
use Rattle.salvage_reach.specs.declared.Mark.{Mark}
use Rattle.salvage_reach.specs.declared.Reached.{Reached}
use Rattle.salvage_reach.specs.declared.Way.{Way}
use Rattle.salvage_reach.specs.declared.Way.TheVariants.{Stops, Turns}

-- the field f names a record that lies inside
abbrev pub Names : List ℕ → ℕ → Type 0
Names s f = (be 4 s f ≡ end_value → ⊥) × Inside s (be 4 s f)

-- what the field f of bucket k's chain names
abbrev pub Turned : List ℕ → ℕ → ℕ → Turn → Type 0
Turned s k f Ended = be 4 s f ≡ end_value
Turned s k f Outside = (be 4 s f ≡ end_value → ⊥) × (Inside s (be 4 s f) → ⊥)
Turned s k f Misnamed = Names s f × ((name_fault s k (be 4 s f)).number ≡ 0 → ⊥)
Turned s k f (Passes r) = (r ≡ be 4 s f) × Names s f × ((name_fault s k (be 4 s f)).number ≡ 0)

-- step n names a record that the walk leaves behind: it lies inside and its name has no fault
pub record PassesAt (s : List ℕ) (k n : ℕ) : Type 0 where
  pub real : link s k n ≡ end_value → ⊥
  pub inside : Inside s (link s k n)
  pub named : (name_fault s k (link s k n)).number ≡ 0

abbrev pub PassesBelow : List ℕ → ℕ → ℕ → Type 0
PassesBelow s k n = (m : ℕ) → m < n → PassesAt s k m

-- from step m on a round of c steps, the least there, and each record up to there is left behind
pub record RoundOf (s : List ℕ) (k m c : ℕ) : Type 0 where
  pub near : m + c ≤ 5 * length s
  pub some : 0 < c
  pub passes : PassesBelow s k (m + c)
  pub same : link s k m ≡ link s k (m + c)
  pub least : (i : ℕ) → 0 < i → i < c → link s k m ≡ link s k (m + i) → ⊥

-- the rule that a judgement names, if it names one
abbrev pub named_rule : Fault → Option Fault
named_rule v = if_kept v None (Some v)

-- n records are met, and x cuts the chain behind them, or nothing does
abbrev pub reached_at : ℕ → Fault → Reached
reached_at n x = record { met = n; cut = named_rule x }

-- how far the walk goes, and what cuts it
pub record Reaches (s : List ℕ) (k : ℕ) (e : Reached) : Type 0 where
  pub met : met s k ≡ e.met
  pub cut : named_rule (cut s k) ≡ e.cut

abbrev pub WayOf : List ℕ → ℕ → Way → Type 0
WayOf s k (Stops e) = Reaches s k e
WayOf s k (Turns r) = RoundOf s k r.start r.steps

-- the mark after the record r is passed at step n: moved up to it if n is the step until which it
-- stays
abbrev pub moved : Mark → ℕ → ℕ → Mark
moved m n r = if eqb n m.until then record { behind = r; stays = n; until = 2 * n + 1 } else m

-- What is known of the mark after n records are passed: it stands on none before the first, and
-- then on a record that no later one is.
pub record Marks (s : List ℕ) (k n : ℕ) (m : Mark) : Type 0 where
  pub none_yet : n ≡ 0 → m.behind ≡ end_value
  pub first-yet : n ≡ 0 → m.until ≡ 0
  pub behind-it : m.stays ≤ n
  pub marked : 0 < n → m.behind ≡ link s k m.stays
  pub passed : 0 < n → m.stays < n
  pub until : 0 < n → m.until ≡ 2 * m.stays + 1
  pub not_yet : n ≤ m.until
  pub alone : (i : ℕ) → 0 < i → m.stays + i < n → link s k m.stays ≡ link s k (m.stays + i) → ⊥
  pub near : m.stays ≤ 2 * length s

-- n records are passed, and the walk stands at the field of the next
pub record Ahead (s : List ℕ) (k f n : ℕ) (m : Mark) : Type 0 where
  pub field : f ≡ link_field s k n
  pub passes : PassesBelow s k n
  pub marks : Marks s k n m
