-- 20 among names one after the other, and along one chain: it stands at the first repeat there.
use Prim.Native.Nat.{ℕ, zero, suc, ◌+◌, ◌≤◌, ◌<◌}
use Rattle.std.specs.Prelude.{◌≡◌, false, ◌||◌, length}
use Rattle.std.proofs.Math.Path.{refl, ap}
use Rattle.std.proofs.Common.{sym, ◌∙◌, ⊎_elim, add-one, arith}
use mathlib.Core.List.{List, [], ◌∷◌, ◌++◌, map-append}
use Rattle.std.proofs.Math.Bool.{true, not}
use Rattle.std.proofs.Math.Decide.{ℕ_discrete}
use Rattle.format.specs.Fault.{fault, no_fault, unless, ◌or_else◌}
use Rattle.format.specs.String.{same_bytes, among}
use Rattle.format.specs.Record.{name_of}
use Rattle.format.specs.Header.{bucket_field}
use Rattle.format.specs.Number.{be}
use Rattle.format.specs.Chain.{Chain}
use Rattle.format.specs.Words.{link, Holds}
use Rattle.format.proofs.Laws.Names.{among-either}
use Rattle.format.proofs.Laws.Faults.{same_number, or_else-first, or_else-next, or_else-assoc, kept-passes, broken-speaks}
use Rattle.format.proofs.Laws.Along.{links, holds-chain}
use Rattle.format.proofs.Laws.Apart.{holds-few}
use Rattle.format.specs.declared.Reading.TheVariants.{Short}
use Rattle.catalogue.specs.Catalogue.{Each}
use Rattle.catalogue.specs.Repeats.{Use, use_is, repeat_fault}
use Rattle.names.specs.Repeat.{FirstRepeat, seen}
use Rattle.names.specs.Laws.Repeat.{not_seen, seen-before}
use Rattle.rounds.specs.Stepping.{ahead}
use Rattle.repeats.specs.Along.{name_along, InsideAlong}
use Rattle.gathering.specs.Chains.{uses_of, chain_repeat}

-- the names before, after some uses more
unfoldable pub passed : List (List ℕ) → List Use → List (List ℕ)
passed before [] = before
passed before (u ∷ us) = passed (u.name ∷ before) us

pub repeat-append : (before : List (List ℕ)) (us vs : List Use) → repeat_fault before (us ++ vs) ≡ repeat_fault before us or_else repeat_fault (passed before us) vs
unfolding repeat_fault passed
repeat-append before [] vs = sym (or_else-next no_fault _ refl)
repeat-append before (u ∷ us) vs =
    ap (λ v. unless (not (among u.name before)) 20 u.place or_else v) (repeat-append (u.name ∷ before) us vs)
    ∙ sym (or_else-assoc _ (repeat_fault (u.name ∷ before) us) _)

pub passed-append : (before : List (List ℕ)) (us vs : List Use) → passed before (us ++ vs) ≡ passed (passed before us) vs
unfolding passed
passed-append before [] vs = refl
passed-append before (u ∷ us) vs = passed-append (u.name ∷ before) us vs

-- what holds of the names before and of those passed
pub passed-all : (P : List ℕ → Type 0) (us : List Use) (before : List (List ℕ)) → Each (λ u. P u.name) us → ((t : List ℕ) → among t before ≡ true → P t)
    → (t : List ℕ) → among t (passed before us) ≡ true → P t
unfolding passed
passed-all P [] before each known t e = known t e
passed-all P (u ∷ us) before each known t e =
    passed-all P us (u.name ∷ before) each.1 (λ x m. ⊎_elim (λ same. rw same each.0) (known x) (among-either x u.name before m)) t e

-- two lists of names before, of which no name that comes can tell one from the other
pub repeat-same : (P : List ℕ → Type 0) (us : List Use) (some other : List (List ℕ)) → Each (λ u. P u.name) us
    → ((t : List ℕ) → P t → among t some ≡ among t other) → repeat_fault some us ≡ repeat_fault other us
unfolding repeat_fault among
repeat-same P [] some other each same = refl
repeat-same P (u ∷ us) some other each same =
    ap (λ b. unless (not b) 20 u.place or_else repeat_fault (u.name ∷ some) us) (same u.name each.0)
    ∙ ap (λ v. unless (not (among u.name other)) 20 u.place or_else v)
    (repeat-same P us (u.name ∷ some) (u.name ∷ other) each.1 (λ t p. ap (λ b. same_bytes t u.name || b) (same t p)))

module _ (s : List ℕ) (k : ℕ) where
  pub ahead-link : (i : ℕ) → ahead s (bucket_field s k) (suc i) ≡ link s k i
  unfolding ahead link
  ahead-link zero = refl
  ahead-link (suc i) = ap (be 4 s) (ahead-link i)

  -- the name of the i-th record, and the uses of the first n
  name : ℕ → List ℕ
  name = name_along s (bucket_field s k)

  uses : ℕ → List Use
  uses n = uses_of s (links s k n)

  uses-next : (n : ℕ) → uses (suc n) ≡ uses n ++ (use_is (name n) (link s k n + 4) ∷ [])
  unfolding links name uses
  uses-next n =
      map-append (λ r. use_is (name_of s r) (r + 4)) (links s k n) (link s k n ∷ [])
      ∙ ap (λ r. uses n ++ (use_is (name_of s r) (link s k n + 4) ∷ [])) (sym (ahead-link n))

  uses-passed : (n : ℕ) → passed [] (uses n) ≡ seen name n
  unfolding links uses passed seen
  uses-passed zero = refl
  uses-passed (suc n) =
      ap (passed []) (uses-next n) ∙ passed-append [] (uses n) (use_is (name n) (link s k n + 4) ∷ []) ∙ ap (λ b. name n ∷ b) (uses-passed n)

  uses-fault : (n : ℕ) → repeat_fault [] (uses (suc n)) ≡ repeat_fault [] (uses n) or_else repeat_fault (seen name n) (use_is (name n) (link s k n + 4) ∷ [])
  uses-fault n =
      ap (repeat_fault []) (uses-next n) ∙ repeat-append [] (uses n) (use_is (name n) (link s k n + 4) ∷ [])
      ∙ ap (λ b. repeat_fault [] (uses n) or_else repeat_fault b (use_is (name n) (link s k n + 4) ∷ [])) (uses-passed n)

  none-along : (n : ℕ) → ((i : ℕ) → i < n → among (name i) (seen name i) ≡ false) → repeat_fault [] (uses n) ≡ no_fault
  unfolding links uses repeat_fault
  none-along zero new = refl
  none-along (suc n) new =
      uses-fault n ∙ or_else-next _ _ (same_number (none-along n (λ i l. new i (omega arith))))
      ∙ kept-passes (not (among (name n) (seen name n))) 20 (link s k n + 4) no_fault (ap not (new n (omega arith)))

  first-along : (n r : ℕ) → r < n → ((i : ℕ) → i < r → among (name i) (seen name i) ≡ false) → among (name r) (seen name r) ≡ true
      → repeat_fault [] (uses n) ≡ fault 20 (link s k r + 4)
  unfolding repeat_fault
  first-along zero r l new old = absurd (omega arith)
  first-along (suc n) r l new old = elim (ℕ_discrete r n) [
    | yes e ↦
        let here : among (name n) (seen name n) ≡ true = rw (← e) old in
        uses-fault n ∙ or_else-next _ _ (same_number (none-along n (λ i g. new i (omega arith))))
        ∙ broken-speaks (not (among (name n) (seen name n))) 19 (link s k n + 4) no_fault (ap not here) ∙ rw e
    | no a ↦
        let before = first-along n r (omega arith) new old in
        uses-fault n ∙ or_else-first _ _ (λ z. let w = same_number before in omega arith) ∙ before
  ]

  -- the search for the first repeat along a chain
  module _ {n : ℕ} (h : Holds Short s k n) {f : ℕ} (start : f ≡ bucket_field s k) where
    module _ (room : f + 4 ≤ length s) where
      record-ends : (i : ℕ) → i < n → ahead s f (suc i) + 12 ≤ length s
      record-ends i l = omega (arith, ap (λ p. ahead s p (suc i)) start ∙ ahead-link i, (h.keeps i l).1.inside)

      pub field-ends : (i : ℕ) → i ≤ n → ahead s f i + 4 ≤ length s
      unfolding ahead
      field-ends zero l = room
      field-ends (suc i) l = omega (arith, record-ends i l)

      pub chain-inside : InsideAlong s f n
      unfolding ahead
      chain-inside i l = record { field-ends = field-ends i (omega arith); record-ends = record-ends i l }

    along : chain_repeat s k ≡ repeat_fault [] (uses n)
    unfolding uses
    along = ap (λ (c : Chain). repeat_fault [] (uses_of s c.records)) (holds-chain Short s k (holds-few h) h)

    module _ {r : ℕ} (found : FirstRepeat (name_along s f) n r) where
      first : FirstRepeat name n r
      unfolding name
      first = rw start at found

      pub chain-repeats : r < n → {p : ℕ} → p ≡ ahead s f (r + 1) → fault 20 (p + 4) ≡ chain_repeat s k
      chain-repeats l e =
          ap (λ q. fault 20 (q + 4)) (e ∙ rw (start, add-one) (ahead-link r)) ∙ sym (along ∙ first-along n r l (not_seen first) (seen-before first l))

      pub chain-repeats-none : n ≤ r → no_fault ≡ chain_repeat s k
      chain-repeats-none l = sym (along ∙ none-along n (λ i g. not_seen first i (omega arith)))
