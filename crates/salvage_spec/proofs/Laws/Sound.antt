-- An accepted cache: its meetings are all its records, and without equal names each is kept, with
-- all its images.
use Rattle.std.specs.Prelude.{ℕ, zero, suc, ◌+◌, ◌<◌, ◌≡◌, refl, List, [], ◌∷◌, ◌++◌, map, true, false}
use Rattle.std.proofs.Common.{sym, ap, ◌∙◌, arith}
use Rattle.std.proofs.lemmas.List.{map-append}
use Rattle.std.proofs.Math.Bool.{not-eq-not, and-false}
use borrow.Author.Tests.{eq-eqb}
use Rattle.format.specs.Bytes.{joined}
use Rattle.format.specs.Fault.{no_fault}
use Rattle.format.specs.Header.{directories, buckets, path_fault, tables_fault}
use Rattle.format.specs.Record.{name_of, images_at, images, valid_image_list, valid_image, image_fault, name_fault, list_fault, record_fault}
use Rattle.format.specs.Chain.{Chain, records_below, all_records}
use Rattle.format.specs.Words.{link, Holds, Accepted, Lengths}
use Rattle.format.specs.declared.Reading.TheVariants.{Short}
use Rattle.format.proofs.Laws.Faults.{or_else-none, unless-none, kept-each}
use Rattle.format.proofs.Laws.Along.{links, holds-chain}
use Rattle.format.proofs.Laws.Links.{once, chain-on}
use Rattle.format.proofs.Laws.Apart.{holds-few}
use Rattle.format.proofs.Laws.Buckets.{lengths}
use Rattle.catalogue.proofs.Laws.Icons.{paths-each}
use Rattle.salvage_spec.specs.Meetings.{met, cut, fate, meetings}
use Rattle.salvage_spec.specs.Salvage.{image_place, image_entries, meeting_entries, chain_entries, path_entries, entries}
use Rattle.salvage_spec.specs.Promise.{MeetsAt, met_record, NoEqualNames}
use Rattle.salvage_spec.proofs.Laws.Lists.{joined-none}
use Rattle.salvage_spec.proofs.Laws.Meets.{met-is}
use Rattle.salvage_spec.proofs.Laws.Steps.{over-meetings}
use Rattle.salvage_spec.proofs.Laws.Kept.{right_kept, among-kept}

-- what sound tables and a sound record tell
pub sound-path : (s : List ℕ) (i : ℕ) → (tables_fault s).number ≡ 0 → i < directories s → (path_fault s i).number ≡ 0
unfolding tables_fault
sound-path s i e l = paths-each s (directories s) i (or_else-none _ _ e).1 l

module _ (s : List ℕ) (k r : ℕ) (e : (record_fault Short s k r).number ≡ 0) where
  sound-name : (name_fault s k r).number ≡ 0
  unfolding record_fault
  sound-name = (or_else-none _ _ e).0

  sound-list : valid_image_list s (images_at s r) ≡ true
  unfolding record_fault list_fault
  sound-list = unless-none _ _ _ (or_else-none _ _ (or_else-none _ _ e).1).0

  pub sound-image : (i : ℕ) → i < images s r → valid_image s (image_place s r i) ≡ true
  unfolding record_fault list_fault
  sound-image i l =
      unless-none _ _ _ (kept-each (image_fault s) 8 (images s r) (images_at s r + 4) i l (or_else-none _ _ (or_else-none _ _ e).1).1)

-- the first records of a chain, gathered over its steps
gathered : (s : List ℕ) (k n : ℕ) → joined (λ m. link s k m ∷ []) n ≡ links s k n
unfolding joined links
gathered s k zero = refl
gathered s k (suc n) = ap (λ l. l ++ (link s k n ∷ [])) (gathered s k n)

-- the walk of a chain that holds meets each of its records, and nothing cuts it
module _ (s : List ℕ) (k n : ℕ) (h : Holds Short s k n) where
  meets-each : (m : ℕ) → m < n → MeetsAt s k m
  meets-each m l = record {
    passed = λ i e. sound-name s k (link s k i) (h.keeps i (omega arith)).1.rules;
    real = (h.keeps m l).0;
    inside = (h.keeps m l).1.inside;
    fresh = λ i g e. once h (record { first = i; second = m; order = g; below = l; same = sym e });
  }

  pub holds-met : met s k ≡ n
  holds-met = met-is s k n meets-each (λ w. w.real h.ends)

  holds-uncut : cut s k ≡ no_fault
  unfolding cut
  holds-uncut = rw (cut, holds-met, eq-eqb _ _ h.ends, and-false)

  -- without equal names each of them is kept
  module _ (l : k < buckets s) (differ : NoEqualNames s) where
    pub holds_kept : (m : ℕ) → m < n → (fate s k m).number ≡ 0
    holds_kept m g =
        let keeps = (h.keeps m g).1.rules in
        let new = (not-eq-not {b = false}).0 (λ e.
        let (i, o, q, same) = among-kept s k (name_of s (link s k m)) m e in
        once h (record { first = i; second = m; order = o; below = g; same = differ k k m i _ _ l l (chain-on h g) (chain-on h (omega arith)) (sym same) })) in
        right_kept s k m (record { named = sound-name s k (link s k m) keeps; listed = sound-list s k (link s k m) keeps; new = new })

    no-meeting : (m : ℕ) → m < n → meeting_entries s k m ≡ []
    unfolding meeting_entries image_entries
    no-meeting m g =
        let keeps = (h.keeps m g).1.rules in
        rw (meeting_entries, holds_kept m g) (joined-none _ (images s (link s k m)) (λ i o. rw (sound-image s k (link s k m) keeps i o)))

    no-chain : chain_entries s k ≡ []
    unfolding chain_entries
    no-chain = rw (chain_entries, holds-uncut, joined-none (meeting_entries s k) (met s k) (λ m g. no-meeting m (rw holds-met at g)))

-- the records of the chains below bucket k, gathered over the buckets and the steps
pub all-below : (s : List ℕ) (f : ℕ → ℕ) (k : ℕ) → Lengths Short s k f
    → joined (λ j. joined (λ n. link s j n ∷ []) (met s j)) k ≡ records_below Short s k
unfolding joined records_below
all-below s f zero h = refl
all-below s f (suc k) h =
    let here = h k (omega arith) in
    let records = ap (λ (c : Chain). c.records) (holds-chain Short s k (holds-few here) here) in
    rw (all-below s f k (λ j l. h j (omega arith)), holds-met s k (f k) here, gathered s k (f k), records)

pub all-met : (s : List ℕ) → Accepted Short s → map (met_record s) (meetings s) ≡ all_records Short s
all-met s acc =
    let (f, h) = lengths acc in
    over-meetings s (map (met_record s)) refl (map-append (met_record s)) ∙ all-below s f (buckets s) h

pub no_rows : (s : List ℕ) → Accepted Short s → NoEqualNames s → entries s ≡ []
unfolding entries path_entries
no_rows s acc differ =
    let (f, h) = lengths acc in
    let paths : path_entries s ≡ [] = joined-none _ (directories s) (λ i l. rw (sound-path s i acc.tables-kept l)) in
    rw (paths, joined-none (chain_entries s) (buckets s) (λ k l. no-chain s k (f k) (h k l) l differ))
