-- What the writer answers and leaves, by what is judged first.
use Rattle.std.specs.Prelude.{ℕ, ◌≤◌, ◌<◌, ◌≡◌, List, ◌++◌, ◌⊎◌, true, false, length, Ok, Err}
use Rattle.std.proofs.Common.{ap, ◌∙◌, ⊎_elim, arith, lt-ltb, le-leb}
use Rattle.std.proofs.Math.Bool.{and-false}
use Rattle.std.proofs.Math.Nat.{zero-add}
use Rattle.std.proofs.lemmas.Bool.{lt-leb}
use Rattle.std.proofs.Math.ListN.{drop}
use Rattle.format.specs.Fault.{fault, no_fault}
use Rattle.format.specs.Bytes.{put}
use Rattle.format.specs.declared.Fault.{Fault}
use Rattle.format.proofs.Laws.Outcomes.{kept-by}
use Rattle.format.proofs.Laws.Faults.{broken-takes, or_else-first, or_else-next, or_else-none, broken-speaks, kept-passes, unless-broken}
use Rattle.catalogue.specs.Fields.{AreBytes, path_count, icon_count_at, catalogue_in}
use Rattle.catalogue.specs.Repeats.{catalogue_fault}
use Rattle.catalogue.specs.Written.{written_size, written}
use Rattle.catalogue.specs.Call.{write_answer, allowed_buckets, allowed_size, write_fault, write, write_leaves}
use Rattle.judging.specs.Judging.{parts_at, parted}
use Rattle.judging.specs.declared.Parts.{Parts}
use Rattle.passes.specs.Passes.{Judged}

-- a catalogue that is judged good, by its parts
pub parts-judged : {c : List ℕ} → AreBytes c → {a : Parts} → Ok a ≡ parted c (catalogue_fault c) (path_count c) (icon_count_at c)
    → Judged c a.paths a.icons a.first_icon
unfolding catalogue_fault
parts-judged {c} bytes {a} told =
    let (good, is) = kept-by (catalogue_fault c) (parts_at c (path_count c) (icon_count_at c)) a told in
    record {
      are-bytes = bytes;
      good = (or_else-none _ _ good).0;
      all-paths = ap (λ (p : Parts). p.paths) is;
      all-icons = ap (λ (p : Parts). p.icons) is;
      begin = ap (λ (p : Parts). p.first_icon) is;
    }

-- the number of buckets, and the size
pub buckets-allowed : {b : ℕ} → (b ≡ 0 → ⊥) → b ≤ 4096 → allowed_buckets b ≡ true
buckets-allowed {b} some few = rw (lt-ltb 0 b (omega arith), le-leb b 4096 few)

pub buckets-wrong : {b : ℕ} → (b ≡ 0) ⊎ (4096 < b) → allowed_buckets b ≡ false
buckets-wrong {b} = ⊎_elim (λ none. rw none) (λ many. rw (lt-leb b 4096 many, and-false))

pub size-allowed : {n m : ℕ} → n ≤ m → n ≤ 16777216 → allowed_size n m ≡ true
size-allowed {n} {m} fits short = rw (le-leb n m fits, le-leb n 16777216 short)

pub size-wrong : {n m : ℕ} → (m < n) ⊎ (16777216 < n) → allowed_size n m ≡ false
size-wrong {n} {m} = ⊎_elim (λ little. rw (lt-leb n m little)) (λ long. rw (lt-leb n 16777216 long, and-false))

module _ (c : List ℕ) (b : ℕ) (lent : List ℕ) where
  abbrev room : ℕ
  room = length lent

  -- a refusal, and what it leaves
  module _ {v : Fault} (e : write_fault c b room ≡ v) (broken : v.number ≡ 0 → ⊥) where
    pub write-refused : write_answer (Err v) ≡ write c b room
    unfolding write
    write-refused = rw (e, broken-takes v (written_size (catalogue_in c) b) 0 broken)

    pub leaves_all : lent ≡ write_leaves c b lent
    unfolding write_leaves
    leaves_all = rw (e, broken-takes v (written (catalogue_in c) b ++ drop (length (written (catalogue_in c) b)) lent) lent broken)

  -- the catalogue's own
  pub catalogue-refused : ((catalogue_fault c).number ≡ 0 → ⊥) → write_fault c b room ≡ catalogue_fault c
  unfolding write_fault
  catalogue-refused broken = or_else-first _ _ broken

  module _ (good : (catalogue_fault c).number ≡ 0) where
    pub buckets-refused : allowed_buckets b ≡ false → write_fault c b room ≡ fault 18 0
    unfolding write_fault
    buckets-refused e = or_else-next _ _ good ∙ broken-speaks (allowed_buckets b) 17 0 _ e

    module _ (some : allowed_buckets b ≡ true) where
      pub size-refused : allowed_size (written_size (catalogue_in c) b) room ≡ false → write_fault c b room ≡ fault 19 0
      unfolding write_fault
      size-refused e = or_else-next _ _ good ∙ kept-passes (allowed_buckets b) 18 0 _ some ∙ unless-broken _ 19 0 e

      -- all is kept: the cache is written
      module _ (fits : allowed_size (written_size (catalogue_in c) b) room ≡ true) where
        none : write_fault c b room ≡ no_fault
        unfolding write_fault
        none = or_else-next _ _ good ∙ kept-passes (allowed_buckets b) 18 0 _ some ∙ rw fits

        pub write_done : write_answer (Ok (written_size (catalogue_in c) b)) ≡ write c b room
        unfolding write
        write_done = rw none

        pub leaves-written : {out : List ℕ} → out ≡ put lent 0 (written (catalogue_in c) b) → out ≡ write_leaves c b lent
        unfolding write_leaves put
        leaves-written e =
            let w = written (catalogue_in c) b in
            let front : put lent 0 w ≡ w ++ drop (length w) lent = rw zero-add in
            e ∙ front ∙ rw none
