-- `tables::header` meets its contract: each test of the code asks what a rule asks, and at each
-- `return` the definition computes with what the tests on the way there said.
use Prim.Native.Nat.{ℕ, ◌≤◌}
use mathlib.Core.Path.{◌≡◌, ◌∙◌, refl, sym}
use mathlib.Core.List.{List}
use mathlib.Core.Bool.{Bool, true, false, ◌&&◌}
use native.Mathlib.Nat.{le_of_eq, pos_of_ne-zero}
use native.Mathlib.Omega.{arith}
use borrow.Author.Tests.{le-ltb, lt-ltb, le-leb, lt-leb}
use lib.Dec.{ltb, leb}
use lib.ListN.{length}
use Rattle.std.specs.Prelude.{if◌then◌else◌}
use Rattle.format.specs.Part.{list_inside}
use Rattle.format.specs.Fault.{unless, ◌or_else◌}
use Rattle.format.specs.Header.{header_fault, valid_version, directories_at, directories, valid_directories, buckets_at, buckets, valid_buckets}
use Rattle.tables.specs.Tables.{list_count}
use Rattle.tables.proofs.Handed.{breaks, keeps}
use Rattle.tables.proofs.header.Goals as goal

-- a count fails a test where its list doesn't lie inside, if the number that stands for it fails
count-test : (test : ℕ → Bool) (other : ℕ) → test other ≡ false → (lies : Bool) (n : ℕ) → (lies && test n) ≡ test (if lies then n else other)
count-test test other e true n = refl
count-test test other e false n = sym e

-- what rules 4 and 5 ask, by what `list_count` answers
rule-4 : (s : List ℕ) {n : ℕ} → n ≡ list_count s 8 65536 → valid_directories s ≡ leb n 65535
rule-4 s e = rw e (count-test (λ n. leb n 65535) 65536 refl (list_inside s (directories_at s) 4) (directories s))

rule-5 : (s : List ℕ) {n : ℕ} → n ≡ list_count s 4 0 → valid_buckets s ≡ ltb 0 n
rule-5 s e = rw e (count-test (ltb 0) 0 refl (list_inside s (buckets_at s) 4) (buckets s))

-- what is left of the definition where rules 1 to 3 are kept, and where rule 4 is too
module _ (s : List ℕ) (long : 12 ≤ length s) (short : length s ≤ 16777216) (version : valid_version s ≡ true) where
  past-3 : header_fault s ≡ (unless (valid_directories s) 4 8 or_else unless (valid_buckets s) 5 4)
  unfolding header_fault ◌or_else◌
  past-3 = simp (le-leb _ _ long, le-leb _ _ short, version)

  past-4 : {n : ℕ} → n ≡ list_count s 8 65536 → n ≤ 65535 → header_fault s ≡ unless (valid_buckets s) 5 4
  unfolding ◌or_else◌
  past-4 e few = simp (past-3, rule-4 s e, le-leb _ _ few)

pub returns-then-cache-lt12 : goal.returns-then-cache-lt12
unfolding header_fault ◌or_else◌
returns-then-cache-lt12 c = breaks tt (simp (lt-leb _ _ c.if-cache-lt12.true)) (λ z. omega arith)

pub returns-then-cache-gt16777216 : goal.returns-then-cache-gt16777216
unfolding header_fault ◌or_else◌
returns-then-cache-gt16777216 c =
    breaks tt (simp (le-leb _ _ c.if-cache-lt12.false, lt-leb _ _ c.if-cache-gt16777216.true)) (λ z. omega arith)

pub returns-then-not-valid_version : goal.returns-then-not-valid_version
unfolding header_fault ◌or_else◌
returns-then-not-valid_version c =
    breaks tt
    (simp (le-leb _ _ c.if-cache-lt12.false, le-leb _ _ c.if-cache-gt16777216.false, sym c.valid_version.ensures ∙ c.if-not-valid_version.true))
    (λ z. omega arith)

pub returns-then-list_count-gt65535 : goal.returns-then-list_count-gt65535
unfolding ◌or_else◌
returns-then-list_count-gt65535 c =
    let version = sym c.valid_version.ensures ∙ c.if-not-valid_version.false in
    breaks tt
    (simp (past-3 _ c.if-cache-lt12.false c.if-cache-gt16777216.false version, rule-4 _ c.list_count.ensures, lt-leb _ _ c.if-list_count-gt65535.true))
    (λ z. omega arith)

pub returns-then-list_count-eq0 : goal.returns-then-list_count-eq0
returns-then-list_count-eq0 c =
    let version = sym c.valid_version.ensures ∙ c.if-not-valid_version.false in
    breaks tt
    (simp (past-4 _ c.if-cache-lt12.false c.if-cache-gt16777216.false version c.list_count.ensures c.if-list_count-gt65535.false, rule-5 _ c.list_count-2.ensures, le-ltb _ _ (le_of_eq c.if-list_count-eq0.true)))
    (λ z. omega arith)

pub returns : goal.returns
returns c =
    let version = sym c.valid_version.ensures ∙ c.if-not-valid_version.false in
    keeps tt
    (simp (past-4 _ c.if-cache-lt12.false c.if-cache-gt16777216.false version c.list_count.ensures c.if-list_count-gt65535.false, rule-5 _ c.list_count-2.ensures, lt-ltb _ _ (pos_of_ne-zero c.if-list_count-eq0.false)))
