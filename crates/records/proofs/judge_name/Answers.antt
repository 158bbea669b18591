-- `records::judge_name` meets its contract: what each test asks is what a rule of the definition
-- asks, and the laws `name-unread`, `name-foreign` and `name-home` say which rule is the first to
-- be broken. A name that is known keeps all three by the `requires`.
use Rattle.std.proofs.Common.{◌≡◌, ℕ, ◌%◌, List, take, true, sym, ap, ◌∙◌, arith}
use Rattle.std.proofs.lemmas.Result.{err_from_is_err_and}
use Rattle.format.specs.String.{string, extent, is_whole, hash}
use Rattle.format.specs.declared.Extent.{Extent}
use Rattle.format.specs.declared.Extent.TheVariants.{Whole}
use Rattle.format.specs.Header.{buckets}
use Rattle.format.specs.Record.{name_part, name_of, bucket_of, name_extent}
use Rattle.format.proofs.Laws.Extents.{string-broken}
use Rattle.format.proofs.Laws.Strings.{whole-within, whole-is-whole}
use Rattle.format.proofs.Laws.Hashes.{hash-bucket}
use Rattle.format.proofs.Laws.Header.{header-valid}
use Rattle.format.proofs.Laws.Records.{name-unread, name-foreign, name-home}
use Rattle.tables.specs.Laws.{same-buckets}
use Rattle.tables.proofs.Handed.{breaks, keeps}
use Rattle.records.proofs.judge_name.Goals as goal

-- a whole name of record r, read from the part where it stands, was read to its end
module _ (s : List ℕ) (r : ℕ) {part : List ℕ} {e : Extent} {n : ℕ} (there : part ≡ name_part s r) (is : e ≡ extent 255 part) (here : e ≡ Whole n) where
  whole : is_whole (name_extent s r) ≡ true
  whole = whole-is-whole 255 _ _ (sym (is ∙ ap (extent 255) there) ∙ here)

  placed : {h b : ℕ} → h ≡ hash (take 255 (string part)) → b ≡ buckets s → h % b ≡ bucket_of s (name_of s r)
  placed hashed count = hash-bucket _ _ (hashed ∙ ap hash (whole-within 255 there whole)) count

pub returns-then-known : goal.returns-then-known
returns-then-known c = keeps tt (c.requires.record_value c.if-known.true)

pub returns-in_err-judge : goal.returns-in_err-judge
returns-in_err-judge c =
    let named = c.read_name-name.ensures.extent ∙ ap (extent 255) c.name_part.ensures in
    let broken = ap is_whole (sym named) ∙ c.in_err-judge.ensures.0 in
    let p = err_from_is_err_and c.from_residual.result c.from_residual.ensures.1 in
    rw (p.1, p.2, c.in_err-judge.ensures.1, named) (breaks tt (name-unread _ _ _ broken) (string-broken _ _ _ broken))

pub nonzero_rem-name : goal.nonzero_rem-name
nonzero_rem-name c =
    rw (same-buckets c.requires.tables_of) (header-valid _ c.requires.tables_of.header).buckets-some

pub returns-then-name-t : goal.returns-then-name-t
returns-then-name-t c =
    let s = c.args.cache.now in
    let there = c.name_part.ensures in
    let read = c.read_name-name.ensures in
    let home = placed s c.args.«record» there read.extent c.in_ok-judge.ensures read.hash (same-buckets c.requires.tables_of) in
    breaks tt (name-foreign _ _ _ (whole s c.args.«record» there read.extent c.in_ok-judge.ensures) (rw home at c.if-name-t.true)) (λ z. omega arith)

pub returns : goal.returns
returns c =
    let s = c.args.cache.now in
    let there = c.name_part.ensures in
    let read = c.read_name-name.ensures in
    let home = placed s c.args.«record» there read.extent c.in_ok-judge.ensures read.hash (same-buckets c.requires.tables_of) in
    keeps tt (name-home _ _ _ (whole s c.args.«record» there read.extent c.in_ok-judge.ensures) (rw home at c.if-name-t.false))
