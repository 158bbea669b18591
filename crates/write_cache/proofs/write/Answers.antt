-- `write_cache::write` meets its contract: each `return` is one law of the answer.
use Rattle.std.proofs.Common.{◌≡◌, true, ap, ◌∙◌, ⊎_elim, inl, inr, ℕ, List, length, Ok, arith}
use Rattle.std.proofs.lemmas.Result.{err_from_is_err_and}
use Rattle.format.proofs.Laws.Outcomes.{kept-by, broken-by}
use Rattle.catalogue.specs.Fields.{path_count, icon_count_at, catalogue_in}
use Rattle.catalogue.specs.Repeats.{catalogue_fault}
use Rattle.catalogue.specs.Written.{written_size}
use Rattle.catalogue.specs.Call.{write_answer, allowed_buckets}
use Rattle.judging.specs.Judging.{parts_at, parted}
use Rattle.judging.specs.declared.Parts.{Parts}
use Rattle.write_cache.specs.Laws.Answer.{parts-judged, buckets-allowed, buckets-wrong, size-allowed, size-wrong, write-refused, leaves_all, catalogue-refused, buckets-refused, size-refused, write_done, leaves-written}
use Rattle.write_cache.proofs.write.Goals as goal

good : (c : List ℕ) {p : Parts} → Ok p ≡ parted c (catalogue_fault c) (path_count c) (icon_count_at c) → (catalogue_fault c).number ≡ 0
good c {p} told = (kept-by (catalogue_fault c) (parts_at c (path_count c) (icon_count_at c)) p told).0

-- the catalogue is refused
pub returns-in_err-parts : goal.returns-in_err-parts
returns-in_err-parts c =
    let a = c.args in
    let s = a.catalogue.now in
    let p = err_from_is_err_and c.from_residual.result c.from_residual.ensures.1 in
    let (broken, is) = broken-by (catalogue_fault s) (parts_at s (path_count s) (icon_count_at s)) _ c.in_err-parts.ensures in
    let e = catalogue-refused s a.buckets a.cache.now broken in
    record {
      answer = rw (p.1, p.2, is) (write-refused s a.buckets a.cache.now e broken);
      refused = rw (p.1, p.2, is) (omega (arith, broken));
      lent = leaves_all s a.buckets a.cache.now e broken;
    }

-- the number of buckets is
pub returns-then-buckets-eq0 : goal.returns-then-buckets-eq0
returns-then-buckets-eq0 c =
    let a = c.args in
    let s = a.catalogue.now in
    let wrong = buckets-wrong (⊎_elim inl (λ else. inr else.1) c.then-buckets-eq0.either) in
    let e = buckets-refused s a.buckets a.cache.now (good s c.in_ok-parts.ensures) wrong in
    record {
      answer = write-refused s a.buckets a.cache.now e (λ z. omega arith);
      refused = omega arith;
      lent = leaves_all s a.buckets a.cache.now e (λ z. omega arith);
    }

pub size-length-requires : goal.size-length-requires
size-length-requires c = (parts-judged (λ i. omega (arith, c.type_inv.catalogue i)) c.in_ok-parts.ensures, omega (arith, c.if-buckets-gt4096.false))

-- the size is
pub returns-then-cache-length : goal.returns-then-cache-length
returns-then-cache-length c =
    let a = c.args in
    let s = a.catalogue.now in
    let wrong = size-wrong (⊎_elim inl (λ else. inr else.1) c.then-cache-length.either) in
    let allowed : allowed_buckets a.buckets ≡ true = buckets-allowed c.if-buckets-eq0.false c.if-buckets-gt4096.false in
    let e = size-refused s a.buckets a.cache.now (good s c.in_ok-parts.ensures) allowed (rw c.size-length.ensures at wrong) in
    record {
      answer = write-refused s a.buckets a.cache.now e (λ z. omega arith);
      refused = omega arith;
      lent = leaves_all s a.buckets a.cache.now e (λ z. omega arith);
    }

pub fill-requires-clause-judged : goal.fill-requires-clause-judged
fill-requires-clause-judged c = parts-judged (λ i. omega (arith, c.type_inv.catalogue i)) c.in_ok-parts.ensures

pub returns : goal.returns
returns c =
    let a = c.args in
    let s = a.catalogue.now in
    let allowed : allowed_buckets a.buckets ≡ true = buckets-allowed c.if-buckets-eq0.false c.if-buckets-gt4096.false in
    let fits = size-allowed {n = written_size (catalogue_in s) a.buckets} {m = length a.cache.now} (omega (arith, c.size-length.ensures, c.if-cache-length.false)) (omega (arith, c.size-length.ensures, c.if-length-gt16777216.false)) in
    record {
      refused = tt;
      answer = ap (λ n. write_answer (Ok n)) c.size-length.ensures ∙ write_done s a.buckets a.cache.now (good s c.in_ok-parts.ensures) allowed fits;
      lent = leaves-written s a.buckets a.cache.now (good s c.in_ok-parts.ensures) allowed fits c.fill.ensures;
    }
