-- What is put for the directories, one after the other.
use Rattle.std.specs.Prelude.{ℕ, ◌+◌, ◌≡◌, List, ◌++◌, length, take, drop, Ok}
use Rattle.std.proofs.Common.{sym, ap, ◌∙◌, arith, length-append}
use Rattle.format.specs.Bytes.{bytes}
use Rattle.format.specs.Fault.{outcome}
use Rattle.format.specs.Header.{path_of, path_fault}
use Rattle.format.proofs.Laws.Bytes.{bytes-length}
use Rattle.format.proofs.Laws.Faults.{kept-takes, broken-takes}
use Rattle.tables.specs.Tables.{part_of}
use Rattle.tables.specs.Laws.{path_inside, path-is}
use Rattle.tables.specs.declared.PathPart.{PathPart}
use Rattle.filling.specs.Puts.{Puts}
use Rattle.filling.specs.Laws.{puts_first, puts-next, puts-skip}
use Rattle.salvage_spec.specs.Call.{row_words}
use Rattle.salvage_spec.specs.Pieces.{path_piece, path_row}
use Rattle.salvage_paths.specs.Closed.{PathsPut}

pub paths-put-none : (s lent : List ℕ) (at : ℕ) (words : List ℕ) → PathsPut s lent lent at words words 0 at 0
paths-put-none s lent at words = record { paths = puts_first lent at _; rows = puts_first words 0 _; bytes-few = omega arith; words-few = omega arith }

module _ {s lent out : List ℕ} {at : ℕ} {words report : List ℕ} {i b w : ℕ} (h : PathsPut s lent out at words report i b w) where
  pub paths-put-kept : {p : PathPart} {new : List ℕ} {r : ℕ} → Ok p ≡ outcome (path_fault s i) (part_of s i) → (path_fault s i).number ≡ 0
      → Puts out new b (bytes 2 p.length ++ take p.length (drop p.start s)) r → PathsPut s lent new at words report (i + 1) r w
  paths-put-kept {p} read e put =
      let is = path-is {s = s} {i = i} read (path_inside s i e) in
      let text = (path_inside s i e).short in
      record {
        paths = puts-next (path_piece s) i h.paths (kept-takes (path_fault s i) _ _ e ∙ sym is) put;
        rows = puts-skip (path_row s) i h.rows (kept-takes (path_fault s i) _ _ e);
        bytes-few = omega (arith, put.next, ap length is, length-append (bytes 2 (length (path_of s i))) (path_of s i), bytes-length 2 (length (path_of s i)), h.bytes-few);
        words-few = omega (arith, h.words-few);
      }

  pub paths-put-gone : {new : List ℕ} {r : ℕ} → ((path_fault s i).number ≡ 0 → ⊥) → Puts report new w (row_words (path_fault s i)) r
      → PathsPut s lent out at words new (i + 1) b r
  paths-put-gone bad put = record {
    paths = puts-skip (path_piece s) i h.paths (broken-takes (path_fault s i) _ _ bad);
    rows = puts-next (path_row s) i h.rows (broken-takes (path_fault s i) _ _ bad) put;
    bytes-few = omega (arith, h.bytes-few);
    words-few = omega (arith, put.next, h.words-few);
  }
