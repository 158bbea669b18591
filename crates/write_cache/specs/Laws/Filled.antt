-- The whole cache: its parts are put one behind the other.
use Rattle.std.specs.Prelude.{ℕ, ◌+◌, ◌≡◌, List, ◌++◌}
use Rattle.std.proofs.Common.{sym, ◌∙◌, append-nil, append_assoc, arith}
use Rattle.std.proofs.Math.Path.{ap}
use Rattle.std.proofs.Math.ListN.{length, length-append}
use Rattle.format.specs.Layout.{end_value}
use Rattle.format.specs.Bytes.{bytes, joined, put}
use Rattle.format.proofs.Laws.Put.{put-over, put_then}
use Rattle.catalogue.specs.Catalogue.{Catalogue}
use Rattle.catalogue.specs.LaidOut.{first_in, table_bytes}
use Rattle.catalogue.specs.Written.{lists_up_to, paths_up_to, names_up_to, records_begin, directories_begin, places, front, written}
use Rattle.catalogue.proofs.Laws.Front.{front_length}
use Rattle.catalogue.proofs.Laws.Tables.{table-length}
use Rattle.passes.specs.Passes.{BeginsOf}
use Rattle.passes.specs.declared.sizes.Begins.{Begins}
use Rattle.write_cache.specs.Appending.{Fits, Ready}

-- a header and a hash of empty buckets
pub empty-front : (d : Catalogue) (b directories : ℕ) → directories ≡ directories_begin d b
    → bytes 2 1 ++ bytes 2 0 ++ bytes 4 12 ++ bytes 4 directories ++ (bytes 4 b ++ joined (λ _. bytes 4 end_value) b) ≡ front d b (places d b) 0
unfolding joined first_in
empty-front d b directories e = rw e (sym (append-nil _))

module _ {d : Catalogue} {b : ℕ} {lent : List ℕ} (fits : Fits d b lent) {a : Begins} (at : BeginsOf d b a) where
  abbrev begun : List ℕ
  begun = front d b (places d b) 0

  begun-length : length begun ≡ records_begin b
  begun-length = omega (arith, front_length d b (places d b) 0)

  -- the records may be put behind the tables
  pub ready : {out : List ℕ} → out ≡ put lent 0 (bytes 2 1 ++ bytes 2 0 ++ bytes 4 12 ++ bytes 4 a.directories ++ (bytes 4 b ++ joined (λ _. bytes 4 end_value) b))
      → length out ≡ length lent → Ready d b a.lists a.names out
  ready {out} put-tables same =
      let is = put-tables ∙ ap (put lent 0) (empty-front d b a.directories at.directories) in
      record {
        fits = record { some = fits.some; few = fits.few; room = omega (arith, fits.room); short = fits.short };
        first-list = at.lists;
        first-name = at.names;
        begun = is ∙ sym (put-over lent 0 begun begun (omega arith) (omega (arith, begun-length, fits.room))) ∙ ap (λ u. put u 0 begun) (sym is);
      }

  -- each part behind those before
  abbrev N : ℕ
  N = length d.icons

  abbrev M : ℕ
  M = length d.paths

  abbrev records-part : List ℕ
  records-part = front d b (places d b) N

  abbrev paths-table : List ℕ
  paths-table = table_bytes (λ i. a.paths + length (paths_up_to d i)) M

  module _ {o1 o2 o3 o4 o5 o6 : List ℕ}
      (tables : o1 ≡ put lent 0 (bytes 2 1 ++ bytes 2 0 ++ bytes 4 12 ++ bytes 4 a.directories ++ (bytes 4 b ++ joined (λ _. bytes 4 end_value) b)))
      (records : o2 ≡ put o1 0 records-part) (lists : o3 ≡ put o2 a.lists (lists_up_to d N)) (directories : o4 ≡ put o3 a.directories paths-table)
      (path-strings : o5 ≡ put o4 a.paths (paths_up_to d M)) (name-strings : o6 ≡ put o5 a.names (names_up_to d N)) where
    all-parts : o6 ≡ put lent 0 (written d b)
    unfolding written
    all-parts =
        let F = records-part in
        let L = lists_up_to d N in
        let D = paths-table in
        let P = paths_up_to d M in
        let f = front_length d b (places d b) N in
        let fl = length-append F L in
        let t = table-length (λ i. a.paths + length (paths_up_to d i)) M in
        let fld = length-append (F ++ L) D in
        let fldp = length-append (F ++ L ++ D) P in
        let is = tables ∙ ap (put lent 0) (empty-front d b a.directories at.directories) in
        let two = records ∙ ap (λ u. put u 0 F) is ∙ put-over lent 0 begun F (omega (arith, begun-length)) (omega (arith, fits.room)) in
        let three = put_then lent 0 F L (omega (arith, at.lists)) (omega (arith, at.lists, fits.room)) two lists in
        let four = put_then lent 0 (F ++ L) D (omega (arith, at.directories)) (omega (arith, at.directories, fits.room)) three directories in
        let five = put_then lent 0 (F ++ L ++ D) P (omega (arith, at.paths)) (omega (arith, at.paths, fits.room)) four path-strings in
        put_then lent 0 (F ++ L ++ D ++ P) (names_up_to d N) (omega (arith, at.names)) (omega (arith, at.names, fits.room)) five name-strings
        ∙ ap (put lent 0) (append_assoc (F ++ L ++ D) P (names_up_to d N) ∙ ap (λ p. F ++ L ++ table_bytes (λ i. p + length (paths_up_to d i)) M ++ (P ++ names_up_to d N)) at.paths)

  -- the same with the numbers of icons and paths as they were read
  pub filled : {n m : ℕ} → N ≡ n → M ≡ m → {o1 o2 o3 o4 o5 o6 : List ℕ}
      → o1 ≡ put lent 0 (bytes 2 1 ++ bytes 2 0 ++ bytes 4 12 ++ bytes 4 a.directories ++ (bytes 4 b ++ joined (λ _. bytes 4 end_value) b))
      → o2 ≡ put o1 0 (front d b (places d b) n) → o3 ≡ put o2 a.lists (lists_up_to d n)
      → o4 ≡ put o3 a.directories (table_bytes (λ i. a.paths + length (paths_up_to d i)) m) → o5 ≡ put o4 a.paths (paths_up_to d m)
      → o6 ≡ put o5 a.names (names_up_to d n) → o6 ≡ put lent 0 (written d b)
  filled icons paths tables records lists directories path-strings name-strings =
      all-parts tables (rw (← icons) at records) (rw (← icons) at lists) (rw (← paths) at directories) (rw (← paths) at path-strings) (rw (← icons) at name-strings)
