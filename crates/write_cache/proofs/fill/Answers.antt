-- `write_cache::fill` meets its contract: the passes put the parts one behind the other (`filled`).
use Rattle.std.proofs.Common.{◌≡◌, ℕ, ◌+◌, ◌*◌, ◌≤◌, List, length, ap, arith}
use Rattle.catalogue.specs.Fields.{catalogue_in}
use Rattle.catalogue.specs.Written.{lists_up_to, paths_up_to, names_up_to, written_size}
use Rattle.passes.specs.Passes.{Judged, BeginsOf}
use Rattle.passes.specs.declared.sizes.Begins.{Begins}
use Rattle.passes.specs.Laws.Counts.{icons-are, paths-are}
use Rattle.write_cache.specs.Appending.{Fits}
use Rattle.write_cache.specs.Laws.Filled.{ready, filled}
use Rattle.write_cache.proofs.fill.Goals as goal

-- where each part ends: all lie inside
record Ends (lists-size paths-size names-size size : ℕ) (lists directories paths names b m room : ℕ) : Type 0 where
  pub tables : 16 + 4 * b ≤ lists
  pub few : b ≤ 4096
  pub lists-end : lists + lists-size ≡ directories
  pub directories-end : directories + (4 + 4 * m) ≡ paths
  pub paths-end : paths + paths-size ≡ names
  pub names-end : names + names-size ≡ size
  pub fits : size ≤ room
  pub short : size ≤ 16777216

ends : {c out : List ℕ} {m n first b : ℕ} {at : Begins} → Judged c m n first → Fits (catalogue_in c) b out → BeginsOf (catalogue_in c) b at
    → Ends (length (lists_up_to (catalogue_in c) n)) (length (paths_up_to (catalogue_in c) m)) (length (names_up_to (catalogue_in c) n)) (written_size (catalogue_in c) b) at.lists at.directories at.paths at.names b m (length out)
ends {c} h f e =
    let d = catalogue_in c in
    let n-are = icons-are h in
    let m-are = paths-are h in
    let lists-are = ap (λ n. length (lists_up_to d n)) n-are in
    let names-are = ap (λ n. length (names_up_to d n)) n-are in
    let paths-are = ap (λ m. length (paths_up_to d m)) m-are in
    record {
      tables = omega (arith, e.lists);
      few = f.few;
      lists-end = omega (arith, e.lists, e.directories);
      directories-end = omega (arith, e.directories, e.paths);
      paths-end = omega (arith, e.paths, e.names);
      names-end = omega (arith, e.names);
      fits = f.room;
      short = f.short;
    }

pub records-requires-clause-ready : goal.records-requires-clause-ready
records-requires-clause-ready c = ready c.requires.fits c.arrange-begins.ensures c.tables.ensures (omega arith)

pub lists-requires-clause-icons_in_bounds : goal.lists-requires-clause-icons_in_bounds
lists-requires-clause-icons_in_bounds c = let e = ends c.requires.judged c.requires.fits c.arrange-begins.ensures in omega arith

pub directories-requires-clause-n_in_bounds : goal.directories-requires-clause-n_in_bounds
directories-requires-clause-n_in_bounds c = let e = ends c.requires.judged c.requires.fits c.arrange-begins.ensures in omega arith

pub directories-requires-clause-n_bound : goal.directories-requires-clause-n_bound
directories-requires-clause-n_bound c = let e = ends c.requires.judged c.requires.fits c.arrange-begins.ensures in omega arith

pub paths-requires-clause-n_in_bounds : goal.paths-requires-clause-n_in_bounds
paths-requires-clause-n_in_bounds c = let e = ends c.requires.judged c.requires.fits c.arrange-begins.ensures in omega arith

pub names-requires-clause-icons_in_bounds : goal.names-requires-clause-icons_in_bounds
names-requires-clause-icons_in_bounds c = let e = ends c.requires.judged c.requires.fits c.arrange-begins.ensures in omega arith

pub returns : goal.returns
returns c =
    filled c.requires.fits c.arrange-begins.ensures (icons-are c.requires.judged) (paths-are c.requires.judged)
    c.tables.ensures c.«records».ensures c.lists.ensures c.directories.ensures c.paths.ensures c.names.ensures
