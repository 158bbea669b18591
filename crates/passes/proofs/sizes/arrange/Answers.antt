-- `passes::sizes::arrange` meets its contract: the parts are as long as the catalogue's.
use Rattle.std.proofs.Common.{◌≡◌, ℕ, ◌+◌, ◌-◌, ◌*◌, ◌≤◌, List, length, sym, ap, ◌∙◌, arith}
use Rattle.catalogue.specs.Fields.{catalogue_in}
use Rattle.catalogue.specs.Written.{lists_up_to, paths_up_to, directories_begin, written_size}
use Rattle.passes.specs.Passes.{Judged}
use Rattle.passes.specs.Laws.Counts.{icons-are, paths-are, first-is}
use Rattle.passes.proofs.sizes.arrange.Goals as goal

-- the numbers of icons and paths, and the sizes of their parts
record Sizes (c : List ℕ) (n m first b : ℕ) : Type 0 where
  pub icons : length (catalogue_in c).icons ≡ n
  pub paths : length (catalogue_in c).paths ≡ m
  pub lists : length (lists_up_to (catalogue_in c) (length (catalogue_in c).icons)) ≡ length (lists_up_to (catalogue_in c) n)
  pub strings : length (paths_up_to (catalogue_in c) (length (catalogue_in c).paths)) ≡ length (paths_up_to (catalogue_in c) m)
  pub begin : first ≡ 4 + length (paths_up_to (catalogue_in c) m) + m
  pub short : written_size (catalogue_in c) b ≤ 16777216

sizes : {c : List ℕ} {n m first b : ℕ} → Judged c m n first → written_size (catalogue_in c) b ≤ 16777216 → Sizes c n m first b
sizes {c} h short = record {
  icons = icons-are h;
  paths = paths-are h;
  lists = ap (λ n. length (lists_up_to (catalogue_in c) n)) (icons-are h);
  strings = ap (λ n. length (paths_up_to (catalogue_in c) n)) (paths-are h);
  begin = first-is h;
  short = short;
}

pub overflow_mul-lists-2 : goal.overflow_mul-lists-2
overflow_mul-lists-2 c = let z = sizes c.requires.judged c.requires.buckets_bound.1 in omega arith

pub overflow_add-lists-2 : goal.overflow_add-lists-2
overflow_add-lists-2 c = let z = sizes c.requires.judged c.requires.buckets_bound.1 in omega arith

pub lists_end-directories-requires-clause-icons_bound : goal.lists_end-directories-requires-clause-icons_bound
lists_end-directories-requires-clause-icons_bound c = let z = sizes c.requires.judged c.requires.buckets_bound.1 in omega arith

pub overflow_add-paths : goal.overflow_add-paths
overflow_add-paths c =
    let z = sizes c.requires.judged c.requires.buckets_bound.1 in omega (arith, c.lists_end-directories.ensures)

pub overflow_mul-paths : goal.overflow_mul-paths
overflow_mul-paths c = let z = sizes c.requires.judged c.requires.buckets_bound.1 in omega arith

pub overflow_add-paths-2 : goal.overflow_add-paths-2
overflow_add-paths-2 c =
    let z = sizes c.requires.judged c.requires.buckets_bound.1 in omega (arith, c.lists_end-directories.ensures)

pub overflow_sub-names : goal.overflow_sub-names
overflow_sub-names c = let z = sizes c.requires.judged c.requires.buckets_bound.1 in omega arith

pub overflow_sub-names-2 : goal.overflow_sub-names-2
overflow_sub-names-2 c = let z = sizes c.requires.judged c.requires.buckets_bound.1 in omega arith

pub overflow_add-names : goal.overflow_add-names
overflow_add-names c =
    let z = sizes c.requires.judged c.requires.buckets_bound.1 in omega (arith, c.lists_end-directories.ensures)

pub returns : goal.returns
returns c =
    let a = c.args in
    let d = catalogue_in a.catalogue.now in
    let z = sizes c.requires.judged c.requires.buckets_bound.1 in
    let directories : c.lists_end-directories.result ≡ directories_begin d a.buckets = omega (arith, c.lists_end-directories.ensures) in
    let strings : a.parts.first_icon - 4 - a.parts.paths ≡ length (paths_up_to d (length d.paths)) = omega arith in
    record {
      lists = omega arith;
      directories = directories;
      paths = ap (λ n. n + 4 + 4 * a.parts.paths) directories ∙ ap (λ m. directories_begin d a.buckets + 4 + 4 * m) (sym z.paths);
      names =
          ap (λ n. n + 4 + 4 * a.parts.paths + (a.parts.first_icon - 4 - a.parts.paths)) directories
          ∙ ap (λ m. directories_begin d a.buckets + 4 + 4 * m + (a.parts.first_icon - 4 - a.parts.paths)) (sym z.paths)
          ∙ ap (λ n. directories_begin d a.buckets + 4 + 4 * length d.paths + n) strings;
    }
