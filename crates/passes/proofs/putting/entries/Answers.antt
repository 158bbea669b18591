-- `passes::putting::entries` meets its contract: the offsets of the paths that are passed stand one
-- behind the other, and the offset at hand is that of the string of the path at hand.
use Rattle.std.proofs.Common.{◌≡◌, ℕ, ◌+◌, ◌*◌, ◌^◌, ◌≤◌, ◌<◌, List, length, ap, ◌∙◌, arith, add-zero, add-one, length-append}
use Rattle.format.specs.Bytes.{bytes, joined, put}
use Rattle.format.proofs.Laws.Bytes.{bytes-length, joined_length}
use Rattle.catalogue.specs.Row.{row_end}
use Rattle.catalogue.specs.Fields.{path_length, path_end, catalogue_in}
use Rattle.catalogue.specs.LaidOut.{nth_path, text_and_zero}
use Rattle.catalogue.specs.Written.{paths_up_to}
use Rattle.catalogue.proofs.Laws.Written.{part-inside}
use Rattle.catalogue.proofs.Laws.Pass.{pass-first, pass-next}
use Rattle.passes.specs.Passes.{Judged}
use Rattle.passes.specs.Laws.Paths.{path-ends, path-size}
use Rattle.passes.proofs.putting.entries.Goals as goal

-- the offset of path j's string, as bytes
abbrev entry : List ℕ → ℕ → ℕ → List ℕ
entry c strings j = bytes 4 (strings + length (paths_up_to (catalogue_in c) j))

entries-room : (c : List ℕ) (strings n at room : ℕ) → at + 4 * n ≤ room → at + length (joined (entry c strings) n) ≤ room
entries-room c strings n at room h = omega (arith, joined_length (entry c strings) 4 (λ i. bytes-length 4 _) n)

-- where the string behind that of path i begins
module _ {c : List ℕ} {n icons first i p : ℕ} (h : Judged c n icons first) (l : i < n) (here : p ≡ row_end (path_end c) i 2) where
  next : length (paths_up_to (catalogue_in c) (i + 1)) ≡ length (paths_up_to (catalogue_in c) i) + (path_length c p + 1)
  unfolding joined
  next =
      let d = catalogue_in c in
      rw (add-one i) (omega (arith, path-size h l here, length-append (paths_up_to d i) (text_and_zero (nth_path d i))))

  small : (strings : ℕ) → strings + length (paths_up_to (catalogue_in c) n) < 2 ^ 32 → strings + length (paths_up_to (catalogue_in c) i) + (path_length c p + 1) < 2 ^ 32
  small strings fits = omega (arith, path-size h l here, part-inside (λ j. text_and_zero (nth_path (catalogue_in c) j)) n i l)

pub loop-i-init : goal.loop-i-init
unfolding joined
loop-i-init c = record { passed = rw (add-zero c.args.at) (pass-first _ _ _ _ _); string = omega arith }

pub overflow_cast-string : goal.overflow_cast-string
overflow_cast-string c =
    let inv = c.loop-i.invariant in
    omega (arith, inv.string, small c.requires.by_index.2 c.loop-i-test.true inv.passed.here c.args.strings c.requires.n_bound)

pub u16_at-requires : goal.u16_at-requires
u16_at-requires c = omega (arith, path-ends c.requires.by_index.2 c.loop-i-test.true c.loop-i.invariant.passed.here)

pub overflow_add-string-in-loop-i : goal.overflow_add-string-in-loop-i
overflow_add-string-in-loop-i c =
    let inv = c.loop-i.invariant in
    omega (arith, c.u16_at.ensures, inv.string, small c.requires.by_index.2 c.loop-i-test.true inv.passed.here c.args.strings c.requires.n_bound)

pub path_end-here-requires : goal.path_end-here-requires
path_end-here-requires c = path-ends c.requires.by_index.2 c.loop-i-test.true c.loop-i.invariant.passed.here

pub loop-i-preserved : goal.loop-i-preserved
loop-i-preserved c =
    let a = c.args in
    let s = a.catalogue.now in
    let inv = c.loop-i.invariant in
    let place = a.at + 4 * c.loop-i.i in
    let room = entries-room s a.strings a.n a.at (length a.out.now) c.requires.n_in_bounds in
    let wide = bytes-length 4 (a.strings + length (paths_up_to (catalogue_in s) c.loop-i.i)) in
    record {
      passed = pass-next _ _ _ _ _ inv.passed c.loop-i-test.true room (c.put_u32.ensures ∙ ap (λ n. put c.loop-i.out place (bytes 4 n)) inv.string) (omega arith) c.path_end-here.ensures (omega arith);
      string = omega (arith, c.u16_at.ensures, inv.string, next c.requires.by_index.2 c.loop-i-test.true inv.passed.here);
    }
