-- `salvage::pass` meets its contract: paths and icons are put one behind the other, and their
-- counts before them (`pass-whole`); with too many icons nothing is said of them (`pass-many`).
use Prim.Native.Nat.{ℕ, ◌+◌, ◌*◌, ◌≤◌}
use mathlib.Core.Path.{◌≡◌, refl}
use mathlib.Core.List.{List}
use native.Mathlib.Omega.{arith}
use Rattle.format.specs.Header.{directories}
use Rattle.format.proofs.Laws.Bytes.{bytes-length}
use Rattle.format.proofs.Laws.Header.{ValidHeader}
use Rattle.tables.specs.Laws.{valid-header}
use Rattle.salvage_paths.specs.Closed.{Closes, PathsPut}
use Rattle.salvage.specs.Laws.Pass.{pass-whole, pass-many}
use Rattle.salvage.proofs.pass.Goals as goal

-- where the icons go
few : {s lent out words report : List ℕ} {b w : ℕ} → PathsPut s lent out 2 words report (directories s) b w → ValidHeader s → (b ≤ 2 + 1025 * 65535) × (w ≤ 2 * 65535)
few put h = (omega (arith, put.bytes-few, h), omega (arith, put.words-few, h))

pub close_up-paths-requires : goal.close_up-paths-requires
close_up-paths-requires c = (c.requires.0, omega (arith, c.requires.1, valid-header c.requires.0), omega arith)

pub overflow_add-start : goal.overflow_add-start
overflow_add-start c = omega (arith, few c.close_up-paths.ensures.put (valid-header c.requires.0))

pub chains-sums-requires : goal.chains-sums-requires
chains-sums-requires c =
    let put = c.close_up-paths.ensures in
    let closes : Closes c.args.cache.now c.close_up-paths.new.closed = record { room = omega (arith, c.requires.1, valid-header c.requires.0); kept = _; closed = put.table } in
    let fits = few put.put (valid-header c.requires.0) in
    record {
      tables_of = (c.requires.0, closes, c.requires.2);
      icons_value = (refl, omega (arith, fits), omega (arith, fits));
    }

pub returns-then-sums-gt65535 : goal.returns-then-sums-gt65535
returns-then-sums-gt65535 c = pass-many _ c.close_up-paths.ensures.put c.chains-sums.ensures c.if-sums-gt65535.true

pub short-requires : goal.short-requires
short-requires c = omega (arith, few c.close_up-paths.ensures.put (valid-header c.requires.0))

pub returns : goal.returns
returns c =
    let put = c.close_up-paths.ensures in
    let icons-at : c.short.result ≡ c.close_up-paths.result.bytes + 2 = omega (arith, c.short.ensures.next, bytes-length 2 c.chains-sums.result.icons) in
    let paths-at : c.short-2.result ≡ 2 = omega (arith, c.short-2.ensures.next, bytes-length 2 c.close_up-paths.result.kept) in
    pass-whole _ put.put c.chains-sums.ensures (omega (arith, c.if-sums-gt65535.false)) put.table (rw icons-at at c.short.ensures) (rw paths-at at c.short-2.ensures)
