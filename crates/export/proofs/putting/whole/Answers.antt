-- `export::putting::whole` meets its contract: the sections are put one behind the other.
use Rattle.std.proofs.Common.{◌+◌, ◌≤◌, List, ℕ, length, ap, arith}
use Rattle.format.specs.Bytes.{joined}
use Rattle.format.specs.Header.{directories}
use Rattle.catalogue.specs.Call.{listed_bytes}
use Rattle.tables.specs.declared.Tables.{Tables}
use Rattle.tables.specs.Laws.{valid-header, same-directories}
use Rattle.export.specs.Parts.{path_piece, icon_piece, Indexed}
use Rattle.export.specs.Laws.Pieces.{pieces_are, pieces-length, pieces-put}
use Rattle.export.proofs.putting.whole.Goals as goal

-- there is room for both sections
room : {s : List ℕ} {t : Tables} {index : List ℕ} {n : ℕ} (m : ℕ) → Indexed s t index n → length (listed_bytes s) ≤ m
    → 4 + length (joined (path_piece s) (directories s)) + length (joined (icon_piece s index) n) ≤ m
room {s} {index = index} {n} m h enough = omega (arith, ap length (pieces_are h), pieces-length s index n)

pub overflow_cast-t : goal.overflow_cast-t
overflow_cast-t c =
    let tables = c.requires.indexed.sound.tables in omega (arith, same-directories tables, valid-header tables)

pub put_u16-requires : goal.put_u16-requires
put_u16-requires c = omega (arith, room (length c.args.out.now) c.requires.indexed c.requires.cache_in_bounds)

pub paths-at-requires-clause-cache_in_bounds : goal.paths-at-requires-clause-cache_in_bounds
paths-at-requires-clause-cache_in_bounds c = omega (arith, room (length c.args.out.now) c.requires.indexed c.requires.cache_in_bounds)

pub put_u16-requires-2 : goal.put_u16-requires-2
put_u16-requires-2 c = omega (arith, c.paths-at.ensures.value, room (length c.args.out.now) c.requires.indexed c.requires.cache_in_bounds)

pub overflow_add-at : goal.overflow_add-at
overflow_add-at c = omega (arith, c.paths-at.ensures.value, room (length c.args.out.now) c.requires.indexed c.requires.cache_in_bounds)

pub icons-requires-clause-n_in_bounds : goal.icons-requires-clause-n_in_bounds
icons-requires-clause-n_in_bounds c = omega (arith, c.paths-at.ensures.value, room (length c.args.out.now) c.requires.indexed c.requires.cache_in_bounds)

pub returns : goal.returns
returns c =
    let h = c.requires.indexed in
    pieces-put h c.args.out.now c.requires.cache_in_bounds (same-directories h.sound.tables) c.put_u16.ensures c.paths-at.ensures.out_after c.paths-at.ensures.value
    c.put_u16-2.ensures c.icons.ensures
