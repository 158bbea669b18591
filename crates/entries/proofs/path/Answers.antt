-- `entries::path` meets its contract: each `return` is one law of the path's fields.
use Rattle.std.proofs.Common.{◌+◌, sym, ap, Ok}
use Rattle.entries.specs.Laws.{length-refused, text-refused, path-kept}
use Rattle.entries.proofs.path.Goals as goal

pub returns-then-not-valid_path_length : goal.returns-then-not-valid_path_length
returns-then-not-valid_path_length c =
    let a = c.args in rw (length-refused a.catalogue.now a.at (sym c.if-not-valid_path_length.ensures))

pub returns-then-not-valid_path_text : goal.returns-then-not-valid_path_text
returns-then-not-valid_path_text c =
    let a = c.args in rw (text-refused a.catalogue.now a.at (sym c.if-not-valid_path_length.ensures) (sym c.if-not-valid_path_text.ensures))

pub returns : goal.returns
returns c =
    let a = c.args in
    rw (path-kept a.catalogue.now a.at (sym c.if-not-valid_path_length.ensures) (sym c.if-not-valid_path_text.ensures)) (ap (λ n. Ok (a.at + 2 + n)) c.u16_at.ensures)
