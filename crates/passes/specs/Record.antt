-- A record that is put at the end of its chain.
use Rattle.std.specs.Prelude.{ℕ, List, ◌++◌}
use Rattle.format.specs.Layout.{end_value}
use Rattle.format.specs.Bytes.{bytes, put}

-- a buffer after a record at r was put into it, and r into the field f that leads to it
abbrev pub appended : List ℕ → ℕ → ℕ → ℕ → ℕ → List ℕ
appended s r name images f = put (put s r (bytes 4 end_value ++ bytes 4 name ++ bytes 4 images)) f (bytes 4 r)
