-- `bigendian::put_byte` meets its contract: one byte that is stored is a number of width 1 put.
use Prim.Native.Nat.{ℕ, ◌<◌}
use mathlib.Core.Path.{◌≡◌}
use mathlib.Core.List.{List, [], ◌∷◌}
use native.Mathlib.Nat.{mod-eq_of_lt}
use native.Mathlib.Omega.{arith}
use lib.ListN.{length, set}
use lib.Seq.{sets-eq}
use Rattle.format.specs.Bytes.{bytes, put}
use Rattle.bigendian.proofs.put_byte.Goals as goal

stored : (s : List ℕ) (p n : ℕ) → n < 256 → p < length s → set s p n ≡ put s p (bytes 1 n)
unfolding put bytes
stored s p n l h = rw (mod-eq_of_lt l) (sets-eq (n ∷ []) s p (omega arith))

pub returns : goal.returns
returns c = stored c.args.out.now c.args.at c.args.n (omega arith) (omega arith)
