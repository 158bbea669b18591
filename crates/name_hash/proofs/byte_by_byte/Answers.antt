-- `name_hash::byte_by_byte` meets its contract: before each turn the string is read as far as
-- `Reached` says, and at a zero byte or the end of the part all of it.
use Rattle.std.proofs.Common.{◌≡◌, ℕ, ◌+◌, ◌*◌, ◌^◌, List, length, get_or, ◌∙◌, ap₂, arith}
use native.Mathlib.Nat.{mod-add-mod}
use lib.ListN.{get_or-eq_default}
use Rattle.format.specs.String.{string, hash}
use Rattle.name_hash.specs.Reached.{Reached}
use Rattle.name_hash.proofs.Laws.{reached-stop, reached-next}
use Rattle.name_hash.proofs.byte_by_byte.Goals as goal

-- where nothing is left, the length and the hash are the string's
all_read : {t : List ℕ} {i h r : ℕ} → Reached t i h → get_or t i 0 ≡ 0 → r ≡ i * 2 ^ 32 + h → r ≡ length (string t) * 2 ^ 32 + hash (string t)
all_read reached stop e = let ends = reached-stop reached stop in e ∙ ap₂ (λ n h. n * 2 ^ 32 + h) ends.0 ends.1

pub returns-then-byte-eq0 : goal.returns-then-byte-eq0
returns-then-byte-eq0 c = all_read c.loop-i.invariant c.if-byte-eq0.true c.both.ensures

pub loop-i-preserved : goal.loop-i-preserved
loop-i-preserved c =
    rw (c.wrapping_add_u32-hash.ensures.value, c.times31.ensures, c.signed.ensures, mod-add-mod)
    (reached-next c.loop-i.invariant c.if-byte-eq0.false (omega arith))

pub returns : goal.returns
returns c =
    let end : c.loop-i.i ≡ length c.args.part.now = omega arith in
    let stop = get_or-eq_default c.args.part.now 0 c.loop-i-test.false in
    all_read c.loop-i.invariant stop (rw end c.both-2.ensures)
