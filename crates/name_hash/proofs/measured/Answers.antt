-- `name_hash::measured` meets its contract: before each turn the string is read as far as `Reached`
-- says; eight bytes without a zero byte bring it further (`reached-eight`), and the bytes before a
-- zero byte to its end (`reached-end`).
use Rattle.std.proofs.Common.{◌≡◌, ℕ, ◌+◌, ◌*◌, ◌^◌, ◌<◌, ◌≤◌, map, length, get_or, take, ap, ◌∙◌, ap₂, arith}
use Rattle.format.specs.Number.{be}
use Rattle.format.specs.Bytes.{bytes}
use Rattle.format.specs.String.{string, signed, hash_from}
use Rattle.format.proofs.Laws.Strings.{string-fits}
use Rattle.format.proofs.Laws.Bytes.{bytes-length}
use Rattle.name_hash.proofs.Laws.{reached-start, reached-eight, reached-end}
use Rattle.name_hash.proofs.measured.Goals as goal

pub loop-k-init : goal.loop-k-init
loop-k-init c = reached-start _ (λ j. omega (arith, c.type_inv.part j))

pub returns-then-n-lt8 : goal.returns-then-n-lt8
returns-then-n-lt8 c =
    let t = c.args.part.now in
    let i = 8 * c.loop-k.k in
    let room : i + 8 ≤ length t = omega arith in
    let small : (j : ℕ) → get_or t j 0 < 256 = λ j. omega (arith, c.type_inv.part j) in
    let word = c.u64_at-word.ensures in
    let zero-at = c.first_zero-n.ensures ∙ ap (λ w. length (string (bytes 8 w))) word in
    let ends = reached-end c.loop-k.invariant small room zero-at c.if-n-lt8.true in
    let hash-is = c.some.ensures ∙ ap (λ w. hash_from c.loop-k.hash (map signed (take c.first_zero-n.result (bytes 8 w)))) word ∙ ends.1 in
    c.both.ensures ∙ ap₂ (λ n h. n * 2 ^ 32 + h) ends.0 hash-is

pub loop-k-preserved : goal.loop-k-preserved
loop-k-preserved c =
    let t = c.args.part.now in
    let i = 8 * c.loop-k.k in
    let room : i + 8 ≤ length t = omega arith in
    let small : (j : ℕ) → get_or t j 0 < 256 = λ j. omega (arith, c.type_inv.part j) in
    let word = c.u64_at-word.ensures in
    let e = c.first_zero-n.ensures ∙ ap (λ w. length (string (bytes 8 w))) word in
    let none : length (string (bytes 8 (be 8 t i))) ≡ 8 = omega (arith, e, c.if-n-lt8.false, string-fits (bytes 8 (be 8 t i)), bytes-length 8 (be 8 t i)) in
    let next : 8 * (c.loop-k.k + 1) ≡ i + 8 = omega arith in
    rw (next, c.eight-hash.ensures, word) (reached-eight c.loop-k.invariant small room none)
