-- `write_cache::appending::bucket` meets its contract. The name is allowed, so all of it is hashed.
use Rattle.std.proofs.Common.{◌≡◌, ◌+◌, ◌-◌, ◌%◌, take, drop, ap, ◌∙◌, arith}
use Rattle.std.proofs.Math.Seq.{take_all}
use Rattle.format.specs.String.{string, hash}
use Rattle.format.proofs.Laws.Texts.{allowed-tells}
use Rattle.catalogue.specs.Fields.{name_length, name_text}
use Rattle.write_cache.proofs.appending.bucket.Goals as goal

pub returns : goal.returns
returns c =
    let a = c.args in
    let s = a.catalogue.now in
    let text = allowed-tells (name_text s a.icon) c.requires.0.named in
    let size : a.icon + 1 + c.byte.result - (a.icon + 1) ≡ name_length s a.icon = omega (arith, c.byte.ensures.0) in
    let whole = ap (take 255) text.uncut ∙ take_all 255 (name_text s a.icon) text.within in
    ap (λ h. h % a.buckets)
    (c.read_name-name.ensures.hash ∙ ap (λ n. hash (take 255 (string (take n (drop (a.icon + 1) s))))) size ∙ ap hash whole)
