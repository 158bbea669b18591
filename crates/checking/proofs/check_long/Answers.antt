-- `checking::check_long` meets its contract: the walk's answer is the chain, and the field that of its
-- bucket.
use Rattle.std.proofs.Common.{◌∙◌, ap, arith}
use Rattle.format.specs.declared.Reading.TheVariants.{Short}
use Rattle.format.specs.Chain.{chain_of}
use Rattle.format.specs.Call.{unnamed}
use Rattle.tables.specs.Laws.{valid-header, same-field}
use Rattle.chains.specs.declared.Walked.{Walked}
use Rattle.checking.specs.Buckets.{unnamed_on}
use Rattle.checking.proofs.check_long.Goals as goal

pub finish-chain-requires : goal.finish-chain-requires
finish-chain-requires c = record { most_in_bounds = (c.requires.bucket_bound.2, omega (arith, valid-header c.requires.tables_of)); by_index = (c.args.bucket, c.go_on-judged.ensures) }

pub returns : goal.returns
returns c =
    let field = c.bucket_field-field.result in
    c.unnamed.ensures
    ∙ ap (λ (a : Walked). unnamed field a.after a.opened) (c.finish-chain.ensures _ c.go_on-judged.ensures)
    ∙ ap (λ f. unnamed_on f (chain_of Short c.args.cache.now c.args.bucket c.args.most)) (c.bucket_field-field.ensures ∙ same-field c.requires.tables_of _)
