-- `icon_cache_c::icon_cache_flags_out` meets its contract: it hands on the answer of `flags_out` but for the
-- place, which is always 0.
use Rattle.std.proofs.Common.{rules, ◌≡◌, ap}
use Rattle.flags.specs.Flags.{FlagsAnswer, flags_is, flags_out}
use Rattle.flags.proofs.Laws.{no_place}
use Rattle.icon_cache_c.proofs.icon_cache_flags_out.Goals as goal

pub returns : goal.returns
returns c =
    let whole : flags_is c.spread-number.result.0 c.spread-number.result.1 c.spread-number.result.2 ≡ flags_out c.args.flags c.args.numbering = search rules in
    rw (ap (λ (x : FlagsAnswer). x.number) whole, ap (λ (x : FlagsAnswer). x.flags) whole) (no_place _ _ _)
