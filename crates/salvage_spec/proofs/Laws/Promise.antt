-- What request 11 promises is kept.
use Rattle.std.specs.Prelude.{ℕ, List}
use Rattle.format.specs.Words.{link}
use Rattle.salvage_spec.specs.Promise.{Salvages}
use Rattle.salvage_spec.proofs.Laws.Meets.{met-words}
use Rattle.salvage_spec.proofs.Laws.Ends.{walk_ends}
use Rattle.salvage_spec.proofs.Laws.Names.{one-chain, equal-goes}
use Rattle.salvage_spec.proofs.Laws.Accounts.{accounts}
use Rattle.salvage_spec.proofs.Laws.Sound.{all-met}
use Rattle.salvage_spec.proofs.Laws.Whole.{keeps-all}
use Rattle.salvage_spec.proofs.Laws.Paths.{closes-up}
use Rattle.salvage_spec.proofs.Laws.Good.{good}
use Rattle.salvage_spec.proofs.Laws.Repairs.{repairs}

pub salvages : (s : List ℕ) → Salvages s
salvages s = record {
  meets = met-words s;
  ends = walk_ends s;
  one-chain = λ j k m n. one-chain s j k (link s j m) (link s k n);
  equal = λ k n l named listed. equal-goes s k n named l listed;
  accounts = accounts s;
  meets-all = all-met s;
  keeps-all = keeps-all s;
  closes-up = closes-up s;
  good = λ e small. good s small e;
  repairs = repairs s;
}
