-- What the short check's answer says of the long one's.
use Rattle.std.specs.Prelude.{ℕ, ◌-◌, ◌<◌, ◌≡◌, List, eqb, if◌then◌else◌}
use Rattle.format.specs.Chain.{itself}
use Rattle.format.specs.Call.{check}
use Rattle.format.specs.Words.{TablesKept}
use Rattle.format.specs.declared.CheckAnswer.{CheckAnswer}
use Rattle.format.specs.declared.Reading.TheVariants.{Short, Long}
use Rattle.long_check.specs.Scan.{SoundTo, KeepLong}

-- of the records opened by a check that answers x, if there are any, how many break a rule
abbrev pub unsound : ℕ → ℕ
unsound x = if eqb x 0 then 0 else if eqb x 12 then 0 else itself x

-- so many that it opened keep the rules
unfoldable pub sound_records : CheckAnswer → ℕ
sound_records a = a.opened - unsound a.number

-- the first `sound` records decide: where all of them keep the long rules too, both answer the same
pub record Decided (s : List ℕ) (sound : ℕ) : Type 0 where
  pub to : SoundTo s sound
  pub tables-kept : 0 < sound → TablesKept s
  pub same : KeepLong s sound → check Long s ≡ check Short s
