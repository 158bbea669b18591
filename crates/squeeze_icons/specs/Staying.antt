-- Where a walk over the icons that stay stands.
use Rattle.std.specs.Prelude.{ℕ, ◌<◌, ◌≡◌, List, true, length}
use Rattle.format.specs.Header.{buckets}
use Rattle.format.specs.Words.{Keeps}
use Rattle.format.specs.declared.Reading.TheVariants.{Short}
use Rattle.catalogue.specs.LaidOut.{nth_icon, icon_bucket}
use Rattle.catalogue.specs.Listed.{icon_of}
use Rattle.squeeze_spec.specs.Uses.{is_first}
use Rattle.format.specs.Chain.{nth_name}
use Rattle.squeeze_spec.specs.Squeezed.{kept_up_to, contents}
use Rattle.in_order.specs.Cursor.{Real, At}
use Rattle.in_order.specs.declared.Cursor.{Cursor}
use Rattle.squeeze_icons.specs.declared.Icons.{Icons}

-- before a record is looked at: n icons stay of those before it
pub record Seeking (s : List ℕ) (n : ℕ) (c : Cursor) : Type 0 where
  pub at : At s c
  pub icons : n ≡ length (kept_up_to s c.number)

-- an icon is at hand, or all are passed
pub record Staying (s : List ℕ) (x : Icons) : Type 0 where
  pub at : At s x.at
  pub icons : x.icon ≡ length (kept_up_to s x.at.number)
  pub stays : Real x.at.«record» → is_first (nth_name s) x.at.number ≡ true

-- what the icon at hand is
pub record IconAt (s : List ℕ) (i k r : ℕ) : Type 0 where
  pub below : i < length (contents s).icons
  pub is : nth_icon (contents s) i ≡ icon_of s r
  pub keeps : Keeps Short s k r
  pub bucket : k < buckets s
  pub home : icon_bucket (contents s) (buckets s) i ≡ k
