-- `squeeze_icons::first` meets its contract: nothing is passed yet.
use Rattle.squeeze_icons.specs.Laws.Seeking.{seeking-first}
use Rattle.squeeze_icons.proofs.first.Goals as goal

pub seek-requires : goal.seek-requires
seek-requires c = (c.requires.0, c.requires.1, seeking-first c.first-cursor.ensures.0 c.first-cursor.ensures.1)
