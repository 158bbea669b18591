-- Both calls on some flags, computed.
use Rattle.std.specs.Prelude.{◌≡◌, refl}
use Rattle.flags.specs.Flags.{renumbered, flags_is, answer, flags_in, flags_out}

-- request 5's XPM 1, SVG 2, bitmap 4, icon file 8 in document 01's numbering
each_in : (flags_in 1 1 ≡ flags_is 0 0 2) × (flags_in 2 1 ≡ flags_is 0 0 4) × (flags_in 4 1 ≡ flags_is 0 0 1) × (flags_in 8 1 ≡ flags_is 0 0 8)
unfolding answer renumbered
each_in = (refl, refl, refl, refl)

-- document 01's bitmap 1, XPM 2, SVG 4, icon file 8 in that of request 5
each-out : (flags_out 1 1 ≡ flags_is 0 0 4) × (flags_out 2 1 ≡ flags_is 0 0 1) × (flags_out 4 1 ≡ flags_is 0 0 2) × (flags_out 8 1 ≡ flags_is 0 0 8)
unfolding answer renumbered
each-out = (refl, refl, refl, refl)

-- several flags; document 01's own numbering, in which nothing moves
several : (flags_in 11 1 ≡ flags_is 0 0 14) × (flags_out 14 1 ≡ flags_is 0 0 11) × (flags_in 11 0 ≡ flags_is 0 0 11) × (flags_out 11 0 ≡ flags_is 0 0 11)
unfolding answer renumbered
several = (refl, refl, refl, refl)

-- 27 for flags above 15 and for an unknown numbering, in both calls
refused : (flags_in 16 0 ≡ flags_is 27 0 0) × (flags_out 16 1 ≡ flags_is 27 0 0) × (flags_in 0 2 ≡ flags_is 27 0 0) × (flags_out 15 2 ≡ flags_is 27 0 0)
unfolding answer renumbered
refused = (refl, refl, refl, refl)
