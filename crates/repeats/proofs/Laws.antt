-- Laws of the names along a chain: those that are read, those from a later field on, and what is
-- known after some blocks of them.
use Rattle.std.specs.Prelude.{ℕ, suc, ◌+◌, ◌-◌, ◌≤◌, ◌<◌, ◌≡◌, List}
use Rattle.std.proofs.Common.{sym, zero-add, add-zero, add-suc, add_assoc, add-one, arith}
use Rattle.format.specs.Layout.{name_field}
use Rattle.format.specs.Number.{be}
use Rattle.keys.specs.Key.{key_at}
use Rattle.keys.specs.declared.Kind.TheVariants.{Ended}
use Rattle.names.specs.Repeat.{FirstRepeat, seen, Taken, Looked}
use Rattle.names.specs.Laws.Repeat.{none-repeated, repeat-early, block-passed}
use Rattle.rounds.specs.Stepping.{ahead}
use Rattle.rounds.specs.Laws.{ahead-adds}
use Rattle.repeats.specs.Along.{InsideAlong, name_along}

module _ (s : List ℕ) (f : ℕ) where
  pub name-read : (i : ℕ) {v p : ℕ} → v ≡ ahead s f (i + 1) → p ≡ be 4 s (name_field v) → key_at Ended s p ≡ name_along s f i
  name-read i e read = rw (read, e, add-one i)

  -- from the field of step b on
  module _ (b : ℕ) {at : ℕ} (e : at ≡ ahead s f b) where
    later : (i : ℕ) → ahead s at i ≡ ahead s f (b + i)
    later i = rw e (sym (ahead-adds s f b i))

    pub names-later : (i : ℕ) → name_along s at i ≡ name_along s f (b + i)
    names-later i = rw (later (suc i), add-suc b i)

    pub inside-later : {n m : ℕ} → InsideAlong s f n → b + m ≤ n → InsideAlong s at m
    inside-later inside h i l = rw (later i) (inside (b + i) (omega arith))

-- of the n names from the field f on so many are done, in whole blocks: the first repeat of those
-- left, from the field at hand on, is that of all
pub record Passed (s : List ℕ) (f n at done left : ℕ) : Type 0 where
  pub inside : InsideAlong s at left
  pub fits : done + left ≤ n
  pub first : (r : ℕ) → FirstRepeat (name_along s at) left r → FirstRepeat (name_along s f) n (done + r)

pub passed_none : (s : List ℕ) (f n : ℕ) → InsideAlong s f n → Passed s f n f 0 n
passed_none s f n inside = record { inside = inside; fits = omega arith; first = λ r h. rw zero-add h }

module _ {s : List ℕ} {f n at done left : ℕ} (passed : Passed s f n at done left) where
  -- a repeat within a block of b names, and none in all that were left
  pub passed-repeat : {b r : ℕ} → FirstRepeat (name_along s at) b r → r < b → b ≤ left → FirstRepeat (name_along s f) n (done + r)
  passed-repeat first l h = passed.first _ (repeat-early _ first l h)

  pub passed-all : left ≡ 0 → FirstRepeat (name_along s f) n done
  passed-all e = rw add-zero at (passed.first 0 (rw e (none-repeated _)))

  -- a block more
  pub passed-block : {index : List ℕ} {b next m : ℕ} → Taken (key_at Ended s) (name_along s at) index b b → next ≡ ahead s at b → b ≤ left
      → Looked (name_along s next) (seen (name_along s at) b) (left - b) m → Passed s f n next (done + b) m
  passed-block {b = b} {next} {m} taken e h looked = record {
    inside = inside-later s at b e passed.inside (omega (arith, looked.within));
    fits = omega (arith, looked.within, passed.fits);
    first = λ r rest. rw add_assoc (passed.first (b + r) (block-passed taken (names-later s at b e) h looked rest));
  }
