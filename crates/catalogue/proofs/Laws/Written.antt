-- The cache that is written from a catalogue lays it out: each list and each string stands behind
-- those before it.
use Prim.Native.Nat.{ℕ, zero, suc, ◌+◌, ◌≤◌, ◌<◌}
use Rattle.std.specs.Prelude.{◌≡◌, refl, List, [], ◌++◌}
use Rattle.std.proofs.Common.{sym, ◌∙◌, append-nil}
use Rattle.std.proofs.Math.Path.{ap}
use Rattle.std.proofs.Math.Decide.{ℕ_discrete}
use native.Mathlib.Omega.{arith}
use Rattle.std.proofs.Math.ListN.{length, length-append}
use Rattle.format.specs.Bytes.{joined}
use Rattle.catalogue.specs.Catalogue.{Catalogue}
use Rattle.catalogue.specs.LaidOut.{Stands, nth_path, nth_icon, list_bytes, text_and_zero, Lays}
use Rattle.catalogue.specs.Written.{lists_up_to, paths_up_to, names_up_to, places, written_size, written}
use Rattle.catalogue.proofs.Laws.Stands.{stands-first, stands-behind, stands-part, stands_at, stands-within}
use Rattle.catalogue.proofs.Laws.Arranged.{Arranges, arranged-length, arranged-lays}

-- the parts that f gives, joined: part i stands behind those before it, and inside
module _ (f : ℕ → List ℕ) where
  whole : (n : ℕ) → Stands (joined f n) 0 (joined f n)
  whole n = record { rest = []; there = sym (append-nil (joined f n)) }

  part-stands : (n i : ℕ) → i < n → Stands (joined f n) (length (joined f i)) (f i)
  part-stands n i l = stands_at (stands-part f n l (whole n)) (omega arith)

  pub part-inside : (n i : ℕ) → i < n → length (joined f i) + length (f i) ≤ length (joined f n)
  unfolding joined
  part-inside zero i l = absurd (omega arith)
  part-inside (suc n) i l = elim (ℕ_discrete i n) [
    | yes e ↦ omega (arith, length-append (joined f n) (f n), ap (λ m. length (joined f m)) e, ap (λ m. length (f m)) e)
    | no a ↦ let below : i < n = omega arith in omega (arith, length-append (joined f n) (f n), part-inside n i below)
  ]

module _ (d : Catalogue) (b : ℕ) where
  abbrev list : ℕ → List ℕ
  list i = list_bytes (nth_icon d i)

  abbrev path : ℕ → List ℕ
  path i = text_and_zero (nth_path d i)

  abbrev name : ℕ → List ℕ
  name i = text_and_zero (nth_icon d i).name

  abbrev all-paths : List ℕ
  all-paths = paths_up_to d (length d.paths)

  abbrev all-names : List ℕ
  all-names = names_up_to d (length d.icons)

  strings : Stands (all-paths ++ all-names) 0 (all-paths ++ all-names)
  strings = record { rest = []; there = sym (append-nil (all-paths ++ all-names)) }

  arranges : Arranges d b (places d b) (lists_up_to d (length d.icons)) (all-paths ++ all-names)
  arranges = record {
    buckets-at = refl;
    directories-at = refl;
    record-at = λ i. refl;
    images = λ i l. record {
      offset = length (joined list i);
      place = refl;
      stands = part-stands list (length d.icons) i l;
      inside = part-inside list (length d.icons) i l;
    };
    names = λ i l. record {
      offset = length all-paths + length (joined name i);
      place = omega arith;
      stands = stands-within (part-inside name (length d.icons) i l) (stands-behind all-paths all-names refl strings) (part-stands name (length d.icons) i l);
      inside = omega (arith, length-append all-paths all-names, part-inside name (length d.icons) i l);
    };
    paths = λ i l. record {
      offset = length (joined path i);
      place = refl;
      stands = stands_at (stands-within (part-inside path (length d.paths) i l) (stands-first all-paths all-names strings) (part-stands path (length d.paths) i l)) (omega arith);
      inside = omega (arith, length-append all-paths all-names, part-inside path (length d.paths) i l);
    };
  }

  pub written-length : length (written d b) ≡ written_size d b
  unfolding written
  written-length = arranged-length d b (places d b) (lists_up_to d (length d.icons)) (all-paths ++ all-names) ∙ omega (arith, length-append all-paths all-names)

  pub written-lays : written_size d b ≤ 16777216 → Lays (written d b) d b (places d b)
  unfolding written
  written-lays h = arranged-lays d b (places d b) (lists_up_to d (length d.icons)) (all-paths ++ all-names) arranges (omega (arith, written-length))
