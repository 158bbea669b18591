-- A packed cache lays out its catalogue.
use Rattle.std.specs.Prelude.{ℕ, ◌+◌, ◌≤◌, ◌<◌, ◌≡◌, refl, List, [], length}
use Rattle.std.proofs.Common.{ap, ◌∙◌, arith, get_or-append-add}
use Rattle.std.proofs.Math.ListN.{get_or-append, get_or-map}
use Rattle.format.specs.Layout.{most_bytes}
use Rattle.catalogue.specs.Catalogue.{Icon, Catalogue, names, icon_is}
use Rattle.catalogue.specs.LaidOut.{nth_path, nth_icon, Lays, text_and_zero}
use Rattle.catalogue.proofs.Laws.Arranged.{Placed, Arranges, arranged-length, arranged-lays}
use Rattle.squeeze_spec.specs.Uses.{place_of}
use Rattle.squeeze_spec.specs.Packed.{nth_list, nth_string, string_part, packed_lists, packed_strings, packed_places, packed_size, packed}
use Rattle.squeeze_spec.proofs.Laws.Uses.{use-same, stored-stands, stored-inside}

module _ (c : Catalogue) (b : ℕ) where
  pub path-string : (i : ℕ) → i < length c.paths → nth_string c i ≡ nth_path c i
  path-string i l = get_or-append c.paths (names c.icons) [] i l

  pub name-string : (i : ℕ) → nth_string c (length c.paths + i) ≡ (nth_icon c i).name
  name-string i =
      get_or-append-add c.paths (names c.icons) i []
      ∙ get_or-map (λ (x : Icon). x.name) c.icons i (icon_is [] [])

  list-placed : (p i : ℕ) → i < length c.icons → Placed (packed_lists c) p (p + place_of (nth_list c) (nth_list c) i) (nth_list c i)
  list-placed p i l =
      let same = use-same (nth_list c) i in
      record {
        offset = place_of (nth_list c) (nth_list c) i;
        place = refl;
        stands = stored-stands (nth_list c) (nth_list c) l same;
        inside = stored-inside (nth_list c) (nth_list c) l same;
      }

  string-placed : (p i : ℕ) {t : List ℕ} → i < length c.paths + length c.icons → nth_string c i ≡ t
      → Placed (packed_strings c) p (p + place_of (nth_string c) (string_part c) i) (text_and_zero t)
  string-placed p i l e =
      let same = ap text_and_zero (use-same (nth_string c) i) in
      rw (← e) (record {
        offset = place_of (nth_string c) (string_part c) i;
        place = refl;
        stands = stored-stands (nth_string c) (string_part c) l same;
        inside = stored-inside (nth_string c) (string_part c) l same;
      })

  arranges : Arranges c b (packed_places c b) (packed_lists c) (packed_strings c)
  arranges = record {
    buckets-at = refl;
    directories-at = refl;
    record-at = λ i. refl;
    images = λ i l. list-placed _ i l;
    names = λ i l. string-placed _ (length c.paths + i) (omega arith) (name-string i);
    paths = λ i l. string-placed _ i (omega arith) (path-string i l);
  }

  pub packed-length : length (packed c b) ≡ packed_size c b
  unfolding packed
  packed-length = arranged-length c b (packed_places c b) (packed_lists c) (packed_strings c)

  pub packed-lays : packed_size c b ≤ most_bytes → Lays (packed c b) c b (packed_places c b)
  unfolding packed
  packed-lays h = arranged-lays c b (packed_places c b) (packed_lists c) (packed_strings c) arranges (omega (arith, packed-length))
