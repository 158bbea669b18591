-- One path more: it is stored already, or it is new.
use Rattle.std.specs.Prelude.{ℕ, ◌+◌, ◌*◌, ◌≤◌, ◌<◌, ◌≡◌, List, [], ◌∷◌, ◌++◌, true, false, take, drop, get_or}
use Rattle.std.proofs.Math.Path.{sym, ap}
use Rattle.std.proofs.Common.{◌∙◌, append-nil, append_assoc, add-one, arith, take_at}
use Rattle.std.proofs.Math.ListN.{length, length-append}
use Rattle.format.specs.Bytes.{bytes, joined}
use Rattle.format.specs.Number.{be}
use Rattle.format.specs.Header.{directories, path_field, path_of, path_fault}
use Rattle.format.specs.Words.{Accepted}
use Rattle.format.specs.declared.Reading.TheVariants.{Short}
use Rattle.format.proofs.Laws.Bytes.{bytes-length, joined_length}
use Rattle.format.proofs.Laws.Rules.{tables-keep-header, tables-paths}
use Rattle.catalogue.specs.LaidOut.{text_and_zero}
use Rattle.catalogue.proofs.Laws.Icons.{paths-each}
use Rattle.catalogue.proofs.Laws.Stands.{stands-inside}
use Rattle.keys.specs.Key.{key_at}
use Rattle.keys.specs.declared.Kind.TheVariants.{Ended}
use Rattle.names.specs.Index.{entry, Between}
use Rattle.names.specs.Repeat.{seen}
use Rattle.squeeze_spec.specs.Uses.{is_first, place_of}
use Rattle.squeeze_spec.specs.Packed.{nth_string, string_part}
use Rattle.squeeze_spec.specs.Squeezed.{contents}
use Rattle.squeeze_spec.proofs.Laws.Uses.{stored-first, stored-later}
use Rattle.squeeze_spec.proofs.Laws.Packed.{path-string}
use Rattle.squeeze_spec.proofs.Laws.Contents.{path-count, contents-paths}
use Rattle.squeeze_spec.proofs.Laws.Elements.{firsts_at}
use Rattle.squeeze_spec.proofs.Laws.There.{path-there}
use Rattle.filling.specs.Puts.{Puts}
use Rattle.squeeze_index.specs.Maps.{Adds}
use Rattle.squeeze_index.specs.Laws.Maps.{maps_none, maps-again, maps-met, maps-value, maps-missing, maps-more}
use Rattle.squeeze_index.specs.Laws.Both.{both-none, both_first, both-second}
use Rattle.squeeze_index.specs.Laws.Firsts.{unmet-first, met-later, stored-place, stored-new}
use Rattle.tables.specs.Laws.{PathInside, path_inside}
use Rattle.squeeze_paths.specs.Pathed.{strings_up_to, path_at, path_entry, table_up_to, Pathed}
use Rattle.squeeze_paths.specs.declared.Texts.{Texts}

module _ {s : List ℕ} (acc : Accepted Short s) {i : ℕ} (l : i < directories s) where
  kept : (path_fault s i).number ≡ 0
  kept = paths-each s (directories s) i (rw (tables-paths s (tables-keep-header s acc.tables-kept)) at acc.tables-kept) l

  pub path-sound : PathInside s i
  path-sound = path_inside s i kept

  -- with its zero byte
  pub path-ends : be 4 s (path_field s i) + length (path_of s i) + 1 ≤ length s
  path-ends =
      let size = length-append (path_of s i) (0 ∷ []) in
      let some : 0 < length (text_and_zero (path_of s i)) = omega arith in
      omega (arith, stands-inside (path-there s i kept) some)

  pub path-is : nth_string (contents s) i ≡ path_of s i
  path-is =
      path-string (contents s) 0 i (omega (arith, path-count s))
      ∙ ap (λ ps. get_or ps i []) (contents-paths s) ∙ firsts_at (path_of s) (directories s) [] i l

  -- the string with its zero byte stands there
  pub path_bytes_lem : {p n : ℕ} → p ≡ be 4 s (path_field s i) → n ≡ length (path_of s i) + 1 → take n (drop p s) ≡ string_part (contents s) i
  path_bytes_lem {p} {n} e size =
      let there = path-there s i kept in
      let whole = length-append (path_of s i) (0 ∷ []) in
      ap (λ q. take n (drop q s)) e ∙ ap (take n) there.there ∙ take_at (text_and_zero (path_of s i)) there.rest n (omega arith)
      ∙ ap text_and_zero (sym path-is)

pub pathed-none : (s lent : List ℕ) {out index places : List ℕ} {table at r : ℕ} → Puts lent out table (bytes 4 (directories s)) r
    → Pathed s lent out index places table at 0 (record { entries = 0; end = at })
unfolding seen joined
pathed-none s lent {index = index} {places} {table} {at} a = record {
  known = maps_none _ index places _;
  most = omega arith;
  ends = omega arith;
  few = omega arith;
  puts = rw (append-nil (bytes 4 (directories s))) (both_first (both-none lent table at) (omega arith) a);
}

pub pathed-at : {s lent out index places : List ℕ} {table at i n : ℕ} {x : Texts} → i ≡ n → Pathed s lent out index places table at i x
    → Pathed s lent out index places table at n x
pathed-at e h = rw e at h

module _ {s lent out index places : List ℕ} {table at i : ℕ} {x : Texts} (acc : Accepted Short s) (l : i < directories s)
    (h : Pathed s lent out index places table at i x) {p : ℕ} (is : p ≡ be 4 s (path_field s i)) where
  own : key_at Ended s p ≡ nth_string (contents s) i
  own = ap (key_at Ended s) is ∙ sym (path-is acc l)

  -- where its field is, and how the directory list grows
  field : {f : ℕ} → f ≡ table + 4 + 4 * i → f ≡ table + length (table_up_to s at i)
  field e = omega (arith, length-append (bytes 4 (directories s)) (joined (path_entry s at) i), bytes-length 4 (directories s), joined_length (path_entry s at) 4 (λ j. bytes-length 4 _) i)

  grown : {v : ℕ} → v ≡ at + place_of (nth_string (contents s)) (string_part (contents s)) i → table_up_to s at i ++ bytes 4 v ≡ table_up_to s at (i + 1)
  unfolding joined
  grown {v} e = rw (add-one i) (append_assoc (bytes 4 (directories s)) (joined (path_entry s at) i) (bytes 4 v) ∙ ap (λ n. bytes 4 (directories s) ++ (joined (path_entry s at) i ++ bytes 4 n)) e)

  -- it is stored already
  module _ {e : ℕ} (below : e < x.entries) (same : entry (key_at Ended s) index e ≡ key_at Ended s p) where
    later : is_first (nth_string (contents s)) i ≡ false
    later = met-later (nth_string (contents s)) i (rw (← own) (maps-met h.known p below same))

    pub pathed-known : {out' : List ℕ} {f v r : ℕ} → f ≡ table + 4 + 4 * i → v ≡ get_or places e 0 → Puts out out' f (bytes 4 v) r
        → Pathed s lent out' index places table at (i + 1) x
    unfolding seen
    pathed-known {v = v} at_field value put =
        let place : v ≡ at + place_of (nth_string (contents s)) (string_part (contents s)) i =
        value ∙ maps-value h.known p below same ∙ ap (path_at s at) own ∙ stored-place (nth_string (contents s)) (string_part (contents s)) at l in
        let none : strings_up_to s (i + 1) ≡ strings_up_to s i = rw (add-one i) (stored-later (nth_string (contents s)) (string_part (contents s)) i later) in
        record {
          known = rw (add-one i) (maps-again h.known (rw (← own) (maps-met h.known p below same)));
          most = omega (arith, h.most);
          ends = rw none h.ends;
          few = omega (arith, h.few);
          puts = rw (none, ← grown place) (both_first h.puts (field at_field) put);
        }

  -- it is new
  module _ {e : ℕ} (spot : Between (key_at Ended s) index x.entries (key_at Ended s p) e e) (within : e ≤ x.entries) where
    first : is_first (nth_string (contents s)) i ≡ true
    first = unmet-first (nth_string (contents s)) i (rw (← own) (maps-missing h.known p spot))

    pub pathed-new : {out' new index' places' : List ℕ} {f r n : ℕ} → f ≡ table + 4 + 4 * i → Adds index index' places places' x.entries e p x.end
        → Puts out out' f (bytes 4 x.end) r → Puts out' new x.end (string_part (contents s) i) n
        → Pathed s lent new index' places' table at (i + 1) (record { entries = x.entries + 1; end = n })
    unfolding seen
    pathed-new at_field adds entry-put put =
        let value : x.end ≡ path_at s at (nth_string (contents s) i) = h.ends ∙ sym (stored-new (nth_string (contents s)) (string_part (contents s)) at l first) in
        let place = value ∙ stored-place (nth_string (contents s)) (string_part (contents s)) at l in
        let more : strings_up_to s (i + 1) ≡ strings_up_to s i ++ string_part (contents s) i = rw (add-one i) (stored-first (nth_string (contents s)) (string_part (contents s)) i first) in
        let size = length-append (strings_up_to s i) (string_part (contents s) i) in
        let short = ap (λ t. length (text_and_zero t)) (path-is acc l) ∙ length-append (path_of s i) (0 ∷ []) in
        record {
          known = rw (add-one i) (rw own at (maps-more h.known p spot within adds (value ∙ ap (path_at s at) (sym own))));
          most = omega (arith, h.most);
          ends = rw more (omega (arith, put.next, h.ends));
          few = omega (arith, put.next, h.few, (path-sound acc l).short);
          puts = rw (more, ← grown place) (both-second (both_first h.puts (field at_field) entry-put) h.ends put);
        }
