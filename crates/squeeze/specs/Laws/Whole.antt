-- The whole squeezed cache: its parts are put one after the other, and stand there in the end.
use Rattle.std.specs.Prelude.{ℕ, ◌+◌, ◌*◌, ◌≤◌, ◌<◌, ◌≡◌, refl, List, [], ◌++◌}
use Rattle.std.proofs.Math.Path.{sym, ap}
use Rattle.std.proofs.Common.{◌∙◌, append-nil, add-zero, arith}
use Rattle.std.proofs.Math.ListN.{length, drop, length-append}
use Rattle.std.proofs.Math.Seq.{drop_at}
use Rattle.format.specs.Bytes.{bytes, joined, put}
use Rattle.format.specs.Header.{buckets, directories}
use Rattle.format.specs.Layout.{end_value}
use Rattle.format.specs.Words.{Accepted}
use Rattle.format.specs.declared.Reading.TheVariants.{Short}
use Rattle.format.proofs.Laws.Bytes.{bytes-length, joined_length, joined_same}
use Rattle.format.proofs.Laws.Put.{put-length, put-behind, put-nothing, put-over}
use Rattle.catalogue.specs.LaidOut.{Stands, first_in, directories_bytes}
use Rattle.catalogue.specs.Written.{records_begin, lists_begin, front}
use Rattle.catalogue.proofs.Laws.Stands.{stands-join, stands_at, stands_same, stands-part}
use Rattle.catalogue.proofs.Laws.Putting.{put-stands, stands_after, stands-before, put-known}
use Rattle.catalogue.proofs.Laws.Front.{front_length}
use Rattle.squeeze_spec.specs.Packed.{nth_list, packed_lists, packed_strings, directories_at, packed}
use Rattle.squeeze_spec.specs.Squeezed.{contents, squeezed}
use Rattle.squeeze_spec.specs.Call.{squeezed_size}
use Rattle.squeeze_spec.proofs.Laws.Uses.{use-most}
use Rattle.squeeze_spec.proofs.Laws.Packed.{packed-length}
use Rattle.squeeze_spec.proofs.Laws.Contents.{path-count}
use Rattle.squeeze_paths.specs.Pathed.{strings_up_to, table_up_to, path_entry, Pathed}
use Rattle.squeeze_paths.specs.declared.Texts.{Texts}
use Rattle.squeeze_texts.specs.Named.{string_of}
use Rattle.squeeze_lists.specs.Cells.{cell, cells}
use Rattle.squeeze_lists.specs.Shares.{lists_to, Filled}
use Rattle.squeeze_lists.specs.Laws.Cells.{cell-stored, cell-unstored, cell-passed, cell-ahead}
use Rattle.squeeze_lists.specs.Laws.Table.{cells-length}
use Rattle.squeeze_records.specs.Recorded.{places, strings, icons, table, recorded, Ready}
use Rattle.squeeze_records.specs.Laws.Sizes.{records-before, all-strings, size_is, paths-within}

module _ (s : List ℕ) where
  -- where the image lists and the directory list begin
  abbrev pub lists : ℕ
  lists = lists_begin (contents s) (buckets s)

  abbrev pub folders : ℕ
  folders = directories_at (contents s) (buckets s)

  -- the header and a hash of empty buckets
  pub empty-front : {d n : ℕ} → d ≡ folders → n ≡ buckets s
      → bytes 2 1 ++ bytes 2 0 ++ bytes 4 12 ++ bytes 4 d ++ (bytes 4 n ++ joined (λ _. bytes 4 end_value) n) ≡ front (contents s) (buckets s) (places s) 0
  unfolding joined first_in
  empty-front e f = rw (e, f) (sym (append-nil _))

-- the same by other names of places
pub filled-same : {s lent out : List ℕ} {table table' at a end end' : ℕ} → table ≡ table' → end ≡ end' → Filled s lent out table at a end
    → Filled s lent out table' at a end'
filled-same e f h = rw (e, f) at h

pub filled-all : {s lent out : List ℕ} {table table' at a a' end : ℕ} → table ≡ table' → a ≡ a' → Filled s lent out table at a end
    → Filled s lent out table' at a' end
filled-all e f h = rw (e, f) at h

pub pathed-same : {s lent out index names : List ℕ} {table table' at at' n : ℕ} {x : Texts} → table ≡ table' → at ≡ at'
    → Pathed s lent out index names table at n x → Pathed s lent out index names table' at' n x
pathed-same e f h = rw (e, f) at h

pub put_same : (lent : List ℕ) (f : ℕ → List ℕ) {out : List ℕ} {p q m n : ℕ} → p ≡ q → m ≡ n → out ≡ put lent p (joined f m) → out ≡ put lent q (joined f n)
put_same lent f e g h = rw (e, g) at h

-- the directory list of n paths
table_up_to-of : List ℕ → ℕ → List ℕ
table_up_to-of s n = bytes 4 n ++ joined (path_entry s (strings s)) n

-- the cache may be squeezed, and has room
pub record Fits (s lent : List ℕ) : Type 0 where
  pub accepted : Accepted Short s
  pub room : squeezed_size s ≤ length lent
  pub short : squeezed_size s ≤ 16777216
  pub few : buckets s ≤ 4096

module _ {s lent : List ℕ} (fits : Fits s lent) where
  abbrev N : ℕ
  N = icons s

  -- the parts end where the next begins
  lists-end : lists s + length (lists_to s N) ≡ folders s
  lists-end = refl

  strings-begin : folders s + 4 + 4 * directories s ≡ strings s
  strings-begin = ap (λ n. folders s + 4 + 4 * n) (sym (path-count s))

  paths-fit : strings s + length (strings_up_to s (directories s)) ≤ squeezed_size s
  paths-fit = omega (arith, paths-within s N, size_is s)

  pub folders-fit : folders s ≤ squeezed_size s
  folders-fit = omega arith

  -- the table of cells, with nothing stored yet
  module _ {o₁ : List ℕ} (cleared : o₁ ≡ put lent (table s) (joined (λ _. bytes 4 end_value) N)) where
    pub nothing_stored : Filled s lent o₁ (table s) (lists s) 0 (lists s)
    unfolding joined
    nothing_stored = record {
      room = record { apart = omega arith; fits = omega (arith, fits.room); short = omega (arith, fits.short) };
      within = omega arith;
      ends = omega arith;
      built = cleared ∙ ap (put lent (table s)) none ∙ sym (put-nothing _ (lists s));
    }
      where
        none : joined (λ _. bytes 4 end_value) N ≡ cells (nth_list (contents s)) (lists s) 0 0 0 N
        none = joined_same (λ _. bytes 4 end_value) (λ i. bytes 4 (cell (nth_list (contents s)) (lists s) 0 0 0 i)) N (λ i l.
            ap (bytes 4) (sym (cell-ahead (nth_list (contents s)) (lists s) 0 0 0 {i = i} (omega arith) ∙ cell-unstored (nth_list (contents s)) (lists s) 0 i (omega arith))))

  -- all lists are stored, and the table says where
  module _ {o₂ : List ℕ} {end : ℕ} (filled : Filled s lent o₂ (table s) (lists s) N end) where
    abbrev own : List ℕ
    own = cells (nth_list (contents s)) (lists s) N N N N

    own-length : length own ≡ 4 * N
    own-length = cells-length (cell (nth_list (contents s)) (lists s) N N N) N

    table-room : table s + length own ≤ length lent
    table-room = omega (arith, own-length, fits.room, folders-fit)

    first-length : length (put lent (table s) own) ≡ length lent
    first-length = put-length lent (table s) own table-room

    lists-room : lists s + length (lists_to s N) ≤ length (put lent (table s) own)
    lists-room = omega (arith, first-length, fits.room, folders-fit)

    o₂-length : length o₂ ≡ length lent
    o₂-length = ap length filled.built ∙ put-length _ (lists s) (lists_to s N) lists-room ∙ first-length

    cell-is : (i : ℕ) → i < N → cell (nth_list (contents s)) (lists s) N N N i ≡ (places s).images-at i
    cell-is i l =
        cell-passed (nth_list (contents s)) (lists s) N N N l
        ∙ cell-stored (nth_list (contents s)) (lists s) N i (omega (arith, use-most (nth_list (contents s)) i))

    listed₂ : (i : ℕ) → i < N → Stands o₂ (table s + 4 * i) (bytes 4 ((places s).images-at i))
    listed₂ i l =
        let f : ℕ → List ℕ = λ j. bytes 4 (cell (nth_list (contents s)) (lists s) N N N j) in
        let size = joined_length f 4 (λ j. bytes-length 4 _) i in
        let one = stands-part f N l (put-stands lent (table s) own table-room) in
        let width = bytes-length 4 (cell (nth_list (contents s)) (lists s) N N N i) in
        rw filled.built (stands_same (stands_at (stands-before _ (lists s) (lists_to s N) lists-room (omega arith) one) (omega arith)) (ap (bytes 4) (cell-is i l)))

    lists₂ : Stands o₂ (lists s) (packed_lists (contents s))
    lists₂ = rw filled.built (put-stands (put lent (table s) own) (lists s) (lists_to s N) lists-room)

    behind₂ : drop (squeezed_size s) o₂ ≡ drop (squeezed_size s) lent
    behind₂ =
        ap (drop (squeezed_size s)) filled.built
        ∙ put-behind _ (lists s) (lists_to s N) lists-room (squeezed_size s) folders-fit
        ∙ put-behind lent (table s) own table-room (squeezed_size s) (omega (arith, own-length, folders-fit))

    -- the paths and the directory list
    module _ {o₃ index names : List ℕ} {x : Texts} (pathed : Pathed s o₂ o₃ index names (folders s) (strings s) (directories s) x) where
      abbrev dirs : List ℕ
      dirs = table_up_to s (strings s) (directories s)

      abbrev paths : List ℕ
      paths = strings_up_to s (directories s)

      dirs-length : length dirs ≡ 4 + 4 * directories s
      dirs-length =
          omega (arith, length-append (bytes 4 (directories s)) (joined (path_entry s (strings s)) (directories s)), bytes-length 4 (directories s), joined_length (path_entry s (strings s)) 4 (λ j. bytes-length 4 _) (directories s))

      dirs-room : folders s + length dirs ≤ length o₂
      dirs-room = omega (arith, dirs-length, o₂-length, fits.room, paths-fit, strings-begin)

      built₃ : o₃ ≡ put (put o₂ (folders s) dirs) (strings s) paths
      built₃ = pathed.puts.filled (omega (arith, dirs-length, strings-begin)) (omega (arith, o₂-length, fits.room, paths-fit))

      mid-length : length (put o₂ (folders s) dirs) ≡ length o₂
      mid-length = put-length o₂ (folders s) dirs dirs-room

      paths-room : strings s + length paths ≤ length (put o₂ (folders s) dirs)
      paths-room = omega (arith, mid-length, o₂-length, fits.room, paths-fit)

      o₃-length : length o₃ ≡ length lent
      o₃-length = ap length built₃ ∙ put-length _ (strings s) paths paths-room ∙ mid-length ∙ o₂-length

      -- what stands before the directory list still stands
      still₃ : {q : ℕ} {xs : List ℕ} → q + length xs ≤ folders s → Stands o₂ q xs → Stands o₃ q xs
      still₃ l h =
          rw built₃ (stands-before _ (strings s) paths paths-room (omega (arith, strings-begin)) (stands-before o₂ (folders s) dirs dirs-room l h))

      dirs₃ : Stands o₃ (folders s) dirs
      dirs₃ = rw built₃ (stands-before _ (strings s) paths paths-room (omega (arith, dirs-length, strings-begin)) (put-stands o₂ (folders s) dirs dirs-room))

      paths₃ : Stands o₃ (strings s) paths
      paths₃ = rw built₃ (put-stands (put o₂ (folders s) dirs) (strings s) paths paths-room)

      behind₃ : drop (squeezed_size s) o₃ ≡ drop (squeezed_size s) lent
      behind₃ =
          ap (drop (squeezed_size s)) built₃
          ∙ put-behind _ (strings s) paths paths-room (squeezed_size s) paths-fit
          ∙ put-behind o₂ (folders s) dirs dirs-room (squeezed_size s) (omega (arith, dirs-length, strings-begin, paths-fit))
          ∙ behind₂

      -- the header and the hash
      module _ {o₄ : List ℕ} (headed : o₄ ≡ put o₃ 0 (front (contents s) (buckets s) (places s) 0)) where
        abbrev empty : List ℕ
        empty = front (contents s) (buckets s) (places s) 0

        empty-length : length empty ≡ records_begin (buckets s)
        empty-length = omega (arith, front_length (contents s) (buckets s) (places s) 0)

        head-room : 0 + length empty ≤ length o₃
        head-room = omega (arith, empty-length, o₃-length, fits.room, folders-fit)

        o₄-length : length o₄ ≡ length lent
        o₄-length = ap length headed ∙ put-length o₃ 0 empty head-room ∙ o₃-length

        still₄ : {q : ℕ} {xs : List ℕ} → records_begin (buckets s) ≤ q → Stands o₃ q xs → Stands o₄ q xs
        still₄ l h = rw headed (stands_after o₃ 0 empty head-room (omega (arith, empty-length)) h)

        pub ready : Ready s o₄
        ready = record {
          fits = omega (arith, fits.room, o₄-length);
          short = fits.short;
          few = fits.few;
          begun = headed ∙ sym (put-over o₃ 0 empty empty (omega arith) head-room) ∙ ap (λ u. put u 0 empty) (sym headed);
          paths-put = sym (put-known o₄ (strings s) [] paths (stands_at (still₄ (omega (arith, records-before s)) paths₃) (sym (add-zero (strings s)))) ∙ put-nothing o₄ (strings s));
          listed = λ i l. still₄ (omega arith) (still₃ (omega (arith, bytes-length 4 ((places s).images-at i))) (listed₂ i l));
        }

        -- the records and the names, and so all of it
        module _ {o₅ : List ℕ} (put-records : o₅ ≡ recorded s o₄ N) where
          abbrev all : List ℕ
          all = front (contents s) (buckets s) (places s) N

          abbrev texts : List ℕ
          texts = strings_up_to s (string_of s N)

          all-length : length all ≡ lists s
          all-length = front_length (contents s) (buckets s) (places s) N

          all_room : 0 + length all ≤ length o₄
          all_room = omega (arith, all-length, o₄-length, fits.room, folders-fit)

          with-length : length (put o₄ 0 all) ≡ length o₄
          with-length = put-length o₄ 0 all all_room

          texts-room : strings s + length texts ≤ length (put o₄ 0 all)
          texts-room = omega (arith, with-length, o₄-length, fits.room, size_is s)

          still₅ : {q : ℕ} {xs : List ℕ} → lists s ≤ q → q + length xs ≤ strings s → Stands o₄ q xs → Stands o₅ q xs
          still₅ l g h = rw put-records (stands-before _ (strings s) texts texts-room g (stands_after o₄ 0 all all_room (omega (arith, all-length)) h))

          front₅ : Stands o₅ 0 all
          front₅ = rw put-records (stands-before _ (strings s) texts texts-room (omega (arith, all-length)) (put-stands o₄ 0 all all_room))

          lists₅ : Stands o₅ (lists s) (packed_lists (contents s))
          lists₅ = still₅ (omega arith) (omega arith) (still₄ (omega arith) (still₃ (omega arith) lists₂))

          dirs-are : dirs ≡ directories_bytes (contents s) (places s)
          unfolding table_up_to-of
          dirs-are = ap (table_up_to-of s) (sym (path-count s))

          dirs₅ : Stands o₅ (folders s) (directories_bytes (contents s) (places s))
          dirs₅ = stands_same (still₅ (omega arith) (omega (arith, dirs-length, strings-begin)) (still₄ (omega arith) dirs₃)) dirs-are

          texts₅ : Stands o₅ (strings s) (packed_strings (contents s))
          texts₅ = stands_same (rw put-records (put-stands (put o₄ 0 all) (strings s) texts texts-room)) (sym (all-strings s))

          whole : Stands o₅ 0 (squeezed s)
          unfolding squeezed packed table_up_to-of
          whole =
              let l = packed_lists (contents s) in
              let d = directories_bytes (contents s) (places s) in
              let one = length-append all l in
              let two = length-append (all ++ l) d in
              let width = ap length (sym dirs-are) ∙ dirs-length in
              let first = stands-join all l front₅ (stands_at lists₅ (omega (arith, all-length))) in
              let second = stands-join (all ++ l) d first (stands_at dirs₅ (omega (arith, all-length))) in
              stands-join (all ++ l ++ d) (packed_strings (contents s)) second (stands_at texts₅ (omega (arith, all-length, strings-begin)))

          behind₅ : drop (squeezed_size s) o₅ ≡ drop (squeezed_size s) lent
          behind₅ =
              ap (drop (squeezed_size s)) put-records
              ∙ put-behind _ (strings s) texts texts-room (squeezed_size s) (omega (arith, size_is s))
              ∙ put-behind o₄ 0 all all_room (squeezed_size s) (omega (arith, all-length, folders-fit))
              ∙ ap (drop (squeezed_size s)) headed
              ∙ put-behind o₃ 0 empty head-room (squeezed_size s) (omega (arith, empty-length, folders-fit))
              ∙ behind₃

          pub squeezed-whole : o₅ ≡ squeezed s ++ drop (length (squeezed s)) lent
          unfolding squeezed
          squeezed-whole =
              let h = whole in
              let size : length (squeezed s) ≡ squeezed_size s = packed-length (contents s) (buckets s) in
              let rest : h.rest ≡ drop (squeezed_size s) o₅ = sym (ap (drop (squeezed_size s)) h.there ∙ drop_at (squeezed s) h.rest (squeezed_size s) size) in
              h.there ∙ ap (λ r. squeezed s ++ r) (rest ∙ behind₅ ∙ ap (λ n. drop n lent) (sym size))
