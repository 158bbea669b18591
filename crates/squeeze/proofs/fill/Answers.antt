-- `squeeze::fill` meets its contract: what its parts put makes the whole cache (`squeezed-whole`).
use Rattle.std.proofs.Common.{◌≡◌, ◌+◌, ◌*◌, ◌≤◌, ℕ, List, length, sym, ap, ◌∙◌, arith}
use Rattle.format.specs.Bytes.{bytes, put}
use Rattle.format.specs.Layout.{end_value}
use Rattle.tables.specs.Laws.{same-buckets, same-directories, valid-header}
use Rattle.tables.specs.Tables.{Sound}
use Rattle.tables.specs.declared.Tables.{Tables}
use Rattle.squeeze_spec.proofs.Laws.Contents.{path-count}
use Rattle.squeeze_records.specs.Recorded.{table, strings, recorded}
use Rattle.squeeze.specs.Sizes.{SizesOf}
use Rattle.squeeze.specs.declared.Sizes.{Sizes}
use Rattle.squeeze.specs.Laws.Whole.{Fits, lists, folders, empty-front, filled-same, filled-all, pathed-same, put_same, nothing_stored, folders-fit, ready, squeezed-whole}
use Rattle.squeeze.proofs.fill.Goals as goal

-- where the parts begin, by the numbers at hand
record Places (s : List ℕ) (t : Tables) (x : Sizes) (out : List ℕ) : Type 0 where
  pub table_is : 16 + 4 * t.buckets + 8 * x.icons ≡ table s
  pub first-is : 16 + 4 * t.buckets + 12 * x.icons ≡ lists s
  pub folders-is : 16 + 4 * t.buckets + 12 * x.icons + x.lists ≡ folders s
  pub strings-is : 16 + 4 * t.buckets + 12 * x.icons + x.lists + 4 + 4 * t.directories ≡ strings s
  pub room : folders s ≤ length out
  pub short : strings s ≤ 16777216

places_of : {s : List ℕ} {t : Tables} {x : Sizes} {out : List ℕ} → Sound s t → SizesOf s x → Fits s out → Places s t x out
places_of {s} sound x f =
    let b = same-buckets sound.tables in
    let d = same-directories sound.tables in
    let p = path-count s in
    record {
      table_is = omega (arith, b, x.icons);
      first-is = omega (arith, b, x.icons);
      folders-is = omega (arith, b, x.icons, x.lists);
      strings-is = omega (arith, b, d, x.icons, x.lists, p);
      room = omega (arith, folders-fit f, f.room);
      short = omega (arith, f.short);
    }

pub clear-requires : goal.clear-requires
clear-requires c =
    let p = places_of c.requires.0 c.requires.2 c.requires.3 in
    omega (arith, p.table_is, p.first-is, p.folders-is, p.room)

pub lists-requires : goal.lists-requires
lists-requires c =
    let p = places_of c.requires.0 c.requires.2 c.requires.3 in
    let cleared = nothing_stored c.requires.3 (put_same _ (λ _. bytes 4 end_value) p.table_is c.requires.2.icons c.clear.ensures) in
    let w = c.requires.1 in
    record {
      sound = (c.requires.0, omega (arith, w.index-wide), omega (arith, w.index-wide, w.places-wide), omega (arith, w.places-wide), w.marked);
      icons_value = (c.requires.2.icons, record { lent = c.args.out.now; at = lists c.args.cache.now; filled = filled-same (sym p.table_is) (sym p.first-is) cleared });
    }

pub paths-texts-requires : goal.paths-texts-requires
paths-texts-requires c =
    let p = places_of c.requires.0 c.requires.2 c.requires.3 in
    let w = c.requires.1 in
    let k = c.lists.auto in
    (c.requires.0, omega (arith, w.index-wide, k), omega (arith, w.places-wide, k), omega (arith, p.folders-is, p.strings-is, p.short), omega (arith, p.strings-is, p.short))

pub tables-requires : goal.tables-requires
tables-requires c =
    let p = places_of c.requires.0 c.requires.2 c.requires.3 in
    let k = c.paths-texts.auto in
    let j = c.lists.auto in
    let i = c.clear.auto in
    (omega (arith, p.first-is, p.folders-is, p.room, k, j, i), omega (arith, p.first-is, p.folders-is, p.strings-is, p.short), omega (arith, p.folders-is, p.strings-is, p.short))

pub records-requires : goal.records-requires
records-requires c =
    let s = c.args.cache.now in
    let p = places_of c.requires.0 c.requires.2 c.requires.3 in
    let cleared = nothing_stored c.requires.3 (put_same _ (λ _. bytes 4 end_value) p.table_is c.requires.2.icons c.clear.ensures) in
    let (end, shared) = c.lists.ensures c.args.out.now (lists s) (filled-same (sym p.table_is) (sym p.first-is) cleared) in
    let filled = filled-all p.table_is c.requires.2.icons shared in
    let pathed = pathed-same p.folders-is p.strings-is c.paths-texts.ensures in
    let headed = c.tables.ensures ∙ ap (put c.paths-texts.new.out 0) (empty-front s p.folders-is (same-buckets c.requires.0.tables)) in
    let w = c.requires.1 in
    let few = pathed.most in
    let v = valid-header c.requires.0.tables in
    let k = c.paths-texts.auto in
    let j = c.lists.auto in
    record {
      sound = (c.requires.0, w.marked, omega (arith, w.index-wide, k, j, few, v), omega (arith, w.places-wide, k, j, few, v));
      paths_known = (pathed.known, pathed.ends);
      icons_value = (c.requires.2.icons, ready c.requires.3 filled pathed headed);
    }

pub returns : goal.returns
returns c =
    let s = c.args.cache.now in
    let p = places_of c.requires.0 c.requires.2 c.requires.3 in
    let cleared = nothing_stored c.requires.3 (put_same _ (λ _. bytes 4 end_value) p.table_is c.requires.2.icons c.clear.ensures) in
    let (end, shared) = c.lists.ensures c.args.out.now (lists s) (filled-same (sym p.table_is) (sym p.first-is) cleared) in
    let filled = filled-all p.table_is c.requires.2.icons shared in
    let pathed = pathed-same p.folders-is p.strings-is c.paths-texts.ensures in
    let headed = c.tables.ensures ∙ ap (put c.paths-texts.new.out 0) (empty-front s p.folders-is (same-buckets c.requires.0.tables)) in
    squeezed-whole c.requires.3 filled pathed headed (c.«records».ensures ∙ ap (recorded s c.tables.new.out) c.requires.2.icons)
