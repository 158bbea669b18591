-- What each turn of the second walk makes of where it stands.
use Prim.Native.Nat.{ℕ, zero, suc, ◌+◌, ◌*◌, ◌≤◌, ◌<◌}
use Rattle.std.specs.Prelude.{◌≡◌, refl, List}
use Rattle.std.proofs.Math.Path.{sym, ap}
use Rattle.std.proofs.Common.{◌∙◌, add-one, ne_eqb}
use native.Mathlib.Omega.{arith}
use Rattle.std.proofs.Math.ListN.{length}
use Rattle.format.specs.Layout.{entries_at, end_value}
use Rattle.format.specs.Number.{be}
use Rattle.format.specs.Header.{buckets, bucket_field}
use Rattle.format.specs.Record.{images_at, images, record_fault}
use Rattle.format.specs.Notes.{notes_fault}
use Rattle.format.specs.Chain.{itself}
use Rattle.format.specs.Words.{link, link_field, KeepsAt, KeepsBelow, Region, sum}
use Rattle.format.specs.declared.Fault.{Fault}
use Rattle.format.specs.declared.Reading.TheVariants.{Short, Long}
use Rattle.format.proofs.Laws.Faults.{same_number}
use Rattle.format.proofs.Laws.Below.{below_suc}
use Rattle.format.proofs.Laws.Numbers.{never}
use Rattle.format.proofs.Laws.Rules.{long-notes, record-number}
use Rattle.format.proofs.Laws.Follow.{link-inside}
use Rattle.format.proofs.Laws.Along.{reads-link}
use Rattle.format.proofs.Laws.Links.{round, holds-short, below-short, keeps-listed}
use Rattle.format.specs.Places.{Repeat}
use Rattle.format.proofs.Laws.Regions.{reached, next-sound, chain-behind}
use Rattle.tables.specs.Tables.{TablesOf}
use Rattle.tables.specs.Laws.{field-inside}
use Rattle.tables.specs.declared.Tables.{Tables}
use Rattle.long_check.specs.Scan.{SoundTo, Stands, BreaksLong}

pub stands-first : {s : List ℕ} {f : ℕ} → f ≡ bucket_field s 0 → Stands s 0 f 0 0 end_value
unfolding link_field sum
stands-first e = record {
  len = λ j. 0;
  region = record { below = λ j l. absurd (omega arith); keeps = λ m l. absurd (omega arith) };
  field = e;
  all = refl;
  marked = λ some. absurd (some refl);
}

module _ {s : List ℕ} {sound k f n passed mark : ℕ} (to : SoundTo s sound) (w : Stands s k f n passed mark) (few : passed < sound) where
  next : (k < buckets s) × ((link s k n ≡ end_value → ⊥) → KeepsAt Short s k n)
  next =
      next-sound to.region
      (record { below = λ j l. holds-short (w.region.below j l); keeps = below-short w.region.keeps })
      to.last
      to.some
      (omega (arith, w.all, to.all))

  pub bucket-below : k < buckets s
  bucket-below = next.0

  pub stands-inside : {t : Tables} → TablesOf s t → f + 4 ≤ length s
  unfolding link_field
  stands-inside tables = rw w.field (go n w.region.keeps)
    where
      go : (n : ℕ) → KeepsBelow Long s k n → link_field s k n + 4 ≤ length s
      go zero keeps = field-inside tables k bucket-below
      go (suc n) keeps = omega (arith, (keeps n (omega arith)).1.inside)

  module _ {r : ℕ} (e : r ≡ be 4 s f) where
    here : r ≡ link s k n
    here = e ∙ ap (be 4 s) w.field ∙ reads-link s k n

    -- the chain ends
    pub stands-next : {f' : ℕ} → r ≡ end_value → f' ≡ bucket_field s (k + 1) → Stands s (k + 1) f' 0 passed end_value
    unfolding link_field
    stands-next q field =
        let (all, region, sums) = chain-behind w.region (sym here ∙ q) in
        record {
          len = all;
          region = rw (add-one k) region;
          field = field;
          all = omega (arith, w.all, sums, ap (sum all) (add-one k));
          marked = λ some. absurd (some refl);
        }

    module _ (real : r ≡ end_value → ⊥) where
      pub record-sound : KeepsAt Short s k n
      record-sound = next.1 (λ q. real (here ∙ q))

      pub sound-inside : r + 12 ≤ length s
      sound-inside = rw here record-sound.1.inside

      pub sound-listed : images_at s r + 4 + 8 * images s r ≤ length s
      sound-listed = rw here (keeps-listed record-sound.1)

      module _ {v : Fault} (judged : v ≡ notes_fault (images s r) s (entries_at (images_at s r))) where
        long : record_fault Long s k (link s k n) ≡ v
        long = long-notes s k (link s k n) record-sound.1.rules ∙ sym (rw here at judged)

        -- it keeps the long rules, and may be remembered
        pub stands_on : v.number ≡ 0 → Stands s k r (n + 1) (passed + 1) mark × Stands s k r (n + 1) (passed + 1) r
        unfolding link_field
        stands_on kept = (
          on (λ some. let (i, l, e) = w.marked some in (i, omega arith, e)),
          on (λ some. (n, omega arith, sym here)),
        )
          where
            on : {m : ℕ} → ((m ≡ end_value → ⊥) → (i : ℕ) × (i < n + 1) × (link s k i ≡ m)) → Stands s k r (n + 1) (passed + 1) m
            on marked = record {
              len = w.len;
              region = record {
                below = w.region.below;
                keeps = rw (add-one n)
                    (below_suc w.region.keeps (record-sound.0, record { inside = record-sound.1.inside; rules = same_number long ∙ kept }));
              };
              field = rw (add-one n) here;
              all = omega (arith, w.all);
              marked = marked;
            }

        -- or breaks one
        pub breaks-here : (v.number ≡ 0 → ⊥) → BreaksLong s v.number v.place (passed + 1)
        breaks-here some = record {
          len = w.len;
          bucket = k;
          count = n;
          below = w.region.below;
          breaks = record {
            keeps = w.region.keeps;
            real = record-sound.0;
            broken = link-inside Long s k (link_field s k n) (link s k n) record-sound.1.inside ∙ long;
            some = omega (arith, some);
          };
          real = bucket-below;
          opened = omega (arith, w.all, counts);
        }
          where
            counts : itself v.number ≡ 1
            counts = rw (ne_eqb v.number 7 (never 7 (rw (same_number long) at (record-number Long s k (link s k n))) refl))

-- all are gone over
pub stands-done : {s : List ℕ} {sound k f n passed mark : ℕ} → Stands s k f n passed mark → sound ≤ passed
    → (len : ℕ → ℕ) (j m : ℕ) → Region Short s len j m → sum len j + m ≤ sound → Region Long s len j m
stands-done w done len j m region few = reached w.region region (omega (arith, w.all))

-- the chain comes back to the record that was remembered, so all its records keep the long rules
pub stands-round : {s : List ℕ} {k f n passed mark : ℕ} → Stands s k f n passed mark → (mark ≡ end_value → ⊥) → mark ≡ be 4 s f
    → (len : ℕ → ℕ) (j m : ℕ) → Region Short s len j m → Region Long s len j m
stands-round {s} {k} {n = n} w some e len j m region =
    let (i, l, is) = w.marked some in
    let same : link s k n ≡ link s k i = sym (reads-link s k n) ∙ ap (be 4 s) (sym w.field) ∙ sym e ∙ sym is in
    let keeps = below_suc w.region.keeps (rw same (w.region.keeps i l)) in
    let back : Repeat s k (suc n) = record { first = i; second = n; order = l; below = omega arith; same = same } in
    let long : Region Long s w.len k (sum len j + m) = record { below = w.region.below; keeps = λ u v. round back keeps u } in
    reached long region (omega arith)
