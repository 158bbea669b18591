-- The records, one icon after the other: what stands in the buffer and what is remembered after i of
-- them, and that one icon more leads to the next.
use Rattle.std.specs.Prelude.{ℕ, suc, ◌+◌, ◌*◌, ◌%◌, ◌≤◌, ◌<◌, ◌≡◌, refl, List, set, replicate}
use Rattle.std.proofs.Math.Path.{sym, ap}
use Rattle.std.proofs.Common.{◌∙◌, mod-lt, add-one, arith, eq-eqb, ne_eqb, get_or-set_same, get_or-set_other}
use Rattle.std.proofs.Math.Decide.{ℕ_discrete}
use Rattle.std.proofs.Math.ListN.{length, get_or, length-append, length-set, length-replicate, get_or-replicate}
use Rattle.format.specs.Layout.{end_value}
use Rattle.format.specs.Bytes.{joined, put}
use Rattle.format.specs.String.{hash}
use Rattle.catalogue.specs.Row.{row_end}
use Rattle.catalogue.specs.Catalogue.{Icon, Catalogue}
use Rattle.catalogue.specs.Fields.{name_length, image_count, icon_end, catalogue_in}
use Rattle.catalogue.specs.LaidOut.{Places, nth_icon, icon_bucket, list_bytes, text_and_zero}
use Rattle.catalogue.specs.Written.{records_begin, lists_up_to, names_up_to, places, written_size, front}
use Rattle.catalogue.specs.Append.{last_in, lead_field}
use Rattle.catalogue.proofs.Laws.Rows.{end-next}
use Rattle.catalogue.proofs.Laws.Written.{part-inside}
use Rattle.catalogue.proofs.Laws.Grows.{lead-below, front-grows}
use Rattle.passes.specs.Passes.{Judged}
use Rattle.passes.specs.Laws.Icons.{icon-is, name-size, list-size}
use Rattle.passes.specs.Laws.Counts.{icons-are}
use Rattle.passes.specs.Record.{appended}
use Rattle.write_cache.specs.Appending.{leads, bucket_at, Ready}

-- the records of i icons stand in the buffer, the next goes to `at`, with its name and list there,
-- and `last` holds the last record of each bucket
pub record Reached (c : List ℕ) (b first : ℕ) (lent : List ℕ) (i icon at list name : ℕ) (out last : List ℕ) : Type 0 where
  pub here : icon ≡ row_end (icon_end c) i first
  pub record-at : at ≡ records_begin b + 12 * i
  pub list_at : list ≡ (places (catalogue_in c) b).images-at i
  pub name-at : name ≡ (places (catalogue_in c) b).name-at i
  pub same : length out ≡ length lent
  pub built : out ≡ put lent 0 (front (catalogue_in c) b (places (catalogue_in c) b) i)
  pub wide : length last ≡ 4096
  pub remembers : (k : ℕ) → k < b → get_or last k 0 ≡ last_in (icon_bucket (catalogue_in c) b) (places (catalogue_in c) b).record-at k i

last-here : (bucket record-at : ℕ → ℕ) (k n : ℕ) → bucket n ≡ k → last_in bucket record-at k (suc n) ≡ record-at n
unfolding last_in
last-here bucket record-at k n e = rw (last_in, eq-eqb _ _ e)

last-other : (bucket record-at : ℕ → ℕ) (k n : ℕ) → (bucket n ≡ k → ⊥) → last_in bucket record-at k (suc n) ≡ last_in bucket record-at k n
unfolding last_in
last-other bucket record-at k n h = rw (last_in, ne_eqb _ _ h)

module _ {c : List ℕ} {paths icons first b lists names : ℕ} {lent : List ℕ} (judged : Judged c paths icons first) (ready : Ready (catalogue_in c) b lists names lent) where
  abbrev d : Catalogue
  d = catalogue_in c

  abbrev q : Places
  q = places d b

  pub reached-first : {last : List ℕ} → last ≡ replicate 4096 end_value → Reached c b first lent 0 first (16 + 4 * b) lists names lent last
  unfolding row_end joined last_in
  reached-first e = record {
    here = refl;
    record-at = omega arith;
    list_at = omega (arith, ready.first-list);
    name-at = omega (arith, ready.first-name);
    same = refl;
    built = ready.begun;
    wide = ap length e ∙ length-replicate 4096 end_value;
    remembers = λ k l. ap (λ u. get_or u k 0) e ∙ get_or-replicate 4096 k end_value 0 (omega (arith, ready.fits.few));
  }

  module _ {i icon at list name : ℕ} {out last : List ℕ} (h : Reached c b first lent i icon at list name out last) (l : i < icons) where
    -- what is put for the icon lies inside
    pub record Room : Type 0 where
      pub record-room : at + 12 ≤ written_size d b
      pub list-room : list + (4 + 8 * image_count c icon) ≤ written_size d b
      pub name-room : name + (name_length c icon + 1) ≤ written_size d b
      pub out-room : written_size d b ≤ length out
      pub short : written_size d b ≤ 16777216

    pub room : Room
    room =
        let below : i < length d.icons = omega (arith, icons-are judged) in
        let lists = part-inside (λ j. list_bytes (nth_icon d j)) (length d.icons) i below in
        let names = part-inside (λ j. text_and_zero (nth_icon d j).name) (length d.icons) i below in
        record {
          record-room = omega (arith, h.record-at);
          list-room = omega (arith, h.list_at, list-size judged l h.here);
          name-room = omega (arith, h.name-at, name-size judged l h.here);
          out-room = omega (arith, ready.fits.room, h.same);
          short = ready.fits.short;
        }

    abbrev k : ℕ
    k = bucket_at c icon b

    bucket-is : k ≡ icon_bucket d b i
    bucket-is = ap (λ (x : Icon). hash x.name % b) (sym (icon-is judged l h.here))

    k-below : k < b
    k-below = mod-lt _ ready.fits.some

    real : (j : ℕ) → j < i → q.record-at j ≡ end_value → ⊥
    real j a e = omega (arith, room.record-room, h.record-at, ready.fits.short)

    lead_is : leads (get_or last k 0) k ≡ lead_field d b q i
    unfolding lead_field
    lead_is = rw (h.remembers k k-below, bucket-is)

    pub lead-room : leads (get_or last k 0) k + 4 ≤ length out
    lead-room = omega (arith, lead_is, lead-below d b q ready.fits.some i (λ j. refl) real, room.record-room, room.out-room, h.record-at)

    -- one icon more
    module _ {out' last' : List ℕ} (put-out : out' ≡ appended out at name list (leads (get_or last k 0) k)) (put_last : last' ≡ set last k at) where
      grown : out' ≡ put lent 0 (front d b q (suc i))
      grown =
          put-out
          ∙ ap (λ f. appended out at name list f) lead_is
          ∙ ap (λ r. appended out r name list (lead_field d b q i)) h.record-at
          ∙ ap (λ n. appended out (records_begin b + 12 * i) n list (lead_field d b q i)) h.name-at
          ∙ ap (λ n. appended out (records_begin b + 12 * i) (q.name-at i) n (lead_field d b q i)) h.list_at
          ∙ ap (λ u. appended u (records_begin b + 12 * i) (q.name-at i) (q.images-at i) (lead_field d b q i)) h.built
          ∙ front-grows d b q ready.fits.some i (λ j. refl) real lent (omega (arith, room.record-room, h.record-at, ready.fits.room))

      last-is : (j : ℕ) → j < b → get_or last' j 0 ≡ last_in (icon_bucket d b) q.record-at j (suc i)
      last-is j a = elim (ℕ_discrete j k) [
        | yes e ↦
            ap (λ u. get_or u j 0) put_last
            ∙ ap (λ m. get_or (set last k at) m 0) e
            ∙ get_or-set_same last k at 0 (omega (arith, h.wide, ready.fits.few, k-below))
            ∙ h.record-at
            ∙ sym (last-here (icon_bucket d b) q.record-at j i (sym bucket-is ∙ sym e))
        | no o ↦
            ap (λ u. get_or u j 0) put_last
            ∙ get_or-set_other last k j at 0 o
            ∙ h.remembers j a
            ∙ sym (last-other (icon_bucket d b) q.record-at j i (λ e. o (sym (bucket-is ∙ e))))
      ]

      pub reached-next : {icon' at' list' name' : ℕ} → length out' ≡ length out → at' ≡ at + 12 → list' ≡ list + (4 + 8 * image_count c icon) → name' ≡ name + (name_length c icon + 1)
          → icon' ≡ icon_end c icon → Reached c b first lent (i + 1) icon' at' list' name' out' last'
      unfolding joined
      reached-next same_length at-is list-is name-is icon-on = rw (add-one i) (record {
        here = icon-on ∙ ap (icon_end c) h.here ∙ sym (end-next (icon_end c) i first);
        record-at = omega (arith, h.record-at);
        list_at = omega (arith, h.list_at, list-size judged l h.here, length-append (lists_up_to d i) (list_bytes (nth_icon d i)));
        name-at = omega (arith, h.name-at, name-size judged l h.here, length-append (names_up_to d i) (text_and_zero (nth_icon d i).name));
        same = same_length ∙ h.same;
        built = grown;
        wide = ap length put_last ∙ length-set last k at ∙ h.wide;
        remembers = last-is;
      })
