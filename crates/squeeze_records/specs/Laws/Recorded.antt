-- One icon more: its name, its record, and the field that leads to it.
use Rattle.std.specs.Prelude.{ℕ, suc, ◌+◌, ◌-◌, ◌*◌, ◌≤◌, ◌<◌, ◌≡◌, refl, List, [], ◌∷◌, ◌++◌, length, take, drop}
use Rattle.std.proofs.Common.{sym, ap, ◌∙◌, append-nil, add-zero, add-one, arith, eq-eqb, ne_eqb, length-append, take_at}
use Rattle.std.proofs.Math.Decide.{ℕ_discrete}
use Rattle.format.specs.Bytes.{bytes, put}
use Rattle.format.specs.Header.{buckets, directories}
use Rattle.format.specs.Layout.{end_value, name_field}
use Rattle.format.specs.Number.{be}
use Rattle.format.specs.Words.{Accepted}
use Rattle.format.specs.declared.Reading.TheVariants.{Short}
use Rattle.format.proofs.Laws.Bytes.{bytes-length}
use Rattle.format.proofs.Laws.Put.{put-length, put-more}
use Rattle.catalogue.specs.LaidOut.{Stands, icon_bucket, text_and_zero}
use Rattle.catalogue.specs.Written.{records_begin, front}
use Rattle.catalogue.specs.Append.{new_record, lead_field}
use Rattle.catalogue.proofs.Laws.Stands.{stands-number, stands-inside, stands_at, stands_same}
use Rattle.catalogue.proofs.Laws.Putting.{stands_after, stands-before}
use Rattle.catalogue.proofs.Laws.Front.{front_length, new-length}
use Rattle.catalogue.proofs.Laws.Grows.{lead-below, front-grows}
use Rattle.keys.specs.Key.{key_at}
use Rattle.keys.specs.declared.Kind.TheVariants.{Ended}
use Rattle.squeeze_spec.specs.Uses.{place_of}
use Rattle.squeeze_spec.specs.Packed.{nth_string, string_part}
use Rattle.squeeze_spec.specs.Squeezed.{contents}
use Rattle.squeeze_spec.proofs.Laws.Uses.{use-same, stored-inside}
use Rattle.squeeze_spec.proofs.Laws.Contents.{path-count, some-bucket, contents-rise}
use Rattle.squeeze_spec.proofs.Laws.Passes.{lead-first, lead-next}
use Rattle.squeeze_spec.proofs.Laws.There.{name-there}
use Rattle.squeeze_icons.specs.Staying.{IconAt}
use Rattle.squeeze_index.specs.Laws.Both.{put-swap}
use Rattle.squeeze_paths.specs.Pathed.{strings_up_to}
use Rattle.squeeze_texts.specs.Named.{NameAt, string_of, Stores}
use Rattle.squeeze_texts.specs.Laws.{stored_same, stored_grows, stored-size, stored-end, stored-place, string-is}
use Rattle.squeeze_texts.specs.declared.Stored.{Stored}
use Rattle.passes.specs.Record.{appended}
use Rattle.squeeze_records.specs.Recorded.{leads, places, strings, icons, table, Ready, Recorded}
use Rattle.squeeze_records.specs.Laws.Sizes.{records-before, list-short, size_is, strings-step, strings-within}

pub recorded-at : {s lent out : List ℕ} {m n end j : ℕ} → m ≡ n → Recorded s lent out n end j → Recorded s lent out m end j
recorded-at e h = rw e h

module _ {s : List ℕ} (acc : Accepted Short s) {lent : List ℕ} (ready : Ready s lent) where
  -- nothing is put yet
  pub recorded-none : {end : ℕ} → end ≡ strings s + length (strings_up_to s (directories s)) → Recorded s lent lent 0 end end_value
  recorded-none e =
      let z : string_of s 0 ≡ directories s = add-zero (directories s) in
      record {
        within = omega arith;
        built =
            sym (ap (λ o. put o (strings s) (strings_up_to s (string_of s 0))) (sym ready.begun) ∙ ap (λ n. put lent (strings s) (strings_up_to s n)) z ∙ sym ready.paths-put);
        ends = e ∙ ap (λ n. strings s + length (strings_up_to s n)) (sym z);
        none = λ q. refl;
        last = λ m q. absurd (omega arith);
      }

  module _ {out : List ℕ} {i end j k r : ℕ} (h : Recorded s lent out i end j) (icon : IconAt s i k r) where
    abbrev F : ℕ → List ℕ
    F n = front (contents s) (buckets s) (places s) n

    abbrev T : ℕ → List ℕ
    T n = strings_up_to s (string_of s n)

    front-size : (n : ℕ) → length (F n) ≡ records_begin (buckets s) + 12 * n
    front-size n = front_length (contents s) (buckets s) (places s) n

    strings-fit : strings s + length (T (i + 1)) ≤ length lent
    strings-fit = omega (arith, strings-within s i icon.below, size_is s, ready.fits)

    front_fits : 0 + length (F i) ≤ length lent
    front_fits = omega (arith, front-size i, records-before s, icon.below, strings-fit)

    A-length : length (put lent 0 (F i)) ≡ length lent
    A-length = put-length lent 0 (F i) front_fits

    strings-room : strings s + length (T i) ≤ length (put lent 0 (F i))
    strings-room = omega (arith, A-length, strings-fit, strings-step s i)

    pub same_length : length out ≡ length lent
    same_length = ap length h.built ∙ put-length (put lent 0 (F i)) (strings s) (T i) strings-room ∙ A-length

    -- where its list is, stands in the table
    pub list_read : be 4 out (table s + 4 * i) ≡ (places s).images-at i
    list_read =
        let there = stands_after lent 0 (F i) front_fits (omega (arith, front-size i, icon.below)) (ready.listed i icon.below) in
        let width = bytes-length 4 ((places s).images-at i) in
        let still = stands-before (put lent 0 (F i)) (strings s) (T i) strings-room (omega (arith, records-before s, icon.below)) there in
        ap (λ o. be 4 o (table s + 4 * i)) h.built
        ∙ stands-number 4 (omega (arith, list-short s i icon.below, size_is s, ready.short)) still

    pub table-inside : table s + 4 * i + 4 ≤ length out
    table-inside = omega (arith, same_length, records-before s, icon.below, strings-fit)

    pub end_short : end ≤ 16777216
    end_short = omega (arith, h.ends, strings-step s i, strings-within s i icon.below, size_is s, ready.short)

    pub record-inside : records_begin (buckets s) + 12 * i + 12 ≤ length out
    record-inside = omega (arith, same_length, records-before s, icon.below, strings-fit)

    pub record-short : records_begin (buckets s) + 12 * i + 12 ≤ 16777216
    record-short = omega (arith, records-before s, icon.below, size_is s, ready.short)

    -- the field that leads to its record
    real : (m : ℕ) → m < i → (places s).record-at m ≡ end_value → ⊥
    real m l e = omega (arith, record-short)

    bucket-real : k < 4096
    bucket-real = omega (arith, icon.bucket, ready.few)

    field_is : {at : ℕ} → at ≡ records_begin (buckets s) + 12 * i → leads j k at ≡ lead_field (contents s) (buckets s) (places s) i
    field_is {at} place = elim (ℕ_discrete j k) [
      | yes e ↦
          let some : i ≡ 0 → ⊥ = λ z. omega (arith, h.none z, bucket-real) in
          let m = i - 1 in
          let behind : i ≡ suc m = omega arith in
          let same : icon_bucket (contents s) (buckets s) m ≡ icon_bucket (contents s) (buckets s) i = sym (h.last m behind) ∙ e ∙ sym icon.home in
          rw (eq-eqb _ _ e)
          (sym (lead-next (contents s) (buckets s) (places s) (contents-rise acc) i icon.below behind same (real m (omega arith)) ∙ omega arith))
      | no d ↦
          rw (ne_eqb _ _ d)
          (sym (lead-first (contents s) (buckets s) (places s) (contents-rise acc) i icon.below (λ m q e. d (h.last m q ∙ e ∙ icon.home))
          ∙ ap (λ n. 16 + 4 * n) icon.home))
    ]

    pub field-inside : {at f : ℕ} → at ≡ records_begin (buckets s) + 12 * i → f ≡ leads j k at → f + 4 ≤ length out
    field-inside place e =
        omega (arith, e ∙ field_is place, lead-below (contents s) (buckets s) (places s) (some-bucket acc) i (λ n. refl) real, record-inside)

    -- its name
    module _ {p : ℕ} (name : NameAt s i p) (read : p ≡ be 4 s (name_field r)) {x : Stored} (stores : Stores s (strings s) i end x) where
      abbrev string : List ℕ
      string = take (x.end - end) (drop p s)

      end_is : x.end ≡ strings s + length (T (i + 1))
      end_is = stored-end stores h.ends

      pub end-onward : end ≤ x.end
      end-onward = omega (arith, h.ends, end_is, strings-step s i)

      -- its bytes stand in the old cache
      there : Stands s p (string_part (contents s) (string_of s i))
      there = stands_at (stands_same (name-there icon.keeps) (ap text_and_zero (sym (string-is name ∙ ap (λ q. key_at Ended s q) read)))) (sym read)

      part-some : 0 < length (string_part (contents s) (string_of s i))
      part-some = omega (arith, length-append (nth_string (contents s) (string_of s i)) (0 ∷ []))

      pub name-inside : p + (x.end - end) ≤ length s
      name-inside = elim (ℕ_discrete x.end end) [
        | yes e ↦ omega (arith, stands-inside there part-some)
        | no d ↦ omega (arith, stands-inside there part-some, stored-size stores d)
      ]

      name-bytes : T (i + 1) ≡ T i ++ string
      name-bytes = elim (ℕ_discrete x.end end) [
        | yes e ↦
            let none : x.end - end ≡ 0 = omega arith in
            stored_same stores e ∙ sym (ap (λ n. T i ++ take n (drop p s)) none ∙ append-nil (T i))
        | no d ↦
            let size : x.end - end ≡ length (string_part (contents s) (string_of s i)) = omega (arith, stored-size stores d) in
            stored_grows stores d ∙ sym (ap (λ n. T i ++ take n (drop p s)) size
            ∙ ap (λ t. T i ++ take (length (string_part (contents s) (string_of s i))) t) there.there
            ∙ ap (λ t. T i ++ t) (take_at (string_part (contents s) (string_of s i)) there.rest _ refl))
      ]

      pub name-fits : end + (x.end - end) ≤ length out
      name-fits = omega (arith, end-onward, end_is, strings-fit, same_length)

      pub name-short : x.place ≤ 16777216
      name-short =
          let key = nth_string (contents s) in
          let part = string_part (contents s) in
          let below : string_of s i < string_of s (icons s) = omega (arith, icon.below) in
          omega (arith, stored-place stores h.ends, stored-inside key part below (ap text_and_zero (use-same key (string_of s i))), size_is s, ready.short)

      -- and all of it
      module _ {out₁ out₂ : List ℕ} {at list f : ℕ} (place : at ≡ records_begin (buckets s) + 12 * i) (named : out₁ ≡ put out end string)
          (listed : list ≡ (places s).images-at i) (leading : f ≡ leads j k at) (put_record : out₂ ≡ appended out₁ at x.place list f) where
        abbrev A : List ℕ
        A = put lent 0 (F i)

        abbrev new : List ℕ
        new = new_record (places s) i

        with-name : out₁ ≡ put A (strings s) (T (i + 1))
        with-name =
            named ∙ ap (λ o. put o end string) h.built
            ∙ put-more A (strings s) (T i) string (sym h.ends) (omega (arith, A-length, strings-fit, h.ends, ap length name-bytes, length-append (T i) string))
            ∙ ap (put A (strings s)) (sym name-bytes)

        name-is : x.place ≡ (places s).name-at i
        name-is = stored-place stores h.ends ∙ ap (λ n. strings s + place_of (nth_string (contents s)) (string_part (contents s)) (n + i)) (sym (path-count s))

        record_is : bytes 4 end_value ++ bytes 4 x.place ++ bytes 4 list ≡ new
        record_is = ap (λ n. bytes 4 end_value ++ bytes 4 n ++ bytes 4 list) name-is ∙ ap (λ n. bytes 4 end_value ++ bytes 4 ((places s).name-at i) ++ bytes 4 n) listed

        wide : length new ≡ 12
        wide = new-length (contents s) (buckets s) (places s) i

        lead_is : f ≡ lead_field (contents s) (buckets s) (places s) i
        lead_is = leading ∙ field_is place

        lead-before : f + 4 ≤ records_begin (buckets s) + 12 * suc i
        lead-before = omega (arith, lead_is, lead-below (contents s) (buckets s) (places s) (some-bucket acc) i (λ n. refl) real)

        abbrev led : List ℕ
        led = bytes 4 ((places s).record-at i)

        -- the record and the field before the strings, which stay
        whole : out₂ ≡ put (put lent 0 (F (suc i))) (strings s) (T (i + 1))
        whole =
            let t-fits : strings s + length (T (i + 1)) ≤ length A = omega (arith, A-length, strings-fit) in
            let inside : at + length new ≤ length A = omega (arith, place, wide, A-length, record-inside, same_length) in
            let before : at + length new ≤ strings s = omega (arith, place, wide, records-before s, icon.below) in
            let B = put A at new in
            let B-length = put-length A at new inside in
            let led-size = bytes-length 4 ((places s).record-at i) in
            put_record
            ∙ ap (λ o. appended o at x.place list f) with-name
            ∙ ap (λ z. put (put (put A (strings s) (T (i + 1))) at z) f (bytes 4 at)) record_is
            ∙ ap (λ o. put o f (bytes 4 at)) (sym (put-swap A at new (strings s) (T (i + 1)) before t-fits))
            ∙ ap (λ n. put (put B (strings s) (T (i + 1))) f (bytes 4 n)) place
            ∙ sym (put-swap B f led (strings s) (T (i + 1)) (omega (arith, lead-before, records-before s, icon.below)) (omega (arith, t-fits, B-length)))
            ∙ ap (λ o. put o (strings s) (T (i + 1)))
            (ap (λ n. put (put A n new) f led) place ∙ ap (λ n. put (put A (records_begin (buckets s) + 12 * i) new) n led) lead_is
            ∙ front-grows (contents s) (buckets s) (places s) (some-bucket acc) i (λ n. refl) real lent (omega (arith, records-before s, icon.below, strings-fit)))

        pub recorded-next : Recorded s lent out₂ (i + 1) x.end k
        recorded-next = record {
          within = omega (arith, icon.below);
          built = rw (add-one i) (whole ∙ ap (λ t. put (put lent 0 (F (suc i))) (strings s) t) (ap T (add-one i)));
          ends = end_is;
          none = λ z. absurd (omega arith);
          last = λ m q. let same : i ≡ m = omega arith in sym icon.home ∙ ap (icon_bucket (contents s) (buckets s)) same;
        }
