-- One icon more: its list is stored already, or found in the index, or new, or left for a later
-- block.
use Rattle.std.specs.Prelude.{ℕ, suc, ◌+◌, ◌-◌, ◌*◌, ◌^◌, ◌≤◌, ◌<◌, ◌≡◌, refl, List, ◌∷◌, true, false, length, get_or}
use Rattle.std.proofs.Common.{sym, ap, ◌∙◌, add-one, arith, eq-eqb, eqb-true, length-append, lit≤}
use Rattle.std.proofs.Math.Bool.{not-eq-not}
use Rattle.std.proofs.Math.Decide.{dec_lt, ℕ_discrete}
use Rattle.format.specs.Bytes.{bytes, put}
use Rattle.format.specs.Layout.{end_value}
use Rattle.format.specs.Number.{be}
use Rattle.format.specs.String.{among}
use Rattle.format.proofs.Laws.Put.{put-length, put-more}
use Rattle.keys.specs.Key.{key_at}
use Rattle.keys.specs.declared.Kind.TheVariants.{Images}
use Rattle.names.specs.Index.{entry, Between}
use Rattle.squeeze_spec.specs.Uses.{first_use, is_first, place_of}
use Rattle.squeeze_spec.specs.Packed.{nth_list}
use Rattle.squeeze_spec.specs.Squeezed.{contents}
use Rattle.squeeze_spec.proofs.Laws.Uses.{use-most, use-same, stored-first, stored-later, stored-inside}
use Rattle.squeeze_index.specs.Maps.{Adds}
use Rattle.squeeze_index.specs.Laws.Maps.{maps_none, maps-met, maps-value, maps-missing, maps-more}
use Rattle.squeeze_index.specs.Laws.Firsts.{stored_at, first-own, stored-place, stored-new}
use Rattle.squeeze_sizes.specs.Distinct.{distinct}
use Rattle.squeeze_sizes.specs.Counting.{ListAt}
use Rattle.squeeze_sizes.specs.Laws.Distinct.{distinct-all, distinct-grows}
use Rattle.squeeze_lists.specs.Cells.{cell_to, cell, cells, news}
use Rattle.squeeze_lists.specs.Shares.{icon_count, lists_to, Room, stored, Shares, Stores, Filled}
use Rattle.squeeze_lists.specs.Laws.Table.{cells-length, cell-read, cell-changed}
use Rattle.squeeze_lists.specs.Laws.News.{news-none, news-first, news-later, met-below, met-not-first, unmet-from}
use Rattle.squeeze_lists.specs.Laws.Cells.{cell-stored, cell-unstored, cell-end, cell-real, cell_same, cell-before, cell-passed, cell-ahead, cell_other, cell-own, cells_same}
use Rattle.squeeze_lists.specs.declared.Shared.{Shared}

-- what is put at a place is put at the same place by another name
pub put-at : (out ys : List ℕ) {out' : List ℕ} {f g : ℕ} → f ≡ g → out' ≡ put out f ys → out' ≡ put out g ys
put-at out ys e h = rw e at h

-- where a list is stored there is room for it
-- what is told of the parts of r
pub shared-is : (r : Shared) {n f : ℕ} → r.entries ≡ n → r.end ≡ f → r ≡ record { until = r.until; entries = n; end = f }
shared-is r e f = rw (← e, ← f) refl

module _ {s lent : List ℕ} {table at : ℕ} (room : Room s lent table at) (i : ℕ) (l : i < icon_count s) where
  abbrev own : List ℕ
  own = nth_list (contents s) i

  list-ends : place_of (nth_list (contents s)) (nth_list (contents s)) i + length own ≤ length (lists_to s (icon_count s))
  list-ends = stored-inside (nth_list (contents s)) (nth_list (contents s)) l (use-same (nth_list (contents s)) i)

  pub place_short : at + place_of (nth_list (contents s)) (nth_list (contents s)) i ≤ 16777216
  place_short = omega (arith, list-ends, room.short)

  pub new-fits : is_first (nth_list (contents s)) i ≡ true → at + length (lists_to s i) + length own ≤ length lent
  new-fits first = omega (arith, list-ends, room.fits, ap (λ j. length (lists_to s j)) (first-own (nth_list (contents s)) i first))

pub lists-grow : (s : List ℕ) {m n : ℕ} → m ≤ n → length (lists_to s m) ≤ length (lists_to s n)
lists-grow s {m} {n} l =
    let part = nth_list (contents s) in
    let e : m + (n - m) ≡ n = omega arith in
    omega (arith, distinct-all part m, distinct-all part n, distinct-grows part 0 m (n - m), ap (distinct part 0) e)

-- the list of icon n stands at p
module _ {s lent out index places : List ℕ} {table at a n : ℕ} {c : Shared} (h : Shares s lent out index places table at a n c) {p : ℕ} (l : ListAt s n p)
    (below : n < icon_count s) where
  abbrev part : ℕ → List ℕ
  part = nth_list (contents s)

  abbrev b : ℕ
  b = c.until

  abbrev x : ℕ
  x = h.taken

  lists-fit : at + length (lists_to s b) ≤ length lent
  lists-fit = omega (arith, lists-grow s {m = b} {n = icon_count s} (omega (arith, h.passed)), h.room.fits)

  cell-small : cell_to part at a n < 256 ^ 4
  cell-small = elim (dec_lt (first_use part n) a) [
    | yes g ↦ rw (cell-stored part at a n g) (omega (arith, place_short h.room n below))
    | no g ↦ rw (cell-unstored part at a n (omega arith)) (lit≤ tt)
  ]

  same_length : length out ≡ length lent
  same_length =
      let table_fits : table + length (cells part at a b n (icon_count s)) ≤ length lent =
      omega (arith, cells-length (cell part at a b n) (icon_count s), h.room.apart, h.room.fits) in
      let inner = put-length lent table (cells part at a b n (icon_count s)) table_fits in
      ap length h.built ∙ put-length _ at (lists_to s b) (omega (arith, lists-fit, inner)) ∙ inner

  -- its cell
  pub cell-is : be 4 out (table + 4 * n) ≡ cell_to part at a n
  cell-is =
      let own = cell-ahead part at a b n {i = n} (omega arith) in
      ap (λ o. be 4 o (table + 4 * n)) h.built
      ∙ cell-read (cell part at a b n) (icon_count s) lent table at (lists_to s b) h.room.apart lists-fit below (rw own cell-small)
      ∙ own

  pub cell-inside : table + 4 * n + 4 ≤ length out
  cell-inside = omega (arith, h.room.apart, h.room.fits, same_length)

  -- after it is passed: the cell is changed, or it is right already
  passed-put : {out' : List ℕ} {v : ℕ} → out' ≡ put out (table + 4 * n) (bytes 4 v) → v ≡ cell_to part at b n → out' ≡ stored s lent table at a b (suc n)
  passed-put {v = v} e is =
      e ∙ ap (λ o. put o (table + 4 * n) (bytes 4 v)) h.built ∙ ap (λ w. put (stored s lent table at a b n) (table + 4 * n) (bytes 4 w)) (is ∙ sym (cell-own part at a b n))
      ∙ cell-changed (cell part at a b n) (icon_count s) lent table at (lists_to s b) h.room.apart lists-fit (cell part at a b (suc n)) below (λ i k d. cell_other part at a b n i d)

  passed-same : cell_to part at a n ≡ cell_to part at b n → out ≡ stored s lent table at a b (suc n)
  passed-same e =
      h.built ∙ ap (λ z. put (put lent table z) at (lists_to s b)) (cells_same part at a b a b n (suc n) (icon_count s) (λ i k. elim (ℕ_discrete i n) [
        | yes q ↦ rw q (cell-ahead part at a b n (omega arith) ∙ e ∙ sym (cell-own part at a b n))
        | no d ↦ cell_other part at a b n i d
      ]))

  -- its list is no first use
  module _ (later : is_first part n ≡ false) where
    shares-advance : {out' : List ℕ} → b ≡ n → out' ≡ stored s lent table at a b (suc n)
        → Shares s lent out' index places table at a (n + 1) (record { until = n + 1; entries = c.entries; end = c.end })
    shares-advance {out'} here e =
        let last : a + x ≡ n = omega (arith, h.until-is) in
        let not_first : is_first part (a + x) ≡ false = ap (is_first part) last ∙ later in
        let same : lists_to s (suc n) ≡ lists_to s n = stored-later part part n later in
        let all_same : (i : ℕ) → i < icon_count s → cell part at a b (suc n) i ≡ cell part at a (suc n) (suc n) i = λ i k. elim (dec_lt i (suc n)) [
          | yes q ↦ cell-passed part at a b (suc n) q ∙ ap (λ m. cell_to part at m i) here ∙ sym (cell_same part at n later i) ∙ sym (cell-passed part at a (suc n) (suc n) q)
          | no q ↦ cell-ahead part at a b (suc n) (omega arith) ∙ sym (cell-ahead part at a (suc n) (suc n) (omega arith))
        ] in
        let whole : out' ≡ stored s lent table at a (suc n) (suc n) =
        e ∙ ap (λ z. put (put lent table z) at (lists_to s b)) (cells_same part at a b a (suc n) (suc n) (suc n) (icon_count s) all_same)
        ∙ ap (λ z. put (put lent table (cells part at a (suc n) (suc n) (icon_count s))) at z) (ap (lists_to s) here ∙ sym same) in
        record {
          room = h.room;
          taken = suc x;
          until-is = omega (arith, h.until-is);
          passed = omega arith;
          within = omega arith;
          onward = λ k. omega arith;
          fits = h.fits;
          most = omega (arith, h.most);
          known = rw (news-later part a x not_first) h.known;
          ends = omega (arith, h.ends, ap length same, ap (λ m. length (lists_to s m)) here, ap (λ m. length (lists_to s m)) (add-one n));
          built = rw (add-one n) whole;
        }

  shares-passed : {out' : List ℕ} → 0 < x → out' ≡ stored s lent table at a b (suc n) → Shares s lent out' index places table at a (n + 1) c
  shares-passed some e = record {
    room = h.room;
    taken = x;
    until-is = h.until-is;
    passed = omega (arith, h.passed);
    within = omega arith;
    onward = λ k. some;
    fits = h.fits;
    most = h.most;
    known = h.known;
    ends = h.ends;
    built = rw (add-one n) e;
  }

  behind-some : (b ≡ n → ⊥) → 0 < x
  behind-some other = h.onward (omega (arith, h.until-is, h.passed))

  -- so it is passed, and all are taken in as long as they were
  known-passed : {out' : List ℕ} {u : ℕ} → is_first part n ≡ false → out' ≡ stored s lent table at a b (suc n) → (b ≡ n → u ≡ n + 1) → ((b ≡ n → ⊥) → u ≡ b)
      → Shares s lent out' index places table at a (n + 1) (record { until = u; entries = c.entries; end = c.end })
  known-passed {out'} {u} later e taking left = elim (ℕ_discrete b n) [
    | yes q ↦ rw (taking q) (shares-advance later q e)
    | no d ↦ rw (left d) (shares-passed (behind-some d) e)
  ]

  real-place : at + place_of part part n ≡ end_value → ⊥
  real-place e = omega (arith, place_short h.room n below)

  -- its cell is set: it was stored in a block before
  pub shares-set : {u : ℕ} → (cell_to part at a n ≡ end_value → ⊥) → (b ≡ n → u ≡ n + 1) → ((b ≡ n → ⊥) → u ≡ b)
      → Shares s lent out index places table at a (n + 1) (record { until = u; entries = c.entries; end = c.end })
  shares-set set taking left =
      let before = cell-real part at a n set in
      let not_first : is_first part n ≡ false = (not-eq-not {b = false}).0 (λ first. omega (arith, eqb-true (first_use part n) n first, h.until-is, h.passed)) in
      known-passed not_first (passed-same (cell-stored part at a n before ∙ sym (cell-stored part at b n (omega (arith, h.until-is))))) taking left

  -- it is found in the index
  module _ {i : ℕ} (k : i < c.entries) (same : entry (key_at Images s) index i ≡ key_at Images s p) where
    met : among (part n) (news part a x) ≡ true
    met = rw (← l.is) (maps-met h.known p k same)

    pub shares-found : {out' : List ℕ} {u : ℕ} → out' ≡ put out (table + 4 * n) (bytes 4 (get_or places i 0)) → (b ≡ n → u ≡ n + 1) → ((b ≡ n → ⊥) → u ≡ b)
        → Shares s lent out' index places table at a (n + 1) (record { until = u; entries = c.entries; end = c.end })
    shares-found put-out taking left =
        let within : a + x ≤ n = omega (arith, h.until-is, h.passed) in
        let early = met-below part a x within met in
        let value : get_or places i 0 ≡ cell_to part at b n =
        maps-value h.known p k same ∙ ap (stored_at part part at (icon_count s)) l.is ∙ stored-place part part at below
        ∙ sym (cell-stored part at b n (omega (arith, h.until-is))) in
        known-passed (met-not-first part a x within met) (passed-put put-out value) taking left

  -- it is neither
  module _ {i : ℕ} (unset : cell_to part at a n ≡ end_value) (spot : Between (key_at Images s) index c.entries (key_at Images s p) i i) where
    use-behind : b ≤ first_use part n
    use-behind =
        let within : a + x ≤ n = omega (arith, h.until-is, h.passed) in
        omega (arith, h.until-is, unmet-from part a x within (rw (← l.is) (maps-missing h.known p spot)) (cell-end part at a n real-place unset))

    -- and there is no room, or an earlier one was left
    pub shares_left : 0 < h.taken → Shares s lent out index places table at a (n + 1) c
    shares_left some = shares-passed some (passed-same (unset ∙ sym (cell-unstored part at b n use-behind)))

    pub shares-left-behind : (b ≡ n → ⊥) → Shares s lent out index places table at a (n + 1) c
    shares-left-behind other = shares_left (behind-some other)

    -- it is new
    module _ (here : b ≡ n) where
      first : is_first part n ≡ true
      first = let e : first_use part n ≡ n = omega (arith, use-behind, use-most part n) in eq-eqb _ _ e

      end_is : c.end ≡ at + length (lists_to s n)
      end_is = h.ends ∙ ap (λ m. at + length (lists_to s m)) here

      pub new-inside : c.end + (4 + 8 * be 4 s p) ≤ length out
      new-inside = omega (arith, new-fits h.room n below first, l.size, end_is, same_length)

      pub new-short : c.end ≤ 16777216
      new-short = omega (arith, end_is, lists-grow s {m = n} {n = icon_count s} (omega arith), h.room.short)

      grown : {out₁ : List ℕ} → out₁ ≡ put out c.end (part n) → out₁ ≡ put (put lent table (cells part at a n n (icon_count s))) at (lists_to s (suc n))
      grown e =
          let table_fits : table + length (cells part at a n n (icon_count s)) ≤ length lent =
          omega (arith, cells-length (cell part at a n n) (icon_count s), h.room.apart, h.room.fits) in
          let inner = put-length lent table (cells part at a n n (icon_count s)) table_fits in
          e ∙ ap (λ o. put o c.end (part n)) (h.built ∙ ap (λ m. stored s lent table at a m n) here)
          ∙ put-more _ at (lists_to s n) (part n) (sym end_is) (omega (arith, new-fits h.room n below first, end_is, inner))
          ∙ ap (put (put lent table (cells part at a n n (icon_count s))) at) (sym (stored-first part part n first))

      lists-room : at + length (lists_to s (suc n)) ≤ length lent
      lists-room = omega (arith, lists-grow s {m = suc n} {n = icon_count s} (omega arith), h.room.fits)

      value : c.end ≡ cell part at a (suc n) (suc n) n
      value =
          let e = first-own part n first in
          end_is ∙ sym (cell-own part at a (suc n) n ∙ cell-stored part at (suc n) n (omega (arith, e)) ∙ ap (λ m. at + length (lists_to s m)) e)

      cells-grown : (j : ℕ) → j < icon_count s → (j ≡ n → ⊥) → cell part at a n n j ≡ cell part at a (suc n) (suc n) j
      cells-grown j k d = elim (dec_lt j n) [
        | yes q ↦ cell-passed part at a n n q ∙ sym (cell-before part at n j q) ∙ sym (cell-passed part at a (suc n) (suc n) (omega arith))
        | no q ↦ cell-ahead part at a n n (omega arith) ∙ sym (cell-ahead part at a (suc n) (suc n) (omega arith))
      ]

      pub shares-new : {out₁ out₂ index' places' : List ℕ} {e : ℕ} → i ≤ c.entries → c.entries < length index' → out₁ ≡ put out c.end (key_at Images s p)
          → Adds index index' places places' c.entries i p c.end → out₂ ≡ put out₁ (table + 4 * n) (bytes 4 c.end) → e ≡ c.end + (4 + 8 * be 4 s p)
          → Shares s lent out₂ index' places' table at a (n + 1) (record { until = n + 1; entries = c.entries + 1; end = e })
      shares-new {out₂ = out₂} within room list_put adds cell-put sum =
          let last : a + x ≡ n = omega (arith, h.until-is) in
          let is-first : is_first part (a + x) ≡ true = ap (is_first part) last ∙ first in
          let stored-value : c.end ≡ stored_at part part at (icon_count s) (key_at Images s p) =
          end_is ∙ sym (ap (stored_at part part at (icon_count s)) l.is ∙ stored-new part part at below first) in
          let more = maps-more h.known p spot within adds stored-value in
          let one : key_at Images s p ∷ news part a x ≡ news part a (suc x) = ap (λ t. t ∷ news part a x) (l.is ∙ ap part (sym last)) ∙ sym (news-first part a x is-first) in
          let built : out₂ ≡ stored s lent table at a (suc n) (suc n) =
          cell-put ∙ ap (λ o. put o (table + 4 * n) (bytes 4 c.end)) (grown (list_put ∙ ap (put out c.end) l.is))
          ∙ ap (λ v. put (put (put lent table (cells part at a n n (icon_count s))) at (lists_to s (suc n))) (table + 4 * n) (bytes 4 v)) value
          ∙ cell-changed (cell part at a n n) (icon_count s) lent table at (lists_to s (suc n)) h.room.apart lists-room (cell part at a (suc n) (suc n)) below cells-grown in
          let size = ap length (stored-first part part n first) ∙ length-append (lists_to s n) (part n) in
          record {
            room = h.room;
            taken = suc x;
            until-is = omega (arith, h.until-is);
            passed = omega arith;
            within = omega arith;
            onward = λ k. omega arith;
            fits = omega arith;
            most = omega (arith, h.most);
            known = rw (← one) more;
            ends = omega (arith, sum, end_is, size, l.size, ap (λ m. length (lists_to s m)) (add-one n));
            built = rw (add-one n) built;
          }

      -- as it is stored
      pub shares-stored : {out' index' places' : List ℕ} {f : ℕ} {d : Shared} → i ≤ c.entries → c.entries < length index' → f ≡ table + 4 * n
          → Stores s out out' index index' places places' n p f i c d → Shares s lent out' index' places' table at a (n + 1) d
      shares-stored within room e k =
          rw k.becomes (shares-new within room k.list_put k.adds (put-at k.between (bytes 4 c.end) e k.cell-put) refl)

-- a walk begins, and ends
module _ {s lent out : List ℕ} {table at a : ℕ} where
  pub shares-first : (index places : List ℕ) {n end : ℕ} → n ≡ a → Filled s lent out table at a end
      → Shares s lent out index places table at a n (record { until = a; entries = 0; end = end })
  shares-first index places e h = rw e (record {
    room = h.room;
    taken = 0;
    until-is = omega arith;
    passed = omega arith;
    within = h.within;
    onward = λ l. absurd (omega arith);
    fits = omega arith;
    most = omega arith;
    known = rw (news-none (nth_list (contents s)) a) (maps_none _ index places _);
    ends = h.ends;
    built = h.built;
  })

  module _ {index places : List ℕ} {n : ℕ} {c : Shared} (h : Shares s lent out index places table at a n c) (all : n ≡ icon_count s) where
    pub shares-filled : Filled s lent out table at c.until c.end
    shares-filled = record {
      room = h.room;
      within = omega (arith, h.passed);
      ends = h.ends;
      built = h.built ∙ ap (λ z. put (put lent table z) at (lists_to s c.until))
          (cells_same (nth_list (contents s)) at a c.until c.until c.until n c.until (icon_count s) (λ i l.
          cell-passed (nth_list (contents s)) at a c.until n (omega arith) ∙ sym (elim (dec_lt i c.until) [
            | yes q ↦ cell-passed (nth_list (contents s)) at c.until c.until c.until q
            | no q ↦ cell-ahead (nth_list (contents s)) at c.until c.until c.until (omega arith)
          ])));
    }

    pub shares-onward : a < icon_count s → a < c.until
    shares-onward l = let some = h.onward (omega arith) in omega (arith, h.until-is)

pub shares_at : {s lent out index places : List ℕ} {table at a m n : ℕ} {c : Shared} → m ≡ n → Shares s lent out index places table at a n c
    → Shares s lent out index places table at a m c
shares_at e h = rw e h

pub filled_at : {s lent out : List ℕ} {table at a b end : ℕ} → a ≡ b → Filled s lent out table at a end → Filled s lent out table at b end
filled_at e h = rw e at h
