-- One list more is passed: it is taken into the index, or it is looked for in it.
use Prim.Native.Nat.{ℕ, suc, ◌+◌, ◌-◌, ◌*◌, ◌≤◌, ◌<◌}
use Rattle.std.specs.Prelude.{◌≡◌, List, Bool, ◌||◌, get_or, set, if◌then◌else◌}
use Rattle.std.proofs.Math.Path.{refl, sym, ap}
use Rattle.std.proofs.Common.{◌∙◌, add-zero, arith, get_or-set_same, get_or-set_other}
use Rattle.std.proofs.Math.Logic.{⊎_elim}
use Rattle.std.proofs.Math.Bool.{true, false, not-eq-not, false≢true}
use Rattle.std.proofs.Math.Decide.{ℕ_discrete, dec_lt}
use Rattle.std.proofs.Math.Nat.{sub-zero}
use Rattle.std.proofs.Math.ListN.{length}
use Rattle.format.specs.Number.{be}
use Rattle.format.specs.String.{among}
use Rattle.format.proofs.Laws.Names.{among_first_lem, among-rest, among-either}
use Rattle.keys.specs.Key.{key_at}
use Rattle.keys.specs.declared.Kind.TheVariants.{Images}
use Rattle.keys.proofs.Laws.{not-less-than-itself}
use Rattle.names.specs.Index.{entry, Between, Inserted}
use Rattle.names.specs.Repeat.{seen}
use Rattle.squeeze_spec.specs.Packed.{nth_list, packed_lists}
use Rattle.squeeze_spec.specs.Squeezed.{contents}
use Rattle.names.specs.Laws.Repeat.{seen_parts}
use Rattle.squeeze_index.specs.Maps.{Maps}
use Rattle.squeeze_index.specs.Laws.Maps.{maps_none, maps-again, maps-met, maps-value, maps-missing, maps-more}
use Rattle.squeeze_sizes.specs.Distinct.{from, distinct}
use Rattle.squeeze_sizes.specs.Counting.{ListAt, comes_again, Counts, ComesAgain, Counting, Block}
use Rattle.squeeze_sizes.specs.Laws.Distinct.{distinct_none, distinct-all, distinct-met, distinct-new, distinct-grows, distinct-less}
use Rattle.squeeze_sizes.specs.declared.Counted.{Counted}

-- what comes again, with one list more behind
module _ (part : ℕ → List ℕ) (b n : ℕ) where
  pub mark-none : (t : List ℕ) → comes_again part b 0 t ≡ 0
  unfolding seen among
  mark-none t = refl

  abbrev last : List ℕ
  last = from part b n

  mark-by : (t : List ℕ) {m : Bool} → among t (seen (from part b) n) ≡ m → comes_again part b n t ≡ (if m then 1 else 0)
  mark-by t e = ap (λ m. if m then 1 else 0) e

  pub mark-new : comes_again part b (suc n) last ≡ 1
  unfolding seen
  mark-new = ap (λ m. if m then 1 else 0) (among_first_lem last (seen (from part b) n))

  same-mark : (t : List ℕ) → among t (seen (from part b) (suc n)) ≡ among t (seen (from part b) n) → comes_again part b (suc n) t ≡ comes_again part b n t
  same-mark t e = ap (λ m. if m then 1 else 0) e

  pub mark-other : (t : List ℕ) → (t ≡ last → ⊥) → comes_again part b (suc n) t ≡ comes_again part b n t
  unfolding seen
  mark-other t other = same-mark t (go (among t (seen (from part b) n)) refl)
    where
      go : (m : Bool) → among t (seen (from part b) n) ≡ m → among t (seen (from part b) (suc n)) ≡ m
      go true e = among-rest t last (seen (from part b) n) e
      go false e = (not-eq-not {b = false}).0 (λ f. ⊎_elim other (λ was. false≢true (sym e ∙ was)) (among-either t last (seen (from part b) n) f))

  pub mark-again : among last (seen (from part b) n) ≡ true → (t : List ℕ) → comes_again part b (suc n) t ≡ comes_again part b n t
  unfolding seen
  mark-again met t = same-mark t (go (among t (seen (from part b) n)) refl)
    where
      go : (m : Bool) → among t (seen (from part b) n) ≡ m → among t (seen (from part b) (suc n)) ≡ m
      go true e = among-rest t last (seen (from part b) n) e
      go false e = (not-eq-not {b = false}).0 (λ f.
          ⊎_elim (λ same. false≢true (sym e ∙ ap (λ u. among u (seen (from part b) n)) same ∙ met)) (λ was. false≢true (sym e ∙ was)) (among-either t last (seen (from part b) n) f))

  -- what a mark says
  pub mark-told : (t : List ℕ) → (comes_again part b n t ≡ 0 → ⊥) → among t (seen (from part b) n) ≡ true
  mark-told t some = (not-eq-not {b = true}).0 (λ e. some (mark-by t e))

  pub unmarked : (t : List ℕ) → comes_again part b n t ≡ 0 → among t (seen (from part b) n) ≡ false
  unmarked t e = (not-eq-not {b = false}).0 (λ f. omega (arith, mark-by t f))

-- nothing is counted yet from icon a on
pub counts-none : (s index again : List ℕ) (a before : ℕ) → Counts s index again a a before (record { until = a; entries = 0; bytes = before })
unfolding seen
counts-none s index again a before = record {
  taken = 0;
  later = 0;
  until-is = omega arith;
  passed = omega arith;
  onward = λ l. absurd (omega arith);
  most = omega arith;
  fits = omega arith;
  known = maps_none _ index again _;
  sum = omega (arith, distinct_none (nth_list (contents s)) a, distinct_none (nth_list (contents s)) (a + 0));
}

-- from block to block
pub counting-none : (s : List ℕ) → Counting s 0 0
counting-none s = record { within = omega arith; sum = omega (arith, ap (distinct (nth_list (contents s)) 0) (sub-zero (length (contents s).icons))) }

module _ {s : List ℕ} {a before : ℕ} (h : Counting s a before) where
  pub counting-next : {b bytes : ℕ} → Block s a before b bytes → Counting s b bytes
  counting-next k = record { within = k.within; sum = k.sum ∙ h.sum }

  pub counting-all : length (contents s).icons ≤ a → before ≡ length (packed_lists (contents s))
  counting-all l =
      let e : length (contents s).icons - a ≡ 0 = omega (arith, h.within) in
      omega (arith, h.sum, ap (distinct (nth_list (contents s)) a) e ∙ distinct_none (nth_list (contents s)) a, distinct-all (nth_list (contents s)) (length (contents s).icons))

  -- what is counted is not more than all
  module _ {index again : List ℕ} {n : ℕ} {c : Counted} (k : Counts s index again a n before c) where
    pub counts-few : n ≤ length (contents s).icons → c.bytes ≤ distinct (nth_list (contents s)) 0 (length (contents s).icons)
    counts-few l =
        let m = k.taken + k.later in
        let d = length (contents s).icons - a - m in
        let e : m + d ≡ length (contents s).icons - a = omega (arith, k.passed) in
        omega (arith, k.sum, h.sum, distinct-grows (nth_list (contents s)) a m d, ap (distinct (nth_list (contents s)) a) e)

    pub counts-block : n ≡ length (contents s).icons → Block s a before c.until c.bytes
    counts-block all =
        let x : length (contents s).icons - a ≡ k.taken + k.later = omega (arith, k.passed) in
        let y : length (contents s).icons - c.until ≡ k.later = omega (arith, k.passed, k.until-is) in
        record {
          onward = λ l. let some = k.onward (omega arith) in omega (arith, k.until-is);
          within = omega (arith, k.passed, k.until-is);
          sum = omega (arith, k.sum, ap (distinct (nth_list (contents s)) a) x, ap (distinct (nth_list (contents s)) c.until) y, ap (λ i. distinct (nth_list (contents s)) i k.later) k.until-is);
        }

pub counts-at : {s index again : List ℕ} {a n m before : ℕ} {c : Counted} → m ≡ n → Counts s index again a n before c → Counts s index again a m before c
counts-at e h = rw e h

-- where not all are taken in, one is
pub behind-some : {s index again : List ℕ} {a n before : ℕ} {c : Counted} (h : Counts s index again a n before c) → (c.until ≡ n → ⊥) → 0 < h.taken
behind-some {a = a} {n} h other = let l : a < n = omega (arith, h.until-is, h.passed) in h.onward l

-- the list of icon n is at p
module _ {s index again : List ℕ} {a n before : ℕ} {c : Counted} (h : Counts s index again a n before c) {p : ℕ} (l : ListAt s n p) where
  abbrev part : ℕ → List ℕ
  part = nth_list (contents s)

  abbrev x : ℕ
  x = h.taken

  abbrev y : ℕ
  y = h.later

  from-a : from part a (x + y) ≡ key_at Images s p
  from-a = let e : a + (x + y) ≡ n = omega (arith, h.passed) in ap part e ∙ sym l.is

  from-b : from part (a + x) y ≡ key_at Images s p
  from-b = ap part (sym h.passed) ∙ sym l.is

  size : length (key_at Images s p) ≡ 4 + 8 * be 4 s p
  size = ap length l.is ∙ l.size

  -- where it is among those taken, or among those behind, it is among all
  behind : (i : ℕ) → from part (a + x) i ≡ from part a (x + i)
  behind i = let e : a + x + i ≡ a + (x + i) = omega arith in ap part e

  all_rest : (t : List ℕ) → among t (seen (from part a) x) ≡ false → among t (seen (from part (a + x)) y) ≡ among t (seen (from part a) (x + y))
  all_rest t none = sym (seen_parts (from part a) x y behind t ∙ ap (λ b. b || among t (seen (from part (a + x)) y)) none)

  all_first : (t : List ℕ) → among t (seen (from part a) x) ≡ true → among t (seen (from part a) (x + y)) ≡ true
  all_first t e = seen_parts (from part a) x y behind t ∙ ap (λ b. b || among t (seen (from part (a + x)) y)) e

  suc-all : x + suc y ≡ suc (x + y)
  suc-all = omega arith

  met-a : among (key_at Images s p) (seen (from part a) (x + y)) ≡ true → distinct part a (x + suc y) ≡ distinct part a (x + y)
  met-a e = ap (distinct part a) suc-all ∙ distinct-met part a (x + y) (rw from-a e)

  new-a : among (key_at Images s p) (seen (from part a) (x + y)) ≡ false → distinct part a (x + suc y) ≡ distinct part a (x + y) + (4 + 8 * be 4 s p)
  new-a e = ap (distinct part a) suc-all ∙ distinct-new part a (x + y) (rw from-a e) ∙ ap (λ t. distinct part a (x + y) + t) (ap length from-a ∙ size)

  met-b : among (key_at Images s p) (seen (from part (a + x)) y) ≡ true → distinct part (a + x) (suc y) ≡ distinct part (a + x) y
  met-b e = distinct-met part (a + x) y (rw from-b e)

  new-b : among (key_at Images s p) (seen (from part (a + x)) y) ≡ false → distinct part (a + x) (suc y) ≡ distinct part (a + x) y + (4 + 8 * be 4 s p)
  new-b e = distinct-new part (a + x) y (rw from-b e) ∙ ap (λ t. distinct part (a + x) y + t) (ap length from-b ∙ size)

  -- it is passed, and what comes again is the same or more
  onward : {again' : List ℕ} {bytes : ℕ} → 0 < x → Maps (key_at Images s) index again' c.entries (seen (from part a) x) (comes_again part (a + x) (suc y))
      → bytes + distinct part (a + x) (suc y) ≡ before + distinct part a (x + suc y)
      → Counts s index again' a (n + 1) before (record { until = c.until; entries = c.entries; bytes = bytes })
  onward some known sum = record {
    taken = x;
    later = suc y;
    until-is = h.until-is;
    passed = omega (arith, h.passed);
    onward = λ l. some;
    most = h.most;
    fits = h.fits;
    known = known;
    sum = sum;
  }

  -- not in the index, and not taken in
  module _ {i : ℕ} (spot : Between (key_at Images s) index c.entries (key_at Images s p) i i) where
    missing : among (key_at Images s p) (seen (from part a) x) ≡ false
    missing = maps-missing h.known p spot

    passed-sum : (b : Bool) → among (key_at Images s p) (seen (from part (a + x)) y) ≡ b
        → c.bytes + distinct part (a + x) (suc y) ≡ before + distinct part a (x + suc y)
    passed-sum true e = omega (arith, h.sum, met-b e, met-a (sym (all_rest (key_at Images s p) missing) ∙ e))
    passed-sum false e = omega (arith, h.sum, new-b e, new-a (sym (all_rest (key_at Images s p) missing) ∙ e))

    pub counts-passed : 0 < h.taken → Counts s index again a (n + 1) before c
    counts-passed some =
        let other : (j : ℕ) → j < c.entries → entry (key_at Images s) index j ≡ from part (a + x) y → ⊥ =
        λ j g e. false≢true (sym missing ∙ maps-met h.known p g (e ∙ from-b)) in
        onward some (record { known = h.known.known; valued = λ j g. h.known.valued j g ∙ sym (mark-other part (a + x) y _ (other j g)) })
        (passed-sum _ refl)

  -- in the index: it counted already
  module _ {i : ℕ} (g : i < c.entries) (same : entry (key_at Images s) index i ≡ key_at Images s p) where
    found : among (key_at Images s p) (seen (from part a) x) ≡ true
    found = maps-met h.known p g same

    value : get_or again i 0 ≡ comes_again part (a + x) y (key_at Images s p)
    value = maps-value h.known p g same

    pub counts-marked : (get_or again i 0 ≡ 0 → ⊥) → Counts s index again a (n + 1) before c
    counts-marked some =
        let met = mark-told part (a + x) y (key_at Images s p) (λ e. some (value ∙ e)) in
        onward (omega (arith, h.most)) (record { known = h.known.known; valued = λ j o. h.known.valued j o ∙ sym (mark-again part (a + x) y (rw from-b met) _) })
        (omega (arith, h.sum, met-b met, met-a (all_first (key_at Images s p) found)))

    -- it comes again for the first time
    module _ (unmarked-yet : get_or again i 0 ≡ 0) where
      first-again : among (key_at Images s p) (seen (from part (a + x)) y) ≡ false
      first-again = unmarked part (a + x) y (key_at Images s p) (sym value ∙ unmarked-yet)

      pub counts-enough : 4 + 8 * be 4 s p ≤ c.bytes
      counts-enough =
          omega (arith, h.sum, new-b first-again, met-a (all_first (key_at Images s p) found), distinct-less part a x (suc y))

      apart : (j : ℕ) → j < c.entries → (j ≡ i → ⊥) → entry (key_at Images s) index j ≡ from part (a + x) y → ⊥
      apart j o d e =
          let rising = h.known.known.rising in
          let one : entry (key_at Images s) index j ≡ entry (key_at Images s) index i = e ∙ from-b ∙ sym same in
          elim (dec_lt j i) [
            | yes less ↦ not-less-than-itself _ (rw one at (rising j i less g))
            | no more ↦ not-less-than-itself _ (rw one at (rising i j (omega arith) o))
          ]

      pub counts-mark : {b : ℕ} → i < length again → b + (4 + 8 * be 4 s p) ≡ c.bytes
          → Counts s index (set again i 1) a (n + 1) before (record { until = c.until; entries = c.entries; bytes = b })
      counts-mark {b} room less =
          onward (omega (arith, h.most)) (record { known = h.known.known; valued = valued })
          (omega (arith, h.sum, new-b first-again, met-a (all_first (key_at Images s p) found)))
        where
          valued : (j : ℕ) → j < c.entries → get_or (set again i 1) j 0 ≡ comes_again part (a + x) (suc y) (entry (key_at Images s) index j)
          valued j o = elim (ℕ_discrete j i) [
            | yes e ↦
                ap (λ k. get_or (set again i 1) k 0) e ∙ get_or-set_same again i 1 0 room
                ∙ sym (ap (λ k. comes_again part (a + x) (suc y) (entry (key_at Images s) index k)) e ∙ ap (comes_again part (a + x) (suc y)) (same ∙ sym from-b) ∙ mark-new part (a + x) y)
            | no d ↦ get_or-set_other again i j 1 0 d ∙ h.known.valued j o ∙ sym (mark-other part (a + x) y _ (apart j o d))
          ]

    -- marked now, or marked before
    pub counts-again : {size : ℕ} {again' : List ℕ} {d : Counted} → i < length again → size ≡ 4 + 8 * be 4 s p → ComesAgain again again' i size c d
        → Counts s index again' a (n + 1) before d
    counts-again room is told = elim (ℕ_discrete (get_or again i 0) 0) [
      | yes none ↦ let (e, f) = told.first none in rw (e, f) (counts-mark none room (omega (arith, is, counts-enough none)))
      | no some ↦ let (e, f) = told.later some in rw (e, f) (counts-marked some)
    ]

  -- as long as all are taken in
  module _ (all : c.until ≡ n) where
    none-later : y ≡ 0
    none-later = omega (arith, h.until-is, h.passed)

    x-all : x + y ≡ x
    x-all = omega (arith, none-later)

    here : from part a x ≡ key_at Images s p
    here = ap (from part a) (sym x-all) ∙ from-a

    no-marks : (t : List ℕ) → comes_again part (a + x) y t ≡ comes_again part (a + suc x) 0 t
    no-marks t = ap (λ m. comes_again part (a + x) m t) none-later ∙ mark-none part (a + x) 0 t ∙ sym (mark-none part (a + suc x) 0 t)

    one_more : {index' again' : List ℕ} {e b : ℕ} → e ≤ suc x → e ≤ length index'
        → Maps (key_at Images s) index' again' e (seen (from part a) (suc x)) (comes_again part (a + suc x) 0) → b ≡ before + distinct part a (suc x)
        → Counts s index' again' a (n + 1) before (record { until = n + 1; entries = e; bytes = b })
    one_more most room known sum = record {
      taken = suc x;
      later = 0;
      until-is = omega (arith, h.until-is);
      passed = omega (arith, h.until-is);
      onward = λ l. omega arith;
      most = most;
      fits = room;
      known = known;
      sum = omega (arith, sum, distinct_none part (a + suc x), ap (distinct part a) (add-zero (suc x)));
    }

    old-sum : c.bytes ≡ before + distinct part a x
    old-sum = omega (arith, h.sum, ap (distinct part (a + x)) none-later ∙ distinct_none part (a + x), ap (distinct part a) x-all)

    pub counts-known : {i : ℕ} → i < c.entries → entry (key_at Images s) index i ≡ key_at Images s p
        → Counts s index again a (n + 1) before (record { until = n + 1; entries = c.entries; bytes = c.bytes })
    unfolding seen
    counts-known g same =
        let met = found g same in
        one_more (omega (arith, h.most)) h.fits
        (record { known = (maps-again h.known (rw here met)).known; valued = λ j o. h.known.valued j o ∙ no-marks _ })
        (omega (arith, old-sum, distinct-met part a x (rw here met)))

    -- none of the lists taken in comes again yet, so a 0 more has nothing to move
    none-marked : (j : ℕ) → j < c.entries → get_or again j 0 ≡ 0
    none-marked j l = h.known.valued j l ∙ no-marks _ ∙ mark-none part (a + suc x) 0 _

    mark-more : {i : ℕ} → i ≤ c.entries → c.entries < length again → Inserted again (set again c.entries 0) c.entries i 0
    mark-more {i} within room = record {
      below = λ k l. get_or-set_other again c.entries k 0 0 (omega arith);
      here = none i within;
      above = λ k l g. none (k + 1) (omega arith) ∙ sym (none-marked k g);
    }
      where
        none : (k : ℕ) → k ≤ c.entries → get_or (set again c.entries 0) k 0 ≡ 0
        none k l = elim (ℕ_discrete k c.entries) [
          | yes q ↦ rw q (get_or-set_same again c.entries 0 0 room)
          | no q ↦ get_or-set_other again c.entries k 0 0 q ∙ none-marked k (omega arith)
        ]

    pub counts-new : {i b : ℕ} {index' : List ℕ} → Between (key_at Images s) index c.entries (key_at Images s p) i i → i ≤ c.entries
        → c.entries < length index' → c.entries < length again → Inserted index index' c.entries i p → b ≡ c.bytes + (4 + 8 * be 4 s p)
        → Counts s index' (set again c.entries 0) a (n + 1) before (record { until = n + 1; entries = c.entries + 1; bytes = b })
    unfolding seen
    counts-new spot within room wide put sum =
        let none = maps-missing h.known p spot in
        let zero-mark : 0 ≡ comes_again part (a + x) y (key_at Images s p) = sym (no-marks _ ∙ mark-none part (a + suc x) 0 _) in
        let more = maps-more h.known p spot within (record { entries = put; values-too = mark-more within wide }) zero-mark in
        one_more (omega (arith, h.most)) (omega arith)
        (record { known = rw (← here) at more.known; valued = λ j o. more.valued j o ∙ no-marks _ })
        (omega (arith, old-sum, distinct-new part a x (rw here none), ap length here ∙ size))
