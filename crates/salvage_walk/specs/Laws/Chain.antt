-- The walk of one chain, step by step.
use Rattle.std.specs.Prelude.{ℕ, zero, suc, ◌+◌, ◌-◌, ◌*◌, ◌^◌, ◌≤◌, ◌<◌, ◌≡◌, List, [], ◌∷◌, length, Result, Ok, Err, MatchResult}
use Rattle.std.proofs.Math.Path.{refl}
use Rattle.std.proofs.Common.{ap, ◌∙◌, length-append}
use Rattle.std.proofs.Math.Numerals.{add-one}
use native.Mathlib.Omega.{arith}
use Rattle.std.proofs.Math.Decide.{ℕ_discrete}
use Rattle.format.specs.Number.{be}
use Rattle.format.specs.Bytes.{joined}
use Rattle.format.specs.Fault.{if_kept, verdict}
use Rattle.format.specs.Header.{bucket_field}
use Rattle.format.specs.Words.{link, link_field}
use Rattle.format.specs.declared.Fault.{Fault}
use Rattle.format.proofs.Laws.Outcomes.{outcome-kept, outcome-broken}
use Rattle.format.proofs.Laws.Along.{reads-link}
use Rattle.catalogue.specs.Catalogue.{Icon}
use Rattle.keys.specs.Key.{key_at}
use Rattle.keys.specs.declared.Kind.TheVariants.{Ended}
use Rattle.names.specs.Index.{Represents}
use Rattle.names.specs.Laws.Index.{nothing-met}
use Rattle.salvage_icons.specs.Kept.{Kept, Meets}
use Rattle.salvage_icons.specs.Laws.Fate.{kept-tells}
use Rattle.salvage_spec.specs.Meetings.{met, fate_among, kept_names, fate}
use Rattle.salvage_spec.specs.Salvage.{icon, icons_below, chain_icons}
use Rattle.salvage_spec.specs.Pieces.{meeting_piece, meeting_rows}
use Rattle.salvage_spec.proofs.Laws.Lists.{few-joined, one-or-none, joined-le}
use Rattle.salvage_spec.proofs.Laws.Meets.{met-below, met-few}
use Rattle.salvage_walk.specs.declared.Sums.{Sums}
use Rattle.salvage_walk.specs.Walk.{Adds, Steps}
use Rattle.salvage_walk.specs.Laws.Grows.{grows_none, grows-next, adds-by}

pub steps_first : (s : List ℕ) (k : ℕ) (c w index : List ℕ) {f : ℕ} (a : Sums) → f ≡ bucket_field s k → Steps s k c c w w index f 0 a a
unfolding joined kept_names link_field
steps_first s k c w index a e = record { within = omega arith; field = e; names = nothing-met _ index; grows = grows_none c w a }

-- one icon more or none
one_more : (s : List ℕ) (k n : ℕ) → length (icons_below s k (suc n)) ≡ length (icons_below s k n) + if_kept (fate s k n) 1 0
unfolding joined
one_more s k n = length-append (icons_below s k n) _ ∙ ap (λ m. length (icons_below s k n) + m) (go (fate s k n).number)
  where
    go : (x : ℕ) → length {A = Icon} (elim x as (λ y. List Icon) [ zero ↦ icon s (link s k n) ∷ [] | suc y ↦ [] ]) ≡ elim x as (λ y. ℕ) [ zero ↦ 1 | suc y ↦ 0 ]
    go zero = refl
    go (suc x) = refl

count_by : (v : Fault) (n : ℕ) → if_kept v (n + 1) n ≡ n + if_kept v 1 0
count_by v n = go v.number
  where
    go : (x : ℕ) → elim x as (λ y. ℕ) [ zero ↦ n + 1 | suc y ↦ n ] ≡ n + elim x as (λ y. ℕ) [ zero ↦ 1 | suc y ↦ 0 ]
    go zero = refl
    go (suc x) = omega arith

-- what is handed on of a judgement tells what it does
told-by : (x : Fault) {P : Type 0} {m : ℕ} → (x.number ≡ 0 → P) → x.place < m → MatchResult (verdict x) (λ _. P) (λ (v : Fault). v.place < m)
told-by x {P} {m} kept near = elim (ℕ_discrete x.number 0) [
  | yes h ↦ let e : verdict x ≡ Ok tt = outcome-kept x tt h in rw e (kept h)
  | no n ↦ let e : verdict x ≡ Err x = outcome-broken x tt n in rw e near
]

-- at most one a step
icons-few : (s : List ℕ) (k n : ℕ) → length (icons_below s k n) ≤ n
icons-few s k n = few-joined _ n (λ i l. one-or-none (fate s k i).number (icon s (link s k i)))

module _ {s : List ℕ} {k : ℕ} {c d w v index : List ℕ} {f n : ℕ} {a b : Sums} (h : Steps s k c d w v index f n a b) where
  -- what stands in the field at hand
  pub steps-link : {r : ℕ} → r ≡ be 4 s f → r ≡ link s k n
  steps-link read = read ∙ ap (be 4 s) h.field ∙ reads-link s k n

  -- the names that are kept, as the index is asked for them
  count : b.icons - a.icons ≡ length (icons_below s k n)
  count = omega (arith, h.grows.icons)

  pub steps-names : Represents (key_at Ended s) index (b.icons - a.icons) (kept_names s k n)
  steps-names = rw count h.names

  -- what is put is not too long to count
  pub steps-fits : length s ≤ 2 ^ 24 → a.bytes < 2 ^ 57 → a.words < 2 ^ 57 → (b.bytes < 2 ^ 58) × (b.words < 2 ^ 58)
  steps-fits short bytes words =
      let g = h.grows in
      let few = met-few s k in
      (omega (arith, g.bytes-few, icons-few s k n, h.within), omega (arith, g.words-few, icons-few s k n, h.within))

  module _ (l : n < met s k) where
    pub steps-inside : {r : ℕ} → r ≡ link s k n → r + 12 ≤ length s
    steps-inside e = rw e (met-below s k n l).inside

    -- what is told of the record met
    pub steps-told : {r m : ℕ} {x : Result Unit Fault} → r ≡ link s k n → x ≡ verdict (fate_among s k (kept_names s k n) r)
        → (fate_among s k (kept_names s k n) r).place < m → MatchResult x (λ _. Kept s r) (λ (v : Fault). v.place < m)
    steps-told {r} e judged near =
        rw judged (told-by (fate_among s k (kept_names s k n) r) (λ kept. kept-tells s k r (kept_names s k n) (steps-inside e) kept) near)

    pub steps_next : {r : ℕ} {x : Result Unit Fault} {d' v' index' : List ℕ} {b' : Sums} → r ≡ link s k n → Meets s k r index' (b.icons - a.icons) (kept_names s k n) x → Adds s r x d d' v v' b b' → Steps s k c d' w v' index' r (n + 1) a b'
    unfolding link_field kept_names fate
    steps_next {r} next meets adds =
        let put = adds-by s r (fate_among s k (kept_names s k n) r) (rw meets.fate at adds) in
        let twice : 2 * n + 2 ≡ 2 * (n + 1) = omega arith in
        let grows = grows-next (meeting_piece s k) (meeting_rows s k) n h.grows refl refl (rw next at put) in
        rw add-one (record {
          within = l;
          field = next;
          names = rw (one_more s k n, ← count_by (fate s k n) (length (icons_below s k n)), ← count) (rw next at meets.known);
          grows = rw (one_more s k n) (rw (twice, add-one) at grows);
        })

  pub steps-many : 65535 < b.icons → 65535 < a.icons + length (chain_icons s k)
  unfolding chain_icons
  steps-many many = omega (arith, h.grows.icons, joined-le (λ m. if_kept (fate s k m) (icon s (link s k m) ∷ []) []) n (met s k) h.within)

-- where the field at hand stands
pub steps-field : {s : List ℕ} {k : ℕ} {c d w v index : List ℕ} {f n : ℕ} {a b : Sums} → Steps s k c d w v index f n a b → n ≤ met s k
    → bucket_field s k + 4 ≤ length s → f + 4 ≤ length s
unfolding link_field
steps-field {n = zero} h l inside = omega (arith, h.field)
steps-field {s} {k} {n = suc n} h l inside = omega (arith, h.field, (met-below s k n (omega arith)).inside)
