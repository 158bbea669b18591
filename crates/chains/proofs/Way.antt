-- Where a walk stands on a bucket's chain, and what each turn makes of that.
use Prim.Native.Nat.{ℕ, zero, suc, ◌+◌, ◌-◌, ◌≤◌, ◌<◌}
use mathlib.Core.Path.{◌≡◌, refl, sym, ap, ◌∙◌}
use mathlib.Core.List.{List, append-nil}
use native.Mathlib.Nat.{zero-add}
use native.Mathlib.Numerals.{add-one}
use native.Mathlib.Omega.{arith}
use lib.ListN.{length}
use Rattle.format.specs.Header.{buckets}
use Rattle.format.specs.Chain.{follow, chained, chain_of}
use Rattle.format.specs.Words.{link, link_field, KeepsBelow}
use Rattle.format.proofs.Laws.Below.{below_suc}
use Rattle.format.proofs.Laws.Follow.{follow-keeps}
use Rattle.format.specs.Places.{Repeat}
use Rattle.format.proofs.Laws.Along.{links, reads-link, chain-along, keeps-chain}
use Rattle.format.specs.declared.Next.{Next}
use Rattle.format.specs.declared.Next.TheVariants.{Record}
use Rattle.format.specs.declared.Reading.TheVariants.{Short}
use Rattle.tables.specs.Tables.{TablesOf, bucket_field_of}
use Rattle.tables.specs.Laws.{same-field, field-inside}
use Rattle.tables.specs.declared.Tables.{Tables}
use Rattle.rounds.specs.Stepping.{ahead, InsideBelow, Turning}
use Rattle.rounds.specs.Laws.{ahead-field, back-repeats}
use Rattle.chains.specs.Walk.{walked, stepped_to, Stands}
use Rattle.chains.specs.Laws.{walked-is}
use Rattle.chains.proofs.Stops.{NoRecord, chain-stops}

-- a walk that begins stands at the bucket's field
pub stands-first : {s : List ℕ} {t : Tables} {k f : ℕ} → TablesOf s t → k < buckets s → f ≡ bucket_field_of t k → Stands s k f 0
unfolding link_field
stands-first {k = k} r l e =
    let field = e ∙ same-field r k in
    record { field = field; inside = omega (arith, field, field-inside r k l); keeps = λ m l. absurd (omega arith) }

-- after records that keep the rules it stands at the last of them
pub stands_on : {s : List ℕ} {k n r o : ℕ} → KeepsBelow Short s k (suc n) → r ≡ link s k n → o ≡ n + 1 → Stands s k r o
unfolding link_field
stands_on {s} {k} {n} keeps e q = rw (q, add-one) (record { field = e; inside = omega (arith, e, (keeps n (omega arith)).1.inside); keeps = keeps })

module _ {s : List ℕ} {k f o : ℕ} (w : Stands s k f o) where
  -- it stops
  pub stands-stops : {most : ℕ} → o ≤ most → (l : Next) → NoRecord l → follow Short s k f ≡ l → chain_of Short s k most ≡ chained (links s k o) l
  stands-stops {most} few l none e =
      chain-along Short s k o (most - o) {N = most} (omega arith) w.keeps
      ∙ rw (chain-stops s k (link_field s k o) (most - o) l none (rw w.field at e), append-nil)

  -- it leads to a record more
  module _ (small : length s ≤ 16777216) {r : ℕ} (e : follow Short s k f ≡ Record r) where
    pub leads-link : r ≡ link s k o
    leads-link = sym (follow-keeps Short s k f e).0 ∙ rw w.field (reads-link s k o)

    pub leads_keeps : KeepsBelow Short s k (suc o)
    leads_keeps =
        let here = (follow-keeps Short s k f e).1 in
        below_suc w.keeps (rw (← leads-link) ((λ z. omega (arith, here.inside)), here))

    pub leads-on : {n : ℕ} → n ≡ o + 1 → Stands s k r n
    leads-on q = stands_on leads_keeps leads-link q

-- from the bucket's field on, records that keep the rules can be stepped
module _ {s : List ℕ} {k f : ℕ} (w : Stands s k f 0) where
  fields : (m : ℕ) → ahead s f m ≡ link_field s k m
  fields m = ap (λ x. ahead s x m) w.field ∙ ahead-field s k 0 m ∙ ap (link_field s k) (zero-add m)

  inside-at : (m : ℕ) → KeepsBelow Short s k m → link_field s k m + 4 ≤ length s
  unfolding link_field
  inside-at zero keeps = rw (← w.field) w.inside
  inside-at (suc m) keeps = omega (arith, (keeps m (omega arith)).1.inside)

  pub stepped-inside : {n : ℕ} → KeepsBelow Short s k n → InsideBelow s f (n + 1)
  stepped-inside keeps m l = rw (fields m) (inside-at m (λ i g. keeps i (omega arith)))

  pub stepped-at : {g o : ℕ} → Stands s k g o → g ≡ ahead s f o
  stepped-at {g} {o} here = here.field ∙ sym (fields o)

  pub stepped-stands : (n : ℕ) {r : ℕ} → KeepsBelow Short s k (n + 1) → r ≡ ahead s f (n + 1) → Stands s k r (n + 1)
  unfolding link_field
  stepped-stands n keeps e = stands_on (λ m l. keeps m (omega arith)) (e ∙ fields (n + 1) ∙ rw add-one) refl

  -- where a look sees that the chain comes back, it repeats
  pub turning-repeats : {done far n : ℕ} → Turning s f done far n → n < far → Repeat s k (suc n)
  turning-repeats {n = n} t l = back-repeats s k n (rw w.field at (t.back l))

-- the record that it stands at is the one that comes next on the chain up to there
pub stands-walked : {s : List ℕ} {k f o : ℕ} (stop : ℕ) → Stands s k f o → o ≡ stop + 1 → stepped_to o f ≡ walked (chain_of Short s k stop)
unfolding link_field
stands-walked {s} {k} {f} {o} stop w last =
    let next : o ≡ suc stop = omega arith in
    let at = w.field ∙ ap (link_field s k) next in
    ap (λ n. stepped_to n f) last
    ∙ ap (stepped_to (stop + 1)) at
    ∙ walked-is s k stop (keeps-chain Short s k (λ m l. w.keeps m (omega arith)))
