-- A walk along a chain that holds, by its fields alone: it meets records that keep the rules, and
-- then the end.
use Rattle.std.specs.Prelude.{ℕ, ◌+◌, ◌<◌, ◌≡◌, List}
use Rattle.std.proofs.Common.{sym, ap, ◌∙◌, arith}
use Rattle.std.proofs.Math.Numerals.{add-one}
use Rattle.format.specs.Layout.{end_value}
use Rattle.format.specs.Number.{be}
use Rattle.format.specs.Header.{buckets, bucket_field}
use Rattle.format.specs.Words.{link, link_field, Keeps, Holds}
use Rattle.format.proofs.Laws.Below.{below_suc, lt-unless}
use Rattle.format.proofs.Laws.Along.{reads-link}
use Rattle.format.specs.declared.Reading.TheVariants.{Short}
use Rattle.tables.specs.Laws.{field-inside}
use Rattle.tables.specs.declared.Tables.{Tables}
use Rattle.chains.specs.Walk.{Stands}
use Rattle.tables.specs.Tables.{Sound}

-- the chain of bucket k holds, and how many records it has
pub chain-holds : {s : List ℕ} {t : Tables} → Sound s t → (k : ℕ) → k < buckets s → (n : ℕ) × Holds Short s k n
chain-holds h k l = h.accepted.lower k l

pub stands-first : {s : List ℕ} {t : Tables} {k f : ℕ} → Sound s t → k < buckets s → f ≡ bucket_field s k → Stands s k f 0
unfolding link_field
stands-first {k = k} h l e = record { field = e; inside = omega (arith, e, field-inside h.tables k l); keeps = λ m g. absurd (omega arith) }

module _ {s : List ℕ} {k f o : ℕ} (at : Stands s k f o) where
  -- what stands in the field at hand
  pub stands-link : {v : ℕ} → v ≡ be 4 s f → v ≡ link s k o
  stands-link read = read ∙ ap (be 4 s) at.field ∙ reads-link s k o

  pub stands-ended : {v : ℕ} → v ≡ be 4 s f → v ≡ end_value → Holds Short s k o
  stands-ended read e = record { keeps = at.keeps; ends = sym (stands-link read) ∙ e }

  module _ {n : ℕ} (h : Holds Short s k n) {v : ℕ} (read : v ≡ be 4 s f) (real : v ≡ end_value → ⊥) where
    other : link s k o ≡ end_value → ⊥
    other e = real (stands-link read ∙ e)

    pub stands-below : o < n
    stands-below = lt-unless (λ e. other (rw (← e) h.ends)) (λ l. (at.keeps n l).0 h.ends)

    pub stands-keeps : Keeps Short s k v
    stands-keeps = rw (stands-link read) (h.keeps o stands-below).1

    pub stands-next : Stands s k v (o + 1)
    unfolding link_field
    stands-next = rw add-one (record {
      field = stands-link read;
      inside = omega (arith, stands-keeps.inside);
      keeps = below_suc at.keeps (h.keeps o stands-below);
    })
