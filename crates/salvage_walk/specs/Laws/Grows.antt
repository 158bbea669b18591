-- What is put grows part by part.
use Rattle.std.specs.Prelude.{ℕ, ◌+◌, ◌≤◌, ◌≡◌, refl, List, [], ◌++◌, Ok, Err}
use Rattle.std.proofs.Common.{add-one, arith}
use Rattle.format.specs.Bytes.{joined}
use Rattle.std.proofs.Math.Decide.{ℕ_discrete}
use Rattle.format.specs.Fault.{if_kept, verdict}
use Rattle.format.specs.declared.Fault.{Fault}
use Rattle.format.proofs.Laws.Faults.{kept-takes, broken-takes}
use Rattle.format.proofs.Laws.Outcomes.{outcome-kept, outcome-broken}
use Rattle.catalogue.specs.Catalogue.{icon_bytes}
use Rattle.filling.specs.Puts.{Puts}
use Rattle.filling.specs.Laws.{puts_none, puts-more}
use Rattle.salvage_spec.specs.Salvage.{icon}
use Rattle.salvage_spec.specs.Call.{row_words}
use Rattle.salvage_spec.specs.Pieces.{image_rows}
use Rattle.salvage_walk.specs.declared.Sums.{Sums}
use Rattle.salvage_walk.specs.Walk.{Grows, Adds}

pub grows_none : (c w : List ℕ) (a : Sums) → Grows c c w w [] [] 0 0 a a
grows_none c w a = record { icons = omega arith; bytes = puts_none c _; words = puts_none w _; bytes-few = omega arith; words-few = omega arith }

pub grows-more : {c d e w v u xs ys xs' ys' : List ℕ} {n m n' m' : ℕ} {a b b' : Sums} → Grows c d w v xs ys n m a b → Grows d e v u xs' ys' n' m' b b'
    → Grows c e w u (xs ++ xs') (ys ++ ys') (n + n') (m + m') a b'
grows-more g h = record {
  icons = omega (arith, g.icons, h.icons);
  bytes = puts-more g.bytes h.bytes;
  words = puts-more g.words h.words;
  bytes-few = omega (arith, g.bytes-few, h.bytes-few);
  words-few = omega (arith, g.words-few, h.words-few);
}

-- with the next of the parts that f and g give
module _ (f g : ℕ → List ℕ) (i : ℕ) where
  pub grows-next : {c d e w v u xs ys : List ℕ} {n m n' m' : ℕ} {a b b' : Sums} → Grows c d w v (joined f i) (joined g i) n m a b
      → f i ≡ xs → g i ≡ ys → Grows d e v u xs ys n' m' b b' → Grows c e w u (joined f (i + 1)) (joined g (i + 1)) (n + n') (m + m') a b'
  unfolding joined
  grows-next h p q more = rw (add-one, p, q) (grows-more h more)

-- more words are allowed for
pub grows-wider : {c d w v xs ys : List ℕ} {n m m' : ℕ} {a b : Sums} → m ≤ m' → Grows c d w v xs ys n m a b → Grows c d w v xs ys n m' a b
grows-wider l g = record { icons = g.icons; bytes = g.bytes; words = g.words; bytes-few = g.bytes-few; words-few = omega (arith, g.words-few) }

-- what is put for a record of which x is judged: its icon and the rows of its images, or its own row
pub adds-by : (s : List ℕ) (r : ℕ) (x : Fault) {c d w v : List ℕ} {a b : Sums} → Adds s r (verdict x) c d w v a b
    → Grows c d w v (if_kept x (icon_bytes (icon s r)) []) (if_kept x (image_rows s r) (row_words x)) (if_kept x 1 0) 2 a b
adds-by s r x adds = elim (ℕ_discrete x.number 0) [
  | yes e ↦
      let kept : verdict x ≡ Ok tt = outcome-kept x tt e in
      rw (kept-takes x (icon_bytes (icon s r)) [] e, kept-takes x (image_rows s r) (row_words x) e, kept-takes {A = ℕ} x 1 0 e) (rw kept at adds)
  | no n ↦
      let broken : verdict x ≡ Err x = outcome-broken x tt n in
      rw (broken-takes x (icon_bytes (icon s r)) [] n, broken-takes x (image_rows s r) (row_words x) n, broken-takes {A = ℕ} x 1 0 n) (rw broken at adds)
]

module _ (s : List ℕ) (r : ℕ) {c w v : List ℕ} {a : Sums} where
  pub adds-kept : {d : List ℕ} {p q : ℕ} → Puts c d a.bytes (icon_bytes (icon s r)) p × (p ≤ a.bytes + 8450)
      → Puts w v a.words (image_rows s r) q × (q ≤ a.words + 2048) → Adds s r (Ok tt) c d w v a (record { icons = a.icons + 1; bytes = p; words = q })
  adds-kept (bytes, few) (words, few') = record { icons = refl; bytes = bytes; words = words; bytes-few = omega arith; words-few = omega arith }

  pub adds-gone : {x : Fault} {q : ℕ} → Puts w v a.words (row_words x) q
      → Adds s r (Err x) c c w v a (record { icons = a.icons; bytes = a.bytes; words = q })
  adds-gone words = record {
    icons = omega arith;
    bytes = puts_none c _;
    words = words;
    bytes-few = omega arith;
    words-few = omega (arith, words.next);
  }
