-- A pass puts the paths and the icons, then each count before them; together they are the
-- catalogue.
use Rattle.std.specs.Prelude.{ℕ, ◌+◌, ◌≤◌, ◌<◌, ◌≡◌}
use mathlib.Core.List.{List, append_assoc}
use Rattle.std.proofs.Math.Decide.{dec_lt}
use Rattle.std.proofs.Common.{arith}
use Rattle.std.proofs.Math.ListN.{length}
use Rattle.format.specs.Bytes.{bytes}
use Rattle.format.specs.Header.{directories}
use Rattle.filling.specs.Puts.{Puts}
use Rattle.filling.specs.Laws.{puts-more, puts-before}
use Rattle.salvage_paths.specs.Closed.{ClosedTo, PathsPut}
use Rattle.salvage_walk.specs.declared.Sums.{Sums}
use Rattle.salvage_walk.specs.Walk.{WalksAll}
use Rattle.salvage_spec.specs.Salvage.{icons}
use Rattle.salvage_spec.proofs.Laws.Pieces.{bytes-pieces, words-pieces}
use Rattle.salvage.specs.Pass.{PutWhole, Passes, Measures}

module _ (s : List ℕ) {c₀ c₁ c₂ w₀ w₁ w₂ : List ℕ} {b m : ℕ} {a : Sums} (paths : PathsPut s c₀ c₁ 2 w₀ w₁ (directories s) b m)
    (walks : WalksAll s c₁ c₂ w₁ w₂ (record { icons = 0; bytes = b + 2; words = m }) a) where
  pub pass-whole : {c₃ c₄ table : List ℕ} {kept : ℕ} → a.icons ≤ 65535 → ClosedTo s table (directories s) kept → Puts c₂ c₃ b (bytes 2 a.icons) (b + 2)
      → Puts c₃ c₄ 0 (bytes 2 kept) 2 → Passes s c₀ c₄ w₀ w₂ a
  unfolding icons
  pass-whole few table second first =
      let g = walks.whole few in
      let count : a.icons ≡ length (icons s) = omega (arith, g.icons) in
      let all = puts-before (puts-more paths.paths (puts-before g.bytes (rw count at second))) (rw table.count at first) in
      record {
        whole = λ l. record {
          icons = count;
          bytes = rw (bytes-pieces s) (simp append_assoc all);
          words = rw (words-pieces s) (puts-more paths.rows g.words);
        };
        many = walks.many;
      }

  pub pass-many : 65535 < a.icons → Passes s c₀ c₂ w₀ w₂ a
  pass-many many = record { whole = λ l. absurd (omega arith); many = walks.many }

pub measured : {s c d w v : List ℕ} {a : Sums} → Passes s c d w v a → Measures s a
measured h = record {
  whole = λ l.
      let g = h.whole l in
      record { icons = g.icons; bytes = omega (arith, g.bytes.next); words = omega (arith, g.words.next) };
  many = h.many;
}

-- where there are not too many icons all is put
pub pass-written : {s c d w v : List ℕ} {a : Sums} → Passes s c d w v a → length (icons s) ≤ 65535 → PutWhole s c d w v a
pass-written {a = a} h few = elim (dec_lt 65535 a.icons) [ yes l ↦ absurd (omega (arith, h.many l)) | no l ↦ h.whole (omega arith) ]
