-- A table of cells of four bytes, put before another part: a cell is changed, and a cell is read.
use Rattle.std.specs.Prelude.{ℕ, ◌+◌, ◌*◌, ◌^◌, ◌≤◌, ◌<◌, ◌≡◌, refl, List, [], length}
use Rattle.std.proofs.Common.{sym, ap, ◌∙◌, append-nil, arith, lit≤}
use Rattle.format.specs.Bytes.{bytes, joined, put}
use Rattle.format.specs.Number.{be}
use Rattle.format.proofs.Laws.Bytes.{bytes-length, joined_length}
use Rattle.format.proofs.Laws.Put.{put-length, put-inside}
use Rattle.catalogue.specs.LaidOut.{Stands}
use Rattle.catalogue.proofs.Laws.Stands.{stands-part, stands_at, stands-number, stands-whole}
use Rattle.catalogue.proofs.Laws.Putting.{put-stands, stands-before, stands-changed}
use Rattle.squeeze_index.specs.Laws.Both.{put-swap}

module _ (f : ℕ → ℕ) (m : ℕ) where
  abbrev all : List ℕ
  all = joined (λ i. bytes 4 (f i)) m

  pub cells-length : length all ≡ 4 * m
  cells-length = joined_length (λ i. bytes 4 (f i)) 4 (λ i. bytes-length 4 (f i)) m

  module _ (s : List ℕ) (p q : ℕ) (ys : List ℕ) (apart : p + 4 * m ≤ q) (fits : q + length ys ≤ length s) where
    abbrev out : List ℕ
    out = put (put s p all) q ys

    room : p + length all ≤ length s
    room = omega (arith, cells-length)

    -- cell n is read
    pub cell-read : {n : ℕ} → n < m → f n < 256 ^ 4 → be 4 out (p + 4 * n) ≡ f n
    cell-read {n} l small =
        let there = stands-before (put s p all) q ys (omega (arith, put-length s p all room)) (omega (arith, cells-length)) (put-stands s p all room) in
        let size = joined_length (λ i. bytes 4 (f i)) 4 (λ i. bytes-length 4 (f i)) n in
        stands-number 4 small (stands_at (stands-part (λ i. bytes 4 (f i)) m l there) (omega arith))

    -- cell n is changed
    module _ (g : ℕ → ℕ) {n : ℕ} (l : n < m) (same : (i : ℕ) → i < m → (i ≡ n → ⊥) → f i ≡ g i) where
      changed : put all (4 * n) (bytes 4 (g n)) ≡ joined (λ i. bytes 4 (g i)) m
      changed =
          let whole : Stands all 0 all = record { rest = []; there = sym (append-nil all) } in
          let other = joined_length (λ i. bytes 4 (g i)) 4 (λ i. bytes-length 4 (g i)) m in
          let inside : 4 * n + length (bytes 4 (g n)) ≤ length all = omega (arith, cells-length, bytes-length 4 (g n)) in
          let at_zero : 0 + 4 * n ≡ 4 * n = omega arith in
          let here = stands-changed (λ i. bytes 4 (f i)) (λ i. bytes 4 (g i)) 4 n m (lit≤ tt) (λ i. bytes-length 4 (f i)) (λ i. bytes-length 4 (g i))
          (λ i k d. ap (bytes 4) (same i k d)) m (omega arith) l (omega (arith, cells-length)) whole in
          stands-whole (rw at_zero at here) (put-length all (4 * n) (bytes 4 (g n)) inside ∙ cells-length ∙ sym other)

      pub cell-changed : put out (p + 4 * n) (bytes 4 (g n)) ≡ put (put s p (joined (λ i. bytes 4 (g i)) m)) q ys
      cell-changed =
          let width = bytes-length 4 (g n) in
          sym (put-swap (put s p all) (p + 4 * n) (bytes 4 (g n)) q ys (omega arith) (omega (arith, put-length s p all room)))
          ∙ ap (λ t. put t q ys) (put-inside s p all (4 * n) (bytes 4 (g n)) refl room (omega (arith, cells-length)) ∙ ap (put s p) changed)
