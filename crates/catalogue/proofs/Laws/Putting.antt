-- What stands in a buffer after a part is put into it: the part, and what stood before or behind
-- it; and parts of one width, of which one is changed in its place.
use Prim.Native.Nat.{ℕ, zero, suc, ◌+◌, ◌-◌, ◌*◌, ◌≤◌, ◌<◌}
use Rattle.std.specs.Prelude.{◌≡◌, List, ◌++◌}
use Rattle.std.proofs.Math.Path.{sym, ap}
use Rattle.std.proofs.Common.{◌∙◌, append_assoc, take-append-drop, drop-drop}
use Rattle.std.proofs.Math.Nat.{mul-suc, mul-le-mul_left}
use Rattle.std.proofs.Math.Decide.{ℕ_discrete}
use native.Mathlib.Omega.{arith}
use Rattle.std.proofs.Math.ListN.{length, take, drop, length-append}
use Rattle.std.proofs.Math.Seq.{drop_at, drop-append_seam, take-append-add, length-take-le}
use Rattle.format.specs.Bytes.{joined, put}
use Rattle.format.proofs.Laws.Bytes.{joined_length, joined_same}
use Rattle.format.proofs.Laws.Put.{put-behind}
use Rattle.catalogue.specs.LaidOut.{Stands}
use Rattle.catalogue.proofs.Laws.Stands.{stands-first, stands-next, stands_at, stands_same, stands-join}

module _ (s : List ℕ) (p : ℕ) (ys : List ℕ) (fits : p + length ys ≤ length s) where
  pub put-stands : Stands (put s p ys) p ys
  unfolding put
  put-stands = record {
    rest = drop (p + length ys) s;
    there = ap (drop p) (append_assoc (take p s) ys (drop (p + length ys) s)) ∙ drop_at (take p s) (ys ++ drop (p + length ys) s) p (length-take-le p s (omega arith));
  }

  pub stands_after : {q : ℕ} {xs : List ℕ} → p + length ys ≤ q → Stands s q xs → Stands (put s p ys) q xs
  stands_after {q} l h = record { rest = h.rest; there = put-behind s p ys fits q l ∙ h.there }

  pub stands-before : {q : ℕ} {xs : List ℕ} → q + length xs ≤ p → Stands s q xs → Stands (put s p ys) q xs
  unfolding put
  stands-before {q} {xs} l h =
      let front = take q s ++ xs in
      let n = p - (q + length xs) in
      let q-length : length (take q s) ≡ q = length-take-le q s (omega arith) in
      let whole : s ≡ front ++ h.rest = sym (take-append-drop q s) ∙ ap (λ l. take q s ++ l) h.there ∙ sym (append_assoc (take q s) xs h.rest) in
      let split : p ≡ length front + n = omega (arith, length-append (take q s) xs) in
      let kept : take p s ≡ front ++ take n h.rest = ap (λ m. take m s) split ∙ ap (take (length front + n)) whole ∙ take-append-add front h.rest n in
      record {
        rest = take n h.rest ++ ys ++ drop (p + length ys) s;
        there =
            ap (λ a. drop q (a ++ ys ++ drop (p + length ys) s)) kept
            ∙ ap (drop q) (simp append_assoc)
            ∙ drop_at (take q s) (xs ++ (take n h.rest ++ ys ++ drop (p + length ys) s)) q q-length;
      }

-- bytes that stand there already need not be put
pub put-known : (s : List ℕ) (p : ℕ) (ys zs : List ℕ) → Stands s (p + length ys) zs → put s p (ys ++ zs) ≡ put s p ys
unfolding put
put-known s p ys zs h =
    let n = p + length ys in
    let size : p + length (ys ++ zs) ≡ n + length zs = omega (arith, length-append ys zs) in
    let behind : drop n s ≡ zs ++ drop (n + length zs) s =
    h.there ∙ ap (λ l. zs ++ l) (sym (sym (drop-drop (length zs) n s) ∙ ap (drop (length zs)) h.there ∙ drop-append_seam zs h.rest)) in
    rw (size, behind) (simp append_assoc)

-- parts of one width, of which part k is changed in its place
module _ (f g : ℕ → List ℕ) (w k m : ℕ) (some : 0 < w) (width : (i : ℕ) → length (f i) ≡ w) (changed-width : (i : ℕ) → length (g i) ≡ w)
    (same : (i : ℕ) → i < m → (i ≡ k → ⊥) → f i ≡ g i) where
  pub stands-changed : {s : List ℕ} {p : ℕ} (n : ℕ) → n ≤ m → k < n → p + w * n ≤ length s → Stands s p (joined f n)
      → Stands (put s (p + w * k) (g k)) p (joined g n)
  unfolding joined
  stands-changed zero a l fits h = absurd (omega arith)
  stands-changed {s} {p} (suc n) a l fits h =
      let before = stands-first (joined f n) (f n) h in
      let behind = stands-next (joined f n) (f n) h in
      let own = changed-width k in
      let sized : length (joined f n) ≡ w * n = joined_length f w width n in
      let changed-sized : length (joined g n) ≡ w * n = joined_length g w changed-width n in
      let more : w * suc n ≡ w * n + w = mul-suc w n in
      elim (ℕ_discrete k n) [
        | yes e ↦
            let place : w * k ≡ w * n = ap (λ j. w * j) e in
            let room : p + w * k + length (g k) ≤ length s = omega arith in
            let front = stands-before s (p + w * k) (g k) room (omega arith) before in
            let alike : joined f n ≡ joined g n = joined_same f g n (λ i d. same i (omega arith) (λ q. omega arith)) in
            stands-join (joined g n) (g n) (stands_same front alike) (stands_at (stands_same (put-stands s (p + w * k) (g k) room) (ap g e)) (omega arith))
        | no other ↦
            let below : k < n = omega arith in
            let rows : w * suc k ≤ w * n = mul-le-mul_left w below in
            let row : w * suc k ≡ w * k + w = mul-suc w k in
            let room : p + w * k + length (g k) ≤ length s = omega arith in
            let last = stands_after s (p + w * k) (g k) room (omega arith) behind in
            stands-join (joined g n) (g n) (stands-changed n (omega arith) below (omega arith) before)
            (stands_at (stands_same last (same n (omega arith) (λ q. other (sym q)))) (omega arith))
      ]
