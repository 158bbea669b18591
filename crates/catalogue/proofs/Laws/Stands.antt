-- Bytes that stand at a place: taken apart, and put together again; a number's bytes are read as
-- the number, and a text with its zero byte as the text.
use Prim.Native.Nat.{ℕ, zero, suc, ◌+◌, ◌/◌, ◌%◌, ◌^◌, ◌≤◌, ◌<◌}
use Rattle.std.specs.Prelude.{◌≡◌, true, List, [], ◌∷◌, ◌++◌, length, drop, get_or}
use Rattle.std.proofs.Common.{sym, ap, ◌∙◌, append_assoc, append-nil, add-zero, zero-add, div-add-mod', div-lt_iff_lt-mul, pow-suc, arith, drop_of_length-le, length-append, length-drop, drop-drop, get_or-drop, lit≤}
use Rattle.std.proofs.Math.Decide.{ℕ_discrete}
use Rattle.std.proofs.lemmas.List.{drop-append-le}
use Rattle.std.proofs.Math.Seq.{drop-append_seam}
use Rattle.format.specs.Number.{be}
use Rattle.format.specs.Bytes.{bytes, joined}
use Rattle.format.specs.String.{string, extent, is_whole}
use Rattle.format.proofs.Laws.Bytes.{bytes-length}
use Rattle.format.proofs.Laws.Texts.{TextWithin, ended-string, ended-whole}
use Rattle.catalogue.specs.LaidOut.{Stands, text_and_zero}

module _ {s : List ℕ} {p : ℕ} where
  pub stands-first : (xs ys : List ℕ) → Stands s p (xs ++ ys) → Stands s p xs
  stands-first xs ys h = record { rest = ys ++ h.rest; there = h.there ∙ append_assoc xs ys h.rest }

  pub stands-next : (xs ys : List ℕ) → Stands s p (xs ++ ys) → Stands s (p + length xs) ys
  stands-next xs ys h = record {
    rest = h.rest;
    there = sym (drop-drop (length xs) p s) ∙ ap (drop (length xs)) (h.there ∙ append_assoc xs ys h.rest) ∙ drop-append_seam xs (ys ++ h.rest);
  }

  -- bytes that stand somewhere lie inside
  pub stands-inside : {xs : List ℕ} → Stands s p xs → 0 < length xs → p + length xs ≤ length s
  stands-inside {xs} h some = omega (arith, length-drop p s, simp length-append at (ap length h.there))

  pub stands-byte : {x : ℕ} {xs : List ℕ} → Stands s p (x ∷ xs) → get_or s p 0 ≡ x
  stands-byte h = sym (rw add-zero at (get_or-drop p s 0 0)) ∙ ap (λ l. get_or l 0 0) h.there

  -- the part i of the parts that f gives stands behind those before it
  pub stands-part : (f : ℕ → List ℕ) (n : ℕ) {i : ℕ} → i < n → Stands s p (joined f n) → Stands s (p + length (joined f i)) (f i)
  unfolding joined
  stands-part f zero l h = absurd (omega arith)
  stands-part f (suc n) {i} l h = elim (ℕ_discrete i n) [
    | yes e ↦ rw e (stands-next (joined f n) (f n) h)
    | no a ↦ stands-part f n (omega arith) (stands-first (joined f n) (f n) h)
  ]

pub stands_at : {s xs : List ℕ} {p q : ℕ} → Stands s p xs → p ≡ q → Stands s q xs
stands_at h e = rw e at h

pub stands_same : {s xs ys : List ℕ} {p : ℕ} → Stands s p xs → xs ≡ ys → Stands s p ys
stands_same h e = rw e at h

-- what stands from the front on: the part behind the first p bytes stands at p
pub stands-behind : {s : List ℕ} {p : ℕ} (xs ys : List ℕ) → length xs ≡ p → Stands s 0 (xs ++ ys) → Stands s p ys
stands-behind xs ys e h = rw (zero-add, e) at (stands-next xs ys h)

-- a number's bytes are read as the number, if it fits
pub stands-number : (w : ℕ) {s : List ℕ} {p n : ℕ} → n < 256 ^ w → Stands s p (bytes w n) → be w s p ≡ n
unfolding be bytes
stands-number zero {n = n} l h = let z : n < 1 = l in omega arith
stands-number (suc w) {s} {p} {n} l h =
    let high : be w s p ≡ n / 256 = stands-number w ((div-lt_iff_lt-mul (lit≤ tt)).1 (rw pow-suc at l)) (stands-first (bytes w (n / 256)) _ h) in
    let low : get_or s (p + w) 0 ≡ n % 256 = stands-byte (rw (bytes-length w (n / 256)) at (stands-next (bytes w (n / 256)) (n % 256 ∷ []) h)) in
    rw (high, low) (div-add-mod' n 256)

-- three numbers side by side
pub stands-three : (u v w : ℕ) {s : List ℕ} {p a b c : ℕ} → a < 256 ^ u → b < 256 ^ v → c < 256 ^ w → Stands s p (bytes u a ++ bytes v b ++ bytes w c)
    → (be u s p ≡ a) × (be v s (p + u) ≡ b) × (be w s (p + (u + v)) ≡ c)
stands-three u v w {s} {p} {a} {b} {c} la lb lc h =
    let two = stands-first (bytes u a ++ bytes v b) (bytes w c) h in
    let width : length (bytes u a ++ bytes v b) ≡ u + v = length-append (bytes u a) (bytes v b) ∙ rw (bytes-length u a, bytes-length v b) in (
      stands-number u la (stands-first (bytes u a) (bytes v b) two),
      stands-number v lb (rw (bytes-length u a) at (stands-next (bytes u a) (bytes v b) two)),
      stands-number w lc (rw width at (stands-next (bytes u a ++ bytes v b) (bytes w c) h)),
    )

-- what stands in a part that stands in s stands in s
pub stands-within : {s : List ℕ} {p o : ℕ} {part xs : List ℕ} → o + length xs ≤ length part → Stands s p part → Stands part o xs → Stands s (p + o) xs
stands-within {s} {p} {o} {part} {xs} l h g = record {
  rest = g.rest ++ h.rest;
  there = sym (drop-drop o p s) ∙ ap (drop o) h.there ∙ drop-append-le o part h.rest (omega arith)
      ∙ ap (λ l. l ++ h.rest) g.there ∙ append_assoc xs g.rest h.rest;
}

-- parts that stand side by side stand as one
pub stands-join : {s : List ℕ} {p : ℕ} (xs ys : List ℕ) → Stands s p xs → Stands s (p + length xs) ys → Stands s p (xs ++ ys)
stands-join {s} {p} xs ys h g =
    let same : h.rest ≡ ys ++ g.rest =
    sym (drop-append_seam xs h.rest) ∙ ap (drop (length xs)) (sym h.there) ∙ drop-drop (length xs) p s ∙ g.there in
    record { rest = g.rest; there = h.there ∙ ap (λ l. xs ++ l) same ∙ sym (append_assoc xs ys g.rest) }

-- what stands from the front on, and what comes behind it, are all
stands-all : {s xs : List ℕ} → Stands s 0 xs → s ≡ xs ++ drop (length xs) s
stands-all {s} {xs} h = h.there ∙ ap (λ l. xs ++ l) (sym (ap (drop (length xs)) h.there ∙ drop-append_seam xs h.rest))

-- a buffer is what stands from the front on, if that is as long
pub stands-whole : {s xs : List ℕ} → Stands s 0 xs → length s ≡ length xs → s ≡ xs
stands-whole {s} {xs} h e = stands-all h ∙ ap (λ l. xs ++ l) (drop_of_length-le s {i = length xs} (omega arith)) ∙ append-nil xs

-- a text that stands with its zero byte is a whole string
module _ {limit : ℕ} {s : List ℕ} {p : ℕ} {t : List ℕ} (text : TextWithin limit t) (h : Stands s p (text_and_zero t)) where
  parts : drop p s ≡ t ++ 0 ∷ h.rest
  parts = h.there ∙ append_assoc t (0 ∷ []) h.rest

  pub stands-string : string (drop p s) ≡ t
  stands-string = ended-string text h.rest parts

  pub string-whole : is_whole (extent limit (drop p s)) ≡ true
  string-whole = ended-whole text h.rest parts
