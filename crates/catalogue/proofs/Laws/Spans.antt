-- The bytes from one place up to another: joined with those that follow, and those of a number and
-- of a text that were read there.
use Prim.Native.Nat.{ℕ, zero, suc, ◌+◌, ◌*◌, ◌/◌, ◌%◌, ◌^◌, ◌≤◌, ◌<◌}
use Rattle.std.specs.Prelude.{◌≡◌, List, [], ◌∷◌, ◌++◌, length, take, drop}
use Rattle.std.proofs.Math.Path.{refl, ap}
use Rattle.std.proofs.Common.{sym, ◌∙◌, append_assoc, pow-suc, take-append-drop, length-append, drop-drop, take_at, take-suc, get_or-drop, length-take-le}
use native.Mathlib.Omega.{arith}
use Rattle.std.proofs.Math.ListN.{get_or, length-drop}
use Rattle.format.specs.Number.{be}
use Rattle.format.specs.Bytes.{bytes}
use Rattle.catalogue.specs.Fields.{AreBytes, part}

-- xs are the bytes of c from p up to e
pub record Spans (c : List ℕ) (p : ℕ) (xs : List ℕ) (e : ℕ) : Type 0 where
  pub are : drop p c ≡ xs ++ drop e c

pub spans-none : (c : List ℕ) (p : ℕ) → Spans c p [] p
spans-none c p = record { are = refl }

pub spans-join : {c : List ℕ} {p e f g : ℕ} {xs ys : List ℕ} → Spans c p xs e → Spans c f ys g → e ≡ f → Spans c p (xs ++ ys) g
spans-join {c} {g = g} {xs} {ys} h k q =
    record { are = h.are ∙ ap (λ n. xs ++ drop n c) q ∙ ap (λ l. xs ++ l) k.are ∙ sym (append_assoc xs ys (drop g c)) }

pub spans-end : {c : List ℕ} {p e f : ℕ} {xs : List ℕ} → Spans c p xs e → e ≡ f → Spans c p xs f
spans-end h q = rw q at h

pub spans-part : (c : List ℕ) (p n : ℕ) → Spans c p (part c p n) (p + n)
spans-part c p n = record { are = sym (take-append-drop n (drop p c)) ∙ ap (λ l. part c p n ++ l) (drop-drop n p c) }

pub part_length : (c : List ℕ) (p n : ℕ) → p + n ≤ length c → length (part c p n) ≡ n
part_length c p n h = length-take-le n (drop p c) (omega (arith, length-drop p c))

-- they are the part of c between the two
pub spans-are : {c : List ℕ} {p e : ℕ} {xs : List ℕ} → Spans c p xs e → p ≤ e → e ≤ length c → (n : ℕ) → p + n ≡ e → part c p n ≡ xs
spans-are {c} {p} {e} {xs} h order within n size =
    let wide : length xs ≡ n = omega (arith, simp length-append at (ap length h.are), length-drop p c, length-drop e c) in
    ap (take n) h.are ∙ take_at xs (drop e c) n wide

module _ (c : List ℕ) (small : AreBytes c) where
  pub number_fits : (w p : ℕ) → p + w ≤ length c → be w c p < 256 ^ w
  unfolding be
  number_fits zero p h = omega arith
  number_fits (suc w) p h =
      rw (pow-suc 256 w) (omega (arith, number_fits w p (omega arith), small (p + w)))

  number-bytes : (w p : ℕ) → p + w ≤ length c → bytes w (be w c p) ≡ part c p w
  unfolding be bytes
  number-bytes zero p h = refl
  number-bytes (suc w) p h =
      let low : get_or c (p + w) 0 < 256 = small (p + w) in
      let high_part : (be w c p * 256 + get_or c (p + w) 0) / 256 ≡ be w c p = omega arith in
      let low_part : (be w c p * 256 + get_or c (p + w) 0) % 256 ≡ get_or c (p + w) 0 = omega arith in
      rw (high_part, low_part, number-bytes w p (omega arith))
      (sym (take-suc (drop p c) w 0 (omega (arith, length-drop p c)) ∙ ap (λ x. part c p w ++ (x ∷ [])) (get_or-drop p c w 0)))

  pub spans-number : (w p : ℕ) → p + w ≤ length c → Spans c p (bytes w (be w c p)) (p + w)
  spans-number w p h = rw (number-bytes w p h) (spans-part c p w)
