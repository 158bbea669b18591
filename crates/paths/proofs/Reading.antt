-- A path that is being read: what is left of it, the segment that is not ended yet, and what is
-- judged of both. A segment is judged where it ends: `last-valid`, `first-valid`.
use Prim.Native.Nat.{ℕ, suc, ◌+◌, ◌-◌, ◌≤◌, ◌<◌}
use mathlib.Core.Path.{◌≡◌, ◌∙◌}
use mathlib.Core.List.{List, [], ◌∷◌, ◌++◌, append-nil, append_assoc}
use mathlib.Core.Bool.{Bool, ◌&&◌, and_assoc}
use native.Mathlib.Nat.{sub_self}
use native.Mathlib.Omega.{arith}
use lib.ListN.{length, take, drop, get_or, length-drop}
use lib.Seq.{take-suc, get_or-drop}
use Rattle.format.specs.Segments.{slash, valid_segment, valid_segments}
use Rattle.format.proofs.Laws.Strings.{left, one_less, Passed, passed-next}
use Rattle.format.proofs.Laws.Segments.{NoSlash, none_free, more-free, last-valid, first-valid}

-- the bytes from a to i
abbrev between : List ℕ → ℕ → ℕ → List ℕ
between t a i = take (i - a) (drop a t)

one_more : (t : List ℕ) (a i : ℕ) → a ≤ i → i < length t → between t a (i + 1) ≡ between t a i ++ get_or t i 0 ∷ []
one_more t a i l g =
    let e : i + 1 - a ≡ suc (i - a) = omega arith in
    let k : a + (i - a) ≡ i = omega arith in
    rw (e, take-suc (drop a t) (i - a) 0 (omega (arith, length-drop a t)), get_or-drop, k)

-- i bytes are read, the last segment starts at a, and `valid` says whether those before it are
-- such; with the bytes that are left they are judged as the whole path is
pub record Reading (t : List ℕ) (valid : Bool) (a i : ℕ) : Type 0 where
  pub started : a ≤ i
  pub inside : i ≤ length t
  pub within : i ≤ 1023
  pub passed : Passed t i
  pub free : NoSlash (between t a i)
  pub judged : (valid && valid_segments (between t a i ++ left 1023 t i)) ≡ valid_segments (left 1023 t 0)

module _ {t : List ℕ} {valid : Bool} {a i : ℕ} (h : Reading t valid a i) where
  abbrev segment : List ℕ
  segment = between t a i

  pub at-end : {r : Bool} → left 1023 t i ≡ [] → r ≡ (valid && valid_segment segment) → r ≡ valid_segments (left 1023 t 0)
  at-end e r = r ∙ rw (e, append-nil, last-valid segment h.free) at h.judged

  module _ (more : i < length t) (room : i < 1023) (nz : get_or t i 0 ≡ 0 → ⊥) where
    pub next-byte : (get_or t i 0 ≡ slash → ⊥) → Reading t valid a (i + 1)
    next-byte other =
        let longer = one_more t a i h.started more in
        record {
          started = omega arith;
          inside = omega arith;
          within = omega arith;
          passed = passed-next t i h.passed nz;
          free = rw longer (more-free segment (get_or t i 0) h.free other);
          judged = rw (longer, append_assoc) (rw (one_less 1023 t i room nz) at h.judged);
        }

    pub next-slash : {r : Bool} → get_or t i 0 ≡ slash → r ≡ (valid && valid_segment segment) → Reading t r (i + 1) (i + 1)
    next-slash e r = record {
      started = omega arith;
      inside = omega arith;
      within = omega arith;
      passed = passed-next t i h.passed nz;
      free = rw sub_self none_free;
      judged = rw (sub_self, r, and_assoc) (rw (one_less 1023 t i room nz, e, first-valid segment _ h.free) at h.judged);
    }

-- where the two ways of an `if` meet, `valid` and a are known by equations
pub same-reading : {t : List ℕ} {valid r : Bool} {a b i : ℕ} → r ≡ valid → b ≡ a → Reading t valid a i → Reading t r b i
same-reading e f h = rw (e, f) h
