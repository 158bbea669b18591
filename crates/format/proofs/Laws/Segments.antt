-- Laws of a path's segments: that each is judged where it ends, and that they are the path cut at
-- its slashes.
use Rattle.std.specs.Prelude.{ℕ, zero, suc, ◌≡◌, refl, List, [], ◌∷◌, ◌++◌, Bool, true, false, ◌&&◌, eqb, get_or, if◌then◌else◌}
use Rattle.std.proofs.Common.{ap, sym, ◌∙◌, append-nil, arith, eq-eqb, ne_eqb}
use Rattle.std.proofs.Math.Bool.{and_assoc, and-true}
use Rattle.std.proofs.Math.Decide.{ℕ_discrete}
use Rattle.std.proofs.lemmas.Bool.{eqb-false}
use Rattle.format.specs.Segments.{slash, first_segment, later_segments, segments, valid_segment, all_valid, valid_segments}

-- the segments of two paths with a slash between them are those of the one and then those of the
-- other
segments-append : (a t : List ℕ) → segments (a ++ slash ∷ t) ≡ segments a ++ segments t
unfolding segments first_segment later_segments
segments-append [] t = refl
segments-append (b ∷ a) t =
    let e = segments-append a t in
    elim (ℕ_discrete b slash) [ yes q ↦ rw (eq-eqb b slash q, e) | no q ↦ rw (ne_eqb b slash q) (cc) ]

all_append : (ps qs : List (List ℕ)) → all_valid (ps ++ qs) ≡ (all_valid ps && all_valid qs)
unfolding all_valid
all_append [] qs = refl
all_append (p ∷ ps) qs = rw (all_append ps qs) (sym (and_assoc (valid_segment p) (all_valid ps) (all_valid qs)))

-- bytes without a slash are one segment
abbrev pub NoSlash : List ℕ → Type 0
NoSlash p = (n : ℕ) → get_or p n 0 ≡ slash → ⊥

pub none_free : NoSlash []
none_free n e = absurd (omega arith)

pub more-free : (p : List ℕ) (b : ℕ) → NoSlash p → (b ≡ slash → ⊥) → NoSlash (p ++ b ∷ [])
more-free [] b h other zero e = other e
more-free [] b h other (suc n) e = absurd (omega arith)
more-free (c ∷ p) b h other zero e = h zero e
more-free (c ∷ p) b h other (suc n) e = more-free p b (λ m. h (suc m)) other n e

free-segment : (p : List ℕ) → NoSlash p → segments p ≡ p ∷ []
unfolding segments first_segment later_segments
free-segment [] h = refl
free-segment (b ∷ p) h = let e = free-segment p (λ n. h (suc n)) in rw (ne_eqb b slash (h zero)) (cc)

-- so they are judged by themselves, at the end of a path and before a slash
pub last-valid : (p : List ℕ) → NoSlash p → valid_segments p ≡ valid_segment p
unfolding all_valid
last-valid p h = ap all_valid (free-segment p h) ∙ and-true (valid_segment p)

pub first-valid : (p t : List ℕ) → NoSlash p → valid_segments (p ++ slash ∷ t) ≡ (valid_segment p && valid_segments t)
first-valid p t h = ap all_valid (segments-append p t) ∙ all_append (segments p) (segments t) ∙ ap (λ b. b && valid_segments t) (last-valid p h)

-- Cutting at the slashes, said apart from how it is done: the pieces, each after a slash, are the
-- path after a slash, and no piece holds one.
abbrev pub together : List (List ℕ) → List ℕ
together [] = []
together (p ∷ ps) = slash ∷ (p ++ together ps)

pub record CutAtSlashes (path : List ℕ) (ps : List (List ℕ)) : Type 0 where
  pub whole : together ps ≡ slash ∷ path
  pub free : (m : ℕ) → NoSlash (get_or ps m [])

segments-whole : (path : List ℕ) → together (segments path) ≡ slash ∷ path
unfolding segments first_segment later_segments
segments-whole [] = refl
segments-whole (b ∷ t) =
    let e = segments-whole t in
    elim (ℕ_discrete b slash) [ yes q ↦ rw (eq-eqb b slash q, e, q) | no q ↦ rw (ne_eqb b slash q) (cc) ]

segments-free : (path : List ℕ) (m : ℕ) → NoSlash (get_or (segments path) m [])
unfolding segments first_segment later_segments
segments-free [] zero n e = absurd (omega arith)
segments-free [] (suc m) n e = absurd (omega arith)
segments-free (b ∷ t) m n e = go (eqb b slash) refl (segments-free t) m n e
  where
    go : (c : Bool) → eqb b slash ≡ c → ((m : ℕ) → NoSlash (get_or (segments t) m []))
        → (m : ℕ) → NoSlash (get_or ((if c then [] else b ∷ first_segment t) ∷ (if c then segments t else later_segments t)) m [])
    go true q h zero n e = absurd (omega arith)
    go true q h (suc m) n e = h m n e
    go false q h zero zero e = eqb-false b slash q e
    go false q h zero (suc n) e = h zero n e
    go false q h (suc m) n e = h (suc m) n e

pub segments-cut : (path : List ℕ) → CutAtSlashes path (segments path)
segments-cut path = record { whole = segments-whole path; free = segments-free path }

-- and no other list of pieces is
together-segments : (ps : List (List ℕ)) (p : List ℕ) → ((m : ℕ) → NoSlash (get_or (p ∷ ps) m [])) → segments (p ++ together ps) ≡ p ∷ ps
together-segments [] p h = rw append-nil (free-segment p (h zero))
together-segments (q ∷ qs) p h = rw (segments-append, free-segment p (h zero), together-segments qs q (λ m. h (suc m)))

pub segments-only : (path : List ℕ) (ps : List (List ℕ)) → CutAtSlashes path ps → ps ≡ segments path
segments-only path [] c = let e = c.whole in cc
segments-only path (p ∷ ps) c =
    let e : p ++ together ps ≡ path = let w = c.whole in cc in
    sym (together-segments ps p c.free) ∙ ap segments e
