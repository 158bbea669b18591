-- What a path tells that a catalogue may hold, and what holds of each element of a list at a
-- number.
use Rattle.std.specs.Prelude.{ℕ, zero, suc, ◌<◌, ◌≡◌, List, [], ◌∷◌, true, length, get_or}
use Rattle.std.proofs.Math.Bool.{and-eq-true_iff}
use Rattle.std.proofs.Common.{arith}
use Rattle.std.proofs.lemmas.Bool.{eqb-false, not-true}
use Rattle.format.specs.Segments.{slash, valid_segments, allowed_path}
use Rattle.format.proofs.Laws.Texts.{TextWithin, text-tells}
use Rattle.catalogue.specs.Catalogue.{Each}

pub each_at : {A : Type 0} (P : A → Type 0) (xs : List A) (other : A) (i : ℕ) → Each P xs → i < length xs → P (get_or xs i other)
each_at P [] other i h l = absurd (omega arith)
each_at P (x ∷ xs) other zero h l = h.0
each_at P (x ∷ xs) other (suc i) h l = each_at P xs other i h.1 (omega arith)

pub record AllowedPath (t : List ℕ) : Type 0 where
  pub text : TextWithin 1023 t
  pub relative : get_or t 0 0 ≡ slash → ⊥
  pub segments : valid_segments t ≡ true

pub path-tells : (t : List ℕ) → allowed_path t ≡ true → AllowedPath t
unfolding allowed_path
path-tells t e =
    let all = (and-eq-true_iff _ _).0 e in
    let most = (and-eq-true_iff _ _).0 all.0 in
    record { text = text-tells 1023 t most.0; relative = eqb-false _ _ (not-true _ most.1); segments = all.1 }
