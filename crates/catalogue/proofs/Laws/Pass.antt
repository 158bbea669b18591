-- A pass over things in a row that puts a part for each, one behind the other.
use Rattle.std.specs.Prelude.{ℕ, ◌+◌, ◌≤◌, ◌<◌, ◌≡◌, refl, List, length}
use Rattle.std.proofs.Math.Path.{sym, ap}
use Rattle.std.proofs.Common.{◌∙◌, arith}
use Rattle.std.proofs.Math.Numerals.{add-one}
use Rattle.std.proofs.Math.ListN.{length-append}
use Rattle.format.specs.Bytes.{joined, put}
use Rattle.format.proofs.Laws.Put.{put-nothing, put_next}
use Rattle.catalogue.specs.Row.{row_end}
use Rattle.catalogue.proofs.Laws.Rows.{end-next}
use Rattle.catalogue.proofs.Laws.Written.{part-inside}

-- i things from `first` on are passed, up to p, and their parts, which f gives, are put into `lent`
-- from `at` on, up to `place`
pub record Pass (next : ℕ → ℕ) (first : ℕ) (f : ℕ → List ℕ) (lent : List ℕ) (at : ℕ) (out : List ℕ) (p place i : ℕ) : Type 0 where
  pub here : p ≡ row_end next i first
  pub behind : place ≡ at + length (joined f i)
  pub same : length out ≡ length lent
  pub built : out ≡ put lent at (joined f i)

module _ (next : ℕ → ℕ) (first : ℕ) (f : ℕ → List ℕ) (lent : List ℕ) (at : ℕ) where
  pub pass-first : Pass next first f lent at lent first at 0
  unfolding row_end joined
  pass-first = record { here = refl; behind = omega arith; same = refl; built = sym (put-nothing lent at) }

  module _ {out : List ℕ} {p place i : ℕ} (h : Pass next first f lent at out p place i) where
    module _ {n : ℕ} (l : i < n) (room : at + length (joined f n) ≤ length lent) where
      -- there is room for the part of the next
      pub pass-room : place + length (f i) ≤ length out
      pass-room = omega (arith, h.behind, h.same, part-inside f n i l)

      pub pass-next : {put-out : List ℕ} {q behind : ℕ} → put-out ≡ put out place (f i) → length put-out ≡ length out → q ≡ next p → behind ≡ place + length (f i)
          → Pass next first f lent at put-out q behind (i + 1)
      unfolding joined
      pass-next this same on more = record {
        here = on ∙ ap next h.here ∙ sym (end-next next i first) ∙ rw add-one;
        behind = rw add-one (omega (arith, more, h.behind, length-append (joined f i) (f i)));
        same = same ∙ h.same;
        built = put_next lent at f i place (sym h.behind) (omega (arith, h.behind, part-inside f n i l)) h.built this;
      }

    pub pass-done : {n : ℕ} → i ≡ n → (out ≡ put lent at (joined f n)) × (place ≡ at + length (joined f n))
    pass-done e = (h.built ∙ rw e, h.behind ∙ rw e)
