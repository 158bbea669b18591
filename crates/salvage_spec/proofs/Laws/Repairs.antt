-- Of a call that answers 0: its catalogue is taken by the writer, and the written cache serves it.
use Rattle.std.specs.Prelude.{ℕ, ◌≤◌, ◌≡◌, List, ◌++◌, length}
use Rattle.std.proofs.Math.Path.{subst, ap}
use Rattle.std.proofs.Common.{◌∙◌, leb-true}
use Rattle.std.proofs.Math.ListN.{drop}
use Rattle.format.specs.Header.{header_fault}
use Rattle.format.proofs.Laws.Faults.{or_else-none, unless-none}
use Rattle.catalogue.specs.Catalogue.{Catalogue}
use Rattle.catalogue.specs.Fields.{AreBytes, catalogue_in}
use Rattle.catalogue.specs.Serves.{Serves}
use Rattle.catalogue.specs.Written.{places, written_size, written}
use Rattle.catalogue.specs.Call.{write, write_leaves}
use Rattle.catalogue.specs.Promise.{SaysBack}
use Rattle.catalogue.proofs.Laws.RoundTrip.{says_back}
use Rattle.catalogue.proofs.Laws.Written.{written-lays}
use Rattle.catalogue.proofs.Laws.Serves.{serves}
use Rattle.catalogue.proofs.Laws.Call.{leaves-written, unrefused, good-taken}
use Rattle.salvage_spec.specs.Salvage.{icons, catalogue}
use Rattle.salvage_spec.specs.Call.{salvage_bytes, salvage_fault, salvage}
use Rattle.salvage_spec.specs.Promise.{Repairs}
use Rattle.salvage_spec.proofs.Laws.Good.{good}

-- a call that answers 0 is not refused: the header breaks no rule, and no more than 65,535 icons
-- are kept
record Answered (s : List ℕ) : Type 0 where
  header : (header_fault s).number ≡ 0
  few : length (icons s) ≤ 65535

answered : (s : List ℕ) (room words : ℕ) → (salvage s room words).number ≡ 0 → Answered s
unfolding salvage salvage_fault
answered s room words e =
    let first = or_else-none _ _ e in
    record { header = first.0; few = leb-true _ _ (unless-none _ _ _ (or_else-none _ _ first.1).0) }

module _ (s : List ℕ) (small : AreBytes s) (a : Answered s) where
  said : SaysBack (catalogue s)
  unfolding catalogue
  said = says_back (catalogue s) (good s small a.header) a.few

  served : (b : ℕ) (lent : List ℕ) → (write (salvage_bytes s) b (length lent)).number ≡ 0
      → let cache = written (catalogue s) b in
      (write_leaves (salvage_bytes s) b lent ≡ cache ++ drop (length cache) lent) × Serves cache (catalogue s) b (places (catalogue s) b)
  unfolding write write_leaves
  served b lent e =
      let call = unrefused (salvage_bytes s) b (length lent) e in
      let fits : written_size (catalogue s) b ≤ 16777216 = subst (λ (d : Catalogue). written_size d b ≤ 16777216) said.said call.not-too-long in (
        leaves-written (written (catalogue_in (salvage_bytes s)) b) lent call.none ∙ ap (λ d. written d b ++ drop (length (written d b)) lent) said.said,
        serves (good s small a.header) (written-lays (catalogue s) b fits) call.some,
      )

pub repairs : (s : List ℕ) (room words : ℕ) → AreBytes s → (salvage s room words).number ≡ 0 → Repairs s
repairs s room words small e =
    let a = answered s room words e in
    record { taken = good-taken (salvage_bytes s) (said s small a).judged; served = served s small a }
