-- The catalogue that a cache is listed as is made of the pieces of its paths and of its records.
use Rattle.std.specs.Prelude.{ℕ, zero, suc, ◌+◌, ◌≤◌, ◌<◌, ◌≡◌, refl, length, take, get_or}
use Rattle.std.proofs.Common.{sym, ap, ◌∙◌, add-one, arith, length-append, length-take-le}
use mathlib.Core.List.{List, [], ◌∷◌, ◌++◌, map, flat_map, append-nil}
use Rattle.std.proofs.Math.Decide.{ℕ_discrete}
use Rattle.std.proofs.Math.ListN.{get_or-append}
use Rattle.std.proofs.lemmas.List.{get_or_at, get_or-take}
use Rattle.format.specs.Bytes.{bytes, joined, put}
use Rattle.format.specs.Header.{directories, path_of}
use Rattle.format.specs.Chain.{all_records}
use Rattle.format.proofs.Laws.Bytes.{bytes-length, flat_append}
use Rattle.format.proofs.Laws.Put.{put_then}
use Rattle.format.proofs.Laws.Links.{on_chain}
use Rattle.format.specs.declared.Reading.TheVariants.{Short}
use Rattle.tables.specs.declared.Tables.{Tables}
use Rattle.catalogue.specs.Catalogue.{path_bytes, icon_bytes}
use Rattle.catalogue.specs.Listed.{firsts, offset_order, icon_of, listed}
use Rattle.catalogue.specs.Call.{listed_bytes}
use Rattle.catalogue.proofs.Laws.Rising.{firsts-length, map-firsts}
use Rattle.catalogue.proofs.Laws.Elements.{rising-few}
use Rattle.catalogue.proofs.Laws.Reader.{order-each-once}
use Rattle.tables.specs.Tables.{Sound}
use Rattle.gathering.specs.Order.{Ordered}
use Rattle.export.specs.Parts.{Kept, path_piece, icon_piece, Indexed}

firsts_at : {A : Type 0} (f : ℕ → A) (n i : ℕ) (d : A) → i < n → get_or (firsts f n) i d ≡ f i
unfolding firsts
firsts_at f zero i d l = absurd (omega arith)
firsts_at f (suc n) i d l = elim (ℕ_discrete i n) [
  | yes e ↦ rw e (get_or_at (firsts f n) (f n) [] d n (firsts-length f n))
  | no a ↦ get_or-append (firsts f n) (f n ∷ []) d i (omega (arith, firsts-length f n)) ∙ firsts_at f n i d (omega arith)
]

flat-firsts : {A : Type 0} (f : A → List ℕ) (g : ℕ → A) (n : ℕ) → flat_map f (firsts g n) ≡ joined (λ i. f (g i)) n
unfolding flat_map firsts joined
flat-firsts f g zero = refl
flat-firsts f g (suc n) = flat_append f (firsts g n) (g n ∷ []) ∙ rw (flat-firsts f g n, append-nil (f (g n)))

-- an index of no more records than an icon count can say
pub indexed : {s : List ℕ} {t : Tables} {index : List ℕ} {n : ℕ} → Sound s t → Ordered s index n → length (all_records Short s) ≤ 65535 → 65535 ≤ length index → Indexed s t index n
indexed {s} {index = index} {n} sound ordered few room =
    let all = ap length ordered ∙ firsts-length (λ i. get_or index i 0) n in
    let fewer = rising-few (all_records Short s) (length s) in
    record { sound = sound; ordered = ordered; room = omega arith; few = omega arith }

-- the pieces in their order, each section after its count
abbrev pub pieces : List ℕ → List ℕ → ℕ → List ℕ
pieces s index n = bytes 2 (directories s) ++ joined (path_piece s) (directories s) ++ bytes 2 n ++ joined (icon_piece s index) n

module _ {s : List ℕ} {t : Tables} {index : List ℕ} {n : ℕ} (h : Indexed s t index n) where
  icons-are : map (icon_of s) (offset_order s) ≡ firsts (λ i. icon_of s (get_or index i 0)) n
  icons-are = ap (map (icon_of s)) h.ordered ∙ map-firsts (icon_of s) (λ i. get_or index i 0) n

  pub pieces_are : listed_bytes s ≡ pieces s index n
  unfolding listed
  pieces_are =
      rw (
        icons-are,
        firsts-length (path_of s) (directories s),
        firsts-length (λ i. icon_of s (get_or index i 0)) n,
        flat-firsts path_bytes (path_of s) (directories s),
        flat-firsts icon_bytes (λ i. icon_of s (get_or index i 0)) n,
      )

  -- each entry is the record of an icon
  pub entry_kept : (i : ℕ) → i < n → Kept s (get_or index i 0)
  entry_kept i l =
      let acc = h.sound.accepted in
      let here : get_or (offset_order s) i 0 ≡ get_or index i 0 = ap (λ rs. get_or rs i 0) h.ordered ∙ firsts_at (λ i. get_or index i 0) n i 0 l in
      let within : i < length (offset_order s) = omega (arith, ap length h.ordered ∙ firsts-length (λ i. get_or index i 0) n) in
      let (k, m, below, on) = ((order-each-once s acc).each (get_or index i 0)).0 (i, within, here) in
      record { bucket = k; keeps = (on_chain (acc.lower k below).1 on).1 }

  -- as a loop over the first n entries has it
  module _ (i : ℕ) (l : i < length (take n index)) where
    pub front-below : i < n
    front-below = omega (arith, length-take-le n index h.room)

    pub front-entry : get_or (take n index) i 0 ≡ get_or index i 0
    front-entry = get_or-take n index i 0 front-below

    pub front-kept : Kept s (get_or (take n index) i 0)
    front-kept = rw front-entry (entry_kept i front-below)

pub pieces-length : (s index : List ℕ) (n : ℕ)
    → length (pieces s index n) ≡ 4 + length (joined (path_piece s) (directories s)) + length (joined (icon_piece s index) n)
pieces-length s index n = simp length-append (omega (arith, bytes-length 2 (directories s), bytes-length 2 n))

-- one piece more
pub piece-more : (f : ℕ → List ℕ) (i : ℕ) → length (joined f (i + 1)) ≡ length (joined f i) + length (f i)
unfolding joined
piece-more f i = rw add-one (length-append (joined f i) (f i))

-- the sections put one behind the other are the catalogue put
pub pieces-put : {s : List ℕ} {t : Tables} {index : List ℕ} {n : ℕ} → Indexed s t index n → (lent : List ℕ) {d at : ℕ} {counted with-paths with-count out : List ℕ}
    → length (listed_bytes s) ≤ length lent → d ≡ directories s → counted ≡ put lent 0 (bytes 2 d)
    → with-paths ≡ put counted 2 (joined (path_piece s) (directories s)) → at ≡ 2 + length (joined (path_piece s) (directories s))
    → with-count ≡ put with-paths at (bytes 2 n) → out ≡ put with-count (at + 2) (joined (icon_piece s index) n) → out ≡ put lent 0 (listed_bytes s)
pieces-put {s} {index = index} {n} h lent {d} {at} room same first second end third fourth =
    let m = directories s in
    let paths = joined (path_piece s) m in
    let icons = joined (icon_piece s index) n in
    let size = ap length (pieces_are h) ∙ pieces-length s index n in
    let count = bytes-length 2 m in
    let count-icons = bytes-length 2 n in
    let front = length-append (bytes 2 m) paths in
    let more = length-append (bytes 2 m ++ paths) (bytes 2 n) in
    let paths-put = put_then lent 0 (bytes 2 m) paths {q = 2} (omega arith) (omega arith) (first ∙ ap (λ k. put lent 0 (bytes 2 k)) same) second in
    let count-put = put_then lent 0 (bytes 2 m ++ paths) (bytes 2 n) {q = at} (omega arith) (omega arith) paths-put third in
    put_then lent 0 (bytes 2 m ++ paths ++ bytes 2 n) icons {q = at + 2} (omega arith) (omega arith) count-put fourth ∙ ap (put lent 0) (sym (pieces_are h))
