-- Each meeting is kept or has one row.
use Prim.Native.Nat.{ℕ, zero, suc}
use Rattle.std.specs.Prelude.{◌≡◌, Bool, length, eqb, if◌then◌else◌}
use Rattle.std.proofs.Math.Path.{refl, sym, ap}
use Rattle.std.proofs.Common.{◌∙◌, arith}
use mathlib.Core.List.{List, [], ◌∷◌, ◌++◌, map, map-append}
use Rattle.std.proofs.Math.Bool.{true, false}
use Rattle.std.proofs.lemmas.List.{length-map}
use Rattle.std.proofs.Math.Seq.{drop-append_seam}
use Rattle.std.proofs.Math.Dec.{eqb-suc-zero}
use Rattle.format.specs.Fault.{unless, if_kept}
use Rattle.format.specs.Header.{directories, buckets, path_fault}
use Rattle.format.specs.Record.{valid_image}
use Rattle.format.specs.Words.{link}
use Rattle.format.specs.declared.Fault.{Fault}
use Rattle.format.proofs.Laws.Bytes.{joined_same}
use Rattle.catalogue.specs.Catalogue.{Icon}
use Rattle.format.specs.Bytes.{joined}
use Rattle.salvage_spec.specs.Lists.{those, AnyTwo}
use Rattle.salvage_spec.specs.Meetings.{Meeting, meeting, met, fate, chain_meetings, meetings}
use Rattle.salvage_spec.specs.Salvage.{icon, chain_icons, icons, Entry, of_path, of_meeting, of_image, of_cut, row, chain_entries, path_entries, entries}
use Rattle.salvage_spec.specs.Promise.{met_record, fate_of, is_kept, is_gone, meetings_in, meeting_number, rows_of_meetings, Accounts}
use Rattle.salvage_spec.proofs.Laws.Lists.{joined-none, through, those-append, those-none, those-one, those-or-not, each-joined, any-two-joined}
use Rattle.salvage_spec.proofs.Laws.Steps.{over-meetings, of-chains}
use Rattle.salvage_spec.proofs.Laws.Numbers.{fate-number, cut-number}

meetings-in-append : (x y : List Entry) → meetings_in (x ++ y) ≡ meetings_in x ++ meetings_in y
unfolding meetings_in
meetings-in-append [] y = refl
meetings-in-append (of_path i ∷ x) y = meetings-in-append x y
meetings-in-append (of_meeting m ∷ x) y = ap (λ l. m ∷ l) (meetings-in-append x y)
meetings-in-append (of_image p ∷ x) y = meetings-in-append x y
meetings-in-append (of_cut k ∷ x) y = meetings-in-append x y

module _ (s : List ℕ) where
  -- a meeting is a bucket and a step, and each stands once
  once : AnyTwo (λ x y. x ≡ y → ⊥) (meetings s)
  unfolding meetings chain_meetings AnyTwo
  once =
      any-two-joined _ (chain_meetings s) (buckets s)
      (λ k l. any-two-joined _ (λ n. meeting k n ∷ []) (met s k) (λ n g. (tt, tt)) (λ m n g o. ((λ e. absurd (omega (arith, ap (λ (x : Meeting). x.step) e)), tt), tt)))
      (λ j k l g.
      each-joined _ _ (met s j)
      (λ m o. (each-joined _ _ (met s k) (λ n p. (λ e. absurd (omega (arith, ap (λ (x : Meeting). x.bucket) e)), tt)), tt)))

  -- the icons, step by step
  abbrev icons_of : List Meeting → List Icon
  icons_of ms = map (λ m. icon s (met_record s m)) (those (is_kept s) ms)

  icons-of-append : (x y : List Meeting) → icons_of (x ++ y) ≡ icons_of x ++ icons_of y
  icons-of-append x y = rw (those-append (is_kept s) x y) (map-append _ (those (is_kept s) x) (those (is_kept s) y))

  icons-of-none : icons_of [] ≡ []
  icons-of-none = rw (those-none (is_kept s))

  icon-of-one : (k n : ℕ) → icons_of (meeting k n ∷ []) ≡ if_kept (fate s k n) (icon s (link s k n) ∷ []) []
  icon-of-one k n = rw (those-one (is_kept s) (meeting k n)) (go (fate s k n).number refl)
    where
      go : (x : ℕ) → (fate s k n).number ≡ x
          → map (λ m. icon s (met_record s m)) (if eqb (fate s k n).number 0 then meeting k n ∷ [] else []) ≡ if_kept (fate s k n) (icon s (link s k n) ∷ []) []
      go zero e = rw e
      go (suc x) e = rw (e, eqb-suc-zero x)

  pub icons-kept : icons s ≡ icons_of (meetings s)
  unfolding icons chain_icons
  icons-kept =
      sym (over-meetings s icons_of icons-of-none icons-of-append ∙ joined_same _ _ (buckets s) (λ k l. joined_same _ _ (met s k) (λ n g. icon-of-one k n)))

  -- the entries, step by step
  path-meetings : meetings_in (path_entries s) ≡ []
  unfolding path_entries meetings_in
  path-meetings = through meetings_in refl meetings-in-append _ (directories s) ∙ joined-none _ (directories s) (λ i l. go (path_fault s i).number i)
    where
      go : (x i : ℕ) → meetings_in (elim x as (λ n. List Entry) [ zero ↦ [] | suc n ↦ of_path i ∷ [] ]) ≡ []
      go zero i = refl
      go (suc x) i = refl

  map-self : (ms : List Meeting) → map (λ m. m) ms ≡ ms
  map-self [] = refl
  map-self (m ∷ ms) = ap (λ l. m ∷ l) (map-self ms)

  entries-gone : meetings_in (entries s) ≡ those (is_gone s) (meetings s)
  unfolding entries meetings_in
  entries-gone =
      meetings-in-append (path_entries s) _
      ∙ ap (λ l. l ++ meetings_in (joined (chain_entries s) (buckets s))) path-meetings
      ∙ of-chains s meetings_in refl meetings-in-append (λ p. refl) (λ k. refl) (λ m. m) (λ k n go. refl)
      ∙ map-self _

  -- the rows, step by step
  abbrev rows_of : List Entry → List Fault
  rows_of es = those (λ (f : Fault). meeting_number f.number) (map (row s) es)

  rows-of-append : (x y : List Entry) → rows_of (x ++ y) ≡ rows_of x ++ rows_of y
  rows-of-append x y = rw (map-append (row s) x y) (those-append _ (map (row s) x) (map (row s) y))

  image-row : (p : ℕ) → rows_of (of_image p ∷ []) ≡ []
  unfolding row those meeting_number
  image-row p = go (valid_image s p)
    where
      go : (b : Bool) → those (λ (f : Fault). meeting_number f.number) (unless b 11 p ∷ []) ≡ []
      go true = refl
      go false = refl

  rows-gone : rows_of_meetings s ≡ map (fate_of s) (those (is_gone s) (meetings s))
  unfolding entries row those meeting_number
  rows-gone =
      ap rows_of (drop-append_seam (path_entries s) _)
      ∙ of-chains s rows_of refl rows-of-append image-row (λ k. rw (cut-number s k)) (fate_of s)
      (λ k n gone. rw (fate-number s k n gone))

  pub accounts : Accounts s
  accounts =
      let all = those-or-not (is_kept s) (meetings s) in
      let kept = ap length icons-kept ∙ length-map (those (is_kept s) (meetings s)) _ in
      record {
        once = once;
        kept = icons-kept;
        gone = entries-gone;
        rows = rows-gone;
        total = omega (arith, ap length entries-gone);
        total-by-number = omega (arith, ap length rows-gone ∙ length-map (those (is_gone s) (meetings s)) (fate_of s));
      }
