-- A cache that lays out a good catalogue serves it.
use Rattle.std.specs.Prelude.{ℕ, ◌+◌, ◌*◌, ◌≤◌, ◌<◌, ◌≡◌, true, get_or}
use Rattle.std.proofs.Common.{sym, ◌∙◌, mod-lt, arith}
use Rattle.std.proofs.Math.Path.{ap}
use mathlib.Core.List.{List, [], ◌++◌, flat_map}
use Rattle.std.proofs.Math.ListN.{length, drop, get_or-map}
use Rattle.std.proofs.lemmas.List.{length-map}
use Rattle.format.specs.String.{hash, allowed}
use Rattle.format.specs.Header.{buckets}
use Rattle.format.specs.Record.{name_of, bucket_of, images_at, images, image_words}
use Rattle.format.specs.Answer.{looked_up, accepted}
use Rattle.format.specs.Call.{check, lookup, found_answer, answer_words}
use Rattle.format.specs.Words.{link, NoneBelow, Accepted, Lengths, sum, greatest}
use Rattle.format.proofs.Laws.Faults.{same_number}
use Rattle.format.proofs.Laws.Rules.{tables-keep-header}
use Rattle.format.proofs.Laws.Links.{on_chain, one-step}
use Rattle.format.proofs.Laws.Lookup.{query-allowed, found-enough, found-short}
use Rattle.format.proofs.Laws.LookupAnswers.{lookup-answers}
use Rattle.format.proofs.Laws.Demand.{demand3, check-answers}
use Rattle.format.specs.declared.Reading.TheVariants.{Short}
use Rattle.catalogue.specs.Catalogue.{Icon, Catalogue, Good, NoneTwice, names, icon_is}
use Rattle.catalogue.specs.LaidOut.{nth_icon, icon_bucket, Places, Lays}
use Rattle.catalogue.specs.Serves.{words_of, GivesIcon, count_in, fullest, Serves}
use Rattle.catalogue.proofs.Laws.Laid.{laid}
use Rattle.catalogue.proofs.Laws.Images.{words-of-images}
use Rattle.catalogue.proofs.Laws.Kept.{icon-good, tables-kept, name-stands, list-stands, count-stands, images-stand}
use Rattle.catalogue.proofs.Laws.Chains.{IconAtStep, ChainOf, chain-of}
use Rattle.catalogue.proofs.Laws.Counts.{counted-once}

-- icons with one name are one icon
module _ (d : Catalogue) (apart : NoneTwice (names d.icons)) where
  named : (i : ℕ) → get_or (names d.icons) i [] ≡ (nth_icon d i).name
  named i = get_or-map (λ (x : Icon). x.name) d.icons i (icon_is [] [])

  not-before : {i j : ℕ} → j < length d.icons → (nth_icon d i).name ≡ (nth_icon d j).name → i < j → ⊥
  not-before {i} {j} l e h = apart i j h (omega (arith, length-map d.icons (λ (x : Icon). x.name))) (named i ∙ e ∙ sym (named j))

  pub one-icon : {i j : ℕ} → i < length d.icons → j < length d.icons → (nth_icon d i).name ≡ (nth_icon d j).name → i ≡ j
  one-icon {i} {j} l g e =
      let a = not-before g e in
      let u = not-before l (sym e) in
      omega arith

module _ {s : List ℕ} {d : Catalogue} {b : ℕ} {q : Places} (good : Good d) (lays : Lays s d b q) (some : 0 < b) where
  buckets-are : buckets s ≡ b
  buckets-are = (laid good lays).buckets-are

  chain : {k : ℕ} → k < buckets s → ChainOf s d b q k
  chain l = chain-of good lays some (omega (arith, buckets-are))

  pub lays-accepted : Accepted Short s
  lays-accepted = record { tables-kept = tables-kept good lays some; lower = λ k l. ((chain l).steps, (chain l).holds) }

  -- the chains have together as many records as there are icons
  abbrev pub counts : ℕ → ℕ
  counts k = count_in (icon_bucket d b) k 0 (length d.icons)

  pub counts-are : Lengths Short s (buckets s) counts
  counts-are k l = let w = chain l in rw w.counted at w.holds

  pub all-counted : sum counts (buckets s) ≡ length d.icons
  all-counted =
      rw buckets-are (counted-once (icon_bucket d b) b (λ i. mod-lt (hash (nth_icon d i).name) some) 0 (length d.icons))

  check-counts : check Short s ≡ accepted (length d.paths) (length d.icons) (fullest d b)
  check-counts =
      (check-answers Short s).accepts lays-accepted counts counts-are
      ∙ rw ((laid good lays).directories-are, all-counted) (ap (λ n. accepted (length d.paths) (length d.icons) (greatest counts n)) buckets-are)

  -- the record at a step bears its icon's name
  step-name : {k m i : ℕ} → IconAtStep s d b q k m i → name_of s (link s k m) ≡ (nth_icon d i).name
  step-name a = ap (name_of s) a.named ∙ name-stands good lays some a.below

  module _ (i : ℕ) (l : i < length d.icons) where
    abbrev name : List ℕ
    name = (nth_icon d i).name

    own : ChainOf s d b q (bucket_of s name)
    own = chain (mod-lt (hash name) (omega (arith, buckets-are)))

    home : icon_bucket d b i ≡ bucket_of s name
    home = rw buckets-are

    met : (m : ℕ) × (m < own.steps) × (link s (bucket_of s name) m ≡ q.record-at i)
    met = own.step_of i l home

    none_before : NoneBelow s name (bucket_of s name) met.0
    none_before m h e =
        let (j, a) = own.icon-at m (omega (arith, met.1)) in
        let same : j ≡ i = one-icon d good.none-twice a.below l (sym (step-name a) ∙ e) in
        let one : m ≡ met.0 = one-step own.holds (omega (arith, met.1)) met.1 (a.named ∙ ap q.record-at same ∙ sym met.2) in
        omega arith

    meets : (room : ℕ) → lookup s name room ≡ found_answer s room (q.record-at i) (met.0 + 1)
    meets room =
        let asks = same_number (query-allowed s name (icon-good good lays some l).named) ∙ tables-keep-header s (tables-kept good lays some) in
        let h = own.holds.keeps in
        let bears : name_of s (link s (bucket_of s name) met.0) ≡ name = ap (name_of s) met.2 ∙ name-stands good lays some l in
        ((lookup-answers s name room).walks asks).found met.0 (λ m u. h m (omega (arith, met.1))) none_before (h met.0 met.1) bears
        ∙ ap (λ r. found_answer s room r (met.0 + 1)) met.2

    count : images s (q.record-at i) ≡ length (nth_icon d i).images
    count = count-stands good lays some l

    enough : (room : ℕ) → 2 * length (nth_icon d i).images ≤ room
        → lookup s name room ≡ looked_up 0 (q.record-at i) (length (nth_icon d i).images) (met.0 + 1)
    enough room h = meets room ∙ found-enough s room (q.record-at i) (met.0 + 1) (omega (arith, count)) ∙ rw count

    pub found : GivesIcon s d q i
    unfolding answer_words
    found = record {
      opened = met.0 + 1;
      enough = enough;
      short = λ room h.
          meets room ∙ found-short s room (q.record-at i) (met.0 + 1) (omega (arith, count)) ∙ rw (count, list-stands good lays some l);
      words = λ ws h.
          ap (answer_words s ws) (enough (length ws) h)
          ∙ ap (λ xs. xs ++ drop (2 * length (nth_icon d i).images) ws)
          (ap (λ m. image_words m s (images_at s (q.record-at i) + 4)) (sym count)
          ∙ words-of-images (images s (q.record-at i)) s (images_at s (q.record-at i) + 4)
          ∙ ap (flat_map words_of) (images-stand good lays some l));
    }

  pub absent : (name : List ℕ) (room : ℕ) → allowed name ≡ true → ((i : ℕ) → i < length d.icons → (nth_icon d i).name ≡ name → ⊥)
      → (lookup s name room).number ≡ 30
  absent name room a none =
      ((demand3 Short s).looks-up name room lays-accepted a).absent.1
      (λ k n r l on e.
      let w = chain l in
      let (i, h) = w.icon-at n (on_chain w.holds on).0 in
      none i h.below (sym (step-name h) ∙ ap (name_of s) on.named ∙ e))

  pub serves : Serves s d b q
  serves = record { accepts = check-counts; gives = found; absent = absent }
