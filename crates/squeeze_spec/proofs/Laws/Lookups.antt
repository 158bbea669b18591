-- A cache that lays out what an accepted cache holds answers each lookup as that one does: the
-- first record of a name on its chain is the one that stays.
use Rattle.std.specs.Prelude.{ℕ, ◌+◌, ◌*◌, ◌≤◌, ◌<◌, ◌≡◌, refl, Bool, true, false, length, drop, get_or}
use Rattle.std.proofs.Common.{sym, ap, ◌∙◌, mod-lt, arith}
use mathlib.Core.List.{List, ◌++◌, flat_map}
use Rattle.std.proofs.Math.Decide.{dec_lt}
use Rattle.format.specs.Layout.{entries_at}
use Rattle.format.specs.String.{hash, allowed}
use Rattle.format.specs.Header.{buckets}
use Rattle.format.specs.Record.{name_of, bucket_of, images_at, images}
use Rattle.format.specs.Answer.{looked_up}
use Rattle.format.specs.Call.{query_fault, lookup, found_answer, answer_words}
use Rattle.format.specs.Words.{link, Holds, Accepted, NoneBelow}
use Rattle.format.specs.declared.LookupAnswer.{LookupAnswer}
use Rattle.format.proofs.Laws.Faults.{same_number}
use Rattle.format.proofs.Laws.Rules.{tables-keep-header}
use Rattle.format.proofs.Laws.Links.{chain-on, keeps-bucket}
use Rattle.format.proofs.Laws.Lookup.{query-allowed, found-enough, found-short}
use Rattle.format.proofs.Laws.Demand.{demand3}
use Rattle.format.proofs.Laws.LookupAnswers.{lookup-answers}
use Rattle.format.specs.declared.Reading.TheVariants.{Short}
use Rattle.catalogue.specs.Catalogue.{Catalogue, Icon, Good}
use Rattle.catalogue.specs.LaidOut.{nth_icon, Places, Lays}
use Rattle.catalogue.specs.Fields.{image_at, image_end}
use Rattle.catalogue.specs.Serves.{words_of, GivesIcon, Serves}
use Rattle.catalogue.specs.Listed.{icon_of}
use Rattle.catalogue.proofs.Laws.Rows.{row-length}
use Rattle.catalogue.proofs.Laws.Images.{words-of-images}
use Rattle.catalogue.proofs.Laws.Serves.{serves, lays-accepted}
use Rattle.squeeze_spec.specs.Uses.{first_with}
use Rattle.squeeze_spec.specs.Promise.{SameLookup}
use Rattle.squeeze_spec.specs.Squeezed.{kept_records, contents}
use Rattle.squeeze_spec.proofs.Laws.Uses.{first-with}
use Rattle.squeeze_spec.proofs.Laws.Kept.{kept-on-chain, met-kept}
use Rattle.squeeze_spec.proofs.Laws.Contents.{icon-count, icon-is, some-bucket}
use Rattle.squeeze_spec.proofs.Laws.Same.{Gives, Lacks, same-given, same-lacking, lacks-by, unallowed}
use Rattle.format.proofs.Laws.InOrder.{chain-lengths}
use Rattle.format.specs.Places.{chain_length}

-- a lookup that meets the record r gives its images
gives-met : (s name : List ℕ) (r o : ℕ) → ((room : ℕ) → lookup s name room ≡ found_answer s room r o) → Gives s name (icon_of s r).images
unfolding answer_words
gives-met s name r o meets =
    let m = images s r in
    let count : length (icon_of s r).images ≡ m = row-length (image_at s) image_end m (entries_at (images_at s r)) in
    let enough : (room : ℕ) → 2 * length (icon_of s r).images ≤ room → lookup s name room ≡ looked_up 0 r m o =
    λ room l. meets room ∙ found-enough s room r o (omega arith) in
    let short : (room : ℕ) → room < 2 * length (icon_of s r).images → lookup s name room ≡ looked_up 14 (images_at s r) m o =
    λ room l. meets room ∙ found-short s room r o (omega arith) in
    record {
      enough = λ room l. (ap (λ (a : LookupAnswer). a.number) (enough room l), ap (λ (a : LookupAnswer). a.images) (enough room l) ∙ sym count);
      short = λ room l. (ap (λ (a : LookupAnswer). a.number) (short room l), ap (λ (a : LookupAnswer). a.images) (short room l) ∙ sym count);
      words = λ ws l.
          ap (answer_words s ws) (enough (length ws) l)
          ∙ ap (λ xs. xs ++ drop (2 * m) ws) (words-of-images m s (entries_at (images_at s r)))
          ∙ ap (λ n. flat_map words_of (icon_of s r).images ++ drop (2 * n) ws) (sym count);
    }

-- and so does one that finds an icon of a catalogue
gives_found : {s : List ℕ} {c : Catalogue} {q : Places} (i : ℕ) → GivesIcon s c q i → Gives s (nth_icon c i).name (nth_icon c i).images
gives_found i f = record {
  enough = λ room l. (ap (λ (a : LookupAnswer). a.number) (f.enough room l), ap (λ (a : LookupAnswer). a.images) (f.enough room l));
  short = λ room l. (ap (λ (a : LookupAnswer). a.number) (f.short room l), ap (λ (a : LookupAnswer). a.images) (f.short room l));
  words = f.words;
}

-- a lookup in an accepted cache walks the chain of the name's bucket, which holds
module _ {s : List ℕ} (acc : Accepted Short s) (name : List ℕ) (asked : allowed name ≡ true) where
  abbrev k : ℕ
  k = bucket_of s name

  asks : (query_fault s name).number ≡ 0
  asks = same_number (query-allowed s name asked) ∙ tables-keep-header s acc.tables-kept

  own-bucket : k < buckets s
  own-bucket = mod-lt (hash name) (some-bucket acc)

  own-chain : Holds Short s k (chain_length s k)
  own-chain = chain-lengths acc k own-bucket

  lacks : NoneBelow s name k (chain_length s k) → Lacks s name 30
  lacks none = lacks-by (omega arith) 0 (chain_length s k) (λ room. ((lookup-answers s name room).walks asks).absent (chain_length s k) own-chain none)

  absent-lacks : (lookup s name 0).number ≡ 30 → Lacks s name 30
  absent-lacks e =
      lacks (λ m l same. ((demand3 Short s).looks-up name 0 acc asked).absent.0 e k m (link s k m) own-bucket (chain-on own-chain l) same)

  gives : (m : ℕ) → m < chain_length s k → NoneBelow s name k m → name_of s (link s k m) ≡ name → Gives s name (icon_of s (link s k m)).images
  gives m l none same =
      gives-met s name (link s k m) (m + 1)
      (λ room. ((lookup-answers s name room).walks asks).found m (λ i g. own-chain.keeps i (omega arith)) none (own-chain.keeps m l) same)

module _ {s t : List ℕ} {q : Places} (acc : Accepted Short s) (good : Good (contents s)) (lays : Lays t (contents s) (buckets s) q) where
  served : Serves t (contents s) (buckets s) q
  served = serves good lays (some-bucket acc)

  module _ (name : List ℕ) (asked : allowed name ≡ true) where
    -- the name is borne: the first record on its chain that bears it stays
    found : (m : ℕ) → m < chain_length s (bucket_of s name) → NoneBelow s name (bucket_of s name) m → name_of s (link s (bucket_of s name) m) ≡ name
        → SameLookup s t name
    found m l none same =
        let r = link s (bucket_of s name) m in
        let (j, o, e) = met-kept acc (own-bucket acc name asked) l (rw same none) in
        let icon : nth_icon (contents s) j ≡ icon_of s r = icon-is s j o ∙ ap (icon_of s) e in
        let there = gives_found j (served.gives j (omega (arith, icon-count s))) in
        let named : Gives t name (icon_of s r).images = rw (icon, same) at there in
        same-given (gives acc name asked m l none same) named

    -- it is not: then no icon bears it
    absent : NoneBelow s name (bucket_of s name) (chain_length s (bucket_of s name)) → SameLookup s t name
    absent none =
        let nowhere : (i : ℕ) → i < length (contents s).icons → (nth_icon (contents s) i).name ≡ name → ⊥ = λ i l e.
        let below : i < length (kept_records s) = omega (arith, icon-count s) in
        let (k, m, a, g, h, keeps) = kept-on-chain acc i below in
        let same : name_of s (get_or (kept_records s) i 0) ≡ name = sym (ap (λ (x : Icon). x.name) (icon-is s i below)) ∙ e in
        let home : k ≡ bucket_of s name = sym (keeps-bucket keeps) ∙ ap (bucket_of s) same in
        none m (rw home at g) (ap (λ j. name_of s (link s j m)) (sym home) ∙ sym (ap (name_of s) h) ∙ same) in
        same-lacking (lacks acc name asked none) (absent-lacks (lays-accepted good lays (some-bucket acc)) name asked (served.absent name 0 asked nowhere))

    asked-for : SameLookup s t name
    asked-for =
        let n = chain_length s (bucket_of s name) in
        let key : ℕ → List ℕ = λ m. name_of s (link s (bucket_of s name) m) in
        let f = first-with key name n in
        elim (dec_lt (first_with key name n) n) [
          | yes l ↦ found (first_with key name n) l f.none_before (f.has l)
          | no l ↦ absent (λ m g. f.none_before m (omega (arith, f.most)))
        ]

  pub same-lookups : (name : List ℕ) → SameLookup s t name
  same-lookups name = go (allowed name) refl
    where
      go : (b : Bool) → allowed name ≡ b → SameLookup s t name
      go true e = asked-for name e
      go false e = same-lacking (unallowed s name e) (unallowed t name e)
