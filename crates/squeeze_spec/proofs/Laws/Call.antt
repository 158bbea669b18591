-- Request 12 keeps what it promises.
use Rattle.std.specs.Prelude.{ℕ, ◌≤◌, ◌<◌, ◌≡◌, List, [], map, length, get_or}
use Rattle.std.proofs.Common.{sym, ap, ◌∙◌, arith}
use Rattle.format.specs.Fault.{no_fault}
use Rattle.format.specs.Header.{buckets, directories, path_of}
use Rattle.format.specs.Chain.{all_records}
use Rattle.format.specs.declared.CheckAnswer.{CheckAnswer}
use Rattle.format.specs.declared.Reading.TheVariants.{Short}
use Rattle.catalogue.specs.Catalogue.{Catalogue, Each, Good}
use Rattle.catalogue.specs.Fields.{AreBytes}
use Rattle.catalogue.specs.LaidOut.{Lays}
use Rattle.catalogue.specs.Listed.{icon_of}
use Rattle.catalogue.proofs.Laws.Allowed.{each_at}
use Rattle.catalogue.proofs.Laws.Elements.{each_map}
use Rattle.catalogue.proofs.Laws.Rising.{Rises}
use Rattle.catalogue.proofs.Laws.Laid.{laid}
use Rattle.catalogue.proofs.Laws.Kept.{path-stands}
use Rattle.catalogue.proofs.Laws.Serves.{lays-accepted, serves}
use Rattle.catalogue.proofs.Laws.Listed.{listed_back}
use Rattle.catalogue.proofs.Laws.Call.{answered, leaves-written, refused}
use Rattle.squeeze_spec.specs.Packed.{packed_places, packed_size}
use Rattle.squeeze_spec.specs.Squeezed.{kept_records, contents, squeezed}
use Rattle.squeeze_spec.specs.Call.{data_fault, squeezed_size, squeeze_fault, squeeze, squeeze_leaves}
use Rattle.squeeze_spec.specs.Promise.{Faithful, Stays, SqueezePromise}
use Rattle.squeeze_spec.proofs.Laws.Packed.{packed-length, packed-lays}
use Rattle.squeeze_spec.proofs.Laws.Kept.{kept-picked, kept-apart}
use Rattle.squeeze_spec.proofs.Laws.Contents.{contents-icons, contents-paths, path-count, some-bucket, contents-good, contents-rise}
use Rattle.squeeze_spec.proofs.Laws.Lookups.{same-lookups}
use Rattle.squeeze_spec.proofs.Laws.Again.{all_stay, contents-back}
use Rattle.squeeze_spec.proofs.Laws.Data.{PlainIcon, plain-records, records-plain}
use Rattle.squeeze_spec.proofs.Laws.Elements.{at_each, each-unmap, firsts_at}
use Rattle.squeeze_spec.proofs.Laws.Right.{Right, squeeze-right, right-squeeze}

module _ {s : List ℕ} {room : ℕ} (right : Right s room) (small : AreBytes s) where
  abbrev c : Catalogue
  c = contents s

  abbrev b : ℕ
  b = buckets s

  abbrev t : List ℕ
  t = squeezed s

  good : Good c
  good = contents-good right.accepted small

  some : 0 < b
  some = some-bucket right.accepted

  lays : Lays t c b (packed_places c b)
  unfolding squeezed
  lays = packed-lays c b right.not-too-long

  rises : Rises (packed_places c b).record-at (length c.icons)
  rises i j l g = omega arith

  stay : kept_records t ≡ all_records Short t
  stay = all_stay good lays some rises (contents-rise right.accepted)

  pub faithful : Faithful s t
  faithful = record {
    good = good;
    lays = lays;
    serves = serves good lays some;
    lists = listed_back good lays some rises;
    names-once = rw stay at (kept-apart (lays-accepted good lays some));
    all_stay = stay;
    same-buckets = (laid good lays).buckets-are;
    same-directories = (laid good lays).directories-are ∙ path-count s;
    same-paths = λ i l.
        path-stands good lays some (omega (arith, path-count s))
        ∙ ap (λ ps. get_or ps i []) (contents-paths s) ∙ firsts_at (path_of s) (directories s) [] i l;
    same-lookups = same-lookups right.accepted good lays;
  }

  back : contents t ≡ c
  back = contents-back good lays some rises (contents-rise right.accepted)

  same-buckets : buckets t ≡ b
  same-buckets = (laid good lays).buckets-are

  pub again : squeezed t ≡ t
  unfolding squeezed
  again = rw (back, same-buckets)

  -- no icon has image data, in the one cache and so in the other
  plain : Each PlainIcon c.icons
  plain =
      rw (contents-icons s) (each_map PlainIcon (icon_of s) (kept_records s)
      (at_each (λ r. PlainIcon (icon_of s r)) (kept_records s) 0
      (λ j l.
      let (i, h) = (kept-picked right.accepted).one j l in
      rw h.gives (each_at (λ r. PlainIcon (icon_of s r)) (all_records Short s) 0 i (plain-records s (all_records Short s) right.plain) h.below))))

  plain-again : data_fault t (all_records Short t) ≡ no_fault
  plain-again =
      let icons : map (icon_of t) (all_records Short t) ≡ c.icons =
      ap (map (icon_of t)) (sym (all_stay good lays some rises (contents-rise right.accepted))) ∙ sym (contents-icons t)
      ∙ ap (λ (x : Catalogue). x.icons) back in
      records-plain t (all_records Short t) (each-unmap PlainIcon (icon_of t) (all_records Short t) (rw icons plain))

  pub squeezed-length : length t ≡ squeezed_size s
  unfolding squeezed
  squeezed-length = packed-length c b

  size-again : squeezed_size t ≡ length t
  size-again = ap (λ x. packed_size x (buckets t)) back ∙ ap (packed_size c) same-buckets ∙ sym squeezed-length

  none-again : (n : ℕ) → length t ≤ n → squeeze_fault t n ≡ no_fault
  none-again n l =
      right-squeeze t n (ap (λ (a : CheckAnswer). a.number) (serves good lays some).accepts) (rw same-buckets right.buckets-few) plain-again
      (omega (arith, size-again)) (omega (arith, size-again, squeezed-length, right.not-too-long))

  pub stays : Stays t
  unfolding squeeze squeeze_leaves
  stays = record {
    answer = λ room l. answered (none-again room l) ∙ rw size-again;
    leaves = λ lent l. leaves-written (squeezed t) lent (none-again (length lent) l) ∙ rw again;
  }

pub squeeze-promise : SqueezePromise
unfolding squeeze squeeze_leaves
squeeze-promise = record {
  squeezes = λ s lent small e.
      let right = squeeze-right s (length lent) e in
      record {
        answer = answered right.none ∙ rw (squeezed-length right small);
        leaves = leaves-written (squeezed s) lent right.none;
        faithful = faithful right small;
        again = again right small;
        stays = stays right small;
      };
  refuses = λ s lent. refused (squeeze_fault s (length lent)) (squeezed s) lent (squeezed_size s);
}
