-- The list of the icon at hand, as a key.
use Rattle.std.specs.Prelude.{ℕ, zero, suc, ◌+◌, ◌*◌, ◌^◌, ◌≤◌, ◌<◌, ◌≡◌, length, take}
use Rattle.std.proofs.Common.{sym, ap, ◌∙◌, mul-suc, mul-le-mul, arith, length-append, take_at}
use mathlib.Core.List.{List, flat_map}
use Rattle.format.specs.Bytes.{bytes}
use Rattle.format.specs.Layout.{entries_at}
use Rattle.format.specs.Number.{be}
use Rattle.format.specs.Record.{images_at, images}
use Rattle.format.specs.Words.{Keeps, Accepted}
use Rattle.format.specs.declared.Reading.TheVariants.{Short}
use Rattle.format.proofs.Laws.Bytes.{bytes-length}
use Rattle.format.proofs.Laws.Links.{keeps-listed}
use Rattle.catalogue.specs.Catalogue.{Icon, image_bytes}
use Rattle.catalogue.specs.Fields.{AreBytes, image_at, image_end}
use Rattle.catalogue.specs.LaidOut.{list_bytes}
use Rattle.catalogue.specs.Listed.{icon_of}
use Rattle.catalogue.proofs.Laws.Images.{images-length}
use Rattle.catalogue.proofs.Laws.Rows.{row-length}
use Rattle.keys.specs.Key.{key_at}
use Rattle.keys.specs.declared.Kind.TheVariants.{Images}
use Rattle.squeeze_spec.specs.Packed.{nth_list}
use Rattle.squeeze_spec.specs.Squeezed.{kept_records, contents}
use Rattle.squeeze_spec.proofs.Laws.Kept.{kept-on-chain}
use Rattle.squeeze_spec.proofs.Laws.Contents.{icon-count, icon-is}
use Rattle.squeeze_spec.proofs.Laws.There.{list-there}
use Rattle.squeeze_icons.specs.Staying.{IconAt}
use Rattle.squeeze_sizes.specs.Distinct.{distinct}
use Rattle.squeeze_sizes.specs.Counting.{ListAt}
use Rattle.squeeze_sizes.specs.Laws.Distinct.{distinct_none, distinct-most}

-- a list takes no more bytes than the cache
module _ {s : List ℕ} {k r : ℕ} (h : Keeps Short s k r) where
  list-size : length (list_bytes (icon_of s r)) ≡ 4 + 8 * images s r
  list-size =
      let is = (icon_of s r).images in
      omega (
        arith,
        length-append (bytes 4 (length is)) (flat_map image_bytes is),
        bytes-length 4 (length is),
        images-length is,
        row-length (image_at s) image_end (images s r) (entries_at (images_at s r)),
      )

  list-short : length (list_bytes (icon_of s r)) ≤ length s
  list-short = omega (arith, list-size, keeps-listed h)

module _ {s : List ℕ} (acc : Accepted Short s) where
  each-short : (i : ℕ) → i < length (contents s).icons → length (nth_list (contents s) i) ≤ length s
  each-short i l =
      let below : i < length (kept_records s) = omega (arith, icon-count s) in
      let (k, m, a, g, e, keeps) = kept-on-chain acc i below in
      omega (arith, ap (λ (x : Icon). length (list_bytes x)) (icon-is s i below), list-short keeps)

  few_bytes : (n : ℕ) → n ≤ length (contents s).icons → distinct (nth_list (contents s)) 0 n ≤ length s * n
  few_bytes zero l = omega (arith, distinct_none (nth_list (contents s)) 0)
  few_bytes (suc n) l =
      let z : 0 + n ≡ n = omega arith in
      let more : length s * suc n ≡ length s * n + length s = mul-suc (length s) n in
      omega (arith, few_bytes n (omega arith), distinct-most (nth_list (contents s)) 0 n, ap (λ i. length (nth_list (contents s) i)) z, each-short n l)

  pub lists-few : length s ≤ 2 ^ 24 → length (contents s).icons ≤ 2 ^ 24 → distinct (nth_list (contents s)) 0 (length (contents s).icons) ≤ 2 ^ 48
  lists-few short few =
      let most : length s * length (contents s).icons ≤ 2 ^ 24 * 2 ^ 24 = mul-le-mul short few in
      omega (arith, few_bytes (length (contents s).icons) (omega arith))

pub icon-list-inside : {s : List ℕ} {i k r p : ℕ} → IconAt s i k r → p ≡ be 4 s (r + 8) → p + (4 + 8 * be 4 s p) ≤ length s
icon-list-inside h read = rw read (omega (arith, keeps-listed h.keeps))

module _ {s : List ℕ} (small : AreBytes s) {i k r p : ℕ} (h : IconAt s i k r) (read : p ≡ be 4 s (r + 8)) where
  list-is : key_at Images s (images_at s r) ≡ list_bytes (icon_of s r)
  list-is =
      let there = list-there s small h.keeps in
      ap (take (4 + 8 * images s r)) there.there ∙ take_at (list_bytes (icon_of s r)) there.rest (4 + 8 * images s r) (list-size h.keeps)

  pub icon-list : ListAt s i p
  icon-list =
      let own = ap (λ (x : Icon). list_bytes x) h.is in
      rw read (record {
        is = list-is ∙ sym own;
        size = ap length own ∙ list-size h.keeps;
        inside = omega (arith, keeps-listed h.keeps);
      })
