-- Where the parts of a squeezed cache are: the records before the strings, and all within its size.
use Prim.Native.Nat.{ℕ, zero, suc, ◌+◌, ◌*◌, ◌≤◌, ◌<◌}
use Rattle.std.specs.Prelude.{◌≡◌, List, length}
use Rattle.std.proofs.Common.{ap, add-one}
use native.Mathlib.Omega.{arith}
use Rattle.std.proofs.Math.ListN.{length-append}
use Rattle.format.specs.Bytes.{joined}
use Rattle.format.specs.Header.{buckets, directories}
use Rattle.catalogue.specs.Written.{records_begin}
use Rattle.squeeze_spec.specs.Uses.{added, stored_once}
use Rattle.squeeze_spec.specs.Packed.{nth_string, string_part, nth_list, packed_strings}
use Rattle.squeeze_spec.specs.Squeezed.{contents}
use Rattle.squeeze_spec.specs.Call.{squeezed_size}
use Rattle.squeeze_spec.proofs.Laws.Uses.{use-same, stored_grows, stored-inside}
use Rattle.squeeze_spec.proofs.Laws.Contents.{path-count}
use Rattle.squeeze_paths.specs.Pathed.{strings_up_to}
use Rattle.squeeze_texts.specs.Named.{string_of}
use Rattle.squeeze_records.specs.Recorded.{places, strings, icons}

module _ (s : List ℕ) where
  pub records-before : records_begin (buckets s) + 12 * icons s ≤ strings s
  records-before = omega arith

  -- where a list is
  pub list-short : (i : ℕ) → i < icons s → (places s).images-at i ≤ strings s
  list-short i l =
      let part = nth_list (contents s) in
      omega (arith, stored-inside part part l (use-same part i))

  -- the strings of all icons
  pub all-strings : packed_strings (contents s) ≡ strings_up_to s (string_of s (icons s))
  all-strings = ap (λ n. strings_up_to s (n + icons s)) (path-count s)

  pub size_is : squeezed_size s ≡ strings s + length (strings_up_to s (string_of s (icons s)))
  size_is = ap (λ t. strings s + length t) all-strings

  -- those of the first i, and of one more
  pub strings-step : (i : ℕ) → length (strings_up_to s (string_of s i)) ≤ length (strings_up_to s (string_of s (i + 1)))
  unfolding joined
  strings-step i =
      let key = nth_string (contents s) in
      let part = string_part (contents s) in
      let next : string_of s (i + 1) ≡ suc (string_of s i) = omega arith in
      rw next (omega (arith, length-append (stored_once key part (string_of s i)) (added key part (string_of s i))))

  pub paths-within : (n : ℕ) → length (strings_up_to s (directories s)) ≤ length (strings_up_to s (string_of s n))
  paths-within zero = let e : string_of s 0 ≡ directories s = omega arith in rw e (omega arith)
  paths-within (suc n) = omega (arith, paths-within n, strings-step n, ap (λ m. length (strings_up_to s (string_of s m))) (add-one n))

  pub strings-within : (i : ℕ) → i < icons s → length (strings_up_to s (string_of s (i + 1))) ≤ length (strings_up_to s (string_of s (icons s)))
  unfolding joined
  strings-within i l =
      let key = nth_string (contents s) in
      let part = string_part (contents s) in
      let next : string_of s (i + 1) ≡ suc (string_of s i) = omega arith in
      let below : string_of s i < string_of s (icons s) = omega arith in
      rw next (omega (arith, stored_grows key part (string_of s (icons s)) below, length-append (stored_once key part (string_of s i)) (added key part (string_of s i))))
