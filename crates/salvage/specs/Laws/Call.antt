-- The answer, and what is left in both buffers, by what is refused first.
use Rattle.std.specs.Prelude.{ℕ, ◌/◌, ◌≤◌, ◌<◌, ◌≡◌, ◌⊎◌, List, ◌++◌, ◌&&◌, Result, Ok, Err, IfErr}
use Rattle.std.proofs.Math.Path.{ap}
use Rattle.std.proofs.Common.{◌∙◌, inl, inr, le-leb, lit≤, arith}
use Rattle.std.proofs.Math.Bool.{false, and-false}
use Rattle.std.proofs.Math.Nat.{mul-div_right}
use Rattle.std.proofs.lemmas.Bool.{lt-leb}
use Rattle.std.proofs.Math.ListN.{length, drop}
use Rattle.std.proofs.Math.Dec.{leb}
use Rattle.format.specs.Bytes.{put}
use Rattle.format.specs.Fault.{fault, no_fault}
use Rattle.format.specs.Header.{header_fault}
use Rattle.format.specs.declared.Fault.{Fault}
use Rattle.format.proofs.Laws.Faults.{or_else-first, or_else-next, kept-passes, broken-speaks, unless-kept, unless-broken, broken-takes, also}
use Rattle.format.proofs.Laws.Put.{put_front}
use Rattle.salvage_spec.specs.Salvage.{icons, entries}
use Rattle.salvage_spec.specs.Call.{salvage_is, salvage_bytes, salvage_words, salvage_fault, salvage, bytes_left_of, words_left_of}
use Rattle.salvage_spec.proofs.Laws.Pieces.{words_count}
use Rattle.salvage.specs.Answer.{salvage_answer}
use Rattle.salvage.specs.declared.Saved.{Saved}

-- what a call answers and leaves; a refusal has a number
pub record Leaves (s bytes words : List ℕ) (r : Result Saved Fault) (d v : List ℕ) : Type 0 where
  pub answer : salvage_answer r ≡ salvage s (length bytes) (length words)
  pub refused : IfErr r (λ x. 0 < x.number)
  pub bytes_left : d ≡ bytes_left_of s bytes words
  pub words_left : v ≡ words_left_of s bytes words

module _ (s bytes words : List ℕ) where
  -- with a refusal nothing is written
  pub refuses : {x : Fault} → salvage_fault s (length bytes) (length words) ≡ x → (x.number ≡ 0 → ⊥) → Leaves s bytes words (Err x) bytes words
  unfolding salvage bytes_left_of words_left_of
  refuses {x} e bad = record {
    answer = rw (e, broken-takes x (length (salvage_bytes s)) 0 bad, broken-takes x (length (entries s)) 0 bad);
    refused = omega (arith, bad);
    bytes_left = rw (e, broken-takes x (salvage_bytes s ++ drop (length (salvage_bytes s)) bytes) bytes bad);
    words_left = rw (e, broken-takes x (salvage_words s ++ drop (length (salvage_words s)) words) words bad);
  }

  pub header-refuses : ((header_fault s).number ≡ 0 → ⊥) → salvage_fault s (length bytes) (length words) ≡ header_fault s
  unfolding salvage_fault
  header-refuses bad = or_else-first _ _ bad

  module _ (header : (header_fault s).number ≡ 0) where
    pub many-refused : 65535 < length (icons s) → salvage_fault s (length bytes) (length words) ≡ fault 21 0
    unfolding salvage_fault
    many-refused many = or_else-next _ _ header ∙ broken-speaks (leb (length (icons s)) 65535) 20 0 _ (lt-leb _ _ many)

    module _ (few : length (icons s) ≤ 65535) where
      pub short-refused : (length bytes < length (salvage_bytes s)) ⊎ (length words < length (salvage_words s))
          → salvage_fault s (length bytes) (length words) ≡ fault 19 0
      unfolding salvage_fault
      short-refused short =
          or_else-next _ _ header
          ∙ kept-passes (leb (length (icons s)) 65535) 21 0 _ (le-leb _ _ few)
          ∙ unless-broken (leb (length (salvage_bytes s)) (length bytes) && leb (length (salvage_words s)) (length words)) 19 0 (go short)
        where
          go : (length bytes < length (salvage_bytes s)) ⊎ (length words < length (salvage_words s))
              → (leb (length (salvage_bytes s)) (length bytes) && leb (length (salvage_words s)) (length words)) ≡ false
          go (inl l) = rw (lt-leb _ _ l)
          go (inr l) = rw (lt-leb _ _ l, and-false)

      module _ (room : length (salvage_bytes s) ≤ length bytes) (rows : length (salvage_words s) ≤ length words) where
        none-refused : salvage_fault s (length bytes) (length words) ≡ no_fault
        unfolding salvage_fault
        none-refused =
            or_else-next _ _ header
            ∙ kept-passes (leb (length (icons s)) 65535) 21 0 _ (le-leb _ _ few)
            ∙ unless-kept (leb (length (salvage_bytes s)) (length bytes) && leb (length (salvage_words s)) (length words)) 19 0 (also (le-leb _ _ room) (le-leb _ _ rows))

        pub saves : {l m : ℕ} {d v : List ℕ} → l ≡ length (salvage_bytes s) → m ≡ length (salvage_words s) → d ≡ put bytes 0 (salvage_bytes s)
            → v ≡ put words 0 (salvage_words s) → Leaves s bytes words (Ok (record { length = l; rows = m / 2 })) d v
        unfolding salvage bytes_left_of words_left_of
        saves {m = m} size count d-is v-is =
            let half : m / 2 ≡ length (entries s) = ap (λ n. n / 2) (count ∙ words_count s) ∙ mul-div_right (length (entries s)) (lit≤ tt) in
            record {
              answer = rw (none-refused, half) (ap (λ n. salvage_is 0 0 n (length (entries s))) size);
              refused = tt;
              bytes_left = rw none-refused (d-is ∙ put_front bytes (salvage_bytes s));
              words_left = rw none-refused (v-is ∙ put_front words (salvage_words s));
            }
