-- Parts put apart from one another: their order does not matter, and each of two grows by itself.
use Rattle.std.specs.Prelude.{ℕ, ◌+◌, ◌-◌, ◌≤◌, ◌≡◌, refl, List, [], ◌++◌, length, take}
use Rattle.std.proofs.Math.Path.{sym, ap}
use Rattle.std.proofs.Common.{◌∙◌, arith, take-append-drop}
use Rattle.std.proofs.Math.ListN.{drop, length-append, length-drop}
use Rattle.std.proofs.Math.Seq.{length-take-le}
use Rattle.format.specs.Bytes.{put}
use Rattle.format.proofs.Laws.Put.{put-length, put-nothing, put-more, put-before}
use Rattle.catalogue.specs.LaidOut.{Stands}
use Rattle.catalogue.proofs.Laws.Putting.{stands-before, put-known}
use Rattle.filling.specs.Puts.{Puts}
use Rattle.squeeze_index.specs.Both.{PutsBoth}

module _ (s : List ℕ) (p : ℕ) (xs : List ℕ) (q : ℕ) (ys : List ℕ) (apart : p + length xs ≤ q) (fits : q + length ys ≤ length s) where
  r : ℕ
  r = p + length xs

  -- what is between them
  mid : List ℕ
  mid = take (q - r) (drop r s)

  mid-length : length mid ≡ q - r
  unfolding mid r
  mid-length = length-take-le (q - r) (drop r s) (omega (arith, length-drop r s))

  mid-stands : Stands s r mid
  unfolding mid
  mid-stands = record { rest = drop (q - r) (drop r s); there = sym (take-append-drop (q - r) (drop r s)) }

  pub put-swap : put (put s p xs) q ys ≡ put (put s q ys) p xs
  unfolding r
  put-swap =
      let size = length-append xs mid in
      ap (λ l. put l q ys) (sym (put-known s p xs mid mid-stands))
      ∙ put-more s p (xs ++ mid) ys (omega (arith, mid-length)) fits
      ∙ sym (put-before s p (xs ++ mid) ys {q = q} (omega (arith, mid-length)) fits)
      ∙ put-known (put s q ys) p xs mid (stands-before s q ys fits (omega (arith, mid-length)) mid-stands)

pub puts-same : {s out xs ys : List ℕ} {p q : ℕ} → xs ≡ ys → Puts s out p xs q → Puts s out p ys q
puts-same e h = rw e at h

pub both-none : (s : List ℕ) (p q : ℕ) → PutsBoth s s p [] q []
both-none s p q = record { same = refl; filled = λ l g. sym (ap (λ t. put t q []) (put-nothing s p) ∙ put-nothing s q) }

module _ {s out new : List ℕ} {p q : ℕ} {xs ys zs : List ℕ} {r e : ℕ} (h : PutsBoth s out p xs q ys) where
  pub both_first : r ≡ p + length xs → Puts out new r zs e → PutsBoth s new p (xs ++ zs) q ys
  both_first place a =
      let size = length-append xs zs in
      record {
        same = a.same ∙ h.same;
        filled = λ l g.
            let before = h.filled (omega arith) g in
            a.filled (omega (arith, h.same)) ∙ ap (λ t. put t r zs) before
            ∙ sym (put-swap (put s p xs) r zs q ys (omega arith) (omega (arith, put-length s p xs (omega arith))))
            ∙ ap (λ t. put t q ys) (put-more s p xs zs (sym place) (omega arith));
      }

  pub both-second : r ≡ q + length ys → Puts out new r zs e → PutsBoth s new p xs q (ys ++ zs)
  both-second place a =
      let size = length-append ys zs in
      record {
        same = a.same ∙ h.same;
        filled = λ l g.
            let before = h.filled l (omega arith) in
            a.filled (omega (arith, h.same)) ∙ ap (λ t. put t r zs) before
            ∙ put-more (put s p xs) q ys zs (sym place) (omega (arith, put-length s p xs (omega arith)));
      }
