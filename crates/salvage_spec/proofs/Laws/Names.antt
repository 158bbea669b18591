-- Equal names lie on one chain, since rule 9 gives each name one bucket: a name is compared with
-- the kept ones of its own chain alone, and the icons' names differ.
use Prim.Native.Nat.{ℕ, zero, suc, ◌<◌}
use Rattle.std.specs.Prelude.{◌≡◌, refl, ◌↔◌, Bool, true, false, not}
use Rattle.std.proofs.Common.{sym, ap, ◌∙◌, inl, arith}
use Rattle.std.proofs.Math.Logic.{inr}
use mathlib.Core.List.{List, [], ◌∷◌}
use Rattle.std.proofs.lemmas.Bool.{false≢true}
use Rattle.format.specs.Fault.{unless, if_kept}
use Rattle.format.specs.Header.{buckets}
use Rattle.format.specs.Record.{name_of, bucket_of, images_at, valid_image_list, name_fault}
use Rattle.format.specs.Words.{link}
use Rattle.format.proofs.Laws.Records.{name-valid}
use Rattle.catalogue.specs.Catalogue.{Icon, Each}
use Rattle.salvage_spec.specs.Lists.{AnyTwo}
use Rattle.salvage_spec.specs.Meetings.{met, kept_names, fate}
use Rattle.salvage_spec.specs.Salvage.{icon, chain_icons, icons}
use Rattle.salvage_spec.specs.Promise.{KeptBefore}
use Rattle.salvage_spec.proofs.Laws.Lists.{each-joined, any-two-joined}
use Rattle.salvage_spec.proofs.Laws.Kept.{fate-named, kept-right, KeptOn, among-kept, kept-among}

module _ (s : List ℕ) where
  -- records of two chains whose names have no fault there have no name in common
  pub one-chain : (j k r q : ℕ) → (name_fault s j r).number ≡ 0 → (name_fault s k q).number ≡ 0 → name_of s r ≡ name_of s q → j ≡ k
  one-chain j k r q a b e = sym (name-valid s j r a).home ∙ ap (bucket_of s) e ∙ (name-valid s k q b).home

  -- the number says whether the name is a kept one
  twenty : (b : Bool) (p : ℕ) → ((unless (not b) 20 p).number ≡ 20) ↔ (b ≡ true)
  twenty true p = (λ e. refl, λ e. refl)
  twenty false p = (λ e. absurd (omega arith), λ e. absurd (false≢true e))

  module _ (k n : ℕ) (named : (name_fault s k (link s k n)).number ≡ 0) where
    on-own-chain : KeptBefore s k n (name_of s (link s k n)) → KeptOn s k (name_of s (link s k n)) n
    on-own-chain c = elim c.before [
      | inl l ↦ absurd (omega (arith, one-chain c.bucket k _ _ (kept-right s c.bucket c.step c.kept).named named c.same))
      | inr h ↦ (c.step, h.1, rw h.0 at c.kept, rw h.0 at c.same)
    ]

    pub equal-goes : n < met s k → valid_image_list s (images_at s (link s k n)) ≡ true
        → ((fate s k n).number ≡ 20) ↔ KeptBefore s k n (name_of s (link s k n))
    unfolding fate
    equal-goes l listed = rw (fate-named s k (kept_names s k n) (link s k n) named listed) (
      λ e.
          let (m, g, kept, same) = among-kept s k (name_of s (link s k n)) n ((twenty _ _).0 e) in
          record { bucket = k; step = m; before = inr (refl, g); met = omega arith; kept = kept; same = same },
      λ c. (twenty _ _).1 (kept-among s k (name_of s (link s k n)) n (on-own-chain c)),
    )

  -- the icon of a step, if its record is kept
  pub of-kept : (P : Icon → Type 0) (k n : ℕ) → ((fate s k n).number ≡ 0 → P (icon s (link s k n))) → Each P (if_kept (fate s k n) (icon s (link s k n) ∷ []) [])
  of-kept P k n h = go (fate s k n).number refl
    where
      go : (x : ℕ) → (fate s k n).number ≡ x → Each P (elim x as (λ y. List Icon) [ zero ↦ icon s (link s k n) ∷ [] | suc y ↦ [] ])
      go zero e = (h e, tt)
      go (suc x) e = tt

  abbrev Differ : Icon → Icon → Type 0
  Differ x y = x.name ≡ y.name → ⊥

  one-step : (k n : ℕ) → AnyTwo Differ (if_kept (fate s k n) (icon s (link s k n) ∷ []) [])
  unfolding AnyTwo
  one-step k n = go (fate s k n).number
    where
      go : (x : ℕ) → AnyTwo Differ (elim x as (λ y. List Icon) [ zero ↦ icon s (link s k n) ∷ [] | suc y ↦ [] ])
      go zero = (tt, tt)
      go (suc x) = tt

  two_steps : (k m n : ℕ) → m < n → (fate s k m).number ≡ 0 → (fate s k n).number ≡ 0 → name_of s (link s k m) ≡ name_of s (link s k n) → ⊥
  two_steps k m n l a b e = false≢true (sym (kept-right s k n b).new ∙ kept-among s k (name_of s (link s k n)) n (m, l, a, e))

  two-chains : (j k m n : ℕ) → j < k → (fate s j m).number ≡ 0 → (fate s k n).number ≡ 0 → name_of s (link s j m) ≡ name_of s (link s k n) → ⊥
  two-chains j k m n l a b e = omega (arith, one-chain j k _ _ (kept-right s j m a).named (kept-right s k n b).named e)

  pub names-differ : AnyTwo Differ (icons s)
  unfolding icons chain_icons icon
  names-differ =
      any-two-joined Differ (chain_icons s) (buckets s)
      (λ k l.
      any-two-joined Differ _ (met s k) (λ n g. one-step k n)
      (λ m n g o. of-kept _ k m (λ a. of-kept _ k n (λ b. two_steps k m n g a b))))
      (λ j k l g. each-joined _ _ (met s j) (λ m o. of-kept _ j m (λ a. each-joined _ _ (met s k) (λ n p. of-kept _ k n (λ b. two-chains j k m n l a b)))))
