-- Laws of an index: it represents the keys met before, whether one more is found in it or inserted.
use Rattle.std.specs.Prelude.{ℕ, ◌+◌, ◌-◌, ◌≤◌, ◌<◌, ◌≡◌, ◌⊎◌, List, [], ◌∷◌, true, false, get_or}
use Rattle.std.proofs.Common.{sym, ap, ◌∙◌, inl, inr, ⊎_elim, arith}
use Rattle.std.proofs.Math.Bool.{not-eq-not}
use Rattle.std.proofs.lemmas.Bool.{false≢true}
use Rattle.std.proofs.Math.Decide.{dec_lt}
use Rattle.format.specs.String.{among}
use Rattle.format.proofs.Laws.Names.{among_first_lem, among-rest, among-either}
use Rattle.std.specs.declared.cmp.Ordering.TheVariants.{Less}
use Rattle.keys.specs.Order.{order}
use Rattle.names.specs.Index.{entry, Rising, Holds, Represents, Between, Inserted, Answered}
use Rattle.keys.proofs.Laws.{numbers-less}
use Rattle.names.specs.Laws.Between.{not-held}

-- at the start: no entries
pub nothing-met : (key : ℕ → List ℕ) (index : List ℕ) → Represents key index 0 []
unfolding among
nothing-met key index = record {
  rising = λ i j h g. absurd (omega arith);
  exact = λ t. (λ h. absurd (omega (arith, h.1)), λ e. absurd (false≢true e));
}

-- an index of offsets has them in rising order
pub offsets-rise : (index : List ℕ) (n : ℕ) → Rising (λ p. p ∷ []) index n → (i j : ℕ) → i < j → j < n → get_or index i 0 < get_or index j 0
offsets-rise index n rising i j h g = numbers-less _ _ (rising i j h g)

-- p is made an entry at the spot of its key
module _ {key : ℕ → List ℕ} {old new : List ℕ} {n i p : ℕ} (rising : Rising key old n) (spot : Between key old n (key p) i i) (within : i ≤ n)
    (put : Inserted old new n i p) where
  -- where an entry comes from
  data Source (k : ℕ) : Type 0 where
    kept : k < i → entry key new k ≡ entry key old k → Source k
    added : k ≡ i → entry key new k ≡ key p → Source k
    moved : (j : ℕ) → k ≡ j + 1 → i ≤ j → j < n → entry key new k ≡ entry key old j → Source k

  source : (k : ℕ) → k < n + 1 → Source k
  source k h = go (dec_lt k i) (dec_lt i k)
    where
      go : Dec (k < i) → Dec (i < k) → Source k
      go (yes l) d = kept l (ap key (put.below k l))
      go (no a) (yes l) =
          let e : k - 1 + 1 ≡ k = omega arith in
          moved (k - 1) (omega arith) (omega arith) (omega arith) (ap key (rw e at (put.above (k - 1) (omega arith) (omega arith))))
      go (no a) (no b) = let e : k ≡ i = omega arith in added e (rw e (ap key put.here))

  -- the keys rise again
  put-rising : Rising key new (n + 1)
  put-rising a b h g = go (source a (omega arith)) (source b g)
    where
      go : Source a → Source b → order (entry key new a) (entry key new b) ≡ Less
      go (kept l d) (kept m e) = rw (d, e) (rising a b h (omega arith))
      go (kept l d) (added m e) = rw (d, e) (spot.behind a l)
      go (kept l d) (moved j m u v e) = rw (d, e) (rising a j (omega arith) v)
      go (added l d) (kept m e) = absurd (omega arith)
      go (added l d) (added m e) = absurd (omega arith)
      go (added l d) (moved j m u v e) = rw (d, e) (spot.ahead j u v)
      go (moved k l o q d) (kept m e) = absurd (omega arith)
      go (moved k l o q d) (added m e) = absurd (omega arith)
      go (moved k l o q d) (moved j m u v e) = rw (d, e) (rising k j (omega arith) v)

  -- they are the key of p and those that were there
  put_only : (t : List ℕ) → Holds key new (n + 1) t → (t ≡ key p) ⊎ Holds key old n t
  put_only t (k, h, e) = go (source k h)
    where
      go : Source k → (t ≡ key p) ⊎ Holds key old n t
      go (kept l d) = inr (k, omega arith, sym d ∙ e)
      go (added l d) = inl (sym e ∙ d)
      go (moved j l u v d) = inr (j, v, sym d ∙ e)

  put-new : Holds key new (n + 1) (key p)
  put-new = (i, omega arith, ap key put.here)

  put_all : (t : List ℕ) → Holds key old n t → Holds key new (n + 1) t
  put_all t (k, h, e) = go (dec_lt k i)
    where
      go : Dec (k < i) → Holds key new (n + 1) t
      go (yes l) = (k, omega arith, ap key (put.below k l) ∙ e)
      go (no l) = (k + 1, omega arith, ap key (put.above k (omega arith) h) ∙ e)

-- what is known of the key of p, by the spot where it is or would be
module _ {key : ℕ → List ℕ} {index : List ℕ} {n : ℕ} {before : List (List ℕ)} (known : Represents key index n before) {p i : ℕ} where
  pub found-met : i < n → entry key index i ≡ key p → among (key p) before ≡ true
  found-met h e = (known.exact (key p)).0 (i, h, e)

  pub missing-not-met : Between key index n (key p) i i → among (key p) before ≡ false
  missing-not-met spot = (not-eq-not {b = false}).0 (λ e. not-held spot ((known.exact (key p)).1 e))

  pub found-answers : i < n → entry key index i ≡ key p → Answered key index n p before true
  found-answers h e =
      let met = found-met h e in
      let again : (t : List ℕ) → among t (key p ∷ before) ≡ true → Holds key index n t = λ t m.
      ⊎_elim (λ same. (known.exact t).1 (rw same met)) (known.exact t).1 (among-either t (key p) before m) in
      record {
        right = sym met;
        after = record { rising = known.rising; exact = λ t. (λ h. among-rest t (key p) before ((known.exact t).0 h), again t) };
      }

  pub missing-answers : {new : List ℕ} → Between key index n (key p) i i → i ≤ n → Inserted index new n i p → Answered key new n p before false
  missing-answers {new} spot h put =
      let rising = known.rising in
      let all : (t : List ℕ) → Holds key new (n + 1) t → among t (key p ∷ before) ≡ true = λ t held.
      ⊎_elim (λ same. rw same (among_first_lem (key p) before)) (λ was. among-rest t (key p) before ((known.exact t).0 was)) (put_only rising spot h put t held) in
      let only : (t : List ℕ) → among t (key p ∷ before) ≡ true → Holds key new (n + 1) t = λ t m.
      ⊎_elim (λ same. rw same (put-new rising spot h put)) (λ was. put_all rising spot h put t ((known.exact t).1 was)) (among-either t (key p) before m) in
      record { right = sym (missing-not-met spot); after = record { rising = put-rising rising spot h put; exact = λ t. (all t, only t) } }

-- a key that was met before changes nothing
pub met-again : {key : ℕ → List ℕ} {index : List ℕ} {n : ℕ} {before : List (List ℕ)} {t : List ℕ} → Represents key index n (t ∷ before) → among t before ≡ true
    → Represents key index n before
met-again {before = before} {t} known met = record {
  rising = known.rising;
  exact = λ u. (
    λ h. ⊎_elim (λ same. rw same met) (λ was. was) (among-either u t before ((known.exact u).0 h)),
    λ e. (known.exact u).1 (among-rest u t before e),
  );
}
