-- Marks that are added one by one, and range by range.
use Rattle.std.specs.Prelude.{ℕ, ◌+◌, ◌-◌, ◌/◌, ◌≤◌, ◌<◌, ◌≡◌, refl, ◌⊎◌, List, Bool, true, false, ◌||◌, length}
use Rattle.std.proofs.Common.{sym, ap, ◌∙◌, inl, inr, arith}
use Rattle.std.proofs.lemmas.Bool.{false≢true}
use Rattle.std.proofs.Math.Bool.{or-true, or-false}
use Rattle.std.proofs.Math.Decide.{dec_lt}
use Rattle.marks.specs.Marks.{marked, Marks}
use Rattle.squeeze_names.specs.Repeated.{Noted, Adds}

pub noted-is : {b r : Bool} {old new : List ℕ} {i : ℕ} → r ≡ b → r ≡ true → Marks old new i → Noted b old new i
noted-is right e marks = record { noted = λ x. marks; kept = λ x. absurd (false≢true (sym x ∙ sym right ∙ e)) }

pub noted-not : {b r : Bool} {m : List ℕ} {i : ℕ} → r ≡ b → r ≡ false → Noted b m m i
noted-not right e = record { noted = λ x. absurd (false≢true (sym e ∙ right ∙ x)); kept = λ x. refl }

pub adds_none : (m : List ℕ) (a n : ℕ) {more : ℕ → Bool} → ((i : ℕ) → i < n → more i ≡ false) → Adds m m a n more
adds_none m a n none = record { same = refl; here = λ i l w. sym (or-false (marked m (a + i))) ∙ ap (λ b. marked m (a + i) || b) (sym (none i l)); others = λ j d. refl }

pub adds_same : {old new : List ℕ} {a n : ℕ} {more most : ℕ → Bool} → Adds old new a n more → ((i : ℕ) → i < n → more i ≡ most i) → Adds old new a n most
adds_same {old} {a = a} h e = record { same = h.same; here = λ i l w. h.here i l w ∙ ap (λ b. marked old (a + i) || b) (e i l); others = h.others }

module _ {old m : List ℕ} {a n : ℕ} {more : ℕ → Bool} (h : Adds old m a n more) where
  -- one more
  pub adds-noted : {new : List ℕ} → Noted (more n) m new (a + n) → Adds old new a (n + 1) more
  adds-noted {new} noted = go (more n) refl
    where
      wider : (j : ℕ) → (j < a) ⊎ (a + (n + 1) ≤ j) → (j < a) ⊎ (a + n ≤ j)
      wider j (inl l) = inl l
      wider j (inr l) = inr (omega arith)

      apart : (j : ℕ) → (j < a) ⊎ (a + (n + 1) ≤ j) → j ≡ a + n → ⊥
      apart j (inl l) q = omega arith
      apart j (inr l) q = omega arith

      -- those before it and the last, once it is said what becomes of each
      each : length new ≡ length m → ((j : ℕ) → (j ≡ a + n → ⊥) → marked new j ≡ marked m j)
          → ((a + n) / 32 < length old → marked new (a + n) ≡ (marked old (a + n) || more n)) → Adds old new a (n + 1) more
      each same others last = record {
        same = same ∙ h.same;
        here = λ i l w. elim (dec_lt i n) [
          | yes g ↦ others (a + i) (λ q. omega arith) ∙ h.here i g w
          | no g ↦ let e : i ≡ n = omega arith in rw e (last (rw (← e) w))
        ];
        others = λ j d. others j (apart j d) ∙ h.others j (wider j d);
      }

      go : (b : Bool) → more n ≡ b → Adds old new a (n + 1) more
      go true e =
          let marks = noted.noted e in
          each marks.same marks.others (λ w. rw e (marks.here (omega (arith, h.same, w)) ∙ sym (or-true (marked old (a + n)))))
      go false e =
          let same = noted.kept e in
          each (ap length same) (λ j d. ap (λ m. marked m j) same)
          (λ w. rw e (ap (λ m. marked m (a + n)) same ∙ h.others (a + n) (inr (omega arith)) ∙ sym (or-false (marked old (a + n)))))

  -- those behind
  pub adds-behind : {new : List ℕ} {k : ℕ} {rest : ℕ → Bool} → Adds m new (a + n) k rest → ((i : ℕ) → i < k → rest i ≡ more (n + i)) → Adds old new a (n + k) more
  adds-behind {new} {k} {rest} g e = record {
    same = g.same ∙ h.same;
    here = λ i l w. go i l w (dec_lt i n);
    others = others;
  }
    where
      others : (j : ℕ) → (j < a) ⊎ (a + (n + k) ≤ j) → marked new j ≡ marked old j
      others j (inl l) = g.others j (inl (omega arith)) ∙ h.others j (inl l)
      others j (inr l) = g.others j (inr (omega arith)) ∙ h.others j (inr (omega arith))

      go : (i : ℕ) → i < n + k → (a + i) / 32 < length old → Dec (i < n) → marked new (a + i) ≡ (marked old (a + i) || more i)
      go i l w (yes d) = g.others (a + i) (inl (omega arith)) ∙ h.here i d w
      go i l w (no d) =
          let at : a + n + (i - n) ≡ a + i = omega arith in
          let step : n + (i - n) ≡ i = omega arith in
          let new-one = rw at at (g.here (i - n) (omega arith) (omega (arith, h.same, w))) in
          new-one ∙ ap (λ b. b || rest (i - n)) (h.others (a + i) (inr (omega arith))) ∙ ap (λ b. marked old (a + i) || b) (e (i - n) (omega arith) ∙ ap more step)
