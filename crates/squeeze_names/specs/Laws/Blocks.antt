-- Names that are taken in block by block: what is known after one block more.
use Rattle.std.specs.Prelude.{ℕ, ◌+◌, ◌-◌, ◌/◌, ◌≤◌, ◌<◌, ◌≡◌, refl, ◌⊎◌, List, ◌∷◌, Bool, ◌||◌, length, if◌then◌else◌}
use Rattle.std.proofs.Common.{sym, ap, ◌∙◌, inl, inr, add-one, arith, lt-ltb, le-ltb}
use Rattle.std.proofs.Math.Bool.{or_assoc}
use Rattle.std.proofs.Math.Decide.{dec_lt}
use Rattle.format.specs.Number.{be}
use Rattle.format.specs.String.{among}
use Rattle.keys.specs.Key.{key_at}
use Rattle.keys.specs.declared.Kind.TheVariants.{Ended}
use Rattle.names.specs.Index.{Represents}
use Rattle.names.specs.Repeat.{seen}
use Rattle.names.specs.Laws.Index.{nothing-met}
use Rattle.names.specs.Laws.Repeat.{seen_parts}
use Rattle.marks.specs.Marks.{marked}
use Rattle.rounds.specs.Stepping.{ahead}
use Rattle.repeats.specs.Along.{name_along}
use Rattle.repeats.proofs.Laws.{name-read}
use Rattle.squeeze_names.specs.Repeated.{Noted, Adds, among_before, among_first, TakenIn}
use Rattle.squeeze_names.specs.Laws.Adds.{adds_none, adds_same, adds-noted}
use Rattle.squeeze_names.specs.declared.Block.{Block}

module _ (name : ℕ → List ℕ) {u i : ℕ} where
  first-early : i < u → among_first name u i ≡ among_before name i
  first-early l = ap (λ b. among (name i) (seen name (if b then i else u))) (lt-ltb i u l)

  first-late : u ≤ i → among_first name u i ≡ among (name i) (seen name u)
  first-late l = ap (λ b. among (name i) (seen name (if b then i else u))) (le-ltb i u l)

-- before the first block nothing is known, and after the last all
pub blocks-none : (m : List ℕ) (a n : ℕ) (name : ℕ → List ℕ) → Adds m m a n (among_first name 0)
unfolding seen among
blocks-none m a n name = adds_none m a n (λ i l. first-late name {u = 0} {i = i} (omega arith))

pub blocks-all : {old new : List ℕ} {a n : ℕ} (name : ℕ → List ℕ) (u : ℕ) → n ≤ u → Adds old new a n (among_first name u) → Adds old new a n (among_before name)
blocks-all name u l h = adds_same h (λ i g. first-early name (omega arith))

-- a block one name after the other: none, and one more, which comes again or is new
abbrev pub block_is : ℕ → ℕ → ℕ → Block
block_is n e f = record { names = n; entries = e; field = f }

pub taken_none : (s : List ℕ) (f a : ℕ) (index m : List ℕ) → TakenIn s f a index m m (block_is 0 0 f)
unfolding seen ahead
taken_none s f a index m = record { behind = refl; few = omega arith; known = nothing-met _ _; marks = adds_none m a 0 (λ i l. absurd (omega arith)) }

pub taken_more : {s : List ℕ} {f a i at v p e n : ℕ} {index index' old m new : List ℕ} → TakenIn s f a index old m (block_is i e at) → v ≡ ahead s f (i + 1) → p ≡ be 4 s (v + 4)
    → n ≤ e + 1
    → Noted (among (key_at Ended s p) (seen (name_along s f) i)) m new (a + i) × Represents (key_at Ended s) index' n (key_at Ended s p ∷ seen (name_along s f) i)
    → TakenIn s f a index' old new (block_is (i + 1) n v)
unfolding seen
taken_more {s} {f} {i = i} {p = p} h next name-is l (noted, known) =
    let named : key_at Ended s p ≡ name_along s f i = name-read s f i next name-is in
    record {
      behind = next;
      few = omega (arith, h.few);
      known = rw (add-one i, ← named) known;
      marks = adds-noted h.marks (rw (← named) noted);
    }

-- a block of r names is taken in, and looked for in those that follow
module _ (name rest behind : ℕ → List ℕ) {old m taken new : List ℕ} (a n u r : ℕ) (h : Adds old m a n (among_first name u)) (l : u + r ≤ n)
    (take : Adds m taken (a + u) r (among_before rest)) (look : Adds taken new (a + (u + r)) (n - (u + r)) (λ i. among (behind i) (seen rest r)))
    (shift : (i : ℕ) → rest i ≡ name (u + i)) (shift_behind : (i : ℕ) → behind i ≡ name (u + r + i)) where
  pub blocks_more : Adds old new a n (among_first name (u + r))
  blocks_more = record {
    same = look.same ∙ take.same ∙ h.same;
    here = λ i g w. go i g w (dec_lt i u) (dec_lt i (u + r));
    others = others;
  }
    where
      others : (j : ℕ) → (j < a) ⊎ (a + n ≤ j) → marked new j ≡ marked old j
      others j (inl g) = look.others j (inl (omega arith)) ∙ take.others j (inl (omega arith)) ∙ h.others j (inl g)
      others j (inr g) = look.others j (inr (omega arith)) ∙ take.others j (inr (omega arith)) ∙ h.others j (inr g)

      known : (i : ℕ) → i < n → (a + i) / 32 < length old → u ≤ i → (x : Bool) → ((marked m (a + i)) || x) ≡ (marked old (a + i) || (among (name i) (seen name u) || x))
      known i g w d x =
          ap (λ b. b || x) (h.here i g w ∙ ap (λ b. marked old (a + i) || b) (first-late name d))
          ∙ or_assoc (marked old (a + i)) (among (name i) (seen name u)) x

      go : (i : ℕ) → i < n → (a + i) / 32 < length old → Dec (i < u) → Dec (i < u + r) → marked new (a + i) ≡ (marked old (a + i) || among_first name (u + r) i)
      go i g w (yes d) e =
          look.others (a + i) (inl (omega arith)) ∙ take.others (a + i) (inl (omega arith)) ∙ h.here i g w
          ∙ ap (λ b. marked old (a + i) || b) (first-early name d ∙ sym (first-early name (omega arith)))
      go i g w (no d) (yes e) =
          let at : a + u + (i - u) ≡ a + i = omega arith in
          let step : u + (i - u) ≡ i = omega arith in
          let own : rest (i - u) ≡ name i = shift (i - u) ∙ ap name step in
          let here = rw (at, own) at (take.here (i - u) (omega arith) (omega (arith, h.same, w))) in
          let parts = rw step at (seen_parts name u (i - u) shift (name i)) in
          look.others (a + i) (inl (omega arith)) ∙ here ∙ known i g w (omega arith) _
          ∙ ap (λ b. marked old (a + i) || b) (sym parts ∙ sym (first-early name e))
      go i g w (no d) (no e) =
          let at : a + (u + r) + (i - (u + r)) ≡ a + i = omega arith in
          let step : u + r + (i - (u + r)) ≡ i = omega arith in
          let own : behind (i - (u + r)) ≡ name i = shift_behind (i - (u + r)) ∙ ap name step in
          let here = rw (at, own) at (look.here (i - (u + r)) (omega arith) (omega (arith, h.same, take.same, w))) in
          here ∙ ap (λ b. b || among (name i) (seen rest r)) (take.others (a + i) (inr (omega arith))) ∙ known i g w (omega arith) _
          ∙ ap (λ b. marked old (a + i) || b) (sym (seen_parts name u r shift (name i)) ∙ sym (first-late name (omega arith)))
