-- What a buffer is after parts were put into it: what stood elsewhere stays, and parts put one
-- behind the other are one part put.
use Rattle.std.specs.Prelude.{ℕ, ◌+◌, ◌-◌, ◌/◌, ◌%◌, ◌^◌, ◌≤◌, ◌<◌, ◌≡◌, List, [], ◌++◌, take}
use Rattle.std.proofs.Common.{sym, ◌∙◌, append_assoc, append-nil, zero-add, add-zero, mod-lt, div-add-mod', add-one, lit≤, take-append-drop, take_at, take-take, length-take-le}
use Rattle.std.proofs.Math.Path.{ap}
use Rattle.std.proofs.Math.Nat.{one-le-pow}
use native.Mathlib.Omega.{arith}
use Rattle.std.proofs.Math.ListN.{length, drop, length-append, length-drop}
use Rattle.std.proofs.Math.Seq.{drop-drop, drop_at, drop-append-add, take-append-add}
use Rattle.std.proofs.lemmas.List.{drop-append-le, take-append-le}
use Rattle.format.specs.Number.{be}
use Rattle.format.specs.Bytes.{bytes, joined, put}
use Rattle.format.proofs.Laws.Reads.{be-drop}
use Rattle.format.proofs.Laws.Bytes.{bytes-length, bytes-join, be-bytes}

module _ (s : List ℕ) (p : ℕ) (xs : List ℕ) (fits : p + length xs ≤ length s) where
  pub front_length : length (take p s) ≡ p
  front_length = length-take-le p s (omega arith)

  pub put-length : length (put s p xs) ≡ length s
  unfolding put
  put-length = simp length-append (omega (arith, front_length, length-drop (p + length xs) s))

  pub put-there : drop p (put s p xs) ≡ xs ++ drop (p + length xs) s
  unfolding put
  put-there = ap (drop p) (append_assoc (take p s) xs (drop (p + length xs) s)) ∙ drop_at (take p s) (xs ++ drop (p + length xs) s) p front_length

  -- behind the part all is as it was
  pub put-behind : (e : ℕ) → p + length xs ≤ e → drop e (put s p xs) ≡ drop e s
  unfolding put
  put-behind e l =
      let n = p + length xs in
      let whole : length (take p s ++ xs) ≡ n = length-append (take p s) xs ∙ rw front_length in
      let split : e ≡ n + (e - n) = omega arith in
      rw split (ap (λ m. drop (m + (e - n)) (take p s ++ xs ++ drop n s)) (sym whole) ∙ drop-append-add (take p s ++ xs) (drop n s) (e - n) ∙ drop-drop (e - n) n s)

-- a part put at the front
pub put_front : (s xs : List ℕ) → put s 0 xs ≡ xs ++ drop (length xs) s
unfolding put
put_front s xs = ap (λ n. xs ++ drop n s) (zero-add (length xs))

pub put-nothing : (s : List ℕ) (p : ℕ) → put s p [] ≡ s
unfolding put
put-nothing s p = rw (append-nil, add-zero) (take-append-drop p s)

-- one part put behind another
pub put-more : (s : List ℕ) (p : ℕ) (xs ys : List ℕ) {q : ℕ} → p + length xs ≡ q → q + length ys ≤ length s → put (put s p xs) q ys ≡ put s p (xs ++ ys)
unfolding put
put-more s p xs ys {q} e fits =
    let room : p + length xs ≤ length s = omega arith in
    let before : length (take p s ++ xs) ≡ q = length-append (take p s) xs ∙ rw (front_length s p xs room) e in
    let end : p + length (xs ++ ys) ≡ q + length ys = omega (arith, length-append xs ys) in
    ap (λ l. l ++ ys ++ drop (q + length ys) (put s p xs)) (take_at (take p s ++ xs) (drop (p + length xs) s) q before)
    ∙ ap (λ l. take p s ++ xs ++ ys ++ l) (put-behind s p xs room (q + length ys) (omega arith))
    ∙ rw (end, append_assoc (take p s) xs ys)

-- one part put before another
pub put-before : (s : List ℕ) (p : ℕ) (xs ys : List ℕ) {q : ℕ} → p + length xs ≡ q → q + length ys ≤ length s → put (put s q ys) p xs ≡ put s p (xs ++ ys)
unfolding put
put-before s p xs ys {q} e fits =
    let behind = drop (q + length ys) s in
    let before : length (take q s) ≡ q = length-take-le q s (omega arith) in
    let apart : put s q ys ≡ take q s ++ (ys ++ behind) = append_assoc (take q s) ys behind in
    let front : take p (put s q ys) ≡ take p s =
    ap (take p) apart ∙ take-append-le p (take q s) (ys ++ behind) (omega arith) ∙ take-take p q s (omega arith) in
    let rest : drop (p + length xs) (put s q ys) ≡ ys ++ behind =
    ap (λ n. drop n (put s q ys)) e ∙ ap (drop q) apart ∙ drop_at (take q s) (ys ++ behind) q before in
    let end : q + length ys ≡ p + length (xs ++ ys) = omega (arith, length-append xs ys) in
    ap (λ l. l ++ xs ++ drop (p + length xs) (put s q ys)) front
    ∙ ap (λ l. take p s ++ xs ++ l) rest
    ∙ sym (append_assoc (take p s ++ xs) ys behind)
    ∙ ap (λ l. l ++ behind) (append_assoc (take p s) xs ys)
    ∙ ap (λ n. take p s ++ (xs ++ ys) ++ drop n s) end

-- a part put over one that is not longer
pub put-over : (s : List ℕ) (p : ℕ) (xs ys : List ℕ) → length xs ≤ length ys → p + length ys ≤ length s → put (put s p xs) p ys ≡ put s p ys
unfolding put
put-over s p xs ys shorter fits =
    let room : p + length xs ≤ length s = omega arith in
    let before : take p (take p s ++ xs ++ drop (p + length xs) s) ≡ take p s =
    ap (take p) (append_assoc (take p s) xs (drop (p + length xs) s)) ∙ take_at (take p s) _ p (front_length s p xs room) in
    ap (λ l. l ++ ys ++ drop (p + length ys) (put s p xs)) before
    ∙ ap (λ l. take p s ++ ys ++ l) (put-behind s p xs room (p + length ys) (omega arith))

-- the same of what a buffer was and is
pub put_then : (s : List ℕ) {t u : List ℕ} (p : ℕ) (xs ys : List ℕ) {q : ℕ} → p + length xs ≡ q → q + length ys ≤ length s → t ≡ put s p xs → u ≡ put t q ys
    → u ≡ put s p (xs ++ ys)
put_then s p xs ys {q} e fits before this = this ∙ ap (λ l. put l q ys) before ∙ put-more s p xs ys e fits

-- and the next of the parts that f gives
pub put_next : (s : List ℕ) {t u : List ℕ} (p : ℕ) (f : ℕ → List ℕ) (i q : ℕ) → p + length (joined f i) ≡ q → q + length (f i) ≤ length s
    → t ≡ put s p (joined f i) → u ≡ put t q (f i) → u ≡ put s p (joined f (i + 1))
unfolding joined
put_next s p f i q e h before this = this ∙ ap (λ l. put l q (f i)) before ∙ put-more s p (joined f i) (f i) e h ∙ rw add-one

-- a number put by its high bytes and its low ones, of any widths v and w
pub put-join : (v w : ℕ) (s : List ℕ) {t u : List ℕ} (p n : ℕ) → p + (v + w) ≤ length s → t ≡ put s p (bytes v (n / 256 ^ w))
    → u ≡ put t (p + v) (bytes w (n % 256 ^ w)) → u ≡ put s p (bytes (v + w) n)
put-join v w s p n fits high low =
    let m = n / 256 ^ w in
    let l = n % 256 ^ w in
    let halves : bytes v m ++ bytes w l ≡ bytes (v + w) n = sym (bytes-join v w m l (mod-lt n (one-le-pow w 256 (lit≤ tt)))) ∙ ap (bytes (v + w)) (div-add-mod' n (256 ^ w)) in
    low ∙ ap (λ b. put b (p + v) (bytes w l)) high
    ∙ put-more s p (bytes v m) (bytes w l) (ap (λ k. p + k) (bytes-length v m)) (omega (arith, bytes-length w l))
    ∙ ap (put s p) halves

-- and what is put is read
pub put-read : (w : ℕ) (s : List ℕ) (p n : ℕ) → n < 256 ^ w → p + w ≤ length s → be w (put s p (bytes w n)) p ≡ n
put-read w s p n l fits =
    let there = put-there s p (bytes w n) (omega (arith, bytes-length w n)) in
    be-drop w (put s p (bytes w n)) p ∙ ap (λ t. be w t 0) there ∙ be-bytes w n (drop (p + length (bytes w n)) s) l

-- a part changed inside one that was put
pub put-inside : (s : List ℕ) (p : ℕ) (xs : List ℕ) (o : ℕ) (ys : List ℕ) {q : ℕ} → q ≡ p + o → p + length xs ≤ length s → o + length ys ≤ length xs
    → put (put s p xs) q ys ≡ put s p (put xs o ys)
unfolding put
put-inside s p xs o ys {q} e fits within =
    let n = o + length ys in
    let rest = drop (p + length xs) s in
    let front = front_length s p xs fits in
    let place : q ≡ length (take p s) + o = omega arith in
    let end : q + length ys ≡ length (take p s) + n = omega arith in
    let grouped : take p s ++ xs ++ rest ≡ take p s ++ (xs ++ rest) = append_assoc (take p s) xs rest in
    let before : take q (take p s ++ xs ++ rest) ≡ take p s ++ take o xs =
    ap (take q) grouped ∙ ap (λ m. take m (take p s ++ (xs ++ rest))) place ∙ take-append-add (take p s) (xs ++ rest) o
    ∙ ap (λ l. take p s ++ l) (take-append-le o xs rest (omega arith)) in
    let behind : drop (q + length ys) (take p s ++ xs ++ rest) ≡ drop n xs ++ rest =
    ap (drop (q + length ys)) grouped ∙ ap (λ m. drop m (take p s ++ (xs ++ rest))) end ∙ drop-append-add (take p s) (xs ++ rest) n ∙ drop-append-le n xs rest within in
    rw (before, behind, put-length xs o ys within) (simp append_assoc)
