-- What the directory calls answer, by the rule that is broken first, and that the part handed back
-- lies inside.
use Prim.Native.Nat.{ℕ, zero, suc, ◌+◌, ◌≤◌, ◌<◌}
use Rattle.std.specs.Prelude.{◌≡◌, List, drop, ltb}
use Rattle.std.proofs.Math.Path.{refl}
use Rattle.std.proofs.Common.{◌∙◌, arith, lt-ltb, le-ltb}
use Rattle.std.proofs.Math.ListN.{length, take, length-drop}
use Rattle.format.specs.Number.{be}
use Rattle.format.specs.Fault.{fault, if_kept}
use Rattle.format.specs.Header.{directories, header_fault, path_field, path_part, path_of, path_fault}
use Rattle.format.specs.Answer.{part_is}
use Rattle.format.specs.Call.{directory_fault, directory_part, directory_path}
use Rattle.format.specs.declared.Fault.{Fault}
use Rattle.format.proofs.Laws.Faults.{or_else-first, or_else-next, or_else-none, broken-speaks, kept-passes, broken-takes}
use Rattle.format.proofs.Laws.Extents.{string-whole}
use Rattle.format.proofs.Laws.Strings.{string-front, whole-string}

module _ (s : List ℕ) (i : ℕ) where
  pub directory-header : ((header_fault s).number ≡ 0 → ⊥) → directory_fault s i ≡ header_fault s
  unfolding directory_fault
  directory-header h = or_else-first _ _ h

  module _ (header : (header_fault s).number ≡ 0) where
    pub directory-beyond : directories s ≤ i → directory_fault s i ≡ fault 15 0
    unfolding directory_fault
    directory-beyond h = or_else-next _ _ header ∙ broken-speaks (ltb i (directories s)) _ _ _ (le-ltb _ _ h)

    pub directory-path : i < directories s → directory_fault s i ≡ path_fault s i
    unfolding directory_fault
    directory-path h = or_else-next _ _ header ∙ kept-passes (ltb i (directories s)) _ _ _ (lt-ltb _ _ h)

  pub part-refused : {f : Fault} → directory_fault s i ≡ f → (f.number ≡ 0 → ⊥) → directory_part s i ≡ part_is f.number f.place 0 0
  unfolding directory_part
  part-refused {f} e some = rw (directory_part, e, broken-takes f (be 4 s (path_field s i)) 0 some, broken-takes f (length (path_of s i)) 0 some)

  pub part-judged : {f : Fault} → directory_fault s i ≡ f
      → directory_part s i ≡ part_is f.number f.place (if_kept f (be 4 s (path_field s i)) 0) (if_kept f (length (path_of s i)) 0)
  unfolding directory_part
  part-judged e = rw (directory_part, e)

  -- a path that is handed back ends before its zero byte, inside
  path-ends : (directory_fault s i).number ≡ 0 → length (path_of s i) < length (path_part s i)
  unfolding directory_fault path_fault
  path-ends e =
      let kept = (or_else-none _ _ (or_else-none _ _ (or_else-none _ _ e).1).1).0 in
      (whole-string 1023 (path_part s i) (string-whole _ _ _ kept)).ended

  pub part-inside : (directory_part s i).start + (directory_part s i).length ≤ length s
  unfolding directory_part
  part-inside = go (directory_fault s i).number refl
    where
      go : (n : ℕ) → (directory_fault s i).number ≡ n → (directory_part s i).start + (directory_part s i).length ≤ length s
      go zero e = rw (directory_part, e) (omega (arith, path-ends e, length-drop (be 4 s (path_field s i)) s))
      go (suc n) e = rw (directory_part, e) (omega arith)

  pub part-path : take (directory_part s i).length (drop (directory_part s i).start s) ≡ directory_path s i
  unfolding directory_part directory_path
  part-path = go (directory_fault s i).number refl
    where
      go : (n : ℕ) → (directory_fault s i).number ≡ n → take (directory_part s i).length (drop (directory_part s i).start s) ≡ directory_path s i
      go zero e = rw (directory_part, directory_path, e) (string-front (path_part s i))
      go (suc n) e = rw (directory_part, directory_path, e)
