-- The part handed back for a string lies inside, and is the string.
use Prim.Native.Nat.{ℕ, zero, suc, ◌+◌, ◌≤◌, ◌<◌}
use Rattle.std.specs.Prelude.{◌≡◌, List, drop, Result, Ok, Err, IfOk}
use Rattle.std.proofs.Math.Path.{refl}
use Rattle.std.proofs.Common.{arith}
use Rattle.std.proofs.Math.ListN.{length, take, length-drop}
use Rattle.format.specs.Number.{be}
use Rattle.format.specs.Notes.{note_part, note_of, note_fault}
use Rattle.format.proofs.Laws.Faults.{or_else-none, unless-none}
use Rattle.format.proofs.Laws.Strings.{string-front, whole-string}
use Rattle.format.specs.declared.Fault.{Fault}
use Rattle.image_data.specs.declared.Span.{Span}
use Rattle.image_data.specs.Call.{string_answer, display_fault, display, display_bytes}

module _ (s : List ℕ) (d i f : ℕ) where
  -- a string that is handed back ends before its zero byte
  ends : (display_fault s d i f).number ≡ 0 → length (note_of s f) < length (note_part s f)
  unfolding display_fault note_fault
  ends e =
      let kept = (or_else-none _ _ (or_else-none _ _ e).1).1 in
      (whole-string 255 (note_part s f) (unless-none _ 23 f kept)).ended

  pub string-inside : (display s d i f).start + (display s d i f).length ≤ length s
  unfolding display
  string-inside = go (display_fault s d i f).number refl
    where
      go : (n : ℕ) → (display_fault s d i f).number ≡ n → (display s d i f).start + (display s d i f).length ≤ length s
      go zero e = rw (display, e) (omega (arith, ends e, length-drop (be 4 s f) s))
      go (suc n) e = rw (display, e) (omega arith)

  -- the same of the part as it is handed on
  pub string-within : (r : Result Span Fault) → string_answer r ≡ display s d i f → IfOk r (λ part. part.start + part.length ≤ length s)
  string-within (Ok part) e = rw (← e) at string-inside
  string-within (Err v) e = tt

  pub string_bytes_lem : take (display s d i f).length (drop (display s d i f).start s) ≡ display_bytes s d i f
  unfolding display display_bytes
  string_bytes_lem = go (display_fault s d i f).number refl
    where
      go : (n : ℕ) → (display_fault s d i f).number ≡ n → take (display s d i f).length (drop (display s d i f).start s) ≡ display_bytes s d i f
      go zero e = rw (display, display_bytes, e) (string-front (note_part s f))
      go (suc n) e = rw (display, display_bytes, e)
