-- The calls' answers, by the way that was gone.
use Rattle.std.specs.Prelude.{ℕ, suc, ◌+◌, ◌-◌, ◌≡◌, ◌≤◌, List, length, Ok, Err}
use Rattle.std.proofs.Common.{sym, arith}
use Rattle.std.proofs.Math.Decide.{ℕ_discrete}
use Rattle.format.specs.Number.{be}
use Rattle.format.specs.Fault.{◌or_else◌, outcome}
use Rattle.format.specs.ImageData.{names_field, point_size, entry_at, display_name_size}
use Rattle.format.specs.Notes.{note_of, note_fault}
use Rattle.format.specs.declared.Fault.{Fault}
use Rattle.format.proofs.Laws.Faults.{broken-takes, or_else-none, or_else-assoc}
use Rattle.format.proofs.Laws.Outcomes.{outcome-broken, kept-by, broken-by}
use Rattle.image_data.specs.Call.{rectangle_is, point_is, string_answer, string_of, meta_at, rectangle_at, points_at, display_name_at, part_fault, meta_fault, entry_fault, rectangle_call_fault, rectangle, point_fault, attach_point, display_fault, string_judged, display}
use Rattle.image_data.proofs.Laws.Judged.{part-inside, entry-inside}
use Rattle.image_data.proofs.Laws.Way.{Clean, clean-unless, clean-or_else, way-ends, way_on}

clean-part : (s : List ℕ) (p size place : ℕ) → Clean (part_fault s p size place)
unfolding part_fault
clean-part s p size place = clean-or_else _ _ (clean-unless _ _ _)

clean-entry : (s : List ℕ) (f size i : ℕ) → Clean (entry_fault s f size i)
unfolding entry_fault
clean-entry s f size i = clean-or_else _ _ (clean-or_else _ _ (clean-unless _ _ _))

module _ (s : List ℕ) (d : ℕ) where
  pub rectangle-refused : {f : Fault} → Err f ≡ outcome (rectangle_call_fault s d) (rectangle_at s d) → rectangle_is f.number f.place 0 0 0 0 ≡ rectangle s d
  unfolding rectangle
  rectangle-refused {f} e =
      let way = broken-by _ (rectangle_at s d) f e in
      let more : (rectangle_call_fault s d).number ≡ suc ((rectangle_call_fault s d).number - 1) = omega (arith, way.0) in
      rw (way.1, more)

  -- the corners lie inside
  pub rectangle-inside : {p : ℕ} → Ok p ≡ outcome (rectangle_call_fault s d) (rectangle_at s d) → p + 8 ≤ length s
  unfolding rectangle_call_fault
  rectangle-inside {p} e =
      let way = kept-by _ (rectangle_at s d) p e in
      rw way.1 (part-inside _ _ _ _ (or_else-none _ _ way.0).1)

  clean : Clean (rectangle_call_fault s d)
  unfolding rectangle_call_fault
  clean = clean-or_else _ _ (clean-part _ _ _ _)

  pub rectangle-found : {p : ℕ} → Ok p ≡ outcome (rectangle_call_fault s d) (rectangle_at s d)
      → rectangle_is 0 0 (be 2 s p) (be 2 s (p + 2)) (be 2 s (p + 4)) (be 2 s (p + 6)) ≡ rectangle s d
  unfolding rectangle
  rectangle-found {p} e =
      let way = kept-by _ (rectangle_at s d) p e in
      rw (way.1, clean way.0)

-- an entry to which a way leads lies inside
pub way-inside : (s : List ℕ) (v : Fault) (f size i : ℕ) {p : ℕ} → Ok p ≡ outcome (v or_else entry_fault s f size i) (entry_at (be 4 s f) size i) → p + size ≤ length s
way-inside s v f size i {p} e =
    let way = kept-by _ (entry_at (be 4 s f) size i) p e in
    rw way.1 (entry-inside _ _ _ _ (or_else-none _ _ way.0).1)

module _ (s : List ℕ) (d i : ℕ) where
  pub point-refused : {f : Fault} → Err f ≡ outcome (point_fault s d i) (entry_at (points_at s d) point_size i) → point_is f.number f.place 0 0 ≡ attach_point s d i
  unfolding attach_point
  point-refused {f} e =
      let way = broken-by _ (entry_at (points_at s d) point_size i) f e in
      let more : (point_fault s d i).number ≡ suc ((point_fault s d i).number - 1) = omega (arith, way.0) in
      rw (way.1, more)

  clean-point : Clean (point_fault s d i)
  unfolding point_fault
  clean-point = clean-or_else _ _ (clean-entry _ _ _ _)

  pub point-found : {p : ℕ} → Ok p ≡ outcome (point_fault s d i) (entry_at (points_at s d) point_size i) → point_is 0 0 (be 2 s p) (be 2 s (p + 2)) ≡ attach_point s d i
  unfolding attach_point
  point-found {p} e =
      let way = kept-by _ (entry_at (points_at s d) point_size i) p e in
      rw (way.1, clean-point way.0)

-- the way to a display name, then rule 24 on the string that the field f names
module _ (s : List ℕ) (d i f : ℕ) where
  way-first : display_fault s d i f ≡ ((meta_fault s d or_else entry_fault s (names_field (meta_at s d)) display_name_size i) or_else note_fault s f)
  unfolding display_fault
  way-first = sym (or_else-assoc _ _ _)

  pub display-refused : {v : Fault}
      → Err v ≡ outcome (meta_fault s d or_else entry_fault s (names_field (meta_at s d)) display_name_size i) (display_name_at s d i)
      → Err v ≡ outcome (display_fault s d i f) (string_of s f)
  display-refused e = rw way-first (way-ends _ _ _ _ e)

  pub display-judged : {p : ℕ}
      → Ok p ≡ outcome (meta_fault s d or_else entry_fault s (names_field (meta_at s d)) display_name_size i) (display_name_at s d i)
      → outcome (note_fault s f) (string_of s f) ≡ outcome (display_fault s d i f) (string_of s f)
  display-judged e = rw way-first (way_on _ _ _ _ e)

  clean-display : Clean (display_fault s d i f)
  unfolding display_fault note_fault
  clean-display = clean-or_else _ _ (clean-or_else _ _ (clean-unless _ _ _))

  -- spread, the outcome is the call's answer
  pub display-spread : string_answer (outcome (display_fault s d i f) (string_of s f)) ≡ display s d i f
  unfolding display
  display-spread = spread (display_fault s d i f) clean-display
    where
      spread : (v : Fault) → Clean v → string_answer (outcome v (string_of s f)) ≡ string_judged s f v
      spread v clean = elim (ℕ_discrete v.number 0) [
        | yes h ↦ rw (clean h)
        | no n ↦ rw (outcome-broken v (string_of s f) n, broken-takes v (be 4 s f) 0 n, broken-takes v (length (note_of s f)) 0 n)
      ]
