-- Which rule a string breaks by what it is.
use Rattle.std.specs.Prelude.{ℕ, suc, ◌≡◌, refl, List, ◌∷◌, true, false}
use Rattle.std.proofs.Common.{sym, ◌∙◌, arith}
use Rattle.std.proofs.lemmas.Bool.{false≢true}
use Rattle.format.specs.Fault.{no_fault}
use Rattle.format.specs.String.{is_whole, string_fault}
use Rattle.format.specs.declared.Extent.{Extent}
use Rattle.format.specs.declared.Extent.TheVariants.{Whole, Empty, Long, Cut}
use Rattle.format.proofs.Laws.Numbers.{OneOf}
use Rattle.format.specs.Listed.{listed}

pub string-kept : (e : Extent) (x p : ℕ) → is_whole e ≡ true → string_fault e x p ≡ no_fault
unfolding is_whole string_fault
string-kept (Whole n) x p w = refl
string-kept Empty x p w = absurd (false≢true w)
string-kept Long x p w = absurd (false≢true w)
string-kept Cut x p w = absurd (false≢true w)

pub string-whole : (e : Extent) (x p : ℕ) → (string_fault e (suc x) p).number ≡ 0 → is_whole e ≡ true
unfolding is_whole string_fault
string-whole (Whole n) x p none = refl
string-whole Empty x p none = absurd (omega arith)
string-whole Long x p none = absurd (omega arith)
string-whole Cut x p none = absurd (omega arith)

pub string-broken : (e : Extent) (x p : ℕ) → is_whole e ≡ false → (string_fault e (suc x) p).number ≡ 0 → ⊥
string-broken e x p broken none = false≢true (sym broken ∙ string-whole e x p none)

pub string-one : {ns : List ℕ} (e : Extent) (x p : ℕ) → listed x (0 ∷ ns) ≡ true → listed 17 (0 ∷ ns) ≡ true → OneOf ns (string_fault e x p).number
unfolding string_fault
string-one (Whole n) x p own cut = record { one = refl }
string-one Empty x p own cut = record { one = own }
string-one Long x p own cut = record { one = own }
string-one Cut x p own cut = record { one = cut }
