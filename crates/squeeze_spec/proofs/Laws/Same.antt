-- Two caches that give a name the same images, or lack it alike, answer a lookup alike.
use Rattle.std.specs.Prelude.{ℕ, ◌*◌, ◌≤◌, ◌<◌, ◌≡◌, false, length, drop}
use Rattle.std.proofs.Common.{sym, ap, ◌∙◌, arith}
use mathlib.Core.List.{List, ◌++◌, flat_map}
use Rattle.std.proofs.Math.Decide.{dec_lt}
use Rattle.format.specs.String.{allowed}
use Rattle.format.specs.Answer.{looked_up}
use Rattle.format.specs.Call.{lookup, lookup_words}
use Rattle.format.specs.declared.LookupAnswer.{LookupAnswer}
use Rattle.format.proofs.Laws.Lookup.{answer_keeps, query-unallowed}
use Rattle.format.proofs.Laws.LookupAnswers.{lookup-answers}
use Rattle.catalogue.specs.Catalogue.{Image}
use Rattle.catalogue.specs.Serves.{words_of}
use Rattle.squeeze_spec.specs.Promise.{SameLookup}

-- the cache gives the name the images `is`
pub record Gives (s name : List ℕ) (is : List Image) : Type 0 where
  pub enough : (room : ℕ) → 2 * length is ≤ room → ((lookup s name room).number ≡ 0) × ((lookup s name room).images ≡ length is)
  pub short : (room : ℕ) → room < 2 * length is → ((lookup s name room).number ≡ 14) × ((lookup s name room).images ≡ length is)
  pub words : (ws : List ℕ) → 2 * length is ≤ length ws → lookup_words s name ws ≡ flat_map words_of is ++ drop (2 * length is) ws

-- the cache refuses the name with n
pub record Lacks (s name : List ℕ) (n : ℕ) : Type 0 where
  pub some : 0 < n
  pub number : (room : ℕ) → (lookup s name room).number ≡ n
  pub images : (room : ℕ) → (lookup s name room).images ≡ 0

module _ {s t name : List ℕ} where
  pub same-given : {is : List Image} → Gives s name is → Gives t name is → SameLookup s t name
  same-given {is} a b = record {
    number = λ room. elim (dec_lt room (2 * length is)) [
      | yes l ↦ (b.short room l).0 ∙ sym (a.short room l).0
      | no l ↦ let g : 2 * length is ≤ room = omega arith in (b.enough room g).0 ∙ sym (a.enough room g).0
    ];
    images = λ room. elim (dec_lt room (2 * length is)) [
      | yes l ↦ (b.short room l).1 ∙ sym (a.short room l).1
      | no l ↦ let g : 2 * length is ≤ room = omega arith in (b.enough room g).1 ∙ sym (a.enough room g).1
    ];
    words = λ ws. elim (dec_lt (length ws) (2 * length is)) [
      | yes l ↦
          answer_keeps t ws (lookup t name (length ws)) (λ z. omega (arith, (b.short (length ws) l).0))
          ∙ sym (answer_keeps s ws (lookup s name (length ws)) (λ z. omega (arith, (a.short (length ws) l).0)))
      | no l ↦ let g : 2 * length is ≤ length ws = omega arith in b.words ws g ∙ sym (a.words ws g)
    ];
  }

  pub same-lacking : {n : ℕ} → Lacks s name n → Lacks t name n → SameLookup s t name
  same-lacking a b = record {
    number = λ room. b.number room ∙ sym (a.number room);
    images = λ room. b.images room ∙ sym (a.images room);
    words = λ ws.
        answer_keeps t ws (lookup t name (length ws)) (λ z. omega (arith, b.number (length ws), b.some))
        ∙ sym (answer_keeps s ws (lookup s name (length ws)) (λ z. omega (arith, a.number (length ws), a.some)));
  }

-- what a lookup answers gives both its number and its images
pub lacks-by : {s name : List ℕ} {n : ℕ} → 0 < n → (p o : ℕ) → ((room : ℕ) → lookup s name room ≡ looked_up n p 0 o) → Lacks s name n
lacks-by some p o answers = record {
  some = some;
  number = λ room. ap (λ (a : LookupAnswer). a.number) (answers room);
  images = λ room. ap (λ (a : LookupAnswer). a.images) (answers room);
}

-- every cache refuses a name that is not allowed
pub unallowed : (s name : List ℕ) → allowed name ≡ false → Lacks s name 13
unallowed s name e = lacks-by (omega arith) 0 0 (λ room. (lookup-answers s name room).refuses-query 12 0 (query-unallowed s name e))
