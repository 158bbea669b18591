-- Of a call of the writer or the reader: what is answered and left, what is known where nothing is
-- refused, and that a good catalogue is taken.
use Rattle.std.specs.Prelude.{ℕ, ◌≤◌, ◌<◌, ◌≡◌, ◌⊎◌, List, [], ◌++◌, Bool, length, drop, leb}
use Rattle.std.proofs.Math.Path.{refl}
use Rattle.std.proofs.Common.{ap, ◌∙◌, ltb-true, leb-true}
use Rattle.std.proofs.Math.Logic.{inl, inr}
use Rattle.std.proofs.Math.Bool.{true, false, and-eq-true_iff}
use Rattle.format.specs.Fault.{no_fault, unless, ◌or_else◌}
use Rattle.format.specs.Chain.{all_records}
use Rattle.format.specs.Words.{Accepted}
use Rattle.format.specs.declared.Fault.{Fault}
use Rattle.format.proofs.Laws.Demand.{demand3}
use Rattle.format.proofs.Laws.Faults.{or_else-none, or_else-next, kept-passes, same_number, unless-none, unless-kept, broken-takes}
use Rattle.format.specs.declared.Reading.TheVariants.{Short}
use Rattle.catalogue.specs.Fields.{catalogue_in}
use Rattle.catalogue.specs.Repeats.{repeat_fault, catalogue_fault}
use Rattle.catalogue.specs.Written.{written_size}
use Rattle.catalogue.specs.Listed.{record_uses}
use Rattle.catalogue.specs.Call.{write_is, answer_to, left_by, allowed_buckets, allowed_size, write_fault, write, listed_bytes, listing_fault}
use Rattle.catalogue.specs.Promise.{Refuses}

-- what is answered and left where nothing is refused
pub answered : {v : Fault} {l : ℕ} → v ≡ no_fault → answer_to v l ≡ write_is 0 0 l
answered {l = l} e = ap (λ v. answer_to v l) e

pub leaves-written : {v : Fault} (xs lent : List ℕ) → v ≡ no_fault → left_by v xs lent ≡ xs ++ drop (length xs) lent
leaves-written xs lent e = ap (λ v. left_by v xs lent) e

pub refused : (v : Fault) (xs lent : List ℕ) (l : ℕ) → Refuses (answer_to v l) lent (left_by v xs lent)
refused v xs lent l some = (broken-takes v l 0 some, broken-takes v _ lent some)

or_else-last : (x y : Fault) → (x or_else y).number ≡ 0 → x or_else y ≡ y
or_else-last x y e = or_else-next x y (or_else-none x y e).0

-- what a call of the writer tells that refuses nothing
pub record Unrefused (c : List ℕ) (b room : ℕ) : Type 0 where
  pub none : write_fault c b room ≡ no_fault
  pub judged : (catalogue_fault c).number ≡ 0
  pub some : 0 < b
  pub not-too-long : written_size (catalogue_in c) b ≤ 16777216

pub unrefused : (c : List ℕ) (b room : ℕ) → (write_fault c b room).number ≡ 0 → Unrefused c b room
unfolding write_fault
unrefused c b room e =
    let first = or_else-none _ _ e in
    let second = or_else-none _ _ first.1 in
    let sized = unless-none _ _ _ second.1 in
    record {
      none = or_else-last _ _ e ∙ or_else-last _ _ first.1 ∙ unless-kept _ 19 0 sized;
      judged = first.0;
      some = ltb-true 0 b ((and-eq-true_iff _ _).0 (unless-none _ _ _ second.0)).0;
      not-too-long = leb-true _ _ ((and-eq-true_iff (leb _ room) _).0 sized).1;
    }

-- and one of the reader
pub record UnrefusedListing (s : List ℕ) (room : ℕ) : Type 0 where
  pub none : listing_fault s room ≡ no_fault
  pub accepted : Accepted Short s
  pub apart : (repeat_fault [] (record_uses s)).number ≡ 0
  pub few : length (all_records Short s) ≤ 65535

pub unrefused-listing : (s : List ℕ) (room : ℕ) → (listing_fault s room).number ≡ 0 → UnrefusedListing s room
unfolding listing_fault
unrefused-listing s room e =
    let first = or_else-none _ _ e in
    let second = or_else-none _ _ first.1 in
    let third = or_else-none _ _ second.1 in
    let fits = leb (length (listed_bytes s)) room in
    record {
      none = or_else-last _ _ e ∙ or_else-last _ _ first.1 ∙ or_else-last _ _ second.1 ∙ unless-kept fits 19 0 (unless-none fits 18 0 third.1);
      accepted = (demand3 Short s).checks.accepted.0 first.0;
      apart = second.0;
      few = leb-true _ _ (unless-none _ _ _ third.0);
    }

-- to a good catalogue the writer answers 0 or 19
module _ (c : List ℕ) (judged : catalogue_fault c ≡ no_fault) (b room : ℕ) (allowed : allowed_buckets b ≡ true) where
  size-decides : write_fault c b room ≡ unless (allowed_size (written_size (catalogue_in c) b) room) 19 0
  unfolding write_fault
  size-decides = or_else-next _ _ (same_number judged) ∙ kept-passes _ 18 0 _ allowed

  pub good-taken : ((write c b room).number ≡ 0) ⊎ ((write c b room).number ≡ 19)
  unfolding write
  good-taken = rw size-decides (go (allowed_size (written_size (catalogue_in c) b) room))
    where
      go : (fits : Bool) → ((unless fits 19 0).number ≡ 0) ⊎ ((unless fits 19 0).number ≡ 19)
      go true = inl refl
      go false = inr refl
