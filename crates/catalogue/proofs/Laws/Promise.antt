-- What request 8 promises is kept.
use Rattle.std.specs.Prelude.{ℕ, ◌≤◌, ◌<◌, ◌≡◌, ◌++◌, drop}
use Rattle.std.proofs.Common.{sym, ◌∙◌, arith, le-leb}
use Rattle.std.proofs.Math.Path.{ap}
use Rattle.std.proofs.Math.ListN.{length}
use Rattle.format.specs.Fault.{no_fault}
use Rattle.format.specs.Chain.{all_records}
use Rattle.format.specs.declared.CheckAnswer.{CheckAnswer}
use Rattle.format.proofs.Laws.Faults.{or_else-next, kept-passes, same_number, unless-kept}
use Rattle.format.specs.declared.Reading.TheVariants.{Short}
use Rattle.catalogue.specs.Catalogue.{Catalogue, Good, catalogue_bytes}
use Rattle.catalogue.specs.Fields.{catalogue_in}
use Rattle.catalogue.specs.LaidOut.{Lays}
use Rattle.catalogue.specs.Written.{places, written_size, written}
use Rattle.catalogue.specs.Listed.{listed}
use Rattle.catalogue.specs.Call.{write_is, written_bytes, write_fault, write, write_leaves, listed_bytes, listing_fault, catalogue_of, catalogue_leaves}
use Rattle.catalogue.specs.Promise.{BytesPromise, LayoutPromise, WriterPromise, ReaderPromise}
use Rattle.catalogue.proofs.Laws.Judged.{says}
use Rattle.catalogue.proofs.Laws.RoundTrip.{says_back}
use Rattle.catalogue.proofs.Laws.Serves.{serves}
use Rattle.catalogue.proofs.Laws.Listed.{order-length, listed_back}
use Rattle.catalogue.proofs.Laws.Names.{no-name-twice}
use Rattle.catalogue.proofs.Laws.Reader.{order-each-once, order-rises, listed-good, listed-few}
use Rattle.catalogue.proofs.Laws.Written.{written-length, written-lays}
use Rattle.catalogue.proofs.Laws.Call.{answered, leaves-written, refused, unrefused, unrefused-listing, good-taken}

pub bytes-promise : BytesPromise
bytes-promise = record { says = says; back = says_back }

pub layout-promise : LayoutPromise
layout-promise s d b q good some lays = serves good lays some

-- a written cache is listed as its catalogue
module _ (d : Catalogue) (b : ℕ) (good : Good d) (few : length d.icons ≤ 65535) (some : 0 < b) (fits : written_size d b ≤ 16777216) where
  lays : Lays (written d b) d b (places d b)
  lays = written-lays d b fits

  back : listed (written d b) ≡ d
  back = listed_back good lays some (λ i j l g. omega arith)

  listing-keeps : (room : ℕ) → length (catalogue_bytes d) ≤ room → listing_fault (written d b) room ≡ no_fault
  unfolding listing_fault
  listing-keeps room l =
      let accepted = ap (λ (a : CheckAnswer). a.number) (serves good lays some).accepts in
      let counted : length (all_records Short (written d b)) ≤ 65535 = rw (order-length good lays some) few in
      or_else-next _ _ accepted
      ∙ or_else-next _ _ (same_number (no-name-twice good lays some))
      ∙ kept-passes _ 21 0 _ (le-leb _ _ counted)
      ∙ unless-kept _ 19 0 (le-leb (length (listed_bytes (written d b))) room (rw back l))

pub writer-promise : WriterPromise
unfolding write write_leaves catalogue_of catalogue_leaves
writer-promise = record {
  writes = λ c b lent small e.
      let d = catalogue_in c in
      let call = unrefused c b (length lent) e in
      let said = says c small call.judged in
      let fits = call.not-too-long in
      let same : listed_bytes (written d b) ≡ c = ap catalogue_bytes (back d b said.good said.icons-few call.some fits) ∙ said.bytes in
      let none : (room : ℕ) → length c ≤ room → listing_fault (written d b) room ≡ no_fault =
      λ room l. listing-keeps d b said.good said.icons-few call.some fits room (rw said.bytes l) in
      record {
        answer = answered call.none ∙ ap (write_is 0 0) (sym (written-length d b));
        leaves = leaves-written (written d b) lent call.none;
        serves = serves said.good (written-lays d b fits) call.some;
        back = λ room l. answered (none room l) ∙ ap (λ xs. write_is 0 0 (length xs)) same;
        back-leaves = λ other l. leaves-written (listed_bytes (written d b)) other (none (length other) l) ∙ ap (λ xs. xs ++ drop (length xs) other) same;
      };
  refuses = λ c b lent. refused (write_fault c b (length lent)) (written_bytes c b) lent (written_size (catalogue_in c) b);
}

pub reader-promise : ReaderPromise
unfolding catalogue_of catalogue_leaves
reader-promise = record {
  lists = λ s lent small e.
      let call = unrefused-listing s (length lent) e in
      let good = listed-good s call.accepted small call.apart in
      let back = says_back (listed s) good (listed-few s call.accepted small call.apart call.few) in
      record {
        answer = answered call.none;
        leaves = leaves-written (listed_bytes s) lent call.none;
        each-once = order-each-once s call.accepted;
        rises = order-rises s call.accepted;
        good = good;
        says_back = back;
        taken = good-taken (listed_bytes s) back.judged;
      };
  refuses = λ s lent. refused (listing_fault s (length lent)) (listed_bytes s) lent (length (listed_bytes s));
}
