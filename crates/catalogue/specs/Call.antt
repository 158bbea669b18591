-- What `write` and `catalogue_of` answer, and what they leave in the lent bytes: document 02,
-- request 8.
use Rattle.std.specs.Prelude.{ℕ, List, [], ◌++◌, Bool, ◌&&◌, length, drop, ltb, leb, Result, Ok, Err}
use Rattle.format.specs.Layout.{most_bytes}
use Rattle.format.specs.Fault.{fault, unless, ◌or_else◌, if_kept}
use Rattle.format.specs.Chain.{all_records}
use Rattle.format.specs.Call.{check}
use Rattle.format.specs.declared.Fault.{Fault}
use Rattle.format.specs.declared.Reading.TheVariants.{Short}
use Rattle.catalogue.specs.Catalogue.{most_icons, catalogue_bytes}
use Rattle.catalogue.specs.Fields.{catalogue_in}
use Rattle.catalogue.specs.Repeats.{repeat_fault, catalogue_fault}
use Rattle.catalogue.specs.Written.{written_size, written}
use Rattle.catalogue.specs.Listed.{listed, record_uses}

-- what a call answers that writes into lent bytes: with number 0 how many it wrote, place 0; with a
-- refusal its number and place, and length 0
pub record WriteAnswer : Type 0 where
  pub number : ℕ
  pub place : ℕ
  pub length : ℕ

-- number n at p, with l bytes written
abbrev pub write_is : ℕ → ℕ → ℕ → WriteAnswer
write_is n p l = record { number = n; place = p; length = l }

-- the answer of a call that tells how many bytes it wrote, or which refusal there is
abbrev pub write_answer : Result ℕ Fault → WriteAnswer
write_answer (Ok n) = write_is 0 0 n
write_answer (Err v) = write_is v.number v.place 0

-- the answer after a judgement, where l bytes are to be written; with a refusal the length is 0
abbrev pub answer_to : Fault → ℕ → WriteAnswer
answer_to v l = write_is v.number v.place (if_kept v l 0)

-- the lent bytes after it: those written and then what was there, or with a refusal what was there
abbrev pub left_by : Fault → List ℕ → List ℕ → List ℕ
left_by v xs lent = if_kept v (xs ++ drop (length xs) lent) lent

-- the caller picks 1 to 4,096 buckets
abbrev pub most_buckets : ℕ
most_buckets = 4096

abbrev pub allowed_buckets : ℕ → Bool
allowed_buckets b = ltb 0 b && leb b most_buckets

-- a cache of l bytes has room, and is not too long
abbrev pub allowed_size : ℕ → ℕ → Bool
allowed_size l room = leb l room && leb l most_bytes

-- the cache that is written from the bytes c with b buckets
abbrev pub written_bytes : List ℕ → ℕ → List ℕ
written_bytes c b = written (catalogue_in c) b

-- what is judged before: 18 and 20 of the catalogue, 18 for the bucket count, then 19
unfoldable pub write_fault : List ℕ → ℕ → ℕ → Fault
write_fault c b room =
    catalogue_fault c
    or_else unless (allowed_buckets b) 18 0
    or_else unless (allowed_size (written_size (catalogue_in c) b) room) 19 0

-- the writer, with `room` bytes lent, and the lent bytes after it
unfoldable pub write : List ℕ → ℕ → ℕ → WriteAnswer
write c b room = answer_to (write_fault c b room) (written_size (catalogue_in c) b)

unfoldable pub write_leaves : List ℕ → ℕ → List ℕ → List ℕ
write_leaves c b lent = left_by (write_fault c b (length lent)) (written_bytes c b) lent

-- the bytes of the catalogue that a cache is listed as
abbrev pub listed_bytes : List ℕ → List ℕ
listed_bytes s = catalogue_bytes (listed s)

-- what is judged before: the check's own, 20, 21 for more than 65,535 icons, then 19
unfoldable pub listing_fault : List ℕ → ℕ → Fault
listing_fault s room =
    fault (check Short s).number (check Short s).place
    or_else repeat_fault [] (record_uses s)
    or_else unless (leb (length (all_records Short s)) most_icons) 21 0
    or_else unless (leb (length (listed_bytes s)) room) 19 0

-- the reader, with `room` bytes lent, and the lent bytes after it
unfoldable pub catalogue_of : List ℕ → ℕ → WriteAnswer
catalogue_of s room = answer_to (listing_fault s room) (length (listed_bytes s))

unfoldable pub catalogue_leaves : List ℕ → List ℕ → List ℕ
catalogue_leaves s lent = left_by (listing_fault s (length lent)) (listed_bytes s) lent
