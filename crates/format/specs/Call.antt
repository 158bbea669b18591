-- What each call answers, and what it leaves in the lent words: document 01, 'Answer numbers'.
use Rattle.std.specs.Prelude.{ℕ, zero, suc, ◌+◌, ◌-◌, ◌*◌, List, [], ◌∷◌, ◌++◌, length, drop, ltb, leb, if◌then◌else◌}
use Rattle.format.specs.Layout.{entries_at}
use Rattle.format.specs.Number.{be}
use Rattle.format.specs.Fault.{unless, ◌or_else◌, if_kept}
use Rattle.format.specs.String.{allowed, same_bytes}
use Rattle.format.specs.Header.{header_fault, tables_fault, path_fault, path_field, path_of, directories, buckets, bucket_field}
use Rattle.format.specs.Record.{name_of, bucket_of, images_at, images, image_words}
use Rattle.format.specs.Chain.{chain_of, most_records, longest_chain, opened_on}
use Rattle.format.specs.Answer.{accepted, refused, found, unfound, looked_up, directory_is, part_is}
use Rattle.format.specs.declared.Fault.{Fault}
use Rattle.format.specs.declared.Reading.{Reading}
use Rattle.format.specs.declared.Reading.TheVariants.{Short}
use Rattle.format.specs.declared.Next.{Next}
use Rattle.format.specs.declared.Next.TheVariants.{End, Broken, Record}
use Rattle.format.specs.declared.CheckAnswer.{CheckAnswer}
use Rattle.format.specs.declared.Found.{Found}
use Rattle.format.specs.declared.LookupAnswer.{LookupAnswer}
use Rattle.format.specs.declared.DirectoryAnswer.{DirectoryAnswer}
use Rattle.format.specs.declared.DirectoryPart.{DirectoryPart}

-- By a reading ρ.
module _ (ρ : Reading) where
  -- the check of n buckets from bucket k on, with o records opened on the chains before
  unfoldable pub check_buckets : ℕ → List ℕ → ℕ → ℕ → CheckAnswer
  check_buckets zero s k o = accepted (directories s) o (longest_chain ρ s)
  check_buckets (suc n) s k o =
      let c = chain_of ρ s k (most_records s - o) in
      let opened = o + opened_on c in
      elim c.after [
        | End ↦ check_buckets n s (suc k) opened
        | Broken x p ↦ refused x p opened
        | Record r ↦ refused 12 (bucket_field s k) opened
      ]

  -- the check: 1 to 6, 16 and 17, then the chains of all buckets from 0 up
  unfoldable pub check : List ℕ → CheckAnswer
  check s =
      let v = tables_fault s in
      if_kept v (check_buckets (buckets s) s 0 0) (refused v.number v.place 0)

-- the first of the records to bear the name, after o opened ones, or a if none does
unfoldable pub first_named : List ℕ → List ℕ → List ℕ → ℕ → Found → Found
first_named s name [] o a = a
first_named s name (r ∷ rs) o a = if same_bytes (name_of s r) name then found r (o + 1) else first_named s name rs (o + 1) a

-- the answer where no record of a chain bears the name, by what comes after them; f is the bucket's
-- field
abbrev pub unnamed : ℕ → Next → ℕ → Found
unnamed f End o = unfound 30 0 o
unnamed f (Broken x p) o = unfound x p o
unnamed f (Record r) o = unfound 12 f o

-- the search along bucket k's chain
unfoldable pub search_bucket : List ℕ → List ℕ → ℕ → Found
search_bucket s name k =
    let c = chain_of Short s k (most_records s) in
    first_named s name c.records 0 (unnamed (bucket_field s k) c.after (opened_on c))

-- what is judged of a name before it is looked for: 13, then 1 to 5
unfoldable pub query_fault : List ℕ → List ℕ → Fault
query_fault s name = unless (allowed name) 13 0 or_else header_fault s

-- the record that bears the name, without its images
unfoldable pub find : List ℕ → List ℕ → Found
find s name =
    let v = query_fault s name in
    if_kept v (search_bucket s name (bucket_of s name)) (unfound v.number v.place 0)

-- the answer where the record r was found, with `room` words lent
unfoldable pub found_answer : List ℕ → ℕ → ℕ → ℕ → LookupAnswer
found_answer s room r o =
    let m = images s r in
    if leb (2 * m) room then looked_up 0 r m o else looked_up 14 (images_at s r) m o

-- the same from what the search found
unfoldable pub with_images : List ℕ → ℕ → Found → LookupAnswer
with_images s room a =
    elim a.number [
      | zero ↦ found_answer s room a.place a.opened
      | suc x ↦ looked_up (suc x) a.place 0 a.opened
    ]

-- the lookup: the search, then the images
unfoldable pub lookup : List ℕ → List ℕ → ℕ → LookupAnswer
lookup s name room = with_images s room (find s name)

-- the lent words after an answer: with number 0 the images' words and then what was there, else
-- what was there
unfoldable pub answer_words : List ℕ → List ℕ → LookupAnswer → List ℕ
answer_words s words a =
    elim a.number [
      | zero ↦ image_words a.images s (entries_at (images_at s a.place)) ++ drop (2 * a.images) words
      | suc x ↦ words
    ]

-- the lent words after a lookup
abbrev pub lookup_words : List ℕ → List ℕ → List ℕ → List ℕ
lookup_words s name words = answer_words s words (lookup s name (length words))

-- what is judged of a directory index: 1 to 5, then 15, then 6, 17 and 16 on its path
unfoldable pub directory_fault : List ℕ → ℕ → Fault
directory_fault s i = header_fault s or_else unless (ltb i (directories s)) 15 0 or_else path_fault s i

-- the number call
unfoldable pub directory : List ℕ → ℕ → DirectoryAnswer
directory s i = directory_is (directory_fault s i).number (directory_fault s i).place

-- where the part handed back for a directory stands
unfoldable pub directory_part : List ℕ → ℕ → DirectoryPart
directory_part s i =
    let v = directory_fault s i in
    part_is v.number v.place (if_kept v (be 4 s (path_field s i)) 0) (if_kept v (length (path_of s i)) 0)

-- the part handed back for a directory: its path, and nothing with a refusal
unfoldable pub directory_path : List ℕ → ℕ → List ℕ
directory_path s i = if_kept (directory_fault s i) (path_of s i) []
