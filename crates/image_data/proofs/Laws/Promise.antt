-- The promise is kept.
use Rattle.std.specs.Prelude.{ℕ, ◌≡◌, List}
use Rattle.std.proofs.Common.{◌∙◌}
use Rattle.format.specs.Layout.{entries_at}
use Rattle.format.specs.Header.{header_fault}
use Rattle.format.specs.Record.{images_at, images}
use Rattle.format.specs.Notes.{image_data_fault}
use Rattle.format.specs.Words.{Accepted}
use Rattle.format.proofs.Laws.Faults.{same_number, or_else-next, or_else-none}
use Rattle.format.proofs.Laws.Rules.{tables-keep-header, keeps-short, long-notes}
use Rattle.format.proofs.Laws.Links.{on_chain}
use Rattle.format.specs.declared.Reading.TheVariants.{Long}
use Rattle.image_data.specs.Call.{bytes_fault}
use Rattle.image_data.specs.Promise.{image_field, OfImage, Promise}
use Rattle.image_data.proofs.Laws.Kept.{images-kept}
use Rattle.image_data.proofs.Laws.Answered.{rectangle-answered, point-answered, language-answered, text-answered}

-- a cache that the long check accepts keeps rules 1 and 2, and nothing is broken behind the images
-- of its records
module _ (s : List ℕ) (accepted : Accepted Long s) where
  bytes-kept : (bytes_fault s).number ≡ 0
  unfolding bytes_fault header_fault
  bytes-kept =
      let first = or_else-none _ _ (tables-keep-header s accepted.tables-kept) in
      same_number (or_else-next _ _ first.0) ∙ (or_else-none _ _ first.1).0

  image-kept : {d : ℕ} (o : OfImage s d) → (image_data_fault s (image_field s o.r o.j)).number ≡ 0
  image-kept o =
      let (n, holds) = accepted.lower o.k o.bucket in
      let rules = (on_chain holds o.chained).1.rules in
      let notes = long-notes s o.k o.r (keeps-short Long s o.k o.r rules) in
      images-kept (images s o.r) s (entries_at (images_at s o.r)) (rw notes at rules) o.j o.image

pub promise : (s : List ℕ) (d : ℕ) → Promise s d
promise s d = record {
  rectangle = λ a o. rw (← o.offset) (rectangle-answered s _ (bytes-kept s a) (image-kept s a o));
  point = λ i a o. rw (← o.offset) (point-answered s _ (bytes-kept s a) (image-kept s a o) i);
  language = λ i a o. rw (← o.offset) (language-answered s _ (bytes-kept s a) (image-kept s a o) i);
  text = λ i a o. rw (← o.offset) (text-answered s _ (bytes-kept s a) (image-kept s a o) i);
}
