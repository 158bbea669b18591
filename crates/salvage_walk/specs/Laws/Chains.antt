-- All chains, one after the other.
use Rattle.std.specs.Prelude.{ℕ, ◌+◌, ◌*◌, ◌^◌, ◌≤◌, ◌<◌, ◌≡◌, refl, List, length}
use Rattle.std.proofs.Common.{◌∙◌, arith, length-append}
use Rattle.std.proofs.Math.Numerals.{add-one}
use Rattle.format.specs.Bytes.{joined}
use Rattle.format.specs.Header.{buckets}
use Rattle.salvage_spec.specs.Salvage.{chain_icons, icons}
use Rattle.salvage_spec.specs.Pieces.{chain_piece, chain_rows}
use Rattle.salvage_spec.proofs.Laws.Lists.{joined-le}
use Rattle.salvage_walk.specs.declared.Sums.{Sums}
use Rattle.salvage_walk.specs.Walk.{Walks, WholeTo, WalksAll}
use Rattle.salvage_walk.specs.Laws.Grows.{grows_none, grows-next}

-- the chains below bucket k are walked: all of them, or there are too many icons
pub record WalksTo (s : List ℕ) (k : ℕ) (c d w v : List ℕ) (a b : Sums) : Type 0 where
  pub same_bytes : length d ≡ length c
  pub same-words : length v ≡ length w
  pub whole : b.icons ≤ 65535 → WholeTo s k c d w v a b
  pub many : 65535 < b.icons → 65535 < length (joined (chain_icons s) k)

pub walks-none : (s c w : List ℕ) (a : Sums) → a.icons ≡ 0 → WalksTo s 0 c c w w a a
unfolding joined
walks-none s c w a e = record { same_bytes = refl; same-words = refl; whole = λ l. grows_none c w a; many = λ l. absurd (omega arith) }

module _ {s : List ℕ} {k : ℕ} {c d w v : List ℕ} {a b : Sums} (h : WalksTo s k c d w v a b) where
  more : length (joined (chain_icons s) (k + 1)) ≡ length (joined (chain_icons s) k) + length (chain_icons s k)
  unfolding joined
  more = rw add-one (length-append (joined (chain_icons s) k) (chain_icons s k))

  pub walks_next : {e u : List ℕ} {b' : Sums} → a.icons ≡ 0 → b.icons ≤ 65535 → Walks s k d e v u b b' → WalksTo s (k + 1) c e w u a b'
  walks_next zero few walk =
      let g = h.whole few in
      let wide : 2 ^ 26 * k + 2 ^ 26 ≡ 2 ^ 26 * (k + 1) = omega arith in
      record {
        same_bytes = walk.same_bytes ∙ h.same_bytes;
        same-words = walk.same-words ∙ h.same-words;
        whole = λ l. rw more (rw wide at (grows-next (chain_piece s) (chain_rows s) k g refl refl (walk.whole l)));
        many = λ l. omega (arith, walk.many l, g.icons, more);
      }

  pub walks-all : k ≡ buckets s → WalksAll s c d w v a b
  unfolding icons
  walks-all e = record { whole = λ l. rw e at (h.whole l); many = λ l. rw e at (h.many l) }

  pub walks-stopped : k ≤ buckets s → 65535 < b.icons → WalksAll s c d w v a b
  unfolding icons
  walks-stopped l too = record { whole = λ few. absurd (omega arith); many = λ m. omega (arith, h.many too, joined-le (chain_icons s) k (buckets s) l) }
