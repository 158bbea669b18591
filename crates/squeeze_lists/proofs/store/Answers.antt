-- `squeeze_lists::store` meets its contract: the list's bytes are copied as they stand.
use Rattle.std.proofs.Common.{◌+◌, ◌*◌, take, drop, ap, ◌∙◌}
use Rattle.format.specs.Bytes.{put}
use Rattle.squeeze_lists.proofs.store.Goals as goal

pub returns : goal.returns
returns c =
    let a = c.args in
    record {
      between = _;
      list_put = c.copy.ensures ∙ ap (λ n. put a.out.now a.shared.end (take (4 + 8 * n) (drop a.list a.cache.now))) c.u32_at.ensures;
      adds = c.add.ensures;
      cell-put = c.put_u32.ensures;
      becomes = ap (λ n. record { until = a.icon + 1; entries = a.shared.entries + 1; end = a.shared.end + (4 + 8 * n) }) c.u32_at.ensures;
    }
