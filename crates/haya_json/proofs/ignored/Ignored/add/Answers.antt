use Rattle.std.proofs.Common.{◌+◌, ap, ◌∙◌}
use Rattle.std.specs.Str.{bytes_eq}
use Rattle.indexmap.specs.IndexMap.{insert_entry}
use Rattle.haya_json.specs.Tally.{as_count, by_bytes}
use Rattle.haya_json.proofs.Tallies.{insert-by_bytes}
use Rattle.haya_json.proofs.ignored.Ignored.add.Goals as goal

pub returns-clause-ok : goal.returns-clause-ok
returns-clause-ok c =
    let old = c.args.self.now.counts.entries in
    ap by_bytes c.in_ok-insert.ensures.entries ∙ insert-by_bytes c.in_ok-name.name c.saturating_add-count.result old
    ∙ ap (λ k. insert_entry bytes_eq (by_bytes old) k c.saturating_add-count.result) c.in_ok-name.ensures.ok
    ∙ ap (insert_entry bytes_eq (by_bytes old) c.args.name.now) (c.saturating_add-count.ensures ∙ ap (λ n. as_count (n + 1)) c.count.ensures)
