use Rattle.std.proofs.Common.{◌≡◌, false, length, map, rules, tests, ap, ◌∙◌, arith}
use Rattle.std.specs.Prelude.{◌==◌}
use Rattle.std.proofs.lemmas.List.{length-map}
use Rattle.hayagriva.specs.Tree.{view}
use Rattle.haya_line_library.specs.Chain.{chain_rows, chain_view}
use Rattle.haya_line_library.proofs.Chains.{listed_first, row_taken}
use Rattle.haya_line_library.proofs.open_entries.OpenEntries.take_line.Goals as goal
use Rattle.haya_line_library.proofs.open_entries.OpenEntries.take_line.Goals.{in-Ok-open_entry, in-Err-open_entry}

pub returns-clause-taken : goal.returns-clause-taken
returns-clause-taken c =
    let chain : chain_view c.self.inside.chain ≡ c.args.self.now.chain = ap (λ o. o.chain) c.self.view_is in
    let some : (length c.args.line.now == 0) ≡ false = search (rules, tests) in
    let m : c.len.result ≡ length c.self.inside.chain.items = search rules in
    let many : c.len.result ≡ length c.args.self.now.chain = omega (arith, m, length-map c.self.inside.chain.items view, ap length chain) in
    let head = rw (c.split_line-items.ensures, many) at c.in-Ok.ensures.head.0 in
    let deep : length (map view c.close_to.new.chain.items) ≡ c.in-Ok.head.depth = omega (arith, m, length-map c.close_to.new.chain.items view, c.in_ok-close_to.ensures.length, c.in-Ok.ensures.head.1) in
    elim c.match-open_entry.branch [
      | in-Ok-open_entry w ↦ rw (w.result-is, some)
          (row_taken _ _ _ c.args.self.now.chain (map view c.close_to.new.chain.items) (map view c.close_to.new.closed.items) _ head deep w.in-Ok-open_entry.ensures.opened
          (c.in_ok-close_to.ensures.rows ∙ ap (chain_rows 0) chain)
          (listed_first (map view c.close_to.new.closed.items) (omega (arith, c.in_ok-close_to.ensures.one, length-map c.close_to.new.closed.items view))))
      | in-Err-open_entry w ↦ rw w.result-is tt
    ]
