use Rattle.std.proofs.Common.{◌≡◌, ◌+◌, ◌++◌, map, ap, ◌∙◌, sym, append_assoc, rules, arith}
use Rattle.std.specs.Prelude.{string_bytes}
use Rattle.std.proofs.lemmas.Result.{on_ok_weaker}
use Rattle.haya_entry.specs.Tree.{fields, parents, trees, view}
use Rattle.haya_entry.proofs.Trees.{parents_is}
use Rattle.haya_printing.specs.Printed.{all_lines_text, line_text}
use Rattle.haya_printing.proofs.EntryLines.{lines_text-parts}
use Rattle.haya_printing.proofs.lines.+lines.Goals as goal

pub push_lines-returns-in-Some : goal.push_lines-returns-in-Some
push_lines-returns-in-Some t c =
    let ps = map view c.as_slice.result.now in
    let old = string_bytes c.args.lines.now in
    let line = line_text c.args.depth (fields (view c.args.entry.now)) in
    let more = all_lines_text c.in-Some.deeper (trees ps) in
    let under : ps ≡ parents (view c.args.entry.now) = ap (map view) c.as_slice.ensures.value ∙ sym (parents_is c.args.entry.now) in
    let one : c.in-Some.deeper ≡ c.args.depth + 1 = search (rules, arith) in
    on_ok_weaker c.push_parents.result
    (λ appends. appends ∙ ap (λ l. l ++ more) c.in_ok-push_line.ensures ∙ append_assoc old line more
    ∙ ap (λ l. old ++ l) (lines_text-parts c.args.depth c.in-Some.deeper (view c.args.entry.now) ps one under))
    c.push_parents.ensures
