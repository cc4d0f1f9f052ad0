use Rattle.std.proofs.Common.{ap, sym, ◌∙◌, rules}
use Rattle.haya_entry.specs.Tree.{view}
use Rattle.haya_lines.specs.Items.{items}
use Rattle.haya_lines.specs.Line.{fields_read, row_read}
use Rattle.haya_lines.specs.LineReading.{IsFaultOf}
use Rattle.haya_lines.proofs.Rows.{row_at-ok, row_at-err}
use Rattle.haya_lines.proofs.line.read_line.Goals as goal

pub returns-clause-row : goal.returns-clause-row
returns-clause-row c =
    let h = c.in_ok-head.head in
    let is = ap (row_read c.args.deepest) (sym c.split_line-items.ensures) ∙ c.in_ok-head.ensures.head.0 in
    rw is (row_at-ok h.depth h.key.now h.kind (view c.in_ok-entry.entry) (view c.read_fields.new.entry) (λ f. fields_read f c.read_head.new.items) c.in_ok-entry.ensures c.in_ok-read_fields.ensures.ok)

pub returns-in_err-read_fields-clause-fault : goal.returns-in_err-read_fields-clause-fault
returns-in_err-read_fields-clause-fault c =
    let h = c.in_ok-head.head in
    let fault = c.in_err-read_fields.field-0.0 in
    let is = ap (row_read c.args.deepest) (sym c.split_line-items.ensures) ∙ c.in_ok-head.ensures.head.0 in
    let told : IsFaultOf (row_read c.args.deepest (items c.args.line.now)) fault =
    rw is (row_at-err h.depth h.key.now h.kind (view c.in_ok-entry.entry) (λ f. fields_read f c.read_head.new.items) fault c.in_ok-entry.ensures c.in_err-read_fields.ensures.fault) in
    search rules
