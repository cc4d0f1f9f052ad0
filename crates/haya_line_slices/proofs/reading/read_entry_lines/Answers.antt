use Rattle.std.proofs.Common.{rules, ◌<◌, [], ◌∷◌, length, get_or, refl, sym, ap, ◌∙◌, length-append, arith}
use Rattle.std.specs.Str.Iter.{lines_steps}
use Rattle.std.specs.Str.Lines.{lines}
use Rattle.std.proofs.lemmas.Iterator.{YieldsList}
use Rattle.std.proofs.lemmas.Iterator.Consumers.{YieldsList-turn, YieldsList-end}
use Rattle.std.proofs.lemmas.Iterator.Splits.{YieldsList-from_lines}
use Rattle.std.proofs.lemmas.Result.{IfOk-weaker, err_from_is_err_and}
use Rattle.haya_entry.specs.Tree.{view}
use Rattle.haya_line_library.proofs.Takings.{Taken-start}
use Rattle.haya_line_slices.proofs.EntryRows.{entry-listed, line-fault, line-taken}
use Rattle.haya_line_slices.proofs.reading.read_entry_lines.Goals as goal

pub rows-init : goal.rows-init
rows-init c = record { counted = refl; taken = rw (ap (λ o. o.chain) c.new-entries.ensures) Taken-start }

pub rows-preserved : goal.rows-preserved
rows-preserved c =
    let road : YieldsList lines_steps (λ x. x.now) c.into_iter-line-iterator.result (lines c.args.part.now) = YieldsList-from_lines c.args.part.now (search rules) in
    let turn = YieldsList-turn road c.rows.yielded c.rows.line-iterator c.rows.yielded_by c.next.result c.next.new.self c.in-Some.line c.in-Some.is c.next.ensures.steps in
    let within : c.rows.number < length (lines c.args.part.now) = omega (arith, turn.0, c.rows.invariant.counted) in
    record {
      counted = omega (arith, c.rows.invariant.counted, length-append c.rows.yielded (c.in-Some.line ∷ []));
      taken =
          line-taken (lines c.args.part.now) c.rows.number c.rows.entries.chain c.rows.invariant.taken c.in-Some.line.now within
          (turn.1 ∙ ap (λ n. get_or (lines c.args.part.now) n c.in-Some.line.now) (sym c.rows.invariant.counted))
          c.take_more.new.entries c.in_ok-take_more.ensures.taken c.in_ok-take_more.ensures.none;
    }

pub returns-in_err-take_more-clause-fault : goal.returns-in_err-take_more-clause-fault
returns-in_err-take_more-clause-fault c =
    let road : YieldsList lines_steps (λ x. x.now) c.into_iter-line-iterator.result (lines c.args.part.now) = YieldsList-from_lines c.args.part.now (search rules) in
    let turn = YieldsList-turn road c.rows.yielded c.rows.line-iterator c.rows.yielded_by c.next.result c.next.new.self c.in-Some.line c.in-Some.is c.next.ensures.steps in
    let within : c.rows.number < length (lines c.args.part.now) = omega (arith, turn.0, c.rows.invariant.counted) in
    let p = err_from_is_err_and c.from_residual.result c.from_residual.ensures.1 in
    rw (p.1, p.2)
    (line-fault (lines c.args.part.now) c.rows.number c.rows.entries.chain c.rows.invariant.taken c.in-Some.line.now within
    (turn.1 ∙ ap (λ n. get_or (lines c.args.part.now) n c.in-Some.line.now) (sym c.rows.invariant.counted)) _ c.in_err-take_more.ensures.fault)

pub returns-clause-says : goal.returns-clause-says
returns-clause-says c =
    let road : YieldsList lines_steps (λ x. x.now) c.into_iter-line-iterator.result (lines c.args.part.now) = YieldsList-from_lines c.args.part.now (search rules) in
    let end = YieldsList-end road c.rows.yielded c.rows.line-iterator c.rows.yielded_by c.next.result c.next.new.self c.in-None.is c.next.ensures.steps in
    IfOk-weaker c.take_last.result _ _
    (λ entry closed.
    entry-listed c.args.part.now c.rows.number c.rows.entries.chain c.rows.invariant.taken
    (omega (arith, end.1, c.rows.invariant.counted)) closed.0 closed.1 (view entry) closed.2)
    c.take_last.ensures.closed
