use Rattle.std.proofs.Common.{rules, ◌<◌, [], ◌∷◌, length, get_or, refl, sym, ap, ◌∙◌, length-append, arith}
use Rattle.std.specs.Str.Iter.{lines_steps}
use Rattle.std.specs.Str.Lines.{lines}
use Rattle.std.proofs.lemmas.Iterator.{YieldsList}
use Rattle.std.proofs.lemmas.Iterator.Consumers.{YieldsList-turn, YieldsList-end}
use Rattle.std.proofs.lemmas.Iterator.Splits.{YieldsList-from_lines}
use Rattle.std.proofs.lemmas.Result.{err_from_is_err_and}
use Rattle.haya_line_library.specs.Repeats.{repeats_view}
use Rattle.haya_line_library.proofs.Again.{Again-start, Again-line, Again-end}
use Rattle.haya_line_library.proofs.Progress.{Progress-fault}
use Rattle.haya_line_library.proofs.library_text.read_library_with_repeats.Goals as goal

pub rows-init : goal.rows-init
rows-init c = record {
  counted = refl;
  again =
      Again-start (lines c.args.text.now) c.with_hash_keys-library.result c.new-entries.result.chain _ c.with_hash_keys-library.ensures
      (ap (λ o. o.chain) c.new-entries.ensures) (search rules);
}

pub rows-preserved : goal.rows-preserved
rows-preserved c =
    let road : YieldsList lines_steps (λ x. x.now) c.into_iter-line-iterator.result (lines c.args.text.now) = YieldsList-from_lines c.args.text.now (search rules) in
    let turn = YieldsList-turn road c.rows.yielded c.rows.line-iterator c.rows.yielded_by c.next.result c.next.new.self c.in-Some.line c.in-Some.is c.next.ensures.steps in
    let within : c.rows.number < length (lines c.args.text.now) = omega (arith, turn.0, c.rows.invariant.counted) in
    record {
      counted = omega (arith, c.rows.invariant.counted, length-append c.rows.yielded (c.in-Some.line ∷ []));
      again =
          Again-line (lines c.args.text.now) c.rows.number c.rows.library c.rows.entries.chain _ c.rows.invariant.again c.in-Some.line.now within
          (turn.1 ∙ ap (λ n. get_or (lines c.args.text.now) n c.in-Some.line.now) (sym c.rows.invariant.counted))
          c.take_line.new.self c.in_ok-take_line.ensures.taken c.insert_closed.new.library c.in_ok-insert_closed.ensures.library
          c.insert_closed.new.entries.chain c.in_ok-insert_closed.ensures.chain (repeats_view c.put_repeat.new.repeats) c.in_ok-put_repeat.ensures.put;
    }

pub returns-in_err-take_line-clause-fault : goal.returns-in_err-take_line-clause-fault
returns-in_err-take_line-clause-fault c =
    let road : YieldsList lines_steps (λ x. x.now) c.into_iter-line-iterator.result (lines c.args.text.now) = YieldsList-from_lines c.args.text.now (search rules) in
    let turn = YieldsList-turn road c.rows.yielded c.rows.line-iterator c.rows.yielded_by c.next.result c.next.new.self c.in-Some.line c.in-Some.is c.next.ensures.steps in
    let within : c.rows.number < length (lines c.args.text.now) = omega (arith, turn.0, c.rows.invariant.counted) in
    let p = err_from_is_err_and c.from_residual.result c.from_residual.ensures.1 in
    rw (p.1, p.2)
    (Progress-fault (lines c.args.text.now) c.rows.number c.rows.library c.rows.entries.chain c.rows.invariant.again.progress c.in-Some.line.now within
    (turn.1 ∙ ap (λ n. get_or (lines c.args.text.now) n c.in-Some.line.now) (sym c.rows.invariant.counted)) _ c.in_err-take_line.ensures.fault)

pub returns-clause-ok : goal.returns-clause-ok
returns-clause-ok c =
    let road : YieldsList lines_steps (λ x. x.now) c.into_iter-line-iterator.result (lines c.args.text.now) = YieldsList-from_lines c.args.text.now (search rules) in
    let end = YieldsList-end road c.rows.yielded c.rows.line-iterator c.rows.yielded_by c.next.result c.next.new.self c.in-None.is c.next.ensures.steps in
    Again-end c.args.text.now c.rows.number c.rows.library c.rows.entries.chain c.insert_closed-2.new.library _ c.rows.invariant.again
    (omega (arith, end.1, c.rows.invariant.counted)) c.end.new.self c.in_ok-end.ensures.last c.in_ok-insert_closed-2.ensures.library
