use Rattle.std.proofs.Common.{◌<◌, [], ◌∷◌, length, get_or, refl, sym, ap, ◌∙◌, inr, length-append, arith, rules}
use Rattle.std.specs.Str.Iter.{lines_steps}
use Rattle.std.specs.Str.Lines.{lines}
use Rattle.std.proofs.lemmas.Iterator.{YieldsList}
use Rattle.std.proofs.lemmas.Iterator.Consumers.{YieldsList-turn, YieldsList-end}
use Rattle.std.proofs.lemmas.Iterator.Splits.{YieldsList-from_lines}
use Rattle.haya_json.specs.Notes.{notes_view}
use Rattle.haya_json.proofs.LinesTaken.{all_told, all_taken, first_error, line_taken, none_taken}
use Rattle.haya_json.proofs.json_lines.read_json_lines.Goals as goal

pub lines-init : goal.lines-init
lines-init c = record {
  counted = refl;
  taken = none_taken (lines c.args.text.now) _ _ c.with_hash_keys-library.ensures c.with_hash_keys-notes.ensures;
}

pub lines-preserved : goal.lines-preserved
lines-preserved c =
    let road : YieldsList lines_steps (λ x. x.now) c.into_iter-line-iterator.result (lines c.args.text.now) = YieldsList-from_lines c.args.text.now (search rules) in
    let turn = YieldsList-turn road c.lines.yielded c.lines.line-iterator c.lines.yielded_by c.next.result c.next.new.self c.in-Some.line c.in-Some.is c.next.ensures.steps in
    let within : c.lines.number < length (lines c.args.text.now) = omega (arith, turn.0, c.lines.invariant.counted) in
    record {
      counted = omega (arith, c.lines.invariant.counted, length-append c.lines.yielded (c.in-Some.line ∷ []));
      taken =
          line_taken (lines c.args.text.now) c.lines.number c.lines.library (notes_view c.lines.notes) c.lines.invariant.taken c.in-Some.line.now
          (turn.1 ∙ ap (λ n. get_or (lines c.args.text.now) n c.in-Some.line.now) (sym c.lines.invariant.counted)) within
          c.push_line.new.library (search rules) (notes_view c.push_line.new.notes) (search rules);
    }

pub returns-in-Err-clause-error : goal.returns-in-Err-clause-error
returns-in-Err-clause-error c =
    let road : YieldsList lines_steps (λ x. x.now) c.into_iter-line-iterator.result (lines c.args.text.now) = YieldsList-from_lines c.args.text.now (search rules) in
    let turn = YieldsList-turn road c.lines.yielded c.lines.line-iterator c.lines.yielded_by c.next.result c.next.new.self c.in-Some.line c.in-Some.is c.next.ensures.steps in
    let within : c.lines.number < length (lines c.args.text.now) = omega (arith, turn.0, c.lines.invariant.counted) in
    inr
    (first_error (lines c.args.text.now) c.lines.number c.lines.library (notes_view c.lines.notes) c.lines.invariant.taken c.in-Some.line.now
    (turn.1 ∙ ap (λ n. get_or (lines c.args.text.now) n c.in-Some.line.now) (sym c.lines.invariant.counted)) within
    c.args.text.now refl c.in-Err.error (search rules))

pub returns-clause-library : goal.returns-clause-library
returns-clause-library c =
    let road : YieldsList lines_steps (λ x. x.now) c.into_iter-line-iterator.result (lines c.args.text.now) = YieldsList-from_lines c.args.text.now (search rules) in
    let end = YieldsList-end road c.lines.yielded c.lines.line-iterator c.lines.yielded_by c.next.result c.next.new.self c.in-None.is c.next.ensures.steps in
    all_taken c.args.text.now c.lines.number c.lines.library (notes_view c.lines.notes) c.lines.invariant.taken (omega (arith, end.1, c.lines.invariant.counted))

pub returns-clause-notes : goal.returns-clause-notes
returns-clause-notes c =
    let road : YieldsList lines_steps (λ x. x.now) c.into_iter-line-iterator.result (lines c.args.text.now) = YieldsList-from_lines c.args.text.now (search rules) in
    let end = YieldsList-end road c.lines.yielded c.lines.line-iterator c.lines.yielded_by c.next.result c.next.new.self c.in-None.is c.next.ensures.steps in
    all_told c.args.text.now c.lines.number c.lines.library (notes_view c.lines.notes) c.lines.invariant.taken (omega (arith, end.1, c.lines.invariant.counted))
