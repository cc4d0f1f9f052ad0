use Rattle.std.proofs.Common.{◌≡◌, ℕ, List, string_bytes, subst, arith}
use Rattle.haya_csl.specs.Taken.{TakesList}
use Rattle.haya_formats.specs.declared.format.Format.TheVariants.{CslJson}
use Rattle.haya_json.specs.Notes.{notes_view}
use Rattle.haya_command.specs.InTurn.{AsksNew}
use Rattle.haya_command.specs.Reading.{format_in}
use Rattle.haya_command.proofs.InTurn.{answered_in_turn}
use Rattle.haya_command.proofs.in_turn.answer_text.Goals as goal

pub returns : goal.returns
returns c =
    let new = c.in_ok-turns.ensures in
    let text : List ℕ = string_bytes c.args.input.now.text in
    let by = c.in-CslJson.by in
    let kept = notes_view c.in-Some.notes in
    let format : format_in c.args.options.now text ≡ CslJson by = grind arith in
    let same : c.as_str-text.result.now ≡ text = c.as_str-text.ensures.value in
    let takes = subst (λ bytes. TakesList AsksNew by bytes kept c.in_ok-turns.turns c.take_csl_entries.new.taker) same c.in-Some.ensures in
    answered_in_turn c.args.options.now text by format new.selector.0 c.in_ok-turns.turns c.take_csl_entries.new.taker kept _ _ new.selector.1 new.selector.2 new.options new.streamable new.none new.printed takes
    c.in_ok-notes.ensures.none c.in_ok-into_answered.ensures.printed c.in_ok-into_answered.ensures.found
