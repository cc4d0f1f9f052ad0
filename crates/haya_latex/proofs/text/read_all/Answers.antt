use Rattle.std.proofs.Common.{◌≡◌, ◌+◌, [], ap, arith, sym, ◌∙◌}
use Rattle.std.proofs.lemmas.Grind.{common_steps}
use Rattle.haya_latex.specs.Reading.{read}
use Rattle.haya_latex.specs.ReadingViews.{reader_view}
use Rattle.haya_latex.specs.TokenViews.{output_view}
use Rattle.haya_latex.proofs.Passing.{next_token, step_braces}
use Rattle.haya_latex.proofs.Quiet.{braces_front, length_front, reads_front}
use Rattle.haya_latex.proofs.text.read_all.Goals as goal

pub tokens-preserved : goal.tokens-preserved
tokens-preserved c =
    let first = reader_view c.tokens.reader in
    let old = reader_view c.put_front.new.reader in
    let written = reader_view c.put_output.new.reader in
    let new = reader_view c.take_turn.new.reader in
    let front = reads_front c.args.kind c.args.text.now c.tokens.left.now c.in_ok-front.front.now first old
    c.tokens.invariant.reads c.in_ok-front.ensures.written c.in_ok-front.ensures.left in
    let reads = rw c.in-Some.ensures.cases.0 at front in
    let is = rw c.is_inside.ensures at c.token_at-token.ensures.token in
    record {
      reads = next_token c.args.kind c.args.text.now old written new c.in-Some.first.now c.in-Some.behind.now c.split_at.result.1.now
          (output_view c.token_at-token.result.output) c.token_at-token.result.length c.token_at-token.result.turn
          reads is c.in_ok-put_output.ensures c.in_ok-take_turn.ensures c.split_at.ensures.back;
      braces = omega (
        arith,
        step_braces (c.token_at-token.result.length + 1) (output_view c.token_at-token.result.output) c.token_at-token.result.turn
            old written new c.in_ok-put_output.ensures c.in_ok-take_turn.ensures
            c.token_at-token.ensures.below,
        braces_front c.tokens.left.now c.in_ok-front.front.now first old _ c.tokens.invariant.braces c.in_ok-front.ensures.written c.in_ok-front.ensures.left,
        c.in-Some.ensures.cases.1,
        c.split_at.ensures.back_len,
      );
    }

pub tokens-smaller : goal.tokens-smaller
tokens-smaller c =
    omega (
      arith,
      length_front c.tokens.left.now c.in_ok-front.front.now (reader_view c.tokens.reader) c.in_ok-front.ensures.left,
      c.in-Some.ensures.cases.1,
      c.split_at.ensures.back_len,
    )

pub returns-in_default : goal.returns-in_default
returns-in_default c =
    let old = reader_view c.put_front.new.reader in
    let front = reads_front c.args.kind c.args.text.now c.tokens.left.now c.in_ok-front.front.now (reader_view c.tokens.reader) old
    c.tokens.invariant.reads c.in_ok-front.ensures.written c.in_ok-front.ensures.left in
    let none : c.in_ok-front.front.now ≡ [] = grind (arith, common_steps) in
    c.in_ok-settle.ensures ∙ sym (front ∙ ap (read 0 old) none)
