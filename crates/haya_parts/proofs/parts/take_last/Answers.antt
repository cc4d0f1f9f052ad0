use Rattle.std.proofs.Common.{◌++◌, [], ◌∷◌, inl, inr, refl, sym, ◌∙◌, append-nil}
use Rattle.std.specs.Prelude.{string_bytes}
use Rattle.std.proofs.lemmas.Result.{on_ok_weaker}
use Rattle.haya_parts.proofs.Moving.{none_moved}
use Rattle.haya_parts.proofs.Stopping.{if_err_both, stops_here, why_of}
use Rattle.haya_parts.proofs.parts.take_last.Goals as goal

pub returns-in-Part-clause-ends : goal.returns-in-Part-clause-ends
returns-in-Part-clause-ends g c =
    on_ok_weaker c.answer_line.result
    (λ a. (
      a.0,
      record {
        replies = (c.in-Part.part.now, a.0) ∷ [];
        ends = c.in-Part.ensures.ends;
        run = (c.answer_line.new.answerer, (a.1, a.2.0, a.2.1), refl);
        prints = sym (append-nil a.0);
      },
      a.3,
    ))
    c.answer_line.ensures.answers

pub returns-in-Part-clause-stops : goal.returns-in-Part-clause-stops
returns-in-Part-clause-stops g c =
    if_err_both c.answer_line.result _ _ _ c.answer_line.ensures.stops c.answer_line.ensures.kept
    (λ fault a kept. (
      [],
      stops_here g.D.Divider.divides g.D.Divider.are_parts g.A.Answerer.answers g.A.Answerer.refuses g.A.Answerer.is_done c.args.divider.now c.args.divider.now c.args.answerer.now c.args.answerer.now
          c.answer_line.new.answerer c.args.held.now c.args.held.now [] fault
          (none_moved g.D.Divider.divides g.A.Answerer.answers g.A.Answerer.is_done c.args.divider.now c.args.answerer.now c.args.held.now)
          (why_of g.D.Divider.divides g.D.Divider.are_parts g.A.Answerer.answers g.A.Answerer.refuses g.A.Answerer.is_done c.args.divider.now c.args.held.now c.in-Part.part.now c.args.answerer.now
          c.answer_line.new.answerer fault (inr (inl c.in-Part.ensures.ends)) a),
      kept ∙ sym (append-nil (string_bytes c.args.printed.now)),
    ))

pub returns-in-Nothing-clause-ends : goal.returns-in-Nothing-clause-ends
returns-in-Nothing-clause-ends g c = (
  [],
  record {
    replies = [];
    ends = λ taken parts begins. rw (append-nil parts) (c.in-Nothing.ensures.ends taken parts begins);
    run = refl;
    prints = refl;
  },
  sym (append-nil (string_bytes c.args.printed.now)),
)

pub returns-in-Broken-clause-stops : goal.returns-in-Broken-clause-stops
returns-in-Broken-clause-stops g c = (
  [],
  stops_here g.D.Divider.divides g.D.Divider.are_parts g.A.Answerer.answers g.A.Answerer.refuses g.A.Answerer.is_done c.args.divider.now c.args.divider.now c.args.answerer.now c.args.answerer.now
      c.refusal.new.answerer c.args.held.now c.args.held.now [] c.refusal.result
      (none_moved g.D.Divider.divides g.A.Answerer.answers g.A.Answerer.is_done c.args.divider.now c.args.answerer.now c.args.held.now)
      (why_of g.D.Divider.divides g.D.Divider.are_parts g.A.Answerer.answers g.A.Answerer.refuses g.A.Answerer.is_done c.args.divider.now c.args.held.now (c.args.held.now ++ 44 ∷ []) c.args.answerer.now
      c.refusal.new.answerer c.refusal.result
      (inr (inr (c.args.held.now, [], sym (append-nil c.args.held.now), refl))) c.refusal.ensures),
  sym (append-nil (string_bytes c.args.printed.now)),
)
