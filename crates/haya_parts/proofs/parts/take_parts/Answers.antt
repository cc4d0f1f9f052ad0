use Rattle.std.proofs.Common.{◌++◌, [], ◌∷◌, inl, inr, refl, sym, ap, ◌∙◌, append_assoc, append-nil}
use Rattle.std.specs.Prelude.{string_bytes}
use Rattle.std.proofs.lemmas.Result.{err_from_is_err_and}
use Rattle.haya_parts.proofs.Moving.{begun_on, bytes_moved, moves_on, none_moved, part_moved}
use Rattle.haya_parts.proofs.Stopping.{stops_here, why_of}
use Rattle.haya_parts.proofs.parts.take_parts.Goals as goal

pub parts-init : goal.parts-init
parts-init g c = record {
  begun = c.requires;
  more = [];
  moves = none_moved g.D.Divider.divides g.A.Answerer.answers g.A.Answerer.is_done c.args.divider.now c.args.answerer.now c.args.held.now;
  prints = sym (append-nil (string_bytes c.args.printed.now));
  same = λ text parts h. h;
}

pub parts-preserved-in-Part : goal.parts-preserved-in-Part
parts-preserved-in-Part g c =
    let inv = c.parts.invariant in
    let a = c.in_ok-answer_line-in-Part.ensures.answers in
    let one = part_moved g.D.Divider.divides g.A.Answerer.answers g.A.Answerer.is_done c.parts.divider c.next.new.self c.parts.answerer
    c.answer_line.new.answerer c.parts.rest.now c.in-Part.split.front.now c.in-Part.part.now
    c.in-Part.split.behind.now a.0 c.in-Part.ensures.split.0 c.in-Part.ensures.takes a.1 a.2.0 a.2.1 in
    record {
      begun = begun_on g.D.Divider.divides g.A.Answerer.answers g.A.Answerer.is_done c.parts.divider c.next.new.self c.parts.answerer
          c.answer_line.new.answerer c.parts.rest.now c.in-Part.split.behind.now a.0 one inv.begun;
      more = inv.more ++ a.0;
      moves = moves_on g.D.Divider.divides g.A.Answerer.answers g.A.Answerer.is_done c.args.divider.now c.parts.divider c.next.new.self c.args.answerer.now
          c.parts.answerer c.answer_line.new.answerer c.args.held.now c.parts.rest.now
          c.in-Part.split.behind.now inv.more a.0 inv.moves one;
      prints = a.3 ∙ ap (λ l. l ++ a.0) inv.prints
          ∙ append_assoc (string_bytes c.args.printed.now) inv.more a.0;
      same = λ text parts h. inv.same text parts (c.next.ensures.same text parts h);
    }

pub parts-preserved : goal.parts-preserved
parts-preserved g c =
    let inv = c.parts.invariant in
    let one = bytes_moved g.D.Divider.divides g.A.Answerer.answers g.A.Answerer.is_done c.parts.divider c.next.new.self c.parts.answerer c.parts.rest.now
    c.in-Between.split.front.now c.in-Between.split.behind.now c.in-Between.ensures.split.0
    c.in-Between.ensures.takes in
    record {
      begun = begun_on g.D.Divider.divides g.A.Answerer.answers g.A.Answerer.is_done c.parts.divider c.next.new.self c.parts.answerer c.parts.answerer
          c.parts.rest.now c.in-Between.split.behind.now [] one inv.begun;
      more = inv.more ++ [];
      moves = moves_on g.D.Divider.divides g.A.Answerer.answers g.A.Answerer.is_done c.args.divider.now c.parts.divider c.next.new.self c.args.answerer.now
          c.parts.answerer c.parts.answerer c.args.held.now c.parts.rest.now
          c.in-Between.split.behind.now inv.more [] inv.moves one;
      prints = inv.prints
          ∙ ap (λ l. string_bytes c.args.printed.now ++ l) (sym (append-nil inv.more));
      same = λ text parts h. inv.same text parts (c.next.ensures.same text parts h);
    }

pub returns-in_err-answer_line-in-Part-clause-stops :
    goal.returns-in_err-answer_line-in-Part-clause-stops
returns-in_err-answer_line-in-Part-clause-stops g c =
    let inv = c.parts.invariant in
    let p = err_from_is_err_and c.from_residual.result c.from_residual.ensures.1 in
    let why = why_of g.D.Divider.divides g.D.Divider.are_parts g.A.Answerer.answers g.A.Answerer.refuses g.A.Answerer.is_done c.parts.divider c.parts.rest.now c.in-Part.part.now c.parts.answerer
    c.answer_line.new.answerer _
    (inl (record {
      then = c.next.new.self;
      front = c.in-Part.split.front.now;
      behind = c.in-Part.split.behind.now;
      split = c.in-Part.ensures.split.0;
      takes = c.in-Part.ensures.takes;
    }))
    c.in_err-answer_line-in-Part.ensures.stops in
    rw (p.1, p.2) (
      inv.more,
      stops_here g.D.Divider.divides g.D.Divider.are_parts g.A.Answerer.answers g.A.Answerer.refuses g.A.Answerer.is_done c.args.divider.now c.parts.divider c.args.answerer.now c.parts.answerer
          c.answer_line.new.answerer c.args.held.now c.parts.rest.now inv.more _ inv.moves why,
      c.in_err-answer_line-in-Part.ensures.kept ∙ inv.prints,
    )

pub returns-in-Broken-clause-stops : goal.returns-in-Broken-clause-stops
returns-in-Broken-clause-stops g c =
    let inv = c.parts.invariant in
    let why = why_of g.D.Divider.divides g.D.Divider.are_parts g.A.Answerer.answers g.A.Answerer.refuses g.A.Answerer.is_done c.parts.divider c.parts.rest.now (c.in-Broken.split.front.now ++ 44 ∷ [])
    c.parts.answerer c.refusal.new.answerer c.refusal.result
    (inr (inr (c.in-Broken.split.front.now, c.in-Broken.split.behind.now, c.in-Broken.ensures.split, refl)))
    c.refusal.ensures in (
      inv.more,
      stops_here g.D.Divider.divides g.D.Divider.are_parts g.A.Answerer.answers g.A.Answerer.refuses g.A.Answerer.is_done c.args.divider.now c.parts.divider c.args.answerer.now c.parts.answerer
          c.refusal.new.answerer c.args.held.now c.parts.rest.now inv.more c.refusal.result inv.moves why,
      inv.prints,
    )
