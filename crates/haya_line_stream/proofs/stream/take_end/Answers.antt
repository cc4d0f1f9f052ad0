use Rattle.std.proofs.Common.{◌≡◌, ◌++◌, [], None, ◌∷◌, length, ◌≢◌, inl, inr, refl, sym, ap, ◌∙◌, append_assoc, append-nil, rules, tests, arith}
use Rattle.std.specs.Prelude.{string_bytes}
use Rattle.std.proofs.lemmas.Result.{err_from_is_err_and, on_ok_weaker}
use Rattle.haya_line_stream.specs.Answered.{Asked}
use Rattle.haya_line_stream.proofs.Taken.{end_stopped, last_line, last_stops, no_line, one_more}
use Rattle.haya_line_stream.proofs.stream.take_end.Goals as goal
use Rattle.haya_line_stream.proofs.stream.take_end.Goals.{then-not-is_empty+in_ok-answer_line+else-is_done, else-not-is_empty}

pub returns-in_err-answer_line-clause-stops : goal.returns-in_err-answer_line-clause-stops
returns-in_err-answer_line-clause-stops g c =
    let p = err_from_is_err_and c.from_residual.result c.from_residual.ensures.1 in
    let some : length c.args.held.now ≢ 0 = search (rules, tests) in
    rw (p.1, p.2) (
      [],
      last_stops (Asked g.A.Answerer.is_done g.A.Answerer.answers) c.args.held.now c.requires.none _ g.A.Answerer.refuses _ _ (omega arith) c.in_err-answer_line.ensures.stops,
      c.in_err-answer_line.ensures.kept ∙ sym (append-nil _),
    )

pub returns-then-is_done-clause-all : goal.returns-then-is_done-clause-all
returns-then-is_done-clause-all g c =
    let some : length c.args.held.now ≢ 0 = search (rules, tests) in
    let (first, utf8, answer, was) = c.in_ok-answer_line.ensures.answers in (
      first,
      None ∷ [],
      last_line (Asked g.A.Answerer.is_done g.A.Answerer.answers) c.args.held.now c.requires.none c.args.answerer.now c.answer_line.new.answerer first (omega arith) utf8 answer,
      inr (sym c.is_done.ensures ∙ c.if-is_done.true),
      was,
    )

pub returns-clause-all : goal.returns-clause-all
returns-clause-all g c =
    let held = c.args.held.now in
    elim c.if-not-is_empty.branch [
      | then-not-is_empty+in_ok-answer_line+else-is_done w ↦
          let some : length held ≢ 0 = search (rules, tests) in
          let (first, utf8, answer, was) = w.in_ok-answer_line.ensures.answers in
          let answered = last_line (Asked g.A.Answerer.is_done g.A.Answerer.answers) held c.requires.none c.args.answerer.now w.answer_line.new.answerer first (omega arith) utf8 answer in
          on_ok_weaker c.answer_end.result
          (λ e. (
            first ++ e.0,
            [],
            one_more (Asked g.A.Answerer.is_done g.A.Answerer.answers) held None [] c.args.answerer.now w.answer_line.new.answerer _ first e.0 answered tt (rw (sym w.answerer-is) e.1),
            inl refl,
            e.2 ∙ ap (λ l. string_bytes l ++ e.0) w.printed-is ∙ ap (λ l. l ++ e.0) was ∙ append_assoc (string_bytes c.args.printed.now) first e.0,
          )) c.answer_end.ensures.answers
      | else-not-is_empty w ↦
          let none : length held ≡ 0 = search (rules, tests) in
          on_ok_weaker c.answer_end.result
          (λ e. (
            e.0,
            [],
            one_more (Asked g.A.Answerer.is_done g.A.Answerer.answers) held None [] c.args.answerer.now c.args.answerer.now _ [] e.0 (no_line (Asked g.A.Answerer.is_done g.A.Answerer.answers) held c.requires.none c.args.answerer.now none) tt (rw (sym w.answerer-is) e.1),
            inl refl,
            e.2 ∙ ap (λ l. string_bytes l ++ e.0) w.printed-is,
          )) c.answer_end.ensures.answers
    ]

pub returns-clause-stops : goal.returns-clause-stops
returns-clause-stops g c =
    let held = c.args.held.now in
    elim c.if-not-is_empty.branch [
      | then-not-is_empty+in_ok-answer_line+else-is_done w ↦
          let some : length held ≢ 0 = search (rules, tests) in
          let (first, utf8, answer, was) = w.in_ok-answer_line.ensures.answers in
          let answered = last_line (Asked g.A.Answerer.is_done g.A.Answerer.answers) held c.requires.none c.args.answerer.now w.answer_line.new.answerer first (omega arith) utf8 answer in
          end_stopped (Asked g.A.Answerer.is_done g.A.Answerer.answers) g.A.Answerer.refuses held c.args.answerer.now w.answer_line.new.answerer _ first _ _ _ answered (ap string_bytes w.printed-is ∙ was)
          c.answer_end.result (rw (sym w.answerer-is) c.answer_end.ensures.stops) c.answer_end.ensures.kept
      | else-not-is_empty w ↦
          let none : length held ≡ 0 = search (rules, tests) in
          end_stopped (Asked g.A.Answerer.is_done g.A.Answerer.answers) g.A.Answerer.refuses held c.args.answerer.now c.args.answerer.now _ [] _ _ _ (no_line (Asked g.A.Answerer.is_done g.A.Answerer.answers) held c.requires.none c.args.answerer.now none)
          (ap string_bytes w.printed-is ∙ sym (append-nil _)) c.answer_end.result (rw (sym w.answerer-is) c.answer_end.ensures.stops) c.answer_end.ensures.kept
    ]
