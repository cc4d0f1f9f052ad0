use Rattle.std.proofs.lemmas.Result.{IfErr-weaker, on_ok_weaker}
use Rattle.haya_source_stream.proofs.Inputs.{asked_of, part_of}
use Rattle.haya_source_stream.proofs.streaming.ask_parts.Goals as goal

pub returns-clause-asks : goal.returns-clause-asks
returns-clause-asks g c =
    on_ok_weaker c.answer_parts.result
    (λ asked. asked_of g.D.Divider.divides g.D.Divider.are_parts c.args.asker.now c.begin.new.self
    c.begin.ensures.asking c.begin.ensures.hits c.requires.begin c.requires.refused
    c.begin.ensures.number c.begin.ensures.notes (g.R.Read.remaining c.args.input.now)
    (g.R.Read.remaining c.answer_parts.new.input) (g.W.Write.contents c.args.out.now)
    (g.W.Write.contents c.answer_parts.new.out) c.args.divider c.requires.whole
    c.answer_parts.new.divider c.answer_parts.new.answerer asked)
    c.answer_parts.ensures.all

pub returns-clause-part : goal.returns-clause-part
returns-clause-part g c =
    IfErr-weaker c.answer_parts.result _ _
    (λ fault part. part_of g.D.Divider.divides g.D.Divider.are_parts c.args.asker.now c.begin.new.self
    c.begin.ensures.asking c.begin.ensures.hits c.requires.begin c.requires.refused
    c.begin.ensures.number c.begin.ensures.notes (g.R.Read.remaining c.args.input.now)
    (g.R.Read.remaining c.answer_parts.new.input) (g.W.Write.contents c.args.out.now)
    (g.W.Write.contents c.answer_parts.new.out) c.args.divider c.requires.whole
    c.answer_parts.new.answerer fault part)
    c.answer_parts.ensures.part
