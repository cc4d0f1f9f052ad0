use Rattle.std.proofs.Common.{sym, ◌∙◌, ap, cond}
use Rattle.haya_people.specs.Reading.{words_of}
use Rattle.haya_people.proofs.Families.{name_by_words, name_none, name_next_lower, name_next_other, name_words-end}
use Rattle.haya_people.proofs.reading.name_of.Goals as goal

pub words-init : goal.words-init
words-init c = name_none c.args.family.now c.utf8.family

pub words-preserved-then-is_lower : goal.words-preserved-then-is_lower
words-preserved-then-is_lower c = name_next_lower _ _ _ _ _ _ _ c.words.invariant c.in-Some.ensures (sym c.is_lower.ensures ∙ c.if-is_lower.true)

pub words-preserved : goal.words-preserved
words-preserved c = name_next_other _ _ _ _ _ _ _ c.words.invariant c.in-Some.ensures (sym c.is_lower.ensures ∙ c.if-is_lower.false)

pub returns-then-is_all_lower-clause-name : goal.returns-then-is_all_lower-clause-name
returns-then-is_all_lower-clause-name c =
    let found = c.words.invariant in
    name_by_words _ _ found.for_last.walked.kept_valid (sym (name_words-end _ _ _ _ _ found c.in_default.ensures ∙ ap (λ b. cond b (words_of c.words.last_word.now) (words_of c.words.behind_lower.now)) c.if-is_all_lower.true))

pub returns-else-is_all_lower-clause-name : goal.returns-else-is_all_lower-clause-name
returns-else-is_all_lower-clause-name c =
    let found = c.words.invariant in
    name_by_words _ _ found.for_name.walked.kept_valid (sym (name_words-end _ _ _ _ _ found c.in_default.ensures ∙ ap (λ b. cond b (words_of c.words.last_word.now) (words_of c.words.behind_lower.now)) c.if-is_all_lower.false))
