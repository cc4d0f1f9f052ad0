use Rattle.std.proofs.Common.{sym, ◌∙◌}
use Rattle.haya_bibtex_names.specs.Lists.{odd_words_in, persons_in}
use Rattle.haya_bibtex_names.specs.Words.{texts, words}
use Rattle.haya_bibtex_names.proofs.NameLists.{last_done, name_done, name_grown, none_begun, one_more_begun}
use Rattle.haya_bibtex_names.proofs.lists.push_names.Goals as goal

pub words-preserved-in_ok-push_name : goal.words-preserved-in_ok-push_name
words-preserved-in_ok-push_name c =
    let i = c.words.invariant in
    let t = sym c.is_and.ensures ∙ c.if-is_and.true in
    rw c.clear.ensures.items (record {
      begun = none_begun;
      persons = name_done persons_in _ _ _ (texts c.words.name.items) (words c.in-Some.behind.now) _ _ i.begun t c.in-Some.ensures.words i.persons
          (rw c.as_slice.ensures.value at c.in_ok-push_name.ensures.persons);
      odd = name_done odd_words_in _ _ _ (texts c.words.name.items) (words c.in-Some.behind.now) _ _ i.begun t c.in-Some.ensures.words i.odd
          (rw c.as_slice.ensures.value at c.in_ok-push_name.ensures.odd);
    })

pub words-preserved : goal.words-preserved
words-preserved c =
    let i = c.words.invariant in
    let f = sym c.is_and.ensures ∙ c.if-is_and.false in
    record {
      begun = one_more_begun c.words.name.items _ c.in-Some.word c.in_ok-push.ensures.items i.begun f;
      persons = name_grown persons_in _ _ c.words.name.items _ c.in-Some.word (words c.in-Some.behind.now) _ c.in_ok-push.ensures.items c.in-Some.ensures.words i.persons;
      odd = name_grown odd_words_in _ _ c.words.name.items _ c.in-Some.word (words c.in-Some.behind.now) _ c.in_ok-push.ensures.items c.in-Some.ensures.words i.odd;
    }

pub returns-clause-persons : goal.returns-clause-persons
returns-clause-persons c =
    let i = c.words.invariant in
    last_done persons_in _ _ _ (texts c.words.name.items) _ i.begun c.in_default.ensures.words i.persons
    (rw c.as_slice-2.ensures.value at c.in_ok-push_name-2.ensures.persons)

pub returns-clause-odd : goal.returns-clause-odd
returns-clause-odd c =
    let i = c.words.invariant in
    last_done odd_words_in _ _ _ (texts c.words.name.items) _ i.begun c.in_default.ensures.words i.odd
    (rw c.as_slice-2.ensures.value at c.in_ok-push_name-2.ensures.odd)
