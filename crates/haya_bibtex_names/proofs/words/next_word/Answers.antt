use Rattle.std.proofs.Common.{◌<◌, length, rules}
use Rattle.haya_bibtex_names.proofs.FirstWords.{no_words, shorter_behind, words_found}
use Rattle.haya_bibtex_names.proofs.words.next_word.Goals as goal

pub returns-then-is_empty-clause-words : goal.returns-then-is_empty-clause-words
returns-then-is_empty-clause-words c =
    no_words c.args.text.now c.split_at.result.1.now c.white_length.result c.white_length.ensures.length c.split_at.ensures.back
    (search rules)

pub returns-clause-words : goal.returns-clause-words
returns-clause-words c =
    let some : 0 < length c.split_at.result.1.now = search rules in
    words_found c.args.text.now c.split_at.result.1.now c.split_at-2.result.0.now c.split_at-2.result.1.now c.white_length.result c.word_length.result
    (record {
      white = c.white_length.ensures.length;
      rest_is = c.split_at.ensures.back;
      letters = c.word_length.ensures.length;
      word_is = c.split_at-2.ensures.front;
      behind_is = c.split_at-2.ensures.back;
    })
    some

pub returns-clause-shorter : goal.returns-clause-shorter
returns-clause-shorter c =
    let some : 0 < length c.split_at.result.1.now = search rules in
    shorter_behind c.args.text.now c.split_at.result.1.now c.split_at-2.result.0.now c.split_at-2.result.1.now c.white_length.result c.word_length.result
    (record {
      white = c.white_length.ensures.length;
      rest_is = c.split_at.ensures.back;
      letters = c.word_length.ensures.length;
      word_is = c.split_at-2.ensures.front;
      behind_is = c.split_at-2.ensures.back;
    })
    some
