use Rattle.std.proofs.Common.{◌≡◌, ◌+◌, drop}
use Rattle.std.specs.List.{position_or_len}
use Rattle.haya_bibtex_names.specs.Words.{is_low, texts}
use Rattle.haya_bibtex_names.proofs.plain.high_length.Given as goal

-- the run is as long as the words so far and that of the rest
abbrev pub invariant-words : goal.invariant-words
invariant-words l = record {
  length : position_or_len is_low (texts l.words) ≡ l.count + position_or_len is_low (texts (drop l.word-index l.words));
  count : l.count ≡ l.word-index;
}
