use Rattle.std.proofs.Common.{◌≡◌, ◌+◌, drop}
use Rattle.std.specs.List.{position_or_len}
use Rattle.haya_bibtex_names.specs.Signs.{is_white}
use Rattle.haya_bibtex_names.proofs.words.word_length.Given as goal

-- the run is as long as the characters so far and that of the rest
abbrev pub invariant-chars : goal.invariant-chars
invariant-chars l = record {
  length : position_or_len is_white l.text ≡ l.count + position_or_len is_white (drop l.x-index l.text);
  count : l.count ≡ l.x-index;
}
