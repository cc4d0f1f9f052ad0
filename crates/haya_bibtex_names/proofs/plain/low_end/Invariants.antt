use Rattle.std.proofs.Common.{◌≡◌, ◌+◌, ◌≤◌, drop, nat_lt, if◌then◌else◌}
use Rattle.haya_bibtex_names.specs.Plain.{low_end}
use Rattle.haya_bibtex_names.specs.Words.{texts}
use Rattle.haya_bibtex_names.proofs.plain.low_end.Given as goal

-- the last low word is one of the rest, or otherwise that so far
abbrev pub invariant-words : goal.invariant-words
invariant-words l = record {
  end :
      low_end (texts l.words)
      ≡ (if nat_lt 0 (low_end (texts (drop l.word-index l.words))) then l.count + low_end (texts (drop l.word-index l.words)) else l.end);
  count : l.count ≡ l.word-index;
  within : l.end ≤ l.count;
}
