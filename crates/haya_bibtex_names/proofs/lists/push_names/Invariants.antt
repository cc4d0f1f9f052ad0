use Rattle.std.proofs.Common.{◌≡◌, ◌++◌, false, length, flat_map, map, string_bytes}
use Rattle.std.specs.List.{slice_split}
use Rattle.std.specs.Prelude.{All}
use Rattle.haya_people.specs.Person.{person_view}
use Rattle.haya_bibtex_names.specs.Lists.{odd_words_in, persons_in}
use Rattle.haya_bibtex_names.specs.Words.{is_and, texts, words}
use Rattle.haya_bibtex_names.proofs.lists.push_names.Given as goal

-- what the names so far say, and what the one that is begun says and those behind it, is all
abbrev pub invariant-words : goal.invariant-words
invariant-words l = record {
  begun : All (λ w. is_and w ≡ false) (texts l.name.items);
  persons :
      map person_view l.initial.persons.items ++ flat_map persons_in (slice_split is_and (words l.text))
      ≡ map person_view l.persons.items
      ++ flat_map persons_in (slice_split is_and (texts l.name.items ++ words l.left));
  odd :
      map string_bytes l.initial.odd_words.items ++ flat_map odd_words_in (slice_split is_and (words l.text))
      ≡ map string_bytes l.odd_words.items
      ++ flat_map odd_words_in (slice_split is_and (texts l.name.items ++ words l.left));
}

abbrev pub decreases-words : goal.decreases-words
decreases-words l = length l.left
