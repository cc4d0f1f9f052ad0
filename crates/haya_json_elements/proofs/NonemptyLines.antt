-- Of two lists of lines, those that aren't empty.
use Rattle.std.specs.Prelude.{◌≡◌, ℕ, ◌==◌, List, ◌++◌, length, not}
use Rattle.std.proofs.lemmas.List.Elements.{filter-append}
use Rattle.haya_json_elements.specs.Elements.{nonempty_lines}

pub nonempty_lines-append : (ls more : List (List ℕ))
    → nonempty_lines (ls ++ more) ≡ nonempty_lines ls ++ nonempty_lines more
nonempty_lines-append ls more = filter-append (λ line. not (length line == 0)) ls more
