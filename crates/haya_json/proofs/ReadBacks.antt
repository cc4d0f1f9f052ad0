-- What is printed of a library describes it, where its JSON says it.
use Rattle.std.proofs.Common.{◌≡◌, ℕ, List, Some, Ok, sym, ap, ◌∙◌}
use Rattle.json.specs.Print.{print}
use Rattle.json.specs.Tree.{json_tokens}
use Rattle.json.proofs.Printed.Trees.{document-print}
use Rattle.haya_entry.specs.Tree.{Tree}
use Rattle.haya_json.specs.Libraries.{Describes, library_of}
use Rattle.haya_json.specs.Printed.{library_json}
use Rattle.haya_json.specs.ReadBack.{SaysItself}

pub described : (library : List Tree) → SaysItself library → Describes (print (json_tokens (library_json library))) library
described library says = record {
  value = library_json library;
  parsed = document-print (library_json library) says.numbers says.nests;
  unique = says.unique;
  read = says.read;
}

pub one_library : (text : List ℕ) (a b : List Tree) → Describes text a → Describes text b → a ≡ b
one_library text a b of_a of_b =
    let values : Some of_a.value ≡ Some of_b.value = sym of_a.parsed ∙ of_b.parsed in
    let value : of_a.value ≡ of_b.value = cc in
    let libraries : Ok a ≡ library_of of_b.value = sym of_a.read ∙ ap library_of value in
    let both = libraries ∙ of_b.read in
    cc
