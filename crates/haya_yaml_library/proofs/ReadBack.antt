-- What is written in YAML is read back.
use Rattle.std.proofs.Common.{◌≡◌, ℕ, List, Some, Ok, sym, subst, ◌∙◌, arith}
use Rattle.json.specs.Json.{Json}
use Rattle.json.specs.Print.{print}
use Rattle.json.specs.Tree.{json_tokens}
use Rattle.haya_entry.specs.Tree.{Tree}
use Rattle.haya_json.specs.Libraries.{library_of}
use Rattle.haya_json.specs.Printed.{library_json}
use Rattle.haya_json.specs.ReadBack.{ReadsBack}
use Rattle.haya_yaml_library.specs.Libraries.{DescribesAsYaml}
use Rattle.haya_yaml_library.specs.Writing.{SaysJson}

same_value : (j k : Json) → Some j ≡ Some k → j ≡ k
same_value j k e = grind (arith, e)

pub read_back : (library : List Tree) (text : List ℕ) → ReadsBack library → SaysJson (print (json_tokens (library_json library))) text → DescribesAsYaml text library
read_back library text back says =
    let same : back.value ≡ says.value = same_value back.value says.value (sym back.parsed ∙ says.parsed) in
    record { value = says.value; says = says.says; read = subst (λ j. library_of j ≡ Ok library) same back.read }
