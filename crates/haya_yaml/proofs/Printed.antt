-- The JSON of what lines say.
use Rattle.std.proofs.Common.{◌≡◌, ℕ, ◌≤◌, List, [], ◌∷◌, Option, Some, None, max, option_and_then, refl, sym, ap, ◌∙◌, subst, append-nil, true, arith}
use Rattle.std.specs.Str.Lines.{lines}
use Rattle.json.specs.Json.{Json, document, if_last, value as json_value, max_depth}
use Rattle.json.specs.Lex.{tokens}
use Rattle.json.specs.Print.{print}
use Rattle.json.specs.Strict.{HasUniqueKeys}
use Rattle.json.specs.Token.{Token}
use Rattle.json.specs.Tree.{HasNumbers, depth, json_tokens}
use Rattle.json.proofs.Nesting.{value-depth}
use Rattle.json.proofs.Printed.Trees.{document-print, value-json_tokens}
use Rattle.json.proofs.Unique.Spelling.{value-json_tokens_back}
use Rattle.haya_yaml.specs.Documents.{is_printable, lines_value}
use Rattle.haya_yaml.specs.Saying.{said}
use Rattle.haya_yaml.specs.Says.{ContentSays, IsJsonIf, TextSays, says_if}
use Rattle.haya_yaml.proofs.Options.{none_is, some_is}

said_is : (found : Option Json) (new : List Token) → said [] found ≡ Some new → (j : Json) × (found ≡ Some j) × (new ≡ json_tokens j)
said_is None new e = none_is new e
said_is (Some j) new e = (j, refl, sym (some_is (json_tokens j) new e))

-- ---- values by their tokens

abbrev read_to : Json → List Token → Option (Json × List Token)
read_to k rest = Some (k, rest)

last_if : (k : Json) (rest : List Token) (j : Json) → if_last k rest ≡ Some j → read_to k rest ≡ read_to j []
last_if k [] j e = ap (λ v. read_to v []) (some_is k j e)
last_if k (t ∷ rest) j e = none_is j e

last_is : (p : Option (Json × List Token)) (j : Json) → option_and_then (λ q. if_last q.0 q.1) p ≡ Some j → p ≡ read_to j []
last_is None j e = none_is j e
last_is (Some q) j e = last_if q.0 q.1 j e

tokens_are : (bytes : List ℕ) (j : Json) → document bytes ≡ Some j → tokens bytes ≡ json_tokens j
tokens_are bytes j e = value-json_tokens_back 128 (tokens bytes) [] j (last_is (json_value 128 (tokens bytes)) j e) ∙ append-nil (json_tokens j)

read_whole : (j : Json) (n : ℕ) → depth j ≤ n → json_value n (json_tokens j) ≡ read_to j []
read_whole j n most = ap (json_value n) (sym (append-nil (json_tokens j))) ∙ value-json_tokens j n [] most

first_of : Json → Option (Json × List Token) → Json
first_of d None = d
first_of d (Some p) = p.0

same_value : (j k : Json) → json_tokens j ≡ json_tokens k → j ≡ k
unfolding first_of
same_value j k e =
    let n = max (depth j) (depth k) in
    ap (first_of j) (sym (read_whole j n (omega arith)) ∙ ap (json_value n) e ∙ read_whole k n (omega arith))

document_of : (j : Json) (bytes : List ℕ) → depth j ≤ 128 → tokens bytes ≡ json_tokens j → document bytes ≡ Some j
document_of j bytes most are = ap (λ ts. option_and_then (λ p. if_last p.0 p.1) (json_value 128 ts)) are ∙ ap (option_and_then (λ p. if_last p.0 p.1)) (read_whole j 128 most)

-- ---- what lines say

-- what is read of the bytes that are printed of what lines say
read_back : (text bytes : List ℕ) (new : List Token) → is_printable text ≡ true → said [] (lines_value (lines text)) ≡ Some new → tokens bytes ≡ new
    → (j : Json) → document bytes ≡ Some j → ContentSays text j
read_back text bytes new clean said back j e =
    let w = said_is (lines_value (lines text)) new said in
    let same : w.0 ≡ j = same_value w.0 j (sym w.2 ∙ sym back ∙ tokens_are bytes j e) in
    record {
      printable = clean;
      said = w.1 ∙ ap Some same;
      shallow = value-depth 128 (tokens bytes) [] j (last_is (json_value 128 (tokens bytes)) j e);
    }

pub content_same : (text bytes : List ℕ) (new : List Token) → is_printable text ≡ true → said [] (lines_value (lines text)) ≡ Some new → bytes ≡ print new → tokens bytes ≡ new
    → IsJsonIf (ContentSays text) bytes
content_same text bytes new clean said printed back =
    let w = said_is (lines_value (lines text)) new said in
    let is_new : (j : Json) → ContentSays text j → new ≡ json_tokens j = λ j says. w.2 ∙ ap json_tokens (some_is w.0 j (sym w.1 ∙ says.said)) in
    record {
      printed = λ j says. printed ∙ ap print (is_new j says);
      same = λ j. (read_back text bytes new clean said back j, λ says. document_of j bytes says.shallow (back ∙ is_new j says));
    }

-- ---- texts

pub json_says : (text : List ℕ) (j : Json) → document text ≡ Some j → HasUniqueKeys j → TextSays text j
json_says text j e unique = record { says = subst (λ (o : Option Json). says_if o text j) (sym e) refl; unique = unique }

one_if : (o : Option Json) (text : List ℕ) (j k : Json) → says_if o text j → says_if o text k → j ≡ k
one_if (Some x) text j k a b = sym a ∙ b
one_if None text j k a b = some_is j k (sym a.said ∙ b.said)

pub one_text : (text : List ℕ) (j k : Json) → TextSays text j → TextSays text k → j ≡ k
one_text text j k a b = one_if (document text) text j k a.says b.says

pub printed_says : (j : Json) → HasNumbers j → HasUniqueKeys j → depth j ≤ max_depth → TextSays (print (json_tokens j)) j
printed_says j numbers unique most = json_says (print (json_tokens j)) j (document-print j numbers most) unique
