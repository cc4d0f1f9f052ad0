-- A text whose elements are items, or members, is their array, or object.
use Rattle.std.proofs.Common.{◌≡◌, ℕ, true, List, [], ◌∷◌, map, Some, refl, sym, ap, ◌∙◌, subst, arith}
use Rattle.json.specs.Json.{Items, Members, array, document, object}
use Rattle.json.specs.Lex.{fresh, punctuate, tokens}
use Rattle.json.specs.Token.{Token}
use Rattle.haya_json_elements.specs.Elements.{AreItems, AreMembers, elements}
use Rattle.haya_json_elements.specs.declared.place.Brackets.{Brackets}
use Rattle.haya_json_elements.specs.declared.place.Brackets.TheVariants.{Curly, Square}
use Rattle.haya_json_elements.proofs.Bracketed.{open_token}
use Rattle.haya_json_elements.proofs.Items.{document_of_tokens, tokens_of_items, tokens_of_members}
use Rattle.haya_json_elements.proofs.TokenKinds.{AreElements, AreGood-rest}
use Rattle.haya_json_elements.proofs.Lexed.{lex-elements}
use Rattle.haya_json_elements.proofs.Punctuated.{punctuate-in_brackets, tokens_of_each}
use Rattle.haya_json_elements.proofs.Rests.{AreElements-items, AreElements-members, all_tokens, all_tokens-items, all_tokens-members, item_tokens, member_tokens}
use Rattle.haya_json_elements.proofs.Within.{AllGood, line_lexemes}

-- The tokens of lines are those of their lexemes.
tokens_of_each-line_lexemes : (ls : List (List ℕ))
    → tokens_of_each (line_lexemes ls) ≡ map tokens ls
tokens_of_each-line_lexemes [] = refl
tokens_of_each-line_lexemes (l ∷ ls) = ap (λ tss. tokens l ∷ tss) (tokens_of_each-line_lexemes ls)

-- Lines that are elements have no fault.
AllGood-elements : (ls : List (List ℕ)) → AreElements (map tokens ls) → AllGood ls
AllGood-elements [] h = tt
AllGood-elements (l ∷ ls) h = (AreGood-rest true 0 (tokens l) h.0, AllGood-elements ls h.1)

-- A text has the tokens of its elements in brackets.
tokens-in_brackets : (b : Brackets) (text : List ℕ) (tss : List (List Token)) → AreElements tss
    → map tokens (elements b text) ≡ tss → tokens text ≡ open_token b ∷ all_tokens b tss
tokens-in_brackets b text tss h e =
    let lines = elements b text in
    let same = tokens_of_each-line_lexemes lines ∙ e in
    let good = AllGood-elements lines (subst AreElements (sym e) h) in
    ap (punctuate fresh) (lex-elements b text good)
    ∙ punctuate-in_brackets b (line_lexemes lines) (subst AreElements (sym same) h)
    ∙ ap (λ us. open_token b ∷ all_tokens b us) same

-- A text whose elements are items is their array,
pub document_of_items : (text : List ℕ) (js : Items) → AreItems (elements Square text) js
    → document text ≡ Some (array js)
document_of_items text js h =
    let t = tokens_of_items (elements Square text) js h in
    let inside = ap (λ ts. Token.begin_array ∷ ts) (sym (all_tokens-items js)) in
    document_of_tokens text (array js) (omega (arith, t.1))
    (tokens-in_brackets Square text (item_tokens js) (AreElements-items js t.1) t.0 ∙ inside)

-- and one whose elements are members is their object.
pub document_of_members : (text : List ℕ) (ms : Members) → AreMembers (elements Curly text) ms
    → document text ≡ Some (object ms)
document_of_members text ms h =
    let t = tokens_of_members (elements Curly text) ms h in
    let inside = ap (λ ts. Token.begin_object ∷ ts) (sym (all_tokens-members ms)) in
    document_of_tokens text (object ms) (omega (arith, t.1))
    (tokens-in_brackets Curly text (member_tokens ms) (AreElements-members ms t.1) t.0 ∙ inside)
