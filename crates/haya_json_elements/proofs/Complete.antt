-- A text that is an array or an object has its items or its members as elements.
use Rattle.std.proofs.Common.{◌≡◌, ℕ, ◌<◌, ◌≤◌, Bool, true, false, List, [], ◌∷◌, ◌++◌, length, map, Some, refl, sym, ap, ◌∙◌, arith}
use Rattle.json.specs.Token.{Token}
use Rattle.json.specs.Json.{Json, Items, Members, document}
use Rattle.json.specs.Lex.{Lexeme, Place as TokenPlace, fresh, after_value, after_comma, may_begin, between, lex, punctuate, tokens}
use Rattle.json.specs.Tree.{items_depth, members_depth}
use Rattle.haya_json_elements.specs.Elements.{elements, lines_from, AreItems, AreMembers}
use Rattle.haya_json_elements.specs.declared.place.Brackets.{Brackets}
use Rattle.haya_json_elements.specs.declared.place.Brackets.TheVariants.{Square, Curly}
use Rattle.haya_json_elements.specs.declared.place.Place.{Place}
use Rattle.haya_json_elements.specs.declared.place.Place.TheVariants.{Opened, Next}
use Rattle.haya_json_elements.proofs.Bracketed.{open_token, close_token}
use Rattle.haya_json_elements.proofs.Classes.{elements-pieces}
use Rattle.haya_json_elements.proofs.Pieces.{pieces}
use Rattle.haya_json_elements.proofs.Cut.{begins, Follows, separator, Cut, cut}
use Rattle.haya_json_elements.proofs.Items.{tokens_of_document, items_of_tokens, members_of_tokens}
use Rattle.haya_json_elements.proofs.TokenKinds.{member_name, kind, IsSound, place_behind, IsElement, AreElements}
use Rattle.haya_json_elements.proofs.TokenPlaces.{BeginsAs, BeginsAs-element, alone}
use Rattle.haya_json_elements.proofs.Rests.{all_tokens, item_tokens, member_tokens, all_tokens-items, all_tokens-members, AreElements-items, AreElements-members}
use Rattle.haya_json_elements.proofs.Line.{Line, next_place, line_of}
use Rattle.haya_json_elements.proofs.Fronts.{Follows-all_tokens, no_closing, nothing_left, behind_closing}
use Rattle.haya_json_elements.proofs.Outside.{BeginsTight, WithoutSpace, pieces_line, IsOutside, without_space, past_opening, past_closing, closed_pieces, IsStart, lines_from-start}

-- ---- one element

-- The first line of a text that begins with an element, and the text behind it.
record First (b : Brackets) (p : Place) (xs : List ℕ) (ts after : List Token) : Type 0 where
  line : List ℕ
  more : Bool
  left : List ℕ
  same : pieces (lines_from b p xs) ≡ line ∷ pieces (lines_from b (next_place more) left)
  says : tokens line ≡ ts
  reads : punctuate after_value (separator b more ∷ lex between left) ≡ after

-- A line with a lexeme has a byte.
some_byte : (line : List ℕ) (l : Lexeme) (ls : List Lexeme) → lex between line ≡ l ∷ ls
    → 0 < length line
unfolding lex
some_byte [] l ls e = absurd cc
some_byte (x ∷ line) l ls e = omega arith

-- The first piece is the line of the element that the text begins with.
first_piece : (b : Brackets) (p : Place) (xs : List ℕ) (front : List Lexeme) (more : Bool)
    (rest : List Lexeme) (n : Line b 0 xs front more rest) → IsStart p → BeginsTight xs
    → BeginsAs front
    → lex between xs ≡ front ++ separator b more ∷ rest
    → pieces (lines_from b p xs) ≡ n.line ∷ pieces (lines_from b (next_place more) n.left)
first_piece b p xs [] more rest n start tight w e = absurd w
first_piece b p xs (l ∷ front) more rest n start tight w e =
    let some = some_byte n.line l front n.line_reads in
    ap pieces (lines_from-start b p xs l (front ++ separator b more ∷ rest) start tight w e ∙ n.is)
    ∙ pieces_line n.line (lines_from b (next_place more) n.left) n.no_feed some

-- A text that has the tokens of an element, and then others, has the element on its first line.
first : (b : Brackets) (p : Place) (q : TokenPlace) (xs : List ℕ) (ts after : List Token)
    → IsStart p → IsOutside p
    → may_begin q ≡ true → IsElement ts → Follows b after
    → punctuate q (lex between xs) ≡ ts ++ after
    → First b p xs ts after
first b p q xs ts after start outside may h f e =
    let t = without_space b xs in
    let c = cut b q (lex between t.rest) ts after may h f (ap (punctuate q) (sym t.reads) ∙ e) in
    by t c (line_of b t.rest c.front c.more c.rest c.inside c.is)
  where
    by : (t : WithoutSpace b xs) (c : Cut b q 0 (lex between t.rest) ts after)
        → Line b 0 t.rest c.front c.more c.rest → First b p xs ts after
    by t c n =
        let w = BeginsAs-element q c.front ts may h c.reads in
        record {
          line = n.line;
          more = c.more;
          left = n.left;
          same = t.same p outside
              ∙ first_piece b p t.rest c.front c.more c.rest n start t.tight w c.is;
          says = ap (punctuate fresh) n.line_reads ∙ alone q c.front may w ∙ c.reads;
          reads = ap (λ ls. punctuate after_value (separator b c.more ∷ ls)) n.left_reads
              ∙ c.behind;
        }

-- ---- all elements

-- Behind a comma a place is read on.
behind_comma : (b : Brackets) (ls : List Lexeme)
    → punctuate after_value (separator b true ∷ ls) ≡ punctuate after_comma ls
unfolding punctuate
behind_comma b ls = refl

-- The lines behind an element are those of the elements that are left.
tokens-behind : (b : Brackets) (tss : List (List Token)) (more : Bool) (xs : List ℕ)
    → AreElements tss
    → punctuate after_value (separator b more ∷ lex between xs) ≡ all_tokens b tss
    → map tokens (pieces (lines_from b (next_place more) xs)) ≡ tss
tokens-behind b [] true xs h e =
    absurd (no_closing b (lex between xs) (sym (behind_comma b (lex between xs)) ∙ e))
tokens-behind b [] false xs h e =
    let none = closed_pieces b xs (behind_closing b (lex between xs) [] tt e).1 in
    ap (map tokens) none
tokens-behind b (ts ∷ tss) true xs h e =
    let follows = Follows-all_tokens b tss h.1 in
    let here = sym (behind_comma b (lex between xs)) ∙ e in
    let f = first b Next after_comma xs ts (all_tokens b tss) tt tt refl h.0 follows here in
    let rest = tokens-behind b tss f.more f.left h.1 f.reads in
    ap (map tokens) f.same ∙ (λ i. f.says i ∷ rest i)
tokens-behind b (ts ∷ tss) false xs h e =
    let none : (ts ∷ tss) ≡ [] = (behind_closing b (lex between xs) (ts ∷ tss) h e).0 in
    absurd cc

-- what is read of the closing bracket
close_sound : (b : Brackets) → IsSound (kind (close_token b))
    × (kind (close_token b) ≡ member_name → ⊥)
    × (place_behind (kind (close_token b)) ≡ after_value)
close_sound Square = (tt, λ e. cc, refl)
close_sound Curly = (tt, λ e. cc, refl)

-- what is read of the opening bracket
open_sound : (b : Brackets) → IsSound (kind (open_token b))
    × (kind (open_token b) ≡ member_name → ⊥)
    × (place_behind (kind (open_token b)) ≡ fresh)
open_sound Square = (tt, λ e. cc, refl)
open_sound Curly = (tt, λ e. cc, refl)

-- The lines behind the opening bracket are those of the elements.
tokens-opened : (b : Brackets) (tss : List (List Token)) (xs : List ℕ) → AreElements tss
    → punctuate fresh (lex between xs) ≡ all_tokens b tss
    → map tokens (pieces (lines_from b Opened xs)) ≡ tss
tokens-opened b [] xs h e =
    let s = close_sound b in
    let c = begins (lex between xs) (close_token b) [] s.0 s.1 e in
    let none = nothing_left c.tail (ap (λ q. punctuate q c.tail) (sym s.2) ∙ c.reads) in
    let k = past_closing b xs c.tail c.is in
    ap (map tokens) (k.same ∙ closed_pieces b k.left (k.reads ∙ none))
tokens-opened b (ts ∷ tss) xs h e =
    let follows = Follows-all_tokens b tss h.1 in
    let f = first b Opened fresh xs ts (all_tokens b tss) tt tt refl h.0 follows e in
    let rest = tokens-behind b tss f.more f.left h.1 f.reads in
    ap (map tokens) f.same ∙ (λ i. f.says i ∷ rest i)

-- A text with the tokens of elements in brackets has these elements.
tokens-elements : (b : Brackets) (text : List ℕ) (tss : List (List Token)) → AreElements tss
    → tokens text ≡ open_token b ∷ all_tokens b tss → map tokens (elements b text) ≡ tss
tokens-elements b text tss h e =
    let s = open_sound b in
    let o = begins (lex between text) (open_token b) (all_tokens b tss) s.0 s.1 e in
    let k = past_opening b text o.tail o.is in
    let inside = ap (punctuate fresh) k.reads ∙ ap (λ q. punctuate q o.tail) (sym s.2) ∙ o.reads in
    ap (map tokens) (elements-pieces b text ∙ k.same) ∙ tokens-opened b tss k.left h inside

-- ---- the text

-- The elements of a text that is an array are its items.
pub items-of-array : (text : List ℕ) (js : Items) → document text ≡ Some (Json.array js)
    → AreItems (elements Square text) js
items-of-array text js e =
    let t = tokens_of_document text (Json.array js) e in
    let le : items_depth js ≤ 127 = omega (arith, t.1) in
    let is = t.0 ∙ ap (λ ts. Token.begin_array ∷ ts) (all_tokens-items js) in
    items_of_tokens (elements Square text) js le
    (tokens-elements Square text (item_tokens js) (AreElements-items js le) is)

-- The elements of a text that is an object are its members.
pub members-of-object : (text : List ℕ) (ms : Members) → document text ≡ Some (Json.object ms)
    → AreMembers (elements Curly text) ms
members-of-object text ms e =
    let t = tokens_of_document text (Json.object ms) e in
    let le : members_depth ms ≤ 127 = omega (arith, t.1) in
    let is = t.0 ∙ ap (λ ts. Token.begin_object ∷ ts) (all_tokens-members ms) in
    members_of_tokens (elements Curly text) ms le
    (tokens-elements Curly text (member_tokens ms) (AreElements-members ms le) is)
