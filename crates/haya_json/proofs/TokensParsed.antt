-- Values that are parsed of UTF-8 have texts that are UTF-8.
use Rattle.std.proofs.Common.{◌≡◌, ℕ, zero, suc, Bool, true, false, cond, ◌==◌, List, [], ◌∷◌, ◌++◌, length, Option, Some, None, option_and_then, refl, sym, subst, arith, IsUtf8, append_assoc}
use Rattle.std.proofs.lemmas.Bool.Decides.{nat_tests}
use Rattle.std.proofs.lemmas.List.Elements.{All-head, All-tail}
use Rattle.std.proofs.lemmas.Str.{IsUtf8-append, IsUtf8-nil}
use Rattle.std.specs.Prelude.{⊤, All}
use Rattle.json.specs.Token.{Token, begin_object, end_object, begin_array, end_array, key, string, number, boolean, null, bad}
use Rattle.json.specs.Text.{content, plain}
use Rattle.json.specs.Word.{is_operator, is_space, head, ends_word, after_number, number_before, word}
use Rattle.json.specs.Lex.{Lexeme, token, comma, colon, Class, quote, backslash, operator, space, other, class, operator_lexeme, string_token, Mode, between, in_word, in_string, in_escape, lex_byte, lex}
use Rattle.json.specs.Lex.{Place, fresh, after_value, after_comma, after_key, begins_colon, may_begin, may_close, if_allowed, place_token, punctuate, tokens}
use Rattle.json.specs.Json as json
use Rattle.json.specs.Json.{Json, array, object, Items, no_items, item, Members, no_members, member, Parse, parse_map, after_end_array, read_key, items_step, members_step, items, members, value_with, value, if_last, max_depth, document}
use Rattle.json.specs.Print.{IsNumber}
use Rattle.json.specs.Tree.{HasNumbers, ItemsHaveNumbers, MembersHaveNumbers}
use Rattle.json.proofs.Numbered.{document-HasNumbers}
use Rattle.haya_json.proofs.NumberBytes.{IsNumberByte, number_bytes}
use Rattle.haya_json.proofs.TextsParsed.{content_utf8, one_utf8}
use Rattle.haya_json.proofs.TextsRead.{HasTexts, ItemsHaveTexts, MembersHaveTexts}
use Rattle.haya_json.proofs.Utf8Parts.{behind_utf8}

-- the text of a string is UTF-8; numbers are looked at apart
abbrev TextToken : Token → Type 0
TextToken begin_object = ⊤
TextToken end_object = ⊤
TextToken begin_array = ⊤
TextToken end_array = ⊤
TextToken (key s) = ⊤
TextToken (string s) = IsUtf8 s
TextToken (number s) = ⊤
TextToken (boolean b) = ⊤
TextToken null = ⊤
TextToken bad = ⊤

abbrev Tokens : List Token → Type 0
Tokens [] = ⊤
Tokens (t ∷ ts) = TextToken t × Tokens ts

-- the texts of strings are UTF-8
abbrev mutual
  HasStrings : Json → Type 0
  HasStrings json.null = ⊤
  HasStrings (json.boolean b) = ⊤
  HasStrings (json.number s) = ⊤
  HasStrings (json.string s) = IsUtf8 s
  HasStrings (array js) = ItemsHaveStrings js
  HasStrings (object ms) = MembersHaveStrings ms

  ItemsHaveStrings : Items → Type 0
  ItemsHaveStrings no_items = ⊤
  ItemsHaveStrings (item j js) = HasStrings j × ItemsHaveStrings js

  MembersHaveStrings : Members → Type 0
  MembersHaveStrings no_members = ⊤
  MembersHaveStrings (member k j ms) = HasStrings j × MembersHaveStrings ms

-- ---- tokens

one_of : (b : Bool) (x y : Token) → (b ≡ true → TextToken x) → TextToken y → TextToken (cond b x y)
one_of true x y p q = p refl
one_of false x y p q = q

cut : (t : List ℕ) (o : Option (List ℕ)) → TextToken (number_before t o)
cut t None = tt
cut t (Some r) = one_of (ends_word r) _ bad (λ ended. tt) tt

TextToken-word : (t : List ℕ) → TextToken (word t)
unfolding word
TextToken-word t =
    one_of (head t == 116) _ _ (λ e. one_of _ (boolean true) bad (λ f. tt) tt) (one_of (head t == 102) _ _ (λ e. one_of _ (boolean false) bad (λ f. tt) tt)
    (one_of (head t == 110) _ _ (λ e. one_of _ null bad (λ f. tt) tt) (cut t (after_number t))))

abbrev TextLexeme : Lexeme → Type 0
TextLexeme (token t) = TextToken t
TextLexeme comma = ⊤
TextLexeme colon = ⊤

abbrev Lexemes : List Lexeme → Type 0
Lexemes [] = ⊤
Lexemes (l ∷ ls) = TextLexeme l × Lexemes ls

mark : (b : Bool) (x y : Lexeme) → TextLexeme x → TextLexeme y → TextLexeme (cond b x y)
mark true x y p q = p
mark false x y p q = q

marks : (x : ℕ) → TextLexeme (operator_lexeme x)
marks x =
    mark (x == 123) (token begin_object) _ tt (mark (x == 125) (token end_object) _ tt (mark (x == 91) (token begin_array) _ tt (mark (x == 93) (token end_array) _ tt (mark (x == 44) comma colon tt tt))))

text : (xs : List ℕ) → IsUtf8 xs → (o : Option (List ℕ)) → content plain xs ≡ o → TextToken (string_token o)
text xs u None e = tt
text xs u (Some s) e = content_utf8 (length xs) plain xs s (omega arith) tt u e

byte : (m : Mode) (c : Class) (x : ℕ) (xs : List ℕ) (k : Mode → List Lexeme) → (c ≡ quote → IsUtf8 xs) → ((n : Mode) → Lexemes (k n)) → Lexemes (lex_byte m c x xs k)
byte between quote x xs k q h = (text xs (q refl) (content plain xs) refl, h in_string)
byte between backslash x xs k q h = (tt, h in_word)
byte between operator x xs k q h = (marks x, h between)
byte between space x xs k q h = h between
byte between other x xs k q h = (TextToken-word (x ∷ xs), h in_word)
byte in_word quote x xs k q h = h in_word
byte in_word backslash x xs k q h = h in_word
byte in_word operator x xs k q h = (marks x, h between)
byte in_word space x xs k q h = h between
byte in_word other x xs k q h = h in_word
byte in_string quote x xs k q h = h between
byte in_string backslash x xs k q h = h in_escape
byte in_string operator x xs k q h = h in_string
byte in_string space x xs k q h = h in_string
byte in_string other x xs k q h = h in_string
byte in_escape c x xs k q h = h in_string

is_quote : (x : ℕ) → class x ≡ quote → x ≡ 34
is_quote x h = by (x == 34) refl (x == 92) (is_operator x) (is_space x) h
  where
    by : (a : Bool) → (x == 34) ≡ a → (b c d : Bool) → cond a quote (cond b backslash (cond c operator (cond d space other))) ≡ quote → x ≡ 34
    by true e b c d k = grind (arith, nat_tests)
    by false e true c d k = cc
    by false e false true d k = cc
    by false e false false true k = cc
    by false e false false false k = cc

Lexemes-lex : (front xs : List ℕ) (m : Mode) → IsUtf8 (front ++ xs) → Lexemes (lex m xs)
unfolding lex
Lexemes-lex front [] m u = tt
Lexemes-lex front (x ∷ xs) m u =
    byte m (class x) x xs (λ n. lex n xs) (λ q. behind_utf8 front xs x (omega (arith, is_quote x q)) u)
    (λ n. Lexemes-lex (front ++ x ∷ []) xs n (subst IsUtf8 (sym (append_assoc front (x ∷ []) xs)) u))

allowed : (b : Bool) (t : Token) (k : Place → List Token) (next : Place) → TextToken t → Tokens (k next) → Tokens (if_allowed b t k next)
allowed true t k next p q = (p, q)
allowed false t k next p q = (tt, tt)

placed : (p : Place) (t : Token) (b : Bool) (k : Place → List Token) → TextToken t → ((n : Place) → Tokens (k n)) → Tokens (place_token p t b k)
placed p begin_object b k q h = allowed (may_begin p) begin_object k fresh q (h fresh)
placed p end_object b k q h = allowed (may_close p) end_object k after_value q (h after_value)
placed p begin_array b k q h = allowed (may_begin p) begin_array k fresh q (h fresh)
placed p end_array b k q h = allowed (may_close p) end_array k after_value q (h after_value)
placed p (key s) b k q h = (tt, tt)
placed p (string s) true k q h = allowed (may_begin p) (key s) k after_key tt (h after_key)
placed p (string s) false k q h = allowed (may_begin p) (string s) k after_value q (h after_value)
placed p (number s) b k q h = allowed (may_begin p) (number s) k after_value q (h after_value)
placed p (boolean v) b k q h = allowed (may_begin p) (boolean v) k after_value q (h after_value)
placed p null b k q h = allowed (may_begin p) null k after_value q (h after_value)
placed p bad b k q h = (tt, tt)

Tokens-punctuate : (ls : List Lexeme) → Lexemes ls → (p : Place) → Tokens (punctuate p ls)
unfolding punctuate
Tokens-punctuate [] h fresh = tt
Tokens-punctuate [] h after_value = tt
Tokens-punctuate [] h after_comma = (tt, tt)
Tokens-punctuate [] h after_key = (tt, tt)
Tokens-punctuate (token t ∷ ls) h p = placed p t (begins_colon ls) (λ n. punctuate n ls) h.0 (Tokens-punctuate ls h.1)
Tokens-punctuate (comma ∷ ls) h fresh = (tt, tt)
Tokens-punctuate (comma ∷ ls) h after_value = Tokens-punctuate ls h.1 after_comma
Tokens-punctuate (comma ∷ ls) h after_comma = (tt, tt)
Tokens-punctuate (comma ∷ ls) h after_key = (tt, tt)
Tokens-punctuate (colon ∷ ls) h fresh = (tt, tt)
Tokens-punctuate (colon ∷ ls) h after_value = (tt, tt)
Tokens-punctuate (colon ∷ ls) h after_comma = (tt, tt)
Tokens-punctuate (colon ∷ ls) h after_key = Tokens-punctuate ls h.1 fresh

-- ---- values

abbrev Gives : {A : Type 0} → (A → Type 0) → Option (A × List Token) → Type 0
Gives Q None = ⊤
Gives Q (Some p) = Q p.0 × Tokens p.1

abbrev Keeps : {A : Type 0} → (A → Type 0) → Parse A → Type 0
Keeps Q p = (ts : List Token) → Tokens ts → Gives Q (p ts)

mapped : {A B : Type 0} (P : A → Type 0) (Q : B → Type 0) (f : A → B) → ((a : A) → P a → Q (f a)) → (o : Option (A × List Token)) → Gives P o → Gives Q (parse_map f o)
mapped P Q f g None h = tt
mapped P Q f g (Some p) h = (g p.0 h.0, h.1)

and_more : {B : Type 0} (Q : B → Type 0) (f : Json → B → B) → ((j : Json) (b : B) → HasStrings j → Q b → Q (f j b)) → (more : Parse B) → Keeps Q more
    → (o : Option (Json × List Token)) → Gives HasStrings o → Gives Q (option_and_then (λ q. parse_map (f q.0) (more q.1)) o)
and_more Q f g more keeps None h = tt
and_more Q f g more keeps (Some q) h = mapped Q Q (f q.0) (λ b. g q.0 b h.0) _ (keeps q.1 h.1)

abbrev Rest : Option (List Token) → Type 0
Rest None = ⊤
Rest (Some r) = Tokens r

closing : (ts : List Token) → Tokens ts → Rest (after_end_array ts)
closing [] h = tt
closing (begin_object ∷ ts) h = tt
closing (end_object ∷ ts) h = tt
closing (begin_array ∷ ts) h = tt
closing (end_array ∷ ts) h = h.1
closing (key s ∷ ts) h = tt
closing (string s ∷ ts) h = tt
closing (number s ∷ ts) h = tt
closing (boolean v ∷ ts) h = tt
closing (null ∷ ts) h = tt
closing (bad ∷ ts) h = tt

naming : Keeps (λ (k : Option (List ℕ)). ⊤) read_key
naming [] h = tt
naming (begin_object ∷ ts) h = tt
naming (end_object ∷ ts) h = (tt, h.1)
naming (begin_array ∷ ts) h = tt
naming (end_array ∷ ts) h = tt
naming (key s ∷ ts) h = (tt, h.1)
naming (string s ∷ ts) h = tt
naming (number s ∷ ts) h = tt
naming (boolean v ∷ ts) h = tt
naming (null ∷ ts) h = tt
naming (bad ∷ ts) h = tt

module _ (p : Parse Json) (keeps : Keeps HasStrings p) where
  item_turn : (more : Parse Items) → Keeps ItemsHaveStrings more → (ts : List Token) → Tokens ts → (o : Option (List Token)) → Rest o → Gives ItemsHaveStrings (items_step p more ts o)
  item_turn more again ts h (Some r) q = (tt, q)
  item_turn more again ts h None q = and_more ItemsHaveStrings item (λ j b x y. (x, y)) more again (p ts) (keeps ts h)

  Keeps-items : (n : ℕ) → Keeps ItemsHaveStrings (items p n)
  unfolding items
  Keeps-items zero ts h = tt
  Keeps-items (suc n) ts h = item_turn (items p n) (Keeps-items n) ts h (after_end_array ts) (closing ts h)

  member_turn : (more : Parse Members) → Keeps MembersHaveStrings more → (o : Option (Option (List ℕ) × List Token)) → Gives (λ (k : Option (List ℕ)). ⊤) o
      → Gives MembersHaveStrings (option_and_then (λ q. members_step p more q.0 q.1) o)
  member_turn more again None h = tt
  member_turn more again (Some (None, s)) h = (tt, h.1)
  member_turn more again (Some (Some k, s)) h = and_more MembersHaveStrings (member k) (λ j b x y. (x, y)) more again (p s) (keeps s h.1)

  Keeps-members : (n : ℕ) → Keeps MembersHaveStrings (members p n)
  unfolding members
  Keeps-members zero ts h = tt
  Keeps-members (suc n) ts h = member_turn (members p n) (Keeps-members n) (read_key ts) (naming ts h)

Keeps-value_with : (a : Parse Items) (o : Parse Members) → Keeps ItemsHaveStrings a → Keeps MembersHaveStrings o → Keeps HasStrings (value_with a o)
Keeps-value_with a o p q [] h = tt
Keeps-value_with a o p q (begin_object ∷ ts) h = mapped MembersHaveStrings HasStrings object (λ m x. x) _ (q ts h.1)
Keeps-value_with a o p q (end_object ∷ ts) h = tt
Keeps-value_with a o p q (begin_array ∷ ts) h = mapped ItemsHaveStrings HasStrings array (λ m x. x) _ (p ts h.1)
Keeps-value_with a o p q (end_array ∷ ts) h = tt
Keeps-value_with a o p q (key s ∷ ts) h = tt
Keeps-value_with a o p q (string s ∷ ts) h = h
Keeps-value_with a o p q (number s ∷ ts) h = h
Keeps-value_with a o p q (boolean v ∷ ts) h = h
Keeps-value_with a o p q (null ∷ ts) h = h
Keeps-value_with a o p q (bad ∷ ts) h = tt

Keeps-value : (depth : ℕ) → Keeps HasStrings (value depth)
unfolding value
Keeps-value zero = Keeps-value_with (λ ts. None) (λ ts. None) (λ ts h. tt) (λ ts h. tt)
Keeps-value (suc d) =
    Keeps-value_with (λ ts. items (value d) (length ts) ts) (λ ts. members (value d) (length ts) ts)
    (λ ts. Keeps-items (value d) (Keeps-value d) (length ts) ts) (λ ts. Keeps-members (value d) (Keeps-value d) (length ts) ts)

abbrev IfFound : Option Json → Type 0
IfFound None = ⊤
IfFound (Some j) = HasStrings j

last : (o : Option (Json × List Token)) → Gives HasStrings o → IfFound (option_and_then (λ p. if_last p.0 p.1) o)
last None h = tt
last (Some (j, [])) h = h.0
last (Some (j, t ∷ ts)) h = tt

document_strings : (d : List ℕ) (j : Json) → IsUtf8 d → document d ≡ Some j → HasStrings j
document_strings d j u e = subst IfFound e (last _ (Keeps-value max_depth (tokens d) (Tokens-punctuate _ (Lexemes-lex [] d between u) fresh)))

-- ---- the texts of numbers

-- bytes of a number are ASCII
ascii_utf8 : (s : List ℕ) → All IsNumberByte s → IsUtf8 s
ascii_utf8 [] h = IsUtf8-nil
ascii_utf8 (x ∷ s) h =
    let first = All-head IsNumberByte x s h in
    IsUtf8-append (x ∷ []) s (one_utf8 x (omega arith)) (ascii_utf8 s (All-tail IsNumberByte x s h))

-- a number is UTF-8
number_utf8 : (s : List ℕ) → IsNumber s → IsUtf8 s
number_utf8 s is = ascii_utf8 s (number_bytes s is)

mutual
  texts_of : (j : Json) → HasStrings j → HasNumbers j → HasTexts j
  texts_of json.null s n = tt
  texts_of (json.boolean b) s n = tt
  texts_of (json.number t) s n = number_utf8 t n
  texts_of (json.string t) s n = s
  texts_of (array js) s n = items_texts js s n
  texts_of (object ms) s n = members_texts ms s n

  items_texts : (js : Items) → ItemsHaveStrings js → ItemsHaveNumbers js → ItemsHaveTexts js
  items_texts no_items s n = tt
  items_texts (item j js) s n = (texts_of j s.0 n.0, items_texts js s.1 n.1)

  members_texts : (ms : Members) → MembersHaveStrings ms → MembersHaveNumbers ms → MembersHaveTexts ms
  members_texts no_members s n = tt
  members_texts (member k j ms) s n = (texts_of j s.0 n.0, members_texts ms s.1 n.1)

pub document_texts : (text : List ℕ) (j : Json) → IsUtf8 text → document text ≡ Some j → HasTexts j
document_texts text j u e = texts_of j (document_strings text j u e) (document-HasNumbers text j e)
