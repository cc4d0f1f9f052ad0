-- The lines of a text outside of its elements.
use Rattle.std.proofs.Common.{◌≡◌, ℕ, ◌<◌, false, ◌==◌, cond, List, [], ◌∷◌, ◌++◌, length, refl, sym, ap, ◌∙◌, subst, append-nil, arith}
use Rattle.std.proofs.lemmas.Bool.{ne_eqb}
use Rattle.std.specs.Prelude.{⊤}
use Rattle.json.specs.Token.{Token}
use Rattle.json.specs.Text.{content, plain}
use Rattle.json.specs.Word.{word}
use Rattle.json.specs.Lex.{Lexeme, token, Class, class, quote, backslash, operator, space, other, between, operator_lexeme, string_token, lex_byte, lex}
use Rattle.haya_json_elements.specs.Steps.{start_step, closing_bracket, element_step, space_step, opening_bracket, step}
use Rattle.haya_json_elements.specs.Elements.{nonempty_lines, lines_from}
use Rattle.haya_json_elements.specs.declared.place.Brackets.{Brackets}
use Rattle.haya_json_elements.specs.declared.place.Brackets.TheVariants.{Square, Curly}
use Rattle.haya_json_elements.specs.declared.place.Mode.TheVariants.{Between}
use Rattle.haya_json_elements.specs.declared.place.Place.{Place}
use Rattle.haya_json_elements.specs.declared.place.Place.TheVariants.{Front, Opened, Next, Element, Closed, Lost}
use Rattle.haya_json_elements.proofs.Bracketed.{open_token, close_token}
use Rattle.haya_json_elements.proofs.Pieces.{HasNo, first_line, first_line-append, later_lines, pieces, nonempty_lines-some}
use Rattle.haya_json_elements.proofs.Classes.{class_tells, lex_class}
use Rattle.haya_json_elements.proofs.Copied.{lines_at}
use Rattle.haya_json_elements.proofs.TokenKinds.{kind}
use Rattle.haya_json_elements.proofs.Line.{IsPlain, IsPlain-word, IsPlain-string, operators}
use Rattle.haya_json_elements.proofs.TokenPlaces.{BeginsWith}

-- ---- lines

first_of : (line out : List ℕ) → HasNo 10 line → first_line (line ++ 10 ∷ out) ≡ line
first_of line out h = first_line-append line (10 ∷ out) h ∙ append-nil line

later_of : (line out : List ℕ) → HasNo 10 line
    → later_lines (line ++ 10 ∷ out) ≡ first_line out ∷ later_lines out
later_of [] out h = refl
later_of (x ∷ line) out h =
    let rest = line ++ 10 ∷ out in
    ap (λ t. cond t (first_line rest ∷ later_lines rest) (later_lines rest)) h.0
    ∙ later_of line out h.1

-- A line with a byte is the first piece.
pub pieces_line : (line out : List ℕ) → HasNo 10 line → 0 < length line
    → pieces (line ++ 10 ∷ out) ≡ line ∷ pieces out
pieces_line line out h some =
    (λ i. nonempty_lines (first_of line out h i ∷ later_of line out h i)) ∙ by line some
  where
    by : (l : List ℕ) → 0 < length l
        → nonempty_lines (l ∷ (first_line out ∷ later_lines out)) ≡ l ∷ pieces out
    by [] none = absurd (omega arith)
    by (x ∷ l) some = nonempty_lines-some x l (first_line out ∷ later_lines out)

-- ---- white space

-- the place is outside of the elements, and no byte is lost
abbrev pub IsOutside : Place → Type 0
IsOutside Front = ⊤
IsOutside Opened = ⊤
IsOutside Next = ⊤
IsOutside (Element m d) = ⊥
IsOutside Closed = ⊤
IsOutside Lost = ⊥

-- the text begins with no space
abbrev pub BeginsTight : List ℕ → Type 0
BeginsTight [] = ⊤
BeginsTight (x ∷ xs) = class x ≡ space → ⊥

-- a text without the white space at its front
pub record WithoutSpace (b : Brackets) (xs : List ℕ) : Type 0 where
  pub rest : List ℕ
  pub tight : BeginsTight rest
  pub reads : lex between xs ≡ lex between rest
  pub same : (p : Place) → IsOutside p → pieces (lines_from b p xs) ≡ pieces (lines_from b p rest)

open_operator : (b : Brackets) → class (opening_bracket b) ≡ operator
open_operator Square = refl
open_operator Curly = refl

close_operator : (b : Brackets) → class (closing_bracket b) ≡ operator
close_operator Square = refl
close_operator Curly = refl

-- bytes of two classes are two
apart_class : (x y : ℕ) (c : Class) → class x ≡ c → class y ≡ operator → (c ≡ operator → ⊥)
    → (x == y) ≡ false
apart_class x y c k m unlike = ne_eqb x y (λ e. unlike (sym k ∙ ap class e ∙ m))

-- White space outside of elements is an empty line.
space_line : (b : Brackets) (p : Place) (x : ℕ) (xs : List ℕ) → IsOutside p → class x ≡ space
    → lines_from b p (x ∷ xs) ≡ 10 ∷ lines_from b p xs
space_line b Front x xs h k =
    let unlike = apart_class x (opening_bracket b) space k (open_operator b) (λ e. cc) in
    ap (λ s. lines_at b s xs) (λ i. cond (unlike i) (Opened, 10) (space_step Front (k i)))
space_line b Opened x xs h k =
    let unlike = apart_class x (closing_bracket b) space k (close_operator b) (λ e. cc) in
    ap (λ s. lines_at b s xs) (λ i. cond (unlike i) (Closed, 10) (start_step b Opened (k i) x))
space_line b Next x xs h k = ap (λ s. lines_at b s xs) (λ i. start_step b Next (k i) x)
space_line b (Element m d) x xs h k = absurd h
space_line b Closed x xs h k = ap (λ s. lines_at b s xs) (λ i. space_step Closed (k i))
space_line b Lost x xs h k = absurd h

pub without_space : (b : Brackets) (xs : List ℕ) → WithoutSpace b xs
without_space b [] = record { rest = []; tight = tt; reads = refl; same = λ p h. refl }
without_space b (x ∷ xs) = by_class (class x) refl (without_space b xs)
  where
    stays : (c : Class) → class x ≡ c → (c ≡ space → ⊥) → WithoutSpace b (x ∷ xs)
    stays c k unlike =
        record { rest = x ∷ xs; tight = λ e. unlike (sym k ∙ e); reads = refl; same = λ p h. refl }

    by_class : (c : Class) → class x ≡ c → WithoutSpace b xs → WithoutSpace b (x ∷ xs)
    by_class space k t =
        record {
          rest = t.rest;
          tight = t.tight;
          reads = lex_class between x xs space k ∙ t.reads;
          same = λ p h. ap pieces (space_line b p x xs h k) ∙ t.same p h;
        }
    by_class quote k t = stays quote k (λ e. cc)
    by_class backslash k t = stays backslash k (λ e. cc)
    by_class operator k t = stays operator k (λ e. cc)
    by_class other k t = stays other k (λ e. cc)

-- ---- the brackets around the elements

-- a text that begins with the byte of a bracket
record Sign (xs : List ℕ) (t : Token) (ls : List Lexeme) : Type 0 where
  byte : ℕ
  rest : List ℕ
  is : xs ≡ byte ∷ rest
  is_sign : class byte ≡ operator
  lexeme : operator_lexeme byte ≡ token t
  reads : lex between rest ≡ ls

sign : (xs : List ℕ) (t : Token) (ls : List Lexeme) → BeginsTight xs → (IsPlain (kind t) → ⊥)
    → lex between xs ≡ token t ∷ ls → Sign xs t ls
unfolding lex
sign [] t ls tight unlike e = absurd cc
sign (x ∷ xs) t ls tight unlike e = by_class (class x) refl
  where
    by_class : (c : Class) → class x ≡ c → Sign (x ∷ xs) t ls
    by_class space k = absurd (tight k)
    by_class quote k =
        let whole = sym (lex_class between x xs quote k) ∙ e in
        let is : string_token (content plain xs) ≡ t = cc in
        absurd (unlike (subst (λ u. IsPlain (kind u)) is (IsPlain-string (content plain xs))))
    by_class backslash k =
        let whole = sym (lex_class between x xs backslash k) ∙ e in
        let is : Token.bad ≡ t = cc in
        absurd (unlike (subst (λ u. IsPlain (kind u)) is tt))
    by_class other k =
        let whole = sym (lex_class between x xs other k) ∙ e in
        let is : word (x ∷ xs) ≡ t = cc in
        absurd (unlike (subst (λ u. IsPlain (kind u)) is (IsPlain-word (x ∷ xs))))
    by_class operator k =
        let whole = sym (lex_class between x xs operator k) ∙ e in
        let is : operator_lexeme x ≡ token t = cc in
        let tail : lex between xs ≡ ls = cc in
        record { byte = x; rest = xs; is = refl; is_sign = k; lexeme = is; reads = tail }

-- The opening bracket's lexeme is that of its byte,
open_byte : (b : Brackets) (x : ℕ) → class x ≡ operator → operator_lexeme x ≡ token (open_token b)
    → x ≡ opening_bracket b
open_byte Square x k =
    operators (λ y. operator_lexeme y ≡ token Token.begin_array → y ≡ 91)
    (λ e. absurd cc) (λ e. absurd cc) (λ e. refl) (λ e. absurd cc) (λ e. absurd cc) (λ e. absurd cc)
    x (class_tells x operator k).2
open_byte Curly x k =
    operators (λ y. operator_lexeme y ≡ token Token.begin_object → y ≡ 123)
    (λ e. refl) (λ e. absurd cc) (λ e. absurd cc) (λ e. absurd cc) (λ e. absurd cc) (λ e. absurd cc)
    x (class_tells x operator k).2

-- and so is the closing bracket's.
close_byte : (b : Brackets) (x : ℕ) → class x ≡ operator → operator_lexeme x ≡ token (close_token b)
    → x ≡ closing_bracket b
close_byte Square x k =
    operators (λ y. operator_lexeme y ≡ token Token.end_array → y ≡ 93)
    (λ e. absurd cc) (λ e. absurd cc) (λ e. absurd cc) (λ e. refl) (λ e. absurd cc) (λ e. absurd cc)
    x (class_tells x operator k).2
close_byte Curly x k =
    operators (λ y. operator_lexeme y ≡ token Token.end_object → y ≡ 125)
    (λ e. absurd cc) (λ e. refl) (λ e. absurd cc) (λ e. absurd cc) (λ e. absurd cc) (λ e. absurd cc)
    x (class_tells x operator k).2

open_line : (b : Brackets) (xs : List ℕ)
    → lines_from b Front (opening_bracket b ∷ xs) ≡ 10 ∷ lines_from b Opened xs
open_line Square xs = refl
open_line Curly xs = refl

close_line : (b : Brackets) (xs : List ℕ)
    → lines_from b Opened (closing_bracket b ∷ xs) ≡ 10 ∷ lines_from b Closed xs
close_line Square xs = refl
close_line Curly xs = refl

open_kind : (b : Brackets) → IsPlain (kind (open_token b)) → ⊥
open_kind Square h = h
open_kind Curly h = h

close_kind : (b : Brackets) → IsPlain (kind (close_token b)) → ⊥
close_kind Square h = h
close_kind Curly h = h

-- the text behind a bracket that leads from one place to another
pub record Bracket (b : Brackets) (p q : Place) (xs : List ℕ) (ls : List Lexeme) : Type 0 where
  pub left : List ℕ
  pub same : pieces (lines_from b p xs) ≡ pieces (lines_from b q left)
  pub reads : lex between left ≡ ls

-- the text behind the opening bracket
pub past_opening : (b : Brackets) (xs : List ℕ) (ls : List Lexeme)
    → lex between xs ≡ token (open_token b) ∷ ls
    → Bracket b Front Opened xs ls
past_opening b xs ls e =
    let t = without_space b xs in
    let s = sign t.rest (open_token b) ls t.tight (open_kind b) (sym t.reads ∙ e) in
    let is = s.is ∙ ap (λ y. y ∷ s.rest) (open_byte b s.byte s.is_sign s.lexeme) in
    record {
      left = s.rest;
      same = t.same Front tt ∙ ap (λ u. pieces (lines_from b Front u)) is
          ∙ ap pieces (open_line b s.rest);
      reads = s.reads;
    }

-- the text behind a closing bracket with no element in front of it
pub past_closing : (b : Brackets) (xs : List ℕ) (ls : List Lexeme)
    → lex between xs ≡ token (close_token b) ∷ ls
    → Bracket b Opened Closed xs ls
past_closing b xs ls e =
    let t = without_space b xs in
    let s = sign t.rest (close_token b) ls t.tight (close_kind b) (sym t.reads ∙ e) in
    let is = s.is ∙ ap (λ y. y ∷ s.rest) (close_byte b s.byte s.is_sign s.lexeme) in
    record {
      left = s.rest;
      same = t.same Opened tt ∙ ap (λ u. pieces (lines_from b Opened u)) is
          ∙ ap pieces (close_line b s.rest);
      reads = s.reads;
    }

-- Behind the closing bracket a text with no lexemes has no lines but empty ones.
pub closed_pieces : (b : Brackets) (xs : List ℕ) → lex between xs ≡ []
    → pieces (lines_from b Closed xs) ≡ []
closed_pieces b xs e =
    let t = without_space b xs in t.same Closed tt ∙ by t.rest t.tight (sym t.reads ∙ e)
  where
    by_class : (x : ℕ) (ys : List ℕ) (c : Class) → (c ≡ space → ⊥)
        → lex_byte between c x ys (λ n. lex n ys) ≡ [] → ⊥
    by_class x ys quote h k = cc
    by_class x ys backslash h k = cc
    by_class x ys operator h k = cc
    by_class x ys space h k = h refl
    by_class x ys other h k = cc

    by : (ys : List ℕ) → BeginsTight ys → lex between ys ≡ [] → pieces (lines_from b Closed ys) ≡ []
    by [] h k = refl
    by (x ∷ ys) h k =
        absurd (by_class x ys (class x) h (sym (lex_class between x ys (class x) refl) ∙ k))

-- ---- where an element begins

-- an element may begin at this place
abbrev pub IsStart : Place → Type 0
IsStart Front = ⊥
IsStart Opened = ⊤
IsStart Next = ⊤
IsStart (Element m d) = ⊥
IsStart Closed = ⊥
IsStart Lost = ⊥

-- A byte that is no operator is as in an element.
step_at_start : (b : Brackets) (p : Place) (x : ℕ) (c : Class) → IsStart p → class x ≡ c
    → (c ≡ operator → ⊥)
    → start_step b p c x ≡ element_step b Between 0 c x → step b p x ≡ step b (Element Between 0) x
step_at_start b Front x c h k unlike e = absurd h
step_at_start b Opened x c h k unlike e =
    let other_byte = apart_class x (closing_bracket b) c k (close_operator b) unlike in
    (λ i. cond (other_byte i) (Closed, 10) (start_step b Opened (k i) x)) ∙ e
    ∙ sym (λ i. element_step b Between 0 (k i) x)
step_at_start b Next x c h k unlike e =
    (λ i. start_step b Next (k i) x) ∙ e ∙ sym (λ i. element_step b Between 0 (k i) x)
step_at_start b (Element m d) x c h k unlike e = absurd h
step_at_start b Closed x c h k unlike e = absurd h
step_at_start b Lost x c h k unlike e = absurd h

-- So are brackets that open.
brace_step : (b : Brackets) (p : Place) → IsStart p → step b p 123 ≡ step b (Element Between 0) 123
brace_step b Front h = absurd h
brace_step Square Opened h = refl
brace_step Curly Opened h = refl
brace_step b Next h = refl
brace_step b (Element m d) h = absurd h
brace_step b Closed h = absurd h
brace_step b Lost h = absurd h

bracket_step : (b : Brackets) (p : Place) → IsStart p → step b p 91 ≡ step b (Element Between 0) 91
bracket_step b Front h = absurd h
bracket_step Square Opened h = refl
bracket_step Curly Opened h = refl
bracket_step b Next h = refl
bracket_step b (Element m d) h = absurd h
bracket_step b Closed h = absurd h
bracket_step b Lost h = absurd h

-- Where an element begins the lines are as in it.
pub lines_from-start : (b : Brackets) (p : Place) (xs : List ℕ) (l : Lexeme) (ls : List Lexeme)
    → IsStart p
    → BeginsTight xs
    → BeginsWith l → lex between xs ≡ l ∷ ls
    → lines_from b p xs ≡ lines_from b (Element Between 0) xs
unfolding lex
lines_from-start b p [] l ls h tight w e = absurd cc
lines_from-start b p (x ∷ xs) l ls h tight w e = ap (λ s. lines_at b s xs) (by_class (class x) refl)
  where
    by_class : (c : Class) → class x ≡ c → step b p x ≡ step b (Element Between 0) x
    by_class space k = absurd (tight k)
    by_class quote k = step_at_start b p x quote h k (λ m. cc) refl
    by_class backslash k = step_at_start b p x backslash h k (λ m. cc) refl
    by_class other k = step_at_start b p x other h k (λ m. cc) refl
    by_class operator k =
        let whole = sym (lex_class between x xs operator k) ∙ e in
        let is : l ≡ operator_lexeme x = cc in
        operators (λ y. BeginsWith (operator_lexeme y) → step b p y ≡ step b (Element Between 0) y)
        (λ v. brace_step b p h) (λ v. absurd v) (λ v. bracket_step b p h)
        (λ v. absurd v) (λ v. absurd v) (λ v. absurd v) x (class_tells x operator k).2
        (subst BeginsWith is w)
