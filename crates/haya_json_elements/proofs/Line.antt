-- An element's lexemes are those of its line.
use Rattle.std.proofs.Common.{◌≡◌, ℕ, zero, suc, ◌+◌, ◌-◌, ◌≤◌, Bool, true, false, ◌&&◌, ◌||◌, ◌==◌, nat_eq, nat_lt, cond, List, [], ◌∷◌, ◌++◌, length, take, drop, Option, Some, None, inl, inr, ◌⊎◌, refl, sym, ap, ◌∙◌, subst, append_assoc, length-append, arith}
use Rattle.std.proofs.lemmas.Bool.{false≢true, true≢false, eqb-true, ne_eqb, or_cases, cond_both}
use Rattle.std.specs.Prelude.{⊤}
use Rattle.std.specs.List.{starts_with}
use Rattle.json.specs.Ascii as ascii
use Rattle.json.specs.Token.{Token}
use Rattle.json.specs.Text.{content, plain}
use Rattle.json.specs.Word.{is_operator, ends_word, word, literal, number_before, after_number, head}
use Rattle.json.specs.Lex.{Lexeme, token, comma, colon, Class, class, quote, backslash, operator, space, other, Mode as LexMode, between, in_word, in_string, string_token, lex_byte, lex}
use Rattle.haya_json_elements.specs.Steps.{Step, text_byte, blank_byte, lost_step}
use Rattle.haya_json_elements.specs.Elements.{lines_from}
use Rattle.haya_json_elements.specs.declared.place.Brackets.{Brackets}
use Rattle.haya_json_elements.specs.declared.place.Brackets.TheVariants.{Square, Curly}
use Rattle.haya_json_elements.specs.declared.place.Mode.TheVariants.{Between, Word, Text}
use Rattle.haya_json_elements.specs.declared.place.Place.{Place}
use Rattle.haya_json_elements.specs.declared.place.Place.TheVariants.{Next, Element, Closed}
use Rattle.haya_json_elements.proofs.Classes.{apart, lex_class, text_byte-plain, class_tells, operator_ends, space_ends, blank_class, blank_feed}
use Rattle.haya_json_elements.proofs.Closing.{Closes, is_inside, closes}
use Rattle.haya_json_elements.proofs.Copied.{Span, at_class, escape_parts, lines_at, lines_letters, no_backslash, no_feed_letters, no_other, no_quote, span, string_mode, text_parts}
use Rattle.haya_json_elements.proofs.Pieces.{HasNo, HasNo-append}
use Rattle.haya_json_elements.proofs.Within.{lex_mode}
use Rattle.haya_json_elements.proofs.Words.{AreLetters, same_word}
use Rattle.haya_json_elements.proofs.Cut.{separator}
use Rattle.haya_json_elements.proofs.TokenKinds.{Kind, opener, closer, scalar, member_name, fault, kind, HoldsBehind, IsInside}

-- ---- strings

-- the inside of a string ends no line
no_feed_inside : (escaped : Bool) (f : List ℕ) → is_inside escaped f ≡ true → HasNo 10 f
no_feed_inside escaped [] h = tt
no_feed_inside true (x ∷ f) h =
    let p = escape_parts x f h in
    (ne_eqb x 10 (λ e. omega arith), no_feed_inside false f p.1)
no_feed_inside false (x ∷ f) h =
    let p = text_parts x f h in
    (ne_eqb x 10 (λ e. omega arith), no_feed_inside (x == 92) f p.2)

-- what is inside a string, where it is known whether a backslash is in front
inside_at : (x : ℕ) (f : List ℕ) (escaped : Bool) → is_inside (x == 92) f ≡ true
    → (x == 92) ≡ escaped → is_inside escaped f ≡ true
inside_at x f escaped h e = ap (λ t. is_inside t f) (sym e) ∙ h

-- A byte inside of a string is no quote.
no_quote_inside : {A : Type 0} (x : ℕ) → (x == 34) ≡ false → class x ≡ quote → A
no_quote_inside x h k = absurd (true≢false (sym (class_tells x quote k) ∙ h))

-- the lexer's mode in a string
abbrev string_lex_mode : Bool → LexMode
string_lex_mode escaped = lex_mode (string_mode escaped)

-- The lexer passes over the inside of a string.
lex_inside : (escaped : Bool) (f z : List ℕ) → is_inside escaped f ≡ true
    → lex (string_lex_mode escaped) (f ++ 34 ∷ z) ≡ lex between z
unfolding lex
lex_inside true [] z h = absurd (false≢true h)
lex_inside false [] z h = refl
lex_inside true (x ∷ f) z h = lex_inside false f z (escape_parts x f h).1
lex_inside false (x ∷ f) z h =
    let p = text_parts x f h in
    by_class (class x) refl p.1 (λ v e. lex_inside v f z (inside_at x f v p.2 e))
  where
    by_class : (c : Class) → class x ≡ c → (x == 34) ≡ false
        → ((v : Bool) → (x == 92) ≡ v → lex (string_lex_mode v) (f ++ 34 ∷ z) ≡ lex between z)
        → lex_byte in_string c x (f ++ 34 ∷ z) (λ n. lex n (f ++ 34 ∷ z)) ≡ lex between z
    by_class quote k q again = no_quote_inside x q k
    by_class backslash k q again = again true (class_tells x backslash k).1
    by_class operator k q again = again false (class_tells x operator k).1
    by_class space k q again = again false (class_tells x space k).1
    by_class other k q again = again false (class_tells x other k).1

module _ (b : Brackets) (d : ℕ) where
  -- the inside of a string and its quote stay as they are
  abbrev Stays : Bool → List ℕ → List ℕ → Type 0
  Stays escaped f z =
      lines_from b (Element (string_mode escaped) d) (f ++ 34 ∷ z)
      ≡ f ++ 34 ∷ lines_from b (Element Between d) z

  -- The inside of a string stays as it is.
  lines_inside : (escaped : Bool) (f z : List ℕ) → is_inside escaped f ≡ true → Stays escaped f z
  lines_inside true [] z h = absurd (false≢true h)
  lines_inside false [] z h = refl
  lines_inside true (x ∷ f) z h =
      let p = escape_parts x f h in
      (λ i. text_byte-plain x p.0 i ∷ lines_inside false f z p.1 i)
  lines_inside false (x ∷ f) z h =
      let p = text_parts x f h in
      by_class (class x) refl (text_byte-plain x p.0) p.1
      (λ v e. lines_inside v f z (inside_at x f v p.2 e))
    where
      by_class : (c : Class) → class x ≡ c → text_byte x ≡ x → (x == 34) ≡ false
          → ((v : Bool) → (x == 92) ≡ v → Stays v f z) → Stays false (x ∷ f) z
      by_class quote k same q again = no_quote_inside x q k
      by_class backslash k same q again =
          let rest = again true (class_tells x backslash k).1 in
          at_class b Text d x (f ++ 34 ∷ z) backslash k ∙ ap (λ l. x ∷ l) rest
      by_class operator k same q again =
          let rest = again false (class_tells x operator k).1 in
          at_class b Text d x (f ++ 34 ∷ z) operator k ∙ ap (λ l. x ∷ l) rest
      by_class space k same q again =
          let rest = again false (class_tells x space k).1 in
          at_class b Text d x (f ++ 34 ∷ z) space k ∙ (λ j. same j ∷ rest j)
      by_class other k same q again =
          let rest = again false (class_tells x other k).1 in
          at_class b Text d x (f ++ 34 ∷ z) other k ∙ (λ j. same j ∷ rest j)

-- ---- words

-- The lexer passes over letters in a word,
lex_letters : (f z : List ℕ) → AreLetters f → lex in_word (f ++ z) ≡ lex in_word z
lex_letters [] z h = refl
lex_letters (x ∷ f) z h = by_class (class x) refl (lex_letters f z h.1)
  where
    by_class : (c : Class) → class x ≡ c → lex in_word (f ++ z) ≡ lex in_word z
        → lex in_word (x ∷ (f ++ z)) ≡ lex in_word z
    by_class quote k again = lex_class in_word x _ quote k ∙ again
    by_class backslash k again = lex_class in_word x _ backslash k ∙ again
    by_class operator k again =
        absurd (true≢false (sym (operator_ends x k) ∙ h.0))
    by_class space k again =
        absurd (true≢false (sym (space_ends x k) ∙ h.0))
    by_class other k again = lex_class in_word x _ other k ∙ again

-- and where a word has ended it reads on as between lexemes.
lex_ended : (z : List ℕ) → ends_word z ≡ true → lex in_word z ≡ lex between z
unfolding lex
lex_ended [] e = refl
lex_ended (x ∷ z) e = by_class (class x) refl
  where
    by_class : (c : Class) → class x ≡ c
        → lex_byte in_word c x z (λ n. lex n z) ≡ lex_byte between c x z (λ n. lex n z)
    by_class quote k = absurd (no_quote x e k)
    by_class backslash k = absurd (no_backslash x e k)
    by_class operator k = refl
    by_class space k = refl
    by_class other k = absurd (no_other x e k)

module _ (b : Brackets) (d : ℕ) where
  -- Where a word has ended the lines go on as between lexemes.
  lines_ended : (z : List ℕ) → ends_word z ≡ true
      → lines_from b (Element Word d) z ≡ lines_from b (Element Between d) z
  lines_ended [] e = refl
  lines_ended (x ∷ z) e = by_class (class x) refl
    where
      by_class : (c : Class) → class x ≡ c
          → lines_from b (Element Word d) (x ∷ z) ≡ lines_from b (Element Between d) (x ∷ z)
      by_class quote k = absurd (no_quote x e k)
      by_class backslash k = absurd (no_backslash x e k)
      by_class operator k =
          at_class b Word d x z operator k ∙ sym (at_class b Between d x z operator k)
      by_class space k = at_class b Word d x z space k ∙ sym (at_class b Between d x z space k)
      by_class other k = absurd (no_other x e k)

-- a scalar or a fault
abbrev pub IsPlain : Kind → Type 0
IsPlain opener = ⊥
IsPlain closer = ⊥
IsPlain scalar = ⊤
IsPlain member_name = ⊥
IsPlain fault = ⊤

-- A word is a scalar or a fault.
pub IsPlain-word : (t : List ℕ) → IsPlain (kind (word t))
unfolding word
IsPlain-word t =
    cond_both (head t == 116) _ _ (λ k. IsPlain (kind k))
    (λ e. IsPlain-literal ascii.true_text (Token.boolean true) tt)
    (λ e. cond_both (head t == 102) _ _ (λ k. IsPlain (kind k))
    (λ e. IsPlain-literal ascii.false_text (Token.boolean false) tt)
    (λ e. cond_both (head t == 110) _ _ (λ k. IsPlain (kind k))
    (λ e. IsPlain-literal ascii.null_text Token.null tt)
    (λ e. IsPlain-number (after_number t))))
  where
    IsPlain-literal : (name : List ℕ) (k : Token) → IsPlain (kind k)
        → IsPlain (kind (literal name k t))
    IsPlain-literal name k h =
        cond_both (starts_with nat_eq t name && ends_word (drop (length name) t)) k Token.bad
        (λ u. IsPlain (kind u)) (λ e. h) (λ e. tt)

    IsPlain-number : (o : Option (List ℕ)) → IsPlain (kind (number_before t o))
    IsPlain-number None = tt
    IsPlain-number (Some r) =
        cond_both (ends_word r) (Token.number (take (length t - length r) t)) Token.bad
        (λ u. IsPlain (kind u)) (λ e. tt) (λ e. tt)

-- So is a string.
pub IsPlain-string : (o : Option (List ℕ)) → IsPlain (kind (string_token o))
IsPlain-string None = tt
IsPlain-string (Some s) = tt

-- Behind a scalar the number of open brackets is the same.
plain_turn : (k : Kind) (d : ℕ) (next : Bool → ℕ → Type 0) → IsPlain k → HoldsBehind k false d next
    → next false d
plain_turn opener d next p h = absurd p
plain_turn closer d next p h = absurd p
plain_turn scalar d next p h = h
plain_turn member_name d next p h = absurd p
plain_turn fault d next p h = absurd h

-- Only a closing bracket's token separates elements.
separator_kind : (b : Brackets) (more : Bool) (t : Token) → token t ≡ separator b more
    → kind t ≡ closer
separator_kind b true t e = absurd cc
separator_kind Square false t e = let is : t ≡ Token.end_array = cc in ap kind is
separator_kind Curly false t e = let is : t ≡ Token.end_object = cc in ap kind is

-- ---- the line of an element

-- the place behind an element and what separates it from the next
abbrev pub next_place : Bool → Place
next_place true = Next
next_place false = Closed

-- The line that the text puts at an element whose lexemes are `front`, and the text that is left.
pub record Line (b : Brackets) (d : ℕ) (xs : List ℕ) (front : List Lexeme) (more : Bool)
    (rest : List Lexeme) : Type 0 where
  pub line : List ℕ
  pub left : List ℕ
  pub is : lines_from b (Element Between d) xs ≡ line ++ 10 ∷ lines_from b (next_place more) left
  pub no_feed : HasNo 10 line
  pub line_reads : lex between line ≡ front
  pub left_reads : lex between left ≡ rest
  pub ended : ends_word xs ≡ true → ends_word line ≡ true

-- A property of the bytes that are operators.
pub operators : (P : ℕ → Type 0) → P 123 → P 125 → P 91 → P 93 → P 58 → P 44 → (x : ℕ)
    → is_operator x ≡ true → P x
operators P a b c d e f x h = last (or_cases _ _ h)
  where
    at : (n : ℕ) → P n → (x == n) ≡ true → P x
    at n p k = subst P (sym (eqb-true x n k)) p

    two : ((x == 123) ≡ true) ⊎ ((x == 125) ≡ true) → P x
    two (inl k) = at 123 a k
    two (inr k) = at 125 b k

    three : (((x == 123) || (x == 125)) ≡ true) ⊎ ((x == 91) ≡ true) → P x
    three (inl k) = two (or_cases _ _ k)
    three (inr k) = at 91 c k

    four : (((x == 123) || (x == 125) || (x == 91)) ≡ true) ⊎ ((x == 93) ≡ true) → P x
    four (inl k) = three (or_cases _ _ k)
    four (inr k) = at 93 d k

    five : (((x == 123) || (x == 125) || (x == 91) || (x == 93)) ≡ true) ⊎ ((x == 58) ≡ true) → P x
    five (inl k) = four (or_cases _ _ k)
    five (inr k) = at 58 e k

    last : (((x == 123) || (x == 125) || (x == 91) || (x == 93) || (x == 58)) ≡ true)
        ⊎ ((x == 44) ≡ true) → P x
    last (inl k) = five (or_cases _ _ k)
    last (inr k) = at 44 f k

module _ (b : Brackets) where
  -- what is to be shown of a text: the line of an element
  abbrev HasLine : List ℕ → Type 0
  HasLine xs = (d : ℕ) (front : List Lexeme) (more : Bool) (rest : List Lexeme) → IsInside d front
      → lex between xs ≡ front ++ separator b more ∷ rest → Line b d xs front more rest

  no_lexeme : (front : List Lexeme) (more : Bool) (rest : List Lexeme)
      → [] ≡ front ++ separator b more ∷ rest → ⊥
  no_lexeme [] more rest e = cc
  no_lexeme (l ∷ front) more rest e = cc

  -- at a space
  at_space : (x : ℕ) (xs : List ℕ) → class x ≡ space → HasLine xs → HasLine (x ∷ xs)
  at_space x xs k again d front more rest h e =
      later (again d front more rest h (sym (lex_class between x xs space k) ∙ e))
    where
      later : Line b d xs front more rest → Line b d (x ∷ xs) front more rest
      later c =
          let is_blank = space_ends (blank_byte x) (blank_class x) in
          record {
            line = blank_byte x ∷ c.line;
            left = c.left;
            is = at_class b Between d x xs space k ∙ ap (λ l. blank_byte x ∷ l) c.is;
            no_feed = (blank_feed x, c.no_feed);
            line_reads = lex_class between (blank_byte x) c.line space (blank_class x)
                ∙ c.line_reads;
            left_reads = c.left_reads;
            ended = λ v. is_blank;
          }

  -- The byte x and the bytes w behind it have the lexeme l, and are on the line as in the text. The
  -- text behind them is ys.
  record Passes (x : ℕ) (w ys xs : List ℕ) (d within : ℕ) (l : Lexeme) : Type 0 where
    text : xs ≡ w ++ ys
    no_feed : HasNo 10 (x ∷ w)
    lines : lines_from b (Element Between d) (x ∷ xs)
        ≡ x ∷ (w ++ lines_from b (Element Between within) ys)
    reads : (z : List ℕ) → (ends_word ys ≡ true → ends_word z ≡ true)
        → lex between (x ∷ (w ++ z)) ≡ l ∷ lex between z

  module _ (x : ℕ) (w ys xs : List ℕ) (d within : ℕ) (l : Lexeme)
      (p : Passes x w ys xs d within l) where
    -- the lexemes of the text
    passed : lex between (x ∷ xs) ≡ l ∷ lex between ys
    passed = ap (λ u. lex between (x ∷ u)) p.text ∙ p.reads ys (λ v. v)

    -- the line that the text behind them has, and they in front of it
    longer : (front : List Lexeme) (more : Bool) (rest : List Lexeme)
        → Line b within ys front more rest → Line b d (x ∷ xs) (l ∷ front) more rest
    longer front more rest c =
        let out = 10 ∷ lines_from b (next_place more) c.left in
        record {
          line = x ∷ (w ++ c.line);
          left = c.left;
          is = p.lines ∙ ap (λ u. x ∷ (w ++ u)) c.is
              ∙ ap (λ u. x ∷ u) (sym (append_assoc w c.line out));
          no_feed = (p.no_feed.0, HasNo-append 10 w c.line p.no_feed.1 c.no_feed);
          line_reads = p.reads c.line c.ended ∙ ap (λ u. l ∷ u) c.line_reads;
          left_reads = c.left_reads;
          ended = λ v. v;
        }

  -- at a scalar
  at_scalar : (x : ℕ) (w ys xs : List ℕ) (d : ℕ) (t : Token) → Passes x w ys xs d d (token t)
      → IsPlain (kind t) → (front : List Lexeme) (more : Bool) (rest : List Lexeme)
      → IsInside d front → lex between (x ∷ xs) ≡ front ++ separator b more ∷ rest
      → HasLine ys → Line b d (x ∷ xs) front more rest
  at_scalar x w ys xs d t p one [] more rest h e again =
      let whole = sym (passed x w ys xs d d (token t) p) ∙ e in
      let is : token t ≡ separator b more = cc in
      absurd (subst IsPlain (separator_kind b more t is) one)
  at_scalar x w ys xs d t p one (l ∷ front) more rest h e again =
      let whole = sym (passed x w ys xs d d (token t) p) ∙ e in
      let is : l ≡ token t = cc in
      let tail : lex between ys ≡ front ++ separator b more ∷ rest = cc in
      let inside = subst (λ u. IsInside d (u ∷ front)) is h in
      let within = plain_turn (kind t) d (λ due n. IsInside n front) one inside in
      let c = again d front more rest within tail in
      subst (λ u. Line b d (x ∷ xs) (u ∷ front) more rest) (sym is)
      (longer x w ys xs d d (token t) p front more rest c)

  -- A string passes that is closed within the text.
  string_passes : (x : ℕ) (xs s : List ℕ) (d : ℕ) → class x ≡ quote → (c : Closes plain xs s)
      → Passes x (c.front ++ 34 ∷ []) c.behind xs d d (token (Token.string s))
  string_passes x xs s d k c =
      let joined = append_assoc c.front (34 ∷ []) in
      let inside = no_feed_inside false c.front c.inside in
      let feeds = HasNo-append 10 c.front (34 ∷ []) inside (refl, tt) in
      record {
        text = c.is ∙ sym (joined c.behind);
        no_feed = (apart x 10 quote k refl refl, feeds);
        lines = at_class b Between d x xs quote k
            ∙ ap (λ u. x ∷ lines_from b (Element Text d) u) c.is
            ∙ ap (λ u. x ∷ u) (lines_inside b d false c.front c.behind c.inside)
            ∙ ap (λ u. x ∷ u) (sym (joined (lines_from b (Element Between d) c.behind)));
        reads = λ z v. ap (λ u. lex between (x ∷ u)) (joined z)
            ∙ lex_class between x (c.front ++ 34 ∷ z) quote k
            ∙ (λ j. token (string_token (c.same z j)) ∷ lex_inside false c.front z c.inside j);
      }

  -- at a string
  at_quote : (x : ℕ) (xs : List ℕ) → class x ≡ quote
      → ((ys : List ℕ) → length ys ≤ length xs → HasLine ys) → HasLine (x ∷ xs)
  at_quote x xs k again d [] more rest h e =
      let whole = sym (lex_class between x xs quote k) ∙ e in
      let is : token (string_token (content plain xs)) ≡ separator b more = cc in
      absurd (subst IsPlain (separator_kind b more _ is) (IsPlain-string (content plain xs)))
  at_quote x xs k again d (l ∷ front) more rest h e =
      let whole = sym (lex_class between x xs quote k) ∙ e in
      let is : l ≡ token (string_token (content plain xs)) = cc in
      by (content plain xs) refl (subst (λ u. IsInside d (u ∷ front)) is h)
    where
      by : (o : Option (List ℕ)) → content plain xs ≡ o
          → IsInside d (token (string_token o) ∷ front)
          → Line b d (x ∷ xs) (l ∷ front) more rest
      by None eo i = absurd i
      by (Some s) eo i =
          let c = closes plain xs s eo in
          let size = length-append c.front (34 ∷ c.behind) in
          let short : length c.behind ≤ length xs = omega (arith, ap length c.is, size) in
          at_scalar x (c.front ++ 34 ∷ []) c.behind xs d (Token.string s)
          (string_passes x xs s d k c) tt (l ∷ front) more rest h e (again c.behind short)

  -- A word passes.
  word_passes : (x : ℕ) (xs : List ℕ) (d : ℕ) → class x ≡ other → (s : Span xs)
      → Passes x s.front s.rest xs d d (token (word (x ∷ xs)))
  word_passes x xs d k s =
      record {
        text = s.is;
        no_feed = (apart x 10 other k refl refl, no_feed_letters s.front s.letters);
        lines = at_class b Between d x xs other k
            ∙ ap (λ u. x ∷ lines_from b (Element Word d) u) s.is
            ∙ ap (λ u. x ∷ u) (lines_letters b d s.front s.rest s.letters)
            ∙ ap (λ u. x ∷ (s.front ++ u)) (lines_ended b d s.rest s.ended);
        reads = λ z v.
            let same = same_word (x ∷ s.front) z s.rest (v s.ended) s.ended
            ∙ ap (λ u. word (x ∷ u)) (sym s.is) in
            let tail = lex_letters s.front z s.letters ∙ lex_ended z (v s.ended) in
            lex_class between x (s.front ++ z) other k
            ∙ ap (λ u. token u ∷ lex in_word (s.front ++ z)) same
            ∙ ap (λ u. token (word (x ∷ xs)) ∷ u) tail;
      }

  -- at a word
  at_other : (x : ℕ) (xs : List ℕ) → class x ≡ other
      → ((ys : List ℕ) → length ys ≤ length xs → HasLine ys) → HasLine (x ∷ xs)
  at_other x xs k again d front more rest h e =
      let s = span xs in
      let size = length-append s.front s.rest in
      let short : length s.rest ≤ length xs = omega (arith, ap length s.is, size) in
      at_scalar x s.front s.rest xs d (word (x ∷ xs)) (word_passes x xs d k s)
      (IsPlain-word (x ∷ xs)) front more rest h e (again s.rest short)

  -- at a backslash
  at_backslash : (x : ℕ) (xs : List ℕ) → class x ≡ backslash → HasLine (x ∷ xs)
  at_backslash x xs k d [] more rest h e =
      let whole = sym (lex_class between x xs backslash k) ∙ e in
      let is : token Token.bad ≡ separator b more = cc in
      absurd (subst IsPlain (separator_kind b more Token.bad is) tt)
  at_backslash x xs k d (l ∷ front) more rest h e =
      let whole = sym (lex_class between x xs backslash k) ∙ e in
      let is : l ≡ token Token.bad = cc in
      absurd (subst (λ u. IsInside d (u ∷ front)) is h)

  -- the byte of an operator is on the line, and the element goes on
  record Goes (x : ℕ) (xs : List ℕ) (d : ℕ) (front : List Lexeme) : Type 0 where
    within : ℕ
    lines : lines_from b (Element Between d) (x ∷ xs)
        ≡ x ∷ lines_from b (Element Between within) xs
    inside : IsInside within front

  -- the byte of an operator ends the line
  abbrev EndsLine : ℕ → List ℕ → Bool → Type 0
  EndsLine x xs more =
      lines_from b (Element Between 0) (x ∷ xs) ≡ 10 ∷ lines_from b (next_place more) xs

  -- at an operator, whose lexeme is o
  at_sign : (x : ℕ) (o : Lexeme) (xs : List ℕ)
      → ((z : List ℕ) → lex between (x ∷ z) ≡ o ∷ lex between z) → (x == 10) ≡ false
      → ((more : Bool) → o ≡ separator b more → EndsLine x xs more)
      → ((d : ℕ) (front : List Lexeme) → IsInside d (o ∷ front) → Goes x xs d front)
      → HasLine xs → HasLine (x ∷ xs)
  unfolding lex
  at_sign x o xs reads feed ends_line goes again d [] more rest h e =
      let whole = sym (reads xs) ∙ e in
      let is : o ≡ separator b more = cc in
      let tail : lex between xs ≡ rest = cc in
      record {
        line = [];
        left = xs;
        is = ap (λ n. lines_from b (Element Between n) (x ∷ xs)) h ∙ ends_line more is;
        no_feed = tt;
        line_reads = refl;
        left_reads = tail;
        ended = λ v. refl;
      }
  at_sign x o xs reads feed ends_line goes again d (l ∷ front) more rest h e =
      let whole = sym (reads xs) ∙ e in
      let is : l ≡ o = cc in
      let tail : lex between xs ≡ front ++ separator b more ∷ rest = cc in
      let g = goes d front (subst (λ u. IsInside d (u ∷ front)) is h) in
      let c = again g.within front more rest g.inside tail in
      let p : Passes x [] xs xs d g.within o = record {
        text = refl;
        no_feed = (feed, tt);
        lines = g.lines;
        reads = λ z v. reads z;
      } in
      subst (λ u. Line b d (x ∷ xs) (u ∷ front) more rest) (sym is)
      (longer x [] xs xs d g.within o p front more rest c)

  -- a step that a test decides
  by_test : (xs : List ℕ) (t u : Bool) (p q : Step) → t ≡ u
      → lines_at b (cond t p q) xs ≡ lines_at b (cond u p q) xs
  by_test xs t u p q e = ap (λ v. lines_at b (cond v p q) xs) e

  no_separator : (more : Bool) (t : Token) → (kind t ≡ closer → ⊥) → token t ≡ separator b more
      → ⊥
  no_separator more t other_kind e = other_kind (separator_kind b more t e)

  at_open_brace : (xs : List ℕ) → HasLine xs → HasLine (123 ∷ xs)
  unfolding lex
  at_open_brace xs =
      at_sign 123 (token Token.begin_object) xs (λ z. refl) refl
      (λ more is. absurd (no_separator more Token.begin_object (λ k. cc) is))
      (λ d front h. record {
        within = d + 1;
        lines = by_test xs (nat_lt d 128) true (Element Between (d + 1), 123) lost_step h.0;
        inside = h.1;
      })

  at_open_bracket : (xs : List ℕ) → HasLine xs → HasLine (91 ∷ xs)
  unfolding lex
  at_open_bracket xs =
      at_sign 91 (token Token.begin_array) xs (λ z. refl) refl
      (λ more is. absurd (no_separator more Token.begin_array (λ k. cc) is))
      (λ d front h. record {
        within = d + 1;
        lines = by_test xs (nat_lt d 128) true (Element Between (d + 1), 91) lost_step h.0;
        inside = h.1;
      })

  at_colon_sign : (xs : List ℕ) → HasLine xs → HasLine (58 ∷ xs)
  unfolding lex
  at_colon_sign xs =
      at_sign 58 colon xs (λ z. refl) refl (λ more is. absurd (no_colon b more is))
      (λ d front h. record { within = d; lines = refl; inside = h })
    where
      no_colon : (a : Brackets) (more : Bool) → colon ≡ separator a more → ⊥
      no_colon a true e = cc
      no_colon a false e = cc

  at_comma_sign : (xs : List ℕ) → HasLine xs → HasLine (44 ∷ xs)
  unfolding lex
  at_comma_sign xs =
      at_sign 44 comma xs (λ z. refl) refl ends
      (λ d front h. record {
        within = d;
        lines = by_test xs (d == 0) false (Next, 10) (Element Between d, 44) h.0;
        inside = h.1;
      })
    where
      ends : (more : Bool) → comma ≡ separator b more
          → lines_from b (Element Between 0) (44 ∷ xs) ≡ 10 ∷ lines_from b (next_place more) xs
      ends true e = refl
      ends false e = absurd cc

-- the closing brackets
at_close_brace : (b : Brackets) (xs : List ℕ) → HasLine b xs → HasLine b (125 ∷ xs)
unfolding lex
at_close_brace b xs =
    at_sign b 125 (token Token.end_object) xs (λ z. refl) refl (ends b)
    (λ d front h. record {
      within = d - 1;
      lines = by_test b xs (d == 0) false _ (Element Between (d - 1), 125) h.0;
      inside = h.1;
    })
  where
    ends : (a : Brackets) (more : Bool) → token Token.end_object ≡ separator a more
        → lines_from a (Element Between 0) (125 ∷ xs) ≡ 10 ∷ lines_from a (next_place more) xs
    ends a true e = absurd cc
    ends Square false e = absurd cc
    ends Curly false e = refl

at_close_bracket : (b : Brackets) (xs : List ℕ) → HasLine b xs → HasLine b (93 ∷ xs)
unfolding lex
at_close_bracket b xs =
    at_sign b 93 (token Token.end_array) xs (λ z. refl) refl (ends b)
    (λ d front h. record {
      within = d - 1;
      lines = by_test b xs (d == 0) false _ (Element Between (d - 1), 93) h.0;
      inside = h.1;
    })
  where
    ends : (a : Brackets) (more : Bool) → token Token.end_array ≡ separator a more
        → lines_from a (Element Between 0) (93 ∷ xs) ≡ 10 ∷ lines_from a (next_place more) xs
    ends a true e = absurd cc
    ends Square false e = refl
    ends Curly false e = absurd cc

-- An element whose lexemes end at a separator has a line of its own.
has_line : (b : Brackets) (n : ℕ) (xs : List ℕ) → length xs ≤ n → HasLine b xs
unfolding lex
has_line b n [] le = λ d front more rest h e. absurd (no_lexeme b front more rest e)
has_line b zero (x ∷ xs) le = absurd (omega arith)
has_line b (suc n) (x ∷ xs) le = by_class (class x) refl (λ ys short. has_line b n ys (omega arith))
  where
    by_class : (c : Class) → class x ≡ c → ((ys : List ℕ) → length ys ≤ length xs → HasLine b ys)
        → HasLine b (x ∷ xs)
    by_class quote k again = at_quote b x xs k again
    by_class backslash k again = at_backslash b x xs k
    by_class operator k again =
        operators (λ y. HasLine b xs → HasLine b (y ∷ xs)) (at_open_brace b xs)
        (at_close_brace b xs)
        (at_open_bracket b xs) (at_close_bracket b xs) (at_colon_sign b xs) (at_comma_sign b xs)
        x (class_tells x operator k).2 (again xs (omega arith))
    by_class space k again = at_space b x xs k (again xs (omega arith))
    by_class other k again = at_other b x xs k again

-- the line of an element, and the text behind it
pub line_of : (b : Brackets) (xs : List ℕ) (front : List Lexeme) (more : Bool) (rest : List Lexeme)
    → IsInside 0 front → lex between xs ≡ front ++ separator b more ∷ rest
    → Line b 0 xs front more rest
line_of b xs front more rest h e = has_line b (length xs) xs (omega arith) 0 front more rest h e
