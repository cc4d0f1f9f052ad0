-- The lexemes of a text are those of its elements, separated by commas and in brackets.
use Rattle.std.proofs.Common.{◌≡◌, ℕ, false, ◌||◌, ◌==◌, List, [], ◌∷◌, ◌++◌, refl, sym, ap, ◌∙◌, subst}
use Rattle.std.proofs.lemmas.Bool.{true≢false, eqb-true, cond_both}
use Rattle.std.specs.Prelude.{⊤}
use Rattle.json.specs.Align.{is_blank}
use Rattle.json.specs.Lex.{Lexeme, token, comma, Class, class, quote, backslash, operator, space, other, between, fresh, lex_byte, lex, punctuate}
use Rattle.haya_json_elements.specs.Steps.{start_step, closing_bracket, lost_step, space_step, opening_bracket, opening_step}
use Rattle.haya_json_elements.specs.Elements.{elements, nonempty_lines, lines_from}
use Rattle.haya_json_elements.specs.declared.place.Brackets.{Brackets}
use Rattle.haya_json_elements.specs.declared.place.Brackets.TheVariants.{Square, Curly}
use Rattle.haya_json_elements.specs.declared.place.Mode.{Mode}
use Rattle.haya_json_elements.specs.declared.place.Mode.TheVariants.{Between, Word, Text}
use Rattle.haya_json_elements.specs.declared.place.Place.{Place}
use Rattle.haya_json_elements.specs.declared.place.Place.TheVariants.{Front, Opened, Next, Element, Closed, Lost}
use Rattle.haya_json_elements.proofs.Classes.{apart, elements-pieces}
use Rattle.haya_json_elements.proofs.Copied.{line_from, lines_at, line_on, more_from, more_on}
use Rattle.haya_json_elements.proofs.Faults.{AreFine, fine}
use Rattle.haya_json_elements.proofs.Bracketed.{close_token, open_token, tail_of, body_of, in_brackets}
use Rattle.haya_json_elements.proofs.Pieces.{nonempty_lines-some, later_lines, pieces}
use Rattle.haya_json_elements.proofs.Within.{AllGood, IsKnown, SaysAt, SaysFrom, at_byte, at_end, line_lexemes, lost_line, reads_opened}

-- an element begins, and others follow
record IsBegun (b : Brackets) (text : List Lexeme) (ls : List (List ℕ)) : Type 0 where
  line : List ℕ
  more : List (List ℕ)
  is : ls ≡ line ∷ more
  said : text ≡ lex between line ++ tail_of b (line_lexemes more)

-- what a place says of the lexemes of the text from there
abbrev SaysHere : Brackets → Place → List ℕ → Type 0
SaysHere b Front xs =
    AllGood (pieces (lines_from b Front xs))
    → lex between xs ≡ in_brackets b (line_lexemes (pieces (lines_from b Front xs)))
SaysHere b Opened xs =
    AllGood (pieces (lines_from b Opened xs))
    → lex between xs ≡ body_of b (line_lexemes (pieces (lines_from b Opened xs)))
SaysHere b Next xs =
    AllGood (pieces (lines_from b Next xs))
    → IsBegun b (lex between xs) (pieces (lines_from b Next xs))
SaysHere b (Element m d) xs = SaysFrom b m d xs
SaysHere b Closed xs =
    AllGood (pieces (lines_from b Closed xs))
    → (pieces (lines_from b Closed xs) ≡ []) × (lex between xs ≡ [])
SaysHere b Lost xs = ⊤

-- a text is at fault here
lost_says : (b : Brackets) (xs : List ℕ) (P : Type 0) → AllGood (pieces (lines_at b lost_step xs))
    → P
unfolding lex punctuate
lost_says b xs P good =
    absurd (subst AllGood (ap (λ l. nonempty_lines (l ∷ later_lines (lines_from b Lost xs)))
    (lost_line b xs)) good).0.0

end_says : (P : Type 0) → AllGood ((44 ∷ []) ∷ []) → P
unfolding lex punctuate
end_says P good = absurd good.0.0

-- the element that begins with the byte y
IsBegun-element : (b : Brackets) (m : Mode) (d y : ℕ) (xs : List ℕ) (text : List Lexeme)
    → (y == 10) ≡ false → SaysAt b Between text (Element m d, y) xs
    → AllGood (pieces (lines_at b (Element m d, y) xs))
    → IsBegun b text (pieces (lines_at b (Element m d, y) xs))
IsBegun-element b m d y xs text feed says good =
    let p = Element m d in
    let whole : pieces (lines_at b (p, y) xs) ≡ (y ∷ line_from b p xs) ∷ more_from b p xs =
    (λ i. nonempty_lines (line_on b p y xs feed i ∷ later_lines (y ∷ lines_from b p xs)))
    ∙ nonempty_lines-some y (line_from b p xs) (later_lines (y ∷ lines_from b p xs))
    ∙ ap (λ ls. (y ∷ line_from b p xs) ∷ ls) (more_on b p y xs feed) in
    let each = subst AllGood whole good in
    let first = line_on b p y xs feed in
    let more = more_on b p y xs feed in
    record {
      line = y ∷ line_from b p xs;
      more = more_from b p xs;
      is = whole;
      said =
          says (subst (λ l. AreFine (lex between l)) (sym first) (fine fresh _ each.0)) tt
          (subst AllGood (sym more) each.1)
          ∙ (λ i. lex between (first i) ++ tail_of b (line_lexemes (more i)));
    }

-- the brackets of the text
open_says : (b : Brackets) (xs : List ℕ)
    → lex between (opening_bracket b ∷ xs) ≡ token (open_token b) ∷ lex between xs
unfolding lex
open_says Square xs = refl
open_says Curly xs = refl

close_says : (b : Brackets) (xs : List ℕ)
    → lex between (closing_bracket b ∷ xs) ≡ token (close_token b) ∷ lex between xs
unfolding lex
close_says Square xs = refl
close_says Curly xs = refl

known : (b : Brackets) (xs : List ℕ) → ((p : Place) → SaysHere b p xs) → IsKnown b xs
known b xs t = record {
  from = λ m d. t (Element m d);
  ending = λ good. let c = t Closed good in
      (λ i. token (close_token b) ∷ c.1 i) ∙ sym (ap (λ ls. tail_of b (line_lexemes ls)) c.0);
  going = λ good. let n = t Next good in
      ap (λ l. comma ∷ l) n.said ∙ sym (ap (λ ls. tail_of b (line_lexemes ls)) n.is);
}

module _ (b : Brackets) (x : ℕ) (xs : List ℕ) (t : (p : Place) → SaysHere b p xs) where
  -- the lexemes of the text if the byte x is of this class
  abbrev text_of : Class → List Lexeme
  text_of c = lex_byte between c x xs (λ n. lex n xs)

  begins_says : (p : Place) (c : Class) → class x ≡ c → is_blank c ≡ false
      → AllGood (pieces (lines_at b (start_step b p c x) xs))
      → IsBegun b (text_of c) (pieces (lines_at b (start_step b p c x) xs))
  begins_says p quote e h =
      IsBegun-element b Text 0 x xs _ (apart x 10 quote e refl refl)
      (at_byte b 0 x xs (known b xs t) Between quote e)
  begins_says p backslash e h =
      IsBegun-element b Word 0 x xs _ (apart x 10 backslash e refl refl)
      (at_byte b 0 x xs (known b xs t) Between backslash e)
  begins_says p operator e h =
      cond_both ((x == 123) || (x == 91)) (opening_step 0 x) lost_step
      (λ s. AllGood (pieces (lines_at b s xs)) → IsBegun b (text_of operator)
      (pieces (lines_at b s xs)))
      (λ k. IsBegun-element b Between 1 x xs _ (apart x 10 operator e refl refl)
      (reads_opened b Between refl xs 0 x e (t (Element Between 1)))) (λ k. lost_says b xs _)
  begins_says p space e h = absurd (true≢false h)
  begins_says p other e h =
      IsBegun-element b Word 0 x xs _ (apart x 10 other e refl refl)
      (at_byte b 0 x xs (known b xs t) Between other e)

  -- where an element may begin, the place stays behind white space, or one begins
  start_says : (p : Place) (Q : List Lexeme → List (List ℕ) → Type 0) (c : Class) → class x ≡ c
      → (AllGood (pieces (lines_from b p xs)) → Q (lex between xs) (pieces (lines_from b p xs)))
      → ((text : List Lexeme) (ls : List (List ℕ)) → IsBegun b text ls → Q text ls)
      → AllGood (pieces (lines_at b (start_step b p c x) xs))
      → Q (text_of c) (pieces (lines_at b (start_step b p c x) xs))
  start_says p Q quote e stays start good = start _ _ (begins_says p quote e refl good)
  start_says p Q backslash e stays start good = start _ _ (begins_says p backslash e refl good)
  start_says p Q operator e stays start good = start _ _ (begins_says p operator e refl good)
  start_says p Q space e stays start good = stays good
  start_says p Q other e stays start good = start _ _ (begins_says p other e refl good)

  -- where only white space may stand
  space_says : (p : Place) (Q : List Lexeme → List (List ℕ) → Type 0) (c : Class)
      → (AllGood (pieces (lines_from b p xs)) → Q (lex between xs) (pieces (lines_from b p xs)))
      → AllGood (pieces (lines_at b (space_step p c) xs))
      → Q (text_of c) (pieces (lines_at b (space_step p c) xs))
  space_says p Q quote stays = lost_says b xs _
  space_says p Q backslash stays = lost_says b xs _
  space_says p Q operator stays = lost_says b xs _
  space_says p Q space stays = stays
  space_says p Q other stays = lost_says b xs _

  byte_says : (p : Place) → SaysHere b p (x ∷ xs)
  unfolding lex
  byte_says Front =
      cond_both (x == opening_bracket b) (Opened, 10) (space_step Front (class x))
      (λ s. AllGood (pieces (lines_at b s xs)) → lex between (x ∷ xs)
      ≡ in_brackets b (line_lexemes (pieces (lines_at b s xs))))
      (λ k good. ap (λ y. lex between (y ∷ xs)) (eqb-true x (opening_bracket b) k) ∙ open_says b xs
      ∙ ap (λ l. token (open_token b) ∷ l) (t Opened good))
      (λ k. space_says Front (λ text ls. text ≡ in_brackets b (line_lexemes ls)) (class x)
      (t Front))
  byte_says Opened =
      cond_both (x == closing_bracket b) (Closed, 10) (start_step b Opened (class x) x)
      (λ s. AllGood (pieces (lines_at b s xs)) → lex between (x ∷ xs)
      ≡ body_of b (line_lexemes (pieces (lines_at b s xs))))
      (λ k good. let c = t Closed good in
      ap (λ y. lex between (y ∷ xs)) (eqb-true x (closing_bracket b) k) ∙ close_says b xs
      ∙ (λ i. token (close_token b) ∷ c.1 i) ∙ ap (λ ls. body_of b (line_lexemes ls)) (sym c.0))
      (λ k. start_says Opened (λ text ls. text ≡ body_of b (line_lexemes ls)) (class x) refl
      (t Opened)
      (λ text ls n. n.said ∙ ap (λ l. body_of b (line_lexemes l)) (sym n.is)))
  byte_says Next = start_says Next (IsBegun b) (class x) refl (t Next) (λ text ls n. n)
  byte_says (Element m d) = at_byte b d x xs (known b xs t) m (class x) refl
  byte_says Closed = space_says Closed (λ text ls. (ls ≡ []) × (text ≡ [])) (class x) (t Closed)
  byte_says Lost = tt

all_says : (b : Brackets) (xs : List ℕ) (p : Place) → SaysHere b p xs
unfolding lex
all_says b [] Front = end_says _
all_says b [] Opened = end_says _
all_says b [] Next = end_says _
all_says b [] (Element m d) = at_end b m d
all_says b [] Closed = λ good. (refl, refl)
all_says b [] Lost = tt
all_says b (x ∷ xs) p = byte_says b x xs (all_says b xs) p

-- the lexemes of a text whose elements have good tokens
pub lex-elements : (b : Brackets) (text : List ℕ) → AllGood (elements b text)
    → lex between text ≡ in_brackets b (line_lexemes (elements b text))
lex-elements b text good =
    let same = elements-pieces b text in
    all_says b text Front (subst AllGood same good)
    ∙ ap (λ ls. in_brackets b (line_lexemes ls)) (sym same)
