-- The lines of a text that is laid out have the tokens of its parts.
use Rattle.std.proofs.Common.{◌≡◌, ℕ, Bool, true, false, ◌||◌, ◌==◌, cond, List, [], ◌∷◌, ◌++◌, map, Option, Some, None, option_and_then, inl, inr, ◌⊎◌, refl, sym, ap, ◌∙◌, subst, append_assoc, append-nil}
use Rattle.std.specs.Prelude.{⊤}
use Rattle.std.specs.List.{AllByRecursion}
use Rattle.std.proofs.lemmas.Bool.{false≢true, eqb-true, ne_eqb, or_cases, cond_both}
use Rattle.json.specs.Word.{is_space}
use Rattle.json.specs.Lex.{Class, class, quote, backslash, operator, space, other, tokens}
use Rattle.haya_json_elements.specs.Elements.{elements, lines_from, nonempty_lines}
use Rattle.haya_json_elements.specs.Steps.{Step, blank_byte, closing_bracket, element_step, lost_step, opening_bracket, opening_step, operator_step, space_step, start_step, step}
use Rattle.haya_json_elements.specs.declared.place.Brackets.{Brackets}
use Rattle.haya_json_elements.specs.declared.place.Brackets.TheVariants.{Square, Curly}
use Rattle.haya_json_elements.specs.declared.place.Mode.{Mode}
use Rattle.haya_json_elements.specs.declared.place.Mode.TheVariants.{Between, Word, Text, Escape}
use Rattle.haya_json_elements.specs.declared.place.Place.{Place}
use Rattle.haya_json_elements.specs.declared.place.Place.TheVariants.{Front, Opened, Next, Element, Closed, Lost}
use Rattle.haya_slices.specs.Layout.{AreSeparated, IsElement, IsLaidOut, IsPadded, IsWhite, inside, is_outside_string, within}
use Rattle.haya_slices.proofs.Classes.{apart, blank_class, blank_feed, elements-pieces, opening_step-each, operator_step-each, text_feed}
use Rattle.haya_slices.proofs.Copies.{AreBlank, IsCopy, next_mode, put_byte, tokens-copy}
use Rattle.haya_slices.proofs.Pieces.{HasNo, HasNo-append, first_line, first_line-append, later_lines, nonempty_lines-some, pieces}

-- ---- what is put in place of bytes

-- the bytes that are put in place of others, from a place
abbrev pub puts : Brackets → Place → List ℕ → List ℕ
puts b p [] = []
puts b p (x ∷ xs) = (step b p x).1 ∷ puts b (step b p x).0 xs

-- the place behind them
abbrev pub place_behind : Brackets → Place → List ℕ → Place
place_behind b p [] = p
place_behind b p (x ∷ xs) = place_behind b (step b p x).0 xs

lines_from-append : (b : Brackets) (p : Place) (xs z : List ℕ)
    → lines_from b p (xs ++ z) ≡ puts b p xs ++ lines_from b (place_behind b p xs) z
lines_from-append b p [] z = refl
lines_from-append b p (x ∷ xs) z =
    ap (λ l. (step b p x).1 ∷ l) (lines_from-append b (step b p x).0 xs z)

-- ---- bytes of an element

abbrev out : Option (Mode × ℕ) → Mode × ℕ
out None = (Between, 0)
out (Some p) = p

-- a step to a place in an element, at a byte of this class
record StepsTo (m : Mode) (c : Class) (x : ℕ) (s : Step) (p : Mode × ℕ) : Type 0 where
  mode : p.0 ≡ next_mode m c
  byte : s.1 ≡ put_byte m c x
  place : s.0 ≡ Element p.0 p.1

abbrev StaysBetween : ℕ → Step → Type 0
StaysBetween x s =
    (p : Mode × ℕ) → within s.0 ≡ Some p → (p.0 ≡ Between) × (s.1 ≡ x) × (s.0 ≡ Element p.0 p.1)

lost : (x : ℕ) → StaysBetween x lost_step
lost x p e = absurd cc

between : (x n : ℕ) → StaysBetween x (Element Between n, x)
between x n p e =
    let q : (Between, n) ≡ p = ap out e in
    (ap (λ r. r.0) (sym q), refl, ap (λ r. Element r.0 r.1) q)

steps_between : (m : Mode) (x : ℕ) (s : Step) (p : Mode × ℕ)
    → next_mode m operator ≡ Between → put_byte m operator x ≡ x
    → StaysBetween x s → within s.0 ≡ Some p → StepsTo m operator x s p
steps_between m x s p e f stays k =
    let t = stays p k in
    record { mode = t.0 ∙ sym e; byte = t.1 ∙ sym f; place = t.2 }

at_operator : (b : Brackets) (d x : ℕ) → StaysBetween x (operator_step b d x)
at_operator b d x =
    operator_step-each (StaysBetween x) b d x (lost x) (λ p e. absurd cc) (λ p e. absurd cc)
    (between x)

-- a step that stays in an element
known : (m : Mode) (c : Class) (x d : ℕ) (p : Mode × ℕ)
    → Some (next_mode m c, d) ≡ Some p
    → StepsTo m c x (Element (next_mode m c) d, put_byte m c x) p
known m c x d p e =
    let q : (next_mode m c, d) ≡ p = ap out e in
    record {
      mode = ap (λ r. r.0) (sym q);
      byte = refl;
      place = ap (λ r. Element r.0 r.1) q;
    }

steps_to : (b : Brackets) (m : Mode) (d : ℕ) (c : Class) (x : ℕ) (p : Mode × ℕ)
    → within (element_step b m d c x).0 ≡ Some p → StepsTo m c x (element_step b m d c x) p
steps_to b Between d quote x p e = known Between quote x d p e
steps_to b Between d backslash x p e = known Between backslash x d p e
steps_to b Between d operator x p e =
    steps_between Between x (operator_step b d x) p refl refl (at_operator b d x) e
steps_to b Between d space x p e = known Between space x d p e
steps_to b Between d other x p e = known Between other x d p e
steps_to b Word d quote x p e = known Word quote x d p e
steps_to b Word d backslash x p e = known Word backslash x d p e
steps_to b Word d operator x p e =
    steps_between Word x (operator_step b d x) p refl refl (at_operator b d x) e
steps_to b Word d space x p e = known Word space x d p e
steps_to b Word d other x p e = known Word other x d p e
steps_to b Text d quote x p e = known Text quote x d p e
steps_to b Text d backslash x p e = known Text backslash x d p e
steps_to b Text d operator x p e = known Text operator x d p e
steps_to b Text d space x p e = known Text space x d p e
steps_to b Text d other x p e = known Text other x d p e
steps_to b Escape d c x p e = known Escape c x d p e

-- the byte that is put is no line feed
put_feed : (m : Mode) (c : Class) (x : ℕ) → class x ≡ c → (put_byte m c x == 10) ≡ false
put_feed Between quote x k = apart x 10 quote k refl refl
put_feed Between backslash x k = apart x 10 backslash k refl refl
put_feed Between operator x k = apart x 10 operator k refl refl
put_feed Between space x k = blank_feed x
put_feed Between other x k = apart x 10 other k refl refl
put_feed Word quote x k = apart x 10 quote k refl refl
put_feed Word backslash x k = apart x 10 backslash k refl refl
put_feed Word operator x k = apart x 10 operator k refl refl
put_feed Word space x k = blank_feed x
put_feed Word other x k = apart x 10 other k refl refl
put_feed Text quote x k = apart x 10 quote k refl refl
put_feed Text backslash x k = apart x 10 backslash k refl refl
put_feed Text operator x k = apart x 10 operator k refl refl
put_feed Text space x k = text_feed x
put_feed Text other x k = text_feed x
put_feed Escape c x k = text_feed x

-- What is put in place of bytes, and where they lead: with blanks behind it, it is a copy of them.
record Copied (m : Mode) (xs line : List ℕ) (end place : Place) : Type 0 where
  copy : (blanks : List ℕ) → AreBlank blanks → IsCopy m xs (line ++ blanks)
  feeds : HasNo 10 line
  leads : end ≡ place

-- what a step that is known leads to
some_step : (o : Option (Mode × ℕ)) (f : Mode × ℕ → Option (Mode × ℕ)) (q : Mode × ℕ)
    → option_and_then f o ≡ Some q → (p : Mode × ℕ) × (o ≡ Some p) × (f p ≡ Some q)
some_step None f q e = absurd cc
some_step (Some p) f q e = (p, refl, e)

copied : (b : Brackets) (m : Mode) (d : ℕ) (xs : List ℕ) (n : Mode) (k : ℕ)
    → inside b m d xs ≡ Some (n, k) → is_outside_string n ≡ true
    → Copied m xs (puts b (Element m d) xs) (place_behind b (Element m d) xs) (Element n k)
copied b m d [] n k e o =
    let q : (m, d) ≡ (n, k) = ap out e in
    record {
      copy = λ blanks h. (ap (λ r. is_outside_string r.0) q ∙ o, h);
      feeds = tt;
      leads = ap (λ r. Element r.0 r.1) q;
    }
copied b m d (x ∷ xs) n k e o =
    let s = some_step (within (step b (Element m d) x).0) (λ p. inside b p.0 p.1 xs) (n, k) e in
    let t = steps_to b m d (class x) x s.0 s.1 in
    let rest = copied b s.0.0 s.0.1 xs n k s.2 o in
    let place = t.place in
    record {
      copy = λ blanks h. (
        t.byte,
        subst (λ l. IsCopy (next_mode m (class x)) xs (l ++ blanks))
            (ap (λ p. puts b p xs) (sym place))
            (subst (λ r. IsCopy r xs (puts b (Element s.0.0 s.0.1) xs ++ blanks)) t.mode
            (rest.copy blanks h)),
      );
      feeds = (
        ap (λ y. y == 10) t.byte ∙ put_feed m (class x) x refl,
        subst (HasNo 10) (ap (λ p. puts b p xs) (sym place)) rest.feeds,
      );
      leads = ap (λ p. place_behind b p xs) place ∙ rest.leads;
    }

-- ---- where an element begins

-- an element may begin at this place
abbrev pub IsStart : Place → Type 0
IsStart Front = ⊥
IsStart Opened = ⊤
IsStart Next = ⊤
IsStart (Element m d) = ⊥
IsStart Closed = ⊥
IsStart Lost = ⊥

opens : (x : ℕ) → StaysBetween x (opening_step 0 x)
opens x = opening_step-each (StaysBetween x) 0 x (lost x) (between x 1)

begins : (b : Brackets) (c : Class) (x : ℕ) (p : Mode × ℕ)
    → within (start_step b Next c x).0 ≡ Some p → StepsTo Between c x (start_step b Next c x) p
begins b quote x p e = known Between quote x 0 p e
begins b backslash x p e = known Between backslash x 0 p e
begins b operator x p e =
    steps_between Between x (start_step b Next operator x) p refl refl
    (cond_both ((x == 123) || (x == 91)) (opening_step 0 x) lost_step (StaysBetween x)
    (λ k. opens x) (λ k. lost x)) e
begins b space x p e = absurd cc
begins b other x p e = known Between other x 0 p e

-- No element begins with the bracket that closes.
no_closing : (b : Brackets) (x : ℕ) (p : Mode × ℕ) → within (step b Next x).0 ≡ Some p
    → (x == closing_bracket b) ≡ false
no_closing b x p e =
    ne_eqb x (closing_bracket b) (λ is. closes b (ap (λ y. within (step b Next y).0) (sym is) ∙ e))
  where
    closes : (b : Brackets) → within (step b Next (closing_bracket b)).0 ≡ Some p → ⊥
    closes Square k = cc
    closes Curly k = cc

-- The first byte leads from both places to the same.
same_start : (b : Brackets) (q : Place) (x : ℕ) (p : Mode × ℕ) → IsStart q
    → within (step b Next x).0 ≡ Some p → step b q x ≡ step b Next x
same_start b Front x p h e = absurd h
same_start b Opened x p h e = by (class x) refl
  where
    by : (c : Class) → class x ≡ c → step b Opened x ≡ step b Next x
    by quote k =
        (λ i. cond (no_closing b x p e i) (Closed, 10) (start_step b Opened (k i) x))
        ∙ sym (ap (λ c. start_step b Next c x) k)
    by backslash k =
        (λ i. cond (no_closing b x p e i) (Closed, 10) (start_step b Opened (k i) x))
        ∙ sym (ap (λ c. start_step b Next c x) k)
    by operator k =
        (λ i. cond (no_closing b x p e i) (Closed, 10) (start_step b Opened (k i) x))
        ∙ sym (ap (λ c. start_step b Next c x) k)
    by space k =
        let none : None ≡ Some p = sym (ap (λ c. within (start_step b Next c x).0) k) ∙ e in
        absurd cc
    by other k =
        (λ i. cond (no_closing b x p e i) (Closed, 10) (start_step b Opened (k i) x))
        ∙ sym (ap (λ c. start_step b Next c x) k)
same_start b Next x p h e = refl
same_start b (Element m d) x p h e = absurd h
same_start b Closed x p h e = absurd h
same_start b Lost x p h e = absurd h

-- an element where it may begin
element_copied : (b : Brackets) (q : Place) (part : List ℕ) → IsStart q → (e : IsElement b part)
    → Copied Between part (puts b q part) (place_behind b q part) (Element e.mode 0)
element_copied b q [] start e = let k = e.closed in absurd cc
element_copied b q (x ∷ xs) start e =
    let s = some_step (within (step b Next x).0) (λ p. inside b p.0 p.1 xs) (e.mode, 0) e.closed in
    let t = begins b (class x) x s.0 s.1 in
    let rest = copied b s.0.0 s.0.1 xs e.mode 0 s.2 e.outside in
    let same = same_start b q x s.0 start s.1 in
    let place = ap (λ r. r.0) same ∙ t.place in
    record {
      copy = λ blanks h. (
        ap (λ r. r.1) same ∙ t.byte,
        subst (λ l. IsCopy (next_mode Between (class x)) xs (l ++ blanks))
            (ap (λ p. puts b p xs) (sym place))
            (subst (λ r. IsCopy r xs (puts b (Element s.0.0 s.0.1) xs ++ blanks)) t.mode
            (rest.copy blanks h)),
      );
      feeds = (
        ap (λ y. y == 10) (ap (λ r. r.1) same ∙ t.byte) ∙ put_feed Between (class x) x refl,
        subst (HasNo 10) (ap (λ p. puts b p xs) (sym place)) rest.feeds,
      );
      leads = ap (λ p. place_behind b p xs) place ∙ rest.leads;
    }

-- ---- white space

pub space_class : (x : ℕ) → is_space x ≡ true → class x ≡ space
space_class x e = by (or_cases _ _ e)
  where
    earlier : ((x == 32) ≡ true) ⊎ ((x == 9) ≡ true) → class x ≡ space
    earlier (inl k) = ap class (eqb-true x 32 k)
    earlier (inr k) = ap class (eqb-true x 9 k)

    before : (((x == 32) || (x == 9)) ≡ true) ⊎ ((x == 10) ≡ true) → class x ≡ space
    before (inl k) = earlier (or_cases _ _ k)
    before (inr k) = ap class (eqb-true x 10 k)

    by : (((x == 32) || (x == 9) || (x == 10)) ≡ true) ⊎ ((x == 13) ≡ true) → class x ≡ space
    by (inl k) = before (or_cases _ _ k)
    by (inr k) = ap class (eqb-true x 13 k)

-- White space behind an element is blank in its line.
record Trails (b : Brackets) (m : Mode) (back : List ℕ) : Type 0 where
  mode : Mode
  outside : is_outside_string mode ≡ true
  blank : AreBlank (puts b (Element m 0) back)
  feeds : HasNo 10 (puts b (Element m 0) back)
  leads : place_behind b (Element m 0) back ≡ Element mode 0

trails : (b : Brackets) (m : Mode) (back : List ℕ) → is_outside_string m ≡ true → IsWhite back
    → Trails b m back
trails b m [] o h = record { mode = m; outside = o; blank = tt; feeds = tt; leads = refl }
trails b m (x ∷ xs) o h =
    let rest = trails b Between xs refl h.1 in
    let here : step b (Element m 0) x ≡ (Element Between 0, blank_byte x) =
    stays m o ∙ refl in
    let place = ap (λ r. r.0) here in
    record {
      mode = rest.mode;
      outside = rest.outside;
      blank = (
        ap (λ r. class r.1) here ∙ blank_class x,
        subst AreBlank (ap (λ p. puts b p xs) (sym place)) rest.blank,
      );
      feeds = (
        ap (λ r. r.1 == 10) here ∙ blank_feed x,
        subst (HasNo 10) (ap (λ p. puts b p xs) (sym place)) rest.feeds,
      );
      leads = ap (λ p. place_behind b p xs) place ∙ rest.leads;
    }
  where
    stays : (m : Mode) → is_outside_string m ≡ true
        → step b (Element m 0) x ≡ (Element Between 0, blank_byte x)
    stays Between o = ap (λ c. element_step b Between 0 c x) (space_class x h.0)
    stays Word o = ap (λ c. element_step b Word 0 c x) (space_class x h.0)
    stays Text o = absurd (false≢true o)
    stays Escape o = absurd (false≢true o)

-- the place is outside of the elements, and no byte is lost
abbrev pub IsOutside : Place → Type 0
IsOutside Front = ⊤
IsOutside Opened = ⊤
IsOutside Next = ⊤
IsOutside (Element m d) = ⊥
IsOutside Closed = ⊤
IsOutside Lost = ⊥

open_operator : (b : Brackets) → class (opening_bracket b) ≡ operator
open_operator Square = refl
open_operator Curly = refl

close_operator : (b : Brackets) → class (closing_bracket b) ≡ operator
close_operator Square = refl
close_operator Curly = refl

no_space : (x y : ℕ) → class x ≡ space → class y ≡ operator → (x == y) ≡ false
no_space x y k m = ne_eqb x y (λ e. let q = sym k ∙ ap class e ∙ m in absurd cc)

-- White space outside of elements ends a line.
space_step-here : (b : Brackets) (p : Place) (x : ℕ) → IsOutside p → class x ≡ space
    → step b p x ≡ (p, 10)
space_step-here b Front x h k =
    (λ i. cond (no_space x (opening_bracket b) k (open_operator b) i) (Opened, 10)
    (space_step Front (k i)))
space_step-here b Opened x h k =
    (λ i. cond (no_space x (closing_bracket b) k (close_operator b) i) (Closed, 10)
    (start_step b Opened (k i) x))
space_step-here b Next x h k = (λ i. start_step b Next (k i) x)
space_step-here b (Element m d) x h k = absurd h
space_step-here b Closed x h k = (λ i. space_step Closed (k i))
space_step-here b Lost x h k = absurd h

white_pieces : (b : Brackets) (p : Place) (front z : List ℕ) → IsOutside p → IsWhite front
    → pieces (lines_from b p (front ++ z)) ≡ pieces (lines_from b p z)
white_pieces b p [] z o h = refl
white_pieces b p (x ∷ xs) z o h =
    ap (λ s. pieces (s.1 ∷ lines_from b s.0 (xs ++ z)))
    (space_step-here b p x o (space_class x h.0))
    ∙ white_pieces b p xs z o h.1

-- ---- a line

first_of : (line more : List ℕ) → HasNo 10 line → first_line (line ++ 10 ∷ more) ≡ line
first_of line more h = first_line-append line (10 ∷ more) h ∙ append-nil line

later_of : (line more : List ℕ) → HasNo 10 line
    → later_lines (line ++ 10 ∷ more) ≡ first_line more ∷ later_lines more
later_of [] more h = refl
later_of (x ∷ line) more h =
    let rest = line ++ 10 ∷ more in
    ap (λ t. cond t (first_line rest ∷ later_lines rest) (later_lines rest)) h.0
    ∙ later_of line more h.1

-- A line that isn't empty is the first piece.
line_piece : (y : ℕ) (line more : List ℕ) → HasNo 10 (y ∷ line)
    → pieces ((y ∷ line) ++ 10 ∷ more) ≡ (y ∷ line) ∷ pieces more
line_piece y line more h =
    (λ i. nonempty_lines (first_of (y ∷ line) more h i ∷ later_of (y ∷ line) more h i))
    ∙ nonempty_lines-some y line (first_line more ∷ later_lines more)

-- what separates an element from the next, or ends the list
abbrev pub separator : Brackets → Bool → ℕ
separator b true = 44
separator b false = closing_bracket b

abbrev pub behind_separator : Bool → Place
behind_separator true = Next
behind_separator false = Closed

separator_step : (b : Brackets) (m : Mode) (more : Bool) → is_outside_string m ≡ true
    → step b (Element m 0) (separator b more) ≡ (behind_separator more, 10)
separator_step Square Between true o = refl
separator_step Square Between false o = refl
separator_step Square Word true o = refl
separator_step Square Word false o = refl
separator_step Curly Between true o = refl
separator_step Curly Between false o = refl
separator_step Curly Word true o = refl
separator_step Curly Word false o = refl
separator_step b Text more o = absurd (false≢true o)
separator_step b Escape more o = absurd (false≢true o)

-- The line of a part, and what is behind it.
record Line (b : Brackets) (more : Bool) (part z lines : List ℕ) : Type 0 where
  line : List ℕ
  same : pieces lines ≡ line ∷ pieces (lines_from b (behind_separator more) z)
  says : tokens line ≡ tokens part

start_outside : (q : Place) → IsStart q → IsOutside q
start_outside Front h = absurd h
start_outside Opened h = tt
start_outside Next h = tt
start_outside (Element m d) h = absurd h
start_outside Closed h = absurd h
start_outside Lost h = absurd h

part_line : (b : Brackets) (q : Place) (more : Bool) (part back z : List ℕ) → IsStart q
    → IsElement b part → IsWhite back
    → Line b more part z (lines_from b q ((part ++ back) ++ separator b more ∷ z))
part_line b q more [] back z start e h = let k = e.closed in absurd cc
part_line b q more (x ∷ xs) back z start e h =
    let part = x ∷ xs in
    let c = element_copied b q part start e in
    let t = trails b e.mode back e.outside h in
    let end = separator b more ∷ z in
    let tail = puts b (Element e.mode 0) back in
    let sep = separator_step b t.mode more t.outside in
    let all : lines_from b q ((part ++ back) ++ end)
    ≡ (puts b q part ++ tail) ++ 10 ∷ lines_from b (behind_separator more) z =
    ap (lines_from b q) (append_assoc part back end)
    ∙ lines_from-append b q part (back ++ end)
    ∙ ap (λ p. puts b q part ++ lines_from b p (back ++ end)) c.leads
    ∙ ap (λ l. puts b q part ++ l) (lines_from-append b (Element e.mode 0) back end)
    ∙ ap (λ p. puts b q part ++ (tail ++ lines_from b p end)) t.leads
    ∙ ap (λ s. puts b q part ++ (tail ++ s.1 ∷ lines_from b s.0 z)) sep
    ∙ sym (append_assoc (puts b q part) tail (10 ∷ lines_from b (behind_separator more) z)) in
    record {
      line = puts b q part ++ tail;
      same = ap pieces all
          ∙ line_piece (step b q x).1 (puts b (step b q x).0 xs ++ tail)
          (lines_from b (behind_separator more) z)
          (HasNo-append 10 (puts b q part) tail c.feeds t.feeds);
      says = tokens-copy part (puts b q part ++ tail) (c.copy tail t.blank);
    }

padded_line : (b : Brackets) (q : Place) (more : Bool) (part text z : List ℕ) → IsStart q
    → IsElement b part → IsPadded part text
    → Line b more part z (lines_from b q (text ++ separator b more ∷ z))
padded_line b q more part text z start e padded =
    let k = part_line b q more part padded.back z start e padded.behind in
    let end = separator b more ∷ z in
    record {
      line = k.line;
      same = ap (λ t. pieces (lines_from b q (t ++ end))) padded.is
          ∙ ap (λ t. pieces (lines_from b q t))
          (append_assoc padded.front (part ++ padded.back) end)
          ∙ white_pieces b q padded.front ((part ++ padded.back) ++ end) (start_outside q start)
          padded.before
          ∙ k.same;
      says = k.says;
    }

-- behind the bracket that closes there are no lines but empty ones
none_behind : (b : Brackets) (back : List ℕ) → IsWhite back → pieces (lines_from b Closed back) ≡ []
none_behind b back h =
    ap (λ t. pieces (lines_from b Closed t)) (sym (append-nil back))
    ∙ white_pieces b Closed back [] tt h

-- parts from where one may begin
parts_from : (b : Brackets) (q : Place) (p : List ℕ) (ps : List (List ℕ)) (list back : List ℕ)
    → IsStart q → AreSeparated (p ∷ ps) list → AllByRecursion (IsElement b) (p ∷ ps)
    → IsWhite back
    → map tokens (pieces (lines_from b q (list ++ closing_bracket b ∷ back)))
    ≡ map tokens (p ∷ ps)
parts_from b q p [] list back start s e h =
    let k = padded_line b q false p list back start e.0 s in
    ap (map tokens) k.same
    ∙ (λ i. k.says i ∷ map tokens (none_behind b back h i))
parts_from b q p (r ∷ ps) list back start s e h =
    let first = s.0 in
    let more = s.1 in
    let k = padded_line b q true p first (more ++ closing_bracket b ∷ back) start e.0 s.3 in
    ap (λ t. map tokens (pieces (lines_from b q (t ++ closing_bracket b ∷ back)))) s.2
    ∙ ap (λ t. map tokens (pieces (lines_from b q t)))
    (append_assoc first (44 ∷ more) (closing_bracket b ∷ back))
    ∙ ap (map tokens) k.same
    ∙ (λ i. k.says i ∷ parts_from b Next r ps more back tt s.4 e.1 h i)

opening_step-here : (b : Brackets) → step b Front (opening_bracket b) ≡ (Opened, 10)
opening_step-here Square = refl
opening_step-here Curly = refl

closing_step-here : (b : Brackets) → step b Opened (closing_bracket b) ≡ (Closed, 10)
closing_step-here Square = refl
closing_step-here Curly = refl

all_parts : (b : Brackets) (ps : List (List ℕ)) (list back : List ℕ) → AreSeparated ps list
    → AllByRecursion (IsElement b) ps → IsWhite back
    → map tokens (pieces (lines_from b Opened (list ++ closing_bracket b ∷ back)))
    ≡ map tokens ps
all_parts b [] list back s e h =
    ap (map tokens) (white_pieces b Opened list (closing_bracket b ∷ back) tt s)
    ∙ ap (λ r. map tokens (pieces (r.1 ∷ lines_from b r.0 back))) (closing_step-here b)
    ∙ ap (map tokens) (none_behind b back h)
all_parts b (p ∷ ps) list back s e h = parts_from b Opened p ps list back tt s e h

-- The elements of a text that is laid out have the tokens of its parts.
pub same_tokens : (b : Brackets) (text : List ℕ) (parts : List (List ℕ)) → IsLaidOut b text parts
    → map tokens (elements b text) ≡ map tokens parts
same_tokens b text parts h =
    let rest = h.list ++ closing_bracket b ∷ h.back in
    ap (map tokens) (elements-pieces b text)
    ∙ ap (λ t. map tokens (pieces (lines_from b Front t))) h.is
    ∙ ap (map tokens) (white_pieces b Front h.front (opening_bracket b ∷ rest) tt h.before)
    ∙ ap (λ r. map tokens (pieces (r.1 ∷ lines_from b r.0 rest))) (opening_step-here b)
    ∙ all_parts b parts h.list h.back h.separated h.elements h.behind
