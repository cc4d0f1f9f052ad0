-- The element that a text begins with.
use Rattle.std.proofs.Common.{◌≡◌, ℕ, zero, suc, ◌+◌, ◌-◌, ◌<◌, ◌≤◌, ◌==◌, ◌||◌, Bool, true, false, not, List, [], ◌∷◌, ◌++◌, length, take, drop, get_or, Option, Some, None, option_and_then, inl, inr, ◌⊎◌, refl, sym, ap, ◌∙◌, subst, arith, append_assoc, IsUtf8}
use Rattle.std.specs.Str.{IsCharBoundary}
use Rattle.std.proofs.lemmas.Bool.{true≢false, false≢true, cases_lt, eqb-true, or_cases}
use Rattle.std.proofs.lemmas.List.{drop_more, length-take-le, take-append-drop, take-take}
use Rattle.std.proofs.lemmas.Str.{IsCharBoundary-after_ascii, IsCharBoundary-start}
use Rattle.json.specs.Word.{is_space}
use Rattle.json.specs.Lex.{class, space}
use Rattle.haya_json_elements.specs.Steps.{closing_bracket, element_step, start_step, step}
use Rattle.haya_json_elements.specs.declared.place.Brackets.{Brackets}
use Rattle.haya_json_elements.specs.declared.place.Brackets.TheVariants.{Square, Curly}
use Rattle.haya_json_elements.specs.declared.place.Mode.{Mode}
use Rattle.haya_json_elements.specs.declared.place.Mode.TheVariants.{Between, Word, Text, Escape}
use Rattle.haya_json_elements.specs.declared.place.Place.TheVariants.{Element, Next}
use Rattle.haya_slices.specs.Layout.{IsElement, IsWhite, inside, inside_element, is_outside_string, within}
use Rattle.haya_slices.specs.Scan.{BeginsWith, EndsAt, end_byte}
use Rattle.haya_slices.proofs.Lines.{space_class}

-- ---- white space behind an element

abbrev out : Option (Mode × ℕ) → Mode × ℕ
out None = (Between, 0)
out (Some p) = p

-- what a step that is known leads to
some_step : (o : Option (Mode × ℕ)) (f : Mode × ℕ → Option (Mode × ℕ)) (q : Mode × ℕ)
    → option_and_then f o ≡ Some q → (p : Mode × ℕ) × (o ≡ Some p) × (f p ≡ Some q)
some_step None f q e = absurd cc
some_step (Some p) f q e = (p, refl, e)

inside-append : (b : Brackets) (m : Mode) (d : ℕ) (xs ys : List ℕ)
    → inside b m d (xs ++ ys) ≡ option_and_then (λ p. inside b p.0 p.1 ys) (inside b m d xs)
inside-append b m d [] ys = refl
inside-append b m d (x ∷ xs) ys =
    by (within (step b (Element m d) x).0) (λ p. inside-append b p.0 p.1 xs ys)
  where
    by : (o : Option (Mode × ℕ))
        → ((p : Mode × ℕ) → inside b p.0 p.1 (xs ++ ys)
        ≡ option_and_then (λ q. inside b q.0 q.1 ys) (inside b p.0 p.1 xs))
        → option_and_then (λ p. inside b p.0 p.1 (xs ++ ys)) o
        ≡ option_and_then (λ q. inside b q.0 q.1 ys)
        (option_and_then (λ p. inside b p.0 p.1 xs) o)
    by None again = refl
    by (Some p) again = again p

-- White space leads to the outside of a string from there alone.
before_white : (b : Brackets) (m : Mode) (d : ℕ) (back : List ℕ) (n : Mode)
    → inside b m d back ≡ Some (n, 0) → is_outside_string n ≡ true → IsWhite back
    → (is_outside_string m ≡ true) × (d ≡ 0)
before_white b m d [] n e o h =
    let q : (m, d) ≡ (n, 0) = ap out e in
    (ap (λ r. is_outside_string r.0) q ∙ o, ap (λ r. r.1) q)
before_white b m d (x ∷ xs) n e o h =
    let k = space_class x h.0 in
    by m (λ r. sym (ap (λ c. option_and_then (λ p. inside b p.0 p.1 xs)
    (within (element_step b r d c x).0)) k)) (λ r f. before_white b r d xs n f o h.1) e
  where
    by : (r : Mode)
        → ((s : Mode) → option_and_then (λ p. inside b p.0 p.1 xs)
        (within (element_step b s d space x).0)
        ≡ option_and_then (λ p. inside b p.0 p.1 xs)
        (within (element_step b s d (class x) x).0))
        → ((s : Mode) → inside b s d xs ≡ Some (n, 0)
        → (is_outside_string s ≡ true) × (d ≡ 0))
        → option_and_then (λ p. inside b p.0 p.1 xs)
        (within (element_step b r d (class x) x).0) ≡ Some (n, 0)
        → (is_outside_string r ≡ true) × (d ≡ 0)
    by Between same again f = (refl, (again Between (same Between ∙ f)).1)
    by Word same again f = (refl, (again Between (same Word ∙ f)).1)
    by Text same again f = absurd (false≢true (again Text (same Text ∙ f)).0)
    by Escape same again f = absurd (false≢true (again Text (same Escape ∙ f)).0)

-- an element ends where no string is open
record Ends (b : Brackets) (part : List ℕ) : Type 0 where
  mode : Mode
  closed : inside_element b part ≡ Some (mode, 0)
  outside : is_outside_string mode ≡ true

without_white : (b : Brackets) (part back : List ℕ) (n : Mode)
    → inside_element b (part ++ back) ≡ Some (n, 0) → is_outside_string n ≡ true → IsWhite back
    → 0 < length part → Ends b part
without_white b [] back n e o h some = absurd (omega arith)
without_white b (x ∷ xs) back n e o h some =
    let s = some_step (within (step b Next x).0) (λ p. inside b p.0 p.1 (xs ++ back)) (n, 0) e in
    let p = s.0 in
    let t = some_step (inside b p.0 p.1 xs) (λ q. inside b q.0 q.1 back) (n, 0)
    (sym (inside-append b p.0 p.1 xs back) ∙ s.2) in
    let q = t.0 in
    let w = before_white b q.0 q.1 back n t.2 o h in
    record {
      mode = q.0;
      closed = ap (option_and_then (λ r. inside b r.0 r.1 xs)) s.1 ∙ t.1
          ∙ ap (λ k. Some (q.0, k)) w.1;
      outside = w.0;
    }

-- White space is no element.
space_first : (b : Brackets) (x : ℕ) (xs : List ℕ) → class x ≡ space
    → inside_element b (x ∷ xs) ≡ None
space_first b x xs k =
    ap (λ c. option_and_then (λ p. inside b p.0 p.1 xs) (within (start_step b Next c x).0)) k

no_element : (b : Brackets) (xs : List ℕ) (n : Mode) → inside_element b xs ≡ Some (n, 0)
    → IsWhite xs → ⊥
no_element b [] n e h = cc
no_element b (x ∷ xs) n e h = let none = space_first b x xs (space_class x h.0) in cc

-- ---- places in lists

pub at_place : (xs : List ℕ) (i : ℕ) → i < length xs
    → xs ≡ take i xs ++ get_or xs i 0 ∷ drop (i + 1) xs
at_place xs i l = sym (take-append-drop i xs) ∙ ap (λ t. take i xs ++ t) (drop_more xs i 0 l)

get_or-take : (xs : List ℕ) (i n : ℕ) → i < n → get_or (take n xs) i 0 ≡ get_or xs i 0
get_or-take xs i zero l = absurd (omega arith)
get_or-take [] i (suc n) l = refl
get_or-take (x ∷ xs) zero (suc n) l = refl
get_or-take (x ∷ xs) (suc i) (suc n) l = get_or-take xs i n (omega arith)

abbrev no_bytes : List ℕ
no_bytes = []

get_or-none : (k : ℕ) → get_or no_bytes k 0 ≡ 0
get_or-none zero = refl
get_or-none (suc k) = refl

pub get_or-drop_at : (xs : List ℕ) (i n : ℕ) → get_or (drop i xs) n 0 ≡ get_or xs (i + n) 0
get_or-drop_at xs zero n = ap (λ k. get_or xs k 0) (omega arith)
get_or-drop_at [] (suc i) n = get_or-none n ∙ sym (get_or-none (suc i + n))
get_or-drop_at (x ∷ xs) (suc i) n =
    let k : suc i + n ≡ suc (i + n) = omega arith in
    get_or-drop_at xs i n ∙ sym (ap (λ k. get_or (x ∷ xs) k 0) k)

length_take : (n : ℕ) (xs : List ℕ) → length (take n xs) ≤ n
length_take zero xs = omega arith
length_take (suc n) [] = omega arith
length_take (suc n) (x ∷ xs) = omega (arith, length_take n xs)

space_small : (x : ℕ) → is_space x ≡ true → x < 128
space_small x e = by (or_cases _ _ e)
  where
    small : (n : ℕ) → n < 128 → (x == n) ≡ true → x < 128
    small n l k = let is = eqb-true x n k in omega arith

    earlier : ((x == 32) ≡ true) ⊎ ((x == 9) ≡ true) → x < 128
    earlier (inl k) = small 32 (omega arith) k
    earlier (inr k) = small 9 (omega arith) k

    before : (((x == 32) || (x == 9)) ≡ true) ⊎ ((x == 10) ≡ true) → x < 128
    before (inl k) = earlier (or_cases _ _ k)
    before (inr k) = small 10 (omega arith) k

    by : (((x == 32) || (x == 9) || (x == 10)) ≡ true) ⊎ ((x == 13) ≡ true) → x < 128
    by (inl k) = before (or_cases _ _ k)
    by (inr k) = small 13 (omega arith) k

-- the byte where an element ends is ASCII
pub end_small : (b : Brackets) (left : List ℕ) (len : ℕ) → EndsAt b left len
    → get_or left len 0 < 128
end_small b left len ends = by ends.ends
  where
    closes : (c : Brackets) → closing_bracket c < 128
    closes Square = omega arith
    closes Curly = omega arith

    by : (get_or left len 0 ≡ 44) ⊎ (get_or left len 0 ≡ closing_bracket b)
        → get_or left len 0 < 128
    by (inl e) = omega arith
    by (inr e) = omega (arith, closes b)

-- ---- the first element

module _ (b : Brackets) (text : List ℕ) (start len stop : ℕ)
    (front : start ≤ length text) (white : IsWhite (take start text))
    (ends : EndsAt b (drop start text) len)
    (short : stop ≤ length (take len (drop start text)))
    (back : IsWhite (drop stop (take len (drop start text))))
    (tight : (stop ≡ 0) ⊎ (is_space (get_or (take len (drop start text)) (stop - 1) 0) ≡ false)) where
  abbrev left : List ℕ
  left = drop start text

  abbrev first : List ℕ
  first = take len left

  parts : first ≡ take stop first ++ drop stop first
  parts = sym (take-append-drop stop first)

  closed : inside_element b (take stop first ++ drop stop first) ≡ Some (ends.mode, 0)
  closed = ap (inside_element b) (sym parts) ∙ ends.closed

  stop_some : (stop ≡ 0) → ⊥
  stop_some e =
      no_element b first ends.mode ends.closed (subst (λ k. IsWhite (drop k first)) e back)

  stop_length : length (take stop first) ≡ stop
  stop_length = length-take-le stop first short

  element : IsElement b (take stop first)
  element =
      let some : 0 < stop = by_zero stop stop_some in
      let e = without_white b (take stop first) (drop stop first) ends.mode closed ends.outside back
      (omega (arith, stop_length)) in
      record {
        mode = e.mode;
        closed = e.closed;
        outside = e.outside;
        tight = by tight;
      }
    where
      by_zero : (n : ℕ) → (n ≡ 0 → ⊥) → 0 < n
      by_zero zero h = absurd (h refl)
      by_zero (suc n) h = omega arith

      by : (stop ≡ 0) ⊎ (is_space (get_or first (stop - 1) 0) ≡ false)
          → is_space (get_or (take stop first) (length (take stop first) - 1) 0) ≡ false
      by (inl e) = absurd (stop_some e)
      by (inr e) =
          let below : stop - 1 < stop = omega (arith, by_zero stop stop_some) in
          ap (λ n. is_space (get_or (take stop first) (n - 1) 0)) stop_length
          ∙ ap is_space (get_or-take first (stop - 1) stop below) ∙ e

  last_byte : (is_last : Bool) → is_last ≡ not (get_or left len 0 == 44)
      → get_or left len 0 ≡ end_byte b is_last
  last_byte is_last e = by ends.ends is_last e
    where
      closes : (c : Brackets) → not (closing_bracket c == 44) ≡ true
      closes Square = refl
      closes Curly = refl

      by : (get_or left len 0 ≡ 44) ⊎ (get_or left len 0 ≡ closing_bracket b) → (k : Bool)
          → k ≡ not (get_or left len 0 == 44) → get_or left len 0 ≡ end_byte b k
      by (inl c) true f = absurd (true≢false (f ∙ ap (λ x. not (x == 44)) c))
      by (inl c) false f = c
      by (inr c) true f = c
      by (inr c) false f =
          absurd (false≢true (f ∙ ap (λ x. not (x == 44)) c ∙ closes b))

  pub begins_with : (is_last : Bool) → is_last ≡ not (get_or left len 0 == 44)
      → BeginsWith b text (take stop left) is_last (drop (len + 1) left)
  begins_with is_last e =
      let same : take stop first ≡ take stop left =
      take-take stop len left (omega (arith, length_first)) in
      record {
        first = take start text ++ first;
        is = sym (take-append-drop start text)
            ∙ ap (λ t. take start text ++ t)
            (at_place left len ends.within
            ∙ ap (λ x. first ++ x ∷ drop (len + 1) left) (last_byte is_last e))
            ∙ sym (append_assoc (take start text) first (end_byte b is_last ∷ drop (len + 1) left));
        padded = record {
          front = take start text;
          back = drop stop first;
          is = ap (λ t. take start text ++ t) (parts ∙ ap (λ t. t ++ drop stop first) same);
          before = white;
          behind = back;
        };
        element_is = subst (IsElement b) same element;
      }
    where
      length_first : length first ≤ len
      length_first = length_take len left

  -- the byte behind its last is ASCII
  pub behind_small : get_or left stop 0 < 128
  behind_small = by (cases_lt stop len)
    where
      in_white : stop < len → get_or left stop 0 < 128
      in_white l =
          let within : stop < length first = omega (arith, length-take-le len left (below ends.within)) in
          let w : IsWhite (get_or first stop 0 ∷ drop (stop + 1) first) =
          subst IsWhite (drop_more first stop 0 within) back in
          let small = space_small (get_or first stop 0) w.0 in
          omega (arith, small, get_or-take left stop len l)
        where
          below : len < length left → len ≤ length left
          below h = omega arith

      by : (stop < len) ⊎ (len ≤ stop) → get_or left stop 0 < 128
      by (inl l) = in_white l
      by (inr l) =
          let same : stop ≡ len = omega (arith, length_take len left) in
          omega (arith, end_small b left len ends, ap (λ k. get_or left k 0) same)

-- ---- places of a text

white_at : (xs : List ℕ) (n i : ℕ) → i < n → n ≤ length xs → IsWhite (take n xs)
    → is_space (get_or xs i 0) ≡ true
white_at xs zero i l m h = absurd (omega arith)
white_at [] (suc n) i l m h = absurd (omega arith)
white_at (x ∷ xs) (suc n) zero l m h = h.0
white_at (x ∷ xs) (suc n) (suc i) l m h = white_at xs n i (omega arith) (omega arith) h.1

-- behind white space
pub white_boundary : (text : List ℕ) (start : ℕ) → IsUtf8 text → start ≤ length text
    → IsWhite (take start text) → IsCharBoundary text start
white_boundary text zero u l h = IsCharBoundary-start text u
white_boundary text (suc i) u l h =
    let small = space_small (get_or text i 0) (white_at text (suc i) i (omega arith) l h) in
    subst (IsCharBoundary text) (omega arith)
    (IsCharBoundary-after_ascii text i u (omega arith) small)
