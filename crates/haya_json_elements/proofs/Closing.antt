-- A string's content is known at its closing quote, whatever follows.
use Rattle.std.proofs.Common.{◌≡◌, ℕ, ◌<◌, ◌≤◌, Bool, true, false, not, ◌&&◌, ◌==◌, nat_lt, nat_le, cond, List, [], ◌∷◌, ◌++◌, Option, Some, None, is_some, option_and_then, inl, inr, ◌⊎◌, refl, sym, ap, ◌∙◌, arith, append_assoc}
use Rattle.std.specs.Char.{encode_utf8, is_digit}
use Rattle.std.proofs.lemmas.Bool.{false≢true, eqb-true, le-leb, ltb-false, ne_eqb, and_parts, and_from, cases_lt, agree_below_at}
use Rattle.json.specs.Text.{code_unit, short_escape, is_high_surrogate, is_low_surrogate, surrogate_pair, Within, plain, after_backslash, after_u, after_high, prepend, content}

-- bytes of a string in front of its closing quote, none of them a control character; the flag says
-- that a backslash is in front of them
abbrev pub is_inside : Bool → List ℕ → Bool
is_inside escaped [] = not escaped
is_inside true (x ∷ xs) = nat_le 32 x && is_inside false xs
is_inside false (x ∷ xs) = nat_le 32 x && (not (x == 34) && is_inside (x == 92) xs)

-- a backslash is in front of what is read next
abbrev pub is_escaped : Within → Bool
is_escaped plain = false
is_escaped after_backslash = true
is_escaped after_u = false
is_escaped (after_high h) = false

-- the string closes within e, and has the content s whatever follows its quote
pub record Closes (w : Within) (e s : List ℕ) : Type 0 where
  pub front : List ℕ
  pub behind : List ℕ
  pub is : e ≡ front ++ 34 ∷ behind
  pub inside : is_inside (is_escaped w) front ≡ true
  pub same : (z : List ℕ) → content w (front ++ 34 ∷ z) ≡ Some s

prepend-nil : (r : Option (List ℕ)) → prepend [] r ≡ r
prepend-nil None = refl
prepend-nil (Some s) = refl

-- the bytes in front of what is read are s
record PrependsTo (bytes : List ℕ) (r : Option (List ℕ)) (s : List ℕ) : Type 0 where
  rest : List ℕ
  found : r ≡ Some rest
  whole : prepend bytes (Some rest) ≡ Some s

prepend-some : (bytes : List ℕ) (r : Option (List ℕ)) (s : List ℕ) → prepend bytes r ≡ Some s
    → PrependsTo bytes r s
prepend-some bytes None s h = absurd (false≢true (ap is_some h))
prepend-some bytes (Some rest) s h = record { rest = rest; found = refl; whole = h }

-- the bytes u are read, and stand for p
module _ (w next : Within) (u p e s : List ℕ)
    (step : (y : List ℕ) → content w (u ++ y) ≡ prepend p (content next y))
    (within : (f : List ℕ) → is_inside (is_escaped next) f ≡ true
    → is_inside (is_escaped w) (u ++ f) ≡ true)
    (closes : (t : List ℕ) → content next e ≡ Some t → Closes next e t) where
  onward : content w (u ++ e) ≡ Some s → Closes w (u ++ e) s
  onward h =
      let part = prepend-some p (content next e) s (sym (step e) ∙ h) in
      let c = closes part.rest part.found in
      record {
        front = u ++ c.front;
        behind = c.behind;
        is = ap (λ l. u ++ l) c.is ∙ sym (append_assoc u c.front (34 ∷ c.behind));
        inside = within c.front c.inside;
        same = λ z. ap (content w) (append_assoc u c.front (34 ∷ z)) ∙ step (c.front ++ 34 ∷ z)
            ∙ ap (prepend p) (c.same z) ∙ part.whole;
      }

-- ---- bytes that may be in a string

-- a hex digit is neither a control character nor a quote or a backslash
hex_inside : (a : ℕ) (f : List ℕ) → is_digit a 16 ≡ true → is_inside false f ≡ true
    → is_inside false (a ∷ f) ≡ true
hex_inside a f h inside =
    let far : 48 ≤ a = above (cases_lt a 48) in
    let here : (a == 92) ≡ false =
    ne_eqb a 92 (λ e. false≢true (ap (λ y. is_digit y 16) (sym e) ∙ h)) in
    and_from _ _ (le-leb 32 a (omega arith)) (and_from _ _ (ap not (ne_eqb a 34 (λ e. omega arith)))
    (ap (λ b. is_inside b f) here ∙ inside))
  where
    above : (a < 48) ⊎ (48 ≤ a) → 48 ≤ a
    above (inl l) =
        absurd (false≢true (sym (agree_below_at (λ y. is_digit y 16) (λ y. false) 48 a refl l) ∙ h))
    above (inr l) = l

four_inside : (a b c d : ℕ) (f : List ℕ)
    → (is_digit a 16 && is_digit b 16 && is_digit c 16 && is_digit d 16) ≡ true
    → is_inside false f ≡ true → is_inside false (a ∷ b ∷ c ∷ d ∷ f) ≡ true
four_inside a b c d f h inside =
    let abc = and_parts _ _ h in
    let ab = and_parts _ _ abc.0 in
    let both = and_parts _ _ ab.0 in
    hex_inside a (b ∷ c ∷ d ∷ f) both.0 (hex_inside b (c ∷ d ∷ f) both.1
    (hex_inside c (d ∷ f) ab.1 (hex_inside d f abc.1 inside)))

short_above : (x c : ℕ) → short_escape x ≡ Some c → 32 ≤ x
unfolding short_escape
short_above x c h = above (cases_lt x 32)
  where
    above : (x < 32) ⊎ (32 ≤ x) → 32 ≤ x
    above (inl l) =
        absurd (false≢true (sym (agree_below_at (λ y. is_some (short_escape y)) (λ y. false) 32 x
        refl l) ∙ ap is_some h))
    above (inr l) = l

-- ---- the cases

-- a byte that is no quote, as a string has it
plain_inside : (b : Bool) (x : ℕ) (f : List ℕ) → (x == 34) ≡ false → (x == 92) ≡ b → 32 ≤ x
    → is_inside b f ≡ true → is_inside false (x ∷ f) ≡ true
plain_inside b x f eq eb above k =
    and_from _ _ (le-leb 32 x above) (and_from _ _ (ap not eq) (ap (λ t. is_inside t f) eb ∙ k))

plain_closes : (q b c : Bool) (x : ℕ) (xs s : List ℕ) → (x == 34) ≡ q → (x == 92) ≡ b
    → nat_lt x 32 ≡ c
    → ((t : List ℕ) → content after_backslash xs ≡ Some t → Closes after_backslash xs t)
    → ((t : List ℕ) → content plain xs ≡ Some t → Closes plain xs t)
    → cond q (Some []) (cond b (content after_backslash xs)
    (cond c None (prepend (x ∷ []) (content plain xs)))) ≡ Some s → Closes plain (x ∷ xs) s
unfolding content
plain_closes true b c x xs s eq eb ec escape more h =
    record {
      front = [];
      behind = xs;
      is = ap (λ y. y ∷ xs) (eqb-true x 34 eq);
      inside = refl;
      same = λ z. h;
    }
plain_closes false true c x xs s eq eb ec escape more h =
    let step : (y : List ℕ) → content plain (x ∷ y) ≡ prepend [] (content after_backslash y) =
    λ y. (λ i. cond (eq i) (Some []) (cond (eb i) (content after_backslash y)
    (cond (nat_lt x 32) None (prepend (x ∷ []) (content plain y))))) ∙ sym (prepend-nil _) in
    let is : x ≡ 92 = eqb-true x 92 eb in
    onward plain after_backslash (x ∷ []) [] xs s step
    (λ f k. plain_inside true x f eq eb (omega arith) k) escape (step xs ∙ prepend-nil _ ∙ h)
plain_closes false false true x xs s eq eb ec escape more h = absurd (false≢true (ap is_some h))
plain_closes false false false x xs s eq eb ec escape more h =
    let step : (y : List ℕ) → content plain (x ∷ y) ≡ prepend (x ∷ []) (content plain y) =
    λ y. (λ i. cond (eq i) (Some []) (cond (eb i) (content after_backslash y)
    (cond (ec i) None (prepend (x ∷ []) (content plain y))))) in
    onward plain plain (x ∷ []) (x ∷ []) xs s step
    (λ f k. plain_inside false x f eq eb (ltb-false x 32 ec) k) more (step xs ∙ h)

escape_inside : (x : ℕ) (f : List ℕ) → 32 ≤ x → is_inside false f ≡ true
    → is_inside true (x ∷ f) ≡ true
escape_inside x f above k = and_from _ _ (le-leb 32 x above) k

-- what a backslash and the byte x stand for
abbrev escape_of : Option ℕ → Option (List ℕ) → Option (List ℕ)
escape_of o r = option_and_then (λ c. prepend (c ∷ []) r) o

escape_closes : (u : Bool) (o : Option ℕ) (x : ℕ) (xs s : List ℕ) → (x == 117) ≡ u
    → short_escape x ≡ o
    → ((t : List ℕ) → content after_u xs ≡ Some t → Closes after_u xs t)
    → ((t : List ℕ) → content plain xs ≡ Some t → Closes plain xs t)
    → cond u (content after_u xs) (escape_of o (content plain xs)) ≡ Some s
    → Closes after_backslash (x ∷ xs) s
unfolding content
escape_closes true o x xs s eu eo code more h =
    let step : (y : List ℕ) → content after_backslash (x ∷ y) ≡ prepend [] (content after_u y) =
    λ y. (λ i. cond (eu i) (content after_u y) (escape_of (short_escape x) (content plain y)))
    ∙ sym (prepend-nil _) in
    let is : x ≡ 117 = eqb-true x 117 eu in
    onward after_backslash after_u (x ∷ []) [] xs s step (λ f k. escape_inside x f (omega arith) k)
    code (step xs ∙ prepend-nil _ ∙ h)
escape_closes false None x xs s eu eo code more h = absurd (false≢true (ap is_some h))
escape_closes false (Some c) x xs s eu eo code more h =
    let step : (y : List ℕ) → content after_backslash (x ∷ y) ≡ prepend (c ∷ []) (content plain y) =
    λ y. (λ i. cond (eu i) (content after_u y) (escape_of (eo i) (content plain y))) in
    onward after_backslash plain (x ∷ []) (c ∷ []) xs s step
    (λ f k. escape_inside x f (short_above x c eo) k) more (step xs ∙ h)

-- four digits are read, where the code has them
record HasDigits (a b c d u : ℕ) : Type 0 where
  code : code_unit a b c d ≡ Some u
  inside : (f : List ℕ) → is_inside false f ≡ true → is_inside false (a ∷ b ∷ c ∷ d ∷ f) ≡ true

digits : (a b c d u : ℕ) → code_unit a b c d ≡ Some u → HasDigits a b c d u
unfolding code_unit
digits a b c d u e =
    record {
      code = e;
      inside = λ f k. four_inside a b c d f (tested
          (is_digit a 16 && is_digit b 16 && is_digit c 16 && is_digit d 16) _ e) k;
    }
  where
    tested : (t : Bool) (v : ℕ) → cond t (Some v) None ≡ Some u → t ≡ true
    tested true v h = refl
    tested false v h = absurd (false≢true (ap is_some h))

-- what four digits stand for
abbrev unit_of : Option ℕ → (ℕ → Option (List ℕ)) → Option (List ℕ) → Option (List ℕ)
unit_of o high r =
    option_and_then (λ u. cond (is_high_surrogate u) (high u)
    (cond (is_low_surrogate u) None (prepend (encode_utf8 u) r))) o

unit_closes : (o : Option ℕ) (a b c d : ℕ) (xs s : List ℕ) → code_unit a b c d ≡ o
    → ((h : ℕ) (t : List ℕ) → content (after_high h) xs ≡ Some t → Closes (after_high h) xs t)
    → ((t : List ℕ) → content plain xs ≡ Some t → Closes plain xs t)
    → unit_of o (λ u. content (after_high u) xs) (content plain xs) ≡ Some s
    → Closes after_u (a ∷ b ∷ c ∷ d ∷ xs) s
unfolding content
unit_closes None a b c d xs s eo high more h = absurd (false≢true (ap is_some h))
unit_closes (Some u) a b c d xs s eo high more h =
    by (is_high_surrogate u) (is_low_surrogate u) refl refl h
  where
    here : (y : List ℕ) → content after_u (a ∷ b ∷ c ∷ d ∷ y)
        ≡ unit_of (Some u) (λ v. content (after_high v) y) (content plain y)
    here y = ap (λ o. unit_of o (λ v. content (after_high v) y) (content plain y)) eo

    by : (t l : Bool) → is_high_surrogate u ≡ t → is_low_surrogate u ≡ l
        → cond t (content (after_high u) xs) (cond l None
        (prepend (encode_utf8 u) (content plain xs))) ≡ Some s
        → Closes after_u (a ∷ b ∷ c ∷ d ∷ xs) s
    by true l et el k =
        let step : (y : List ℕ) → content after_u (a ∷ b ∷ c ∷ d ∷ y)
        ≡ prepend [] (content (after_high u) y) =
        λ y. here y ∙ (λ i. cond (et i) (content (after_high u) y)
        (cond (is_low_surrogate u) None (prepend (encode_utf8 u) (content plain y))))
        ∙ sym (prepend-nil _) in
        onward after_u (after_high u) (a ∷ b ∷ c ∷ d ∷ []) [] xs s step (digits a b c d u eo).inside
        (high u) (step xs ∙ prepend-nil _ ∙ k)
    by false true et el k = absurd (false≢true (ap is_some k))
    by false false et el k =
        let step : (y : List ℕ) → content after_u (a ∷ b ∷ c ∷ d ∷ y)
        ≡ prepend (encode_utf8 u) (content plain y) =
        λ y. here y ∙ (λ i. cond (et i) (content (after_high u) y)
        (cond (el i) None (prepend (encode_utf8 u) (content plain y)))) in
        onward after_u plain (a ∷ b ∷ c ∷ d ∷ []) (encode_utf8 u) xs s step
        (digits a b c d u eo).inside more (step xs ∙ k)

-- what four digits behind a high surrogate stand for
abbrev pair_of : ℕ → Option ℕ → Option (List ℕ) → Option (List ℕ)
pair_of h o r =
    option_and_then (λ l. cond (is_low_surrogate l) (prepend (encode_utf8 (surrogate_pair h l)) r)
    None) o

pair_closes : (t : Bool) (o : Option ℕ) (h x u a b c d : ℕ) (xs s : List ℕ)
    → ((x == 92) && (u == 117)) ≡ t → code_unit a b c d ≡ o
    → ((t : List ℕ) → content plain xs ≡ Some t → Closes plain xs t)
    → cond t (pair_of h o (content plain xs)) None ≡ Some s
    → Closes (after_high h) (x ∷ u ∷ a ∷ b ∷ c ∷ d ∷ xs) s
unfolding content
pair_closes false o h x u a b c d xs s et eo more k = absurd (false≢true (ap is_some k))
pair_closes true None h x u a b c d xs s et eo more k = absurd (false≢true (ap is_some k))
pair_closes true (Some l) h x u a b c d xs s et eo more k = by (is_low_surrogate l) refl k
  where
    here : (y : List ℕ) → content (after_high h) (x ∷ u ∷ a ∷ b ∷ c ∷ d ∷ y)
        ≡ pair_of h (Some l) (content plain y)
    here y = λ i. cond (et i) (pair_of h (eo i) (content plain y)) None

    within : (f : List ℕ) → is_inside false f ≡ true
        → is_inside false (x ∷ u ∷ a ∷ b ∷ c ∷ d ∷ f) ≡ true
    within f m =
        let tests = and_parts _ _ et in
        let slash : x ≡ 92 = eqb-true x 92 tests.0 in
        let letter : u ≡ 117 = eqb-true u 117 tests.1 in
        plain_inside true x (u ∷ a ∷ b ∷ c ∷ d ∷ f) (ne_eqb x 34 (λ e. omega arith)) tests.0
        (omega arith)
        (escape_inside u (a ∷ b ∷ c ∷ d ∷ f) (omega arith) ((digits a b c d l eo).inside f m))

    by : (low : Bool) → is_low_surrogate l ≡ low → cond low
        (prepend (encode_utf8 (surrogate_pair h l)) (content plain xs)) None ≡ Some s
        → Closes (after_high h) (x ∷ u ∷ a ∷ b ∷ c ∷ d ∷ xs) s
    by false el m = absurd (false≢true (ap is_some m))
    by true el m =
        let step : (y : List ℕ) → content (after_high h) (x ∷ u ∷ a ∷ b ∷ c ∷ d ∷ y)
        ≡ prepend (encode_utf8 (surrogate_pair h l)) (content plain y) =
        λ y. here y ∙ (λ i. cond (el i) (prepend (encode_utf8 (surrogate_pair h l))
        (content plain y)) None) in
        onward (after_high h) plain (x ∷ u ∷ a ∷ b ∷ c ∷ d ∷ []) (encode_utf8 (surrogate_pair h l))
        xs s step within more (step xs ∙ m)

no_content : {w : Within} {e s : List ℕ} → None ≡ Some s → Closes w e s
no_content h = absurd (false≢true (ap is_some h))

-- a string that has a content closes, and what stands behind its closing quote doesn't count
pub closes : (w : Within) (e s : List ℕ) → content w e ≡ Some s → Closes w e s
unfolding content
closes plain [] s h = no_content h
closes plain (x ∷ xs) s h =
    plain_closes _ _ _ x xs s refl refl refl (closes after_backslash xs) (closes plain xs) h
closes after_backslash [] s h = no_content h
closes after_backslash (x ∷ xs) s h =
    escape_closes _ _ x xs s refl refl (closes after_u xs) (closes plain xs) h
closes after_u [] s h = no_content h
closes after_u (a ∷ []) s h = no_content h
closes after_u (a ∷ b ∷ []) s h = no_content h
closes after_u (a ∷ b ∷ c ∷ []) s h = no_content h
closes after_u (a ∷ b ∷ c ∷ d ∷ xs) s h =
    unit_closes _ a b c d xs s refl (λ u. closes (after_high u) xs) (closes plain xs) h
closes (after_high n) [] s h = no_content h
closes (after_high n) (x ∷ []) s h = no_content h
closes (after_high n) (x ∷ u ∷ []) s h = no_content h
closes (after_high n) (x ∷ u ∷ a ∷ []) s h = no_content h
closes (after_high n) (x ∷ u ∷ a ∷ b ∷ []) s h = no_content h
closes (after_high n) (x ∷ u ∷ a ∷ b ∷ c ∷ []) s h = no_content h
closes (after_high n) (x ∷ u ∷ a ∷ b ∷ c ∷ d ∷ xs) s h =
    pair_closes _ _ n x u a b c d xs s refl refl (closes plain xs) h
