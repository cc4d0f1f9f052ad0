-- The first part of a text that is separated by escaped hyphens.
use Rattle.std.proofs.Common.{◌≡◌, ◌≢◌, ℕ, ◌+◌, ◌<◌, Bool, true, false, ◌&&◌, cond, eqb, List, [], ◌∷◌, ◌++◌, length, take, drop, refl, ap, sym, ◌∙◌, arith, lit<, Option, Some, None}
use Rattle.std.proofs.lemmas.Bool.Decides.{nat_tests}
use Rattle.std.proofs.lemmas.List.{length-append, append_assoc, take-append-drop}
use Rattle.std.proofs.lemmas.Str.{chars_from_encodes, encode_ascii, encodes-append, encodes-chars, IsCharBoundary-at_seam, IsUtf8-drop, IsUtf8-take}
use Rattle.std.proofs.Math.Seq.{drop-append_seam}
use Rattle.std.specs.List.{onto_first}
use Rattle.std.specs.Prelude.{MatchOption}
use Rattle.std.specs.Str.{IsUtf8, chars, encode_utf8_all}
use Rattle.std.specs.Str.Pattern.{FindsText, HasTextAt, SplitsAroundMatch}
use denote.Ref.{Bor}
use Rattle.haya_text.proofs.Tells.{and-both}
use Rattle.haya_numbers.specs.Cuts.{escaped_split}

-- no escaped hyphen appears in the characters
abbrev pub HasNoEscape : List ℕ → Type 0
HasNoEscape cs = (xs ys : List ℕ) → cs ≢ xs ++ 92 ∷ 45 ∷ ys

pub escape-is : (c d : ℕ) → (eqb c 92 && eqb d 45) ≡ true → (c ≡ 92) × (d ≡ 45)
escape-is c d h = let both = and-both (eqb c 92) (eqb d 45) h in (grind (arith, nat_tests, both.0), grind (arith, nat_tests, both.1))

pub escaped_split-none : (cs : List ℕ) → HasNoEscape cs → escaped_split cs ≡ cs ∷ []
escaped_split-none [] none = refl
escaped_split-none (c ∷ []) none = refl
escaped_split-none (c ∷ d ∷ cs) none = go (eqb c 92 && eqb d 45) refl (escaped_split-none (d ∷ cs) (λ xs ys e. none (c ∷ xs) ys (ap (λ l. c ∷ l) e)))
  where
    go : (b : Bool) → (eqb c 92 && eqb d 45) ≡ b → escaped_split (d ∷ cs) ≡ (d ∷ cs) ∷ [] → cond b ([] ∷ escaped_split cs) (onto_first c (escaped_split (d ∷ cs))) ≡ (c ∷ d ∷ cs) ∷ []
    go true h more = let e = escape-is c d h in absurd (none [] cs (ap (λ v. v ∷ d ∷ cs) e.0 ∙ ap (λ v. 92 ∷ v ∷ cs) e.1))
    go false h more = rw more refl

pub escaped_split-at : (cs ys : List ℕ) → HasNoEscape cs → escaped_split (cs ++ 92 ∷ 45 ∷ ys) ≡ cs ∷ escaped_split ys
escaped_split-at [] ys none = refl
escaped_split-at (c ∷ []) ys none = go (eqb c 92)
  where
    go : (b : Bool) → cond (b && false) ([] ∷ escaped_split (45 ∷ ys)) (onto_first c ([] ∷ escaped_split ys)) ≡ (c ∷ []) ∷ escaped_split ys
    go true = refl
    go false = refl
escaped_split-at (c ∷ d ∷ cs) ys none = go (eqb c 92 && eqb d 45) refl (escaped_split-at (d ∷ cs) ys (λ xs zs e. none (c ∷ xs) zs (ap (λ l. c ∷ l) e)))
  where
    go : (b : Bool) → (eqb c 92 && eqb d 45) ≡ b → escaped_split ((d ∷ cs) ++ 92 ∷ 45 ∷ ys) ≡ (d ∷ cs) ∷ escaped_split ys → cond b ([] ∷ escaped_split (cs ++ 92 ∷ 45 ∷ ys)) (onto_first c (escaped_split ((d ∷ cs) ++ 92 ∷ 45 ∷ ys))) ≡ (c ∷ d ∷ cs) ∷ escaped_split ys
    go true h more = let e = escape-is c d h in absurd (none [] cs (ap (λ v. v ∷ d ∷ cs) e.0 ∙ ap (λ v. 92 ∷ v ∷ cs) e.1))
    go false h more = rw more refl

-- the bytes of characters round an escaped hyphen
escape-bytes : (xs ys : List ℕ) → encode_utf8_all (xs ++ 92 ∷ 45 ∷ ys) ≡ encode_utf8_all xs ++ 92 ∷ 45 ∷ encode_utf8_all ys
escape-bytes xs ys = encodes-append xs (92 ∷ 45 ∷ ys) ∙ ap (λ v. encode_utf8_all xs ++ v) (rw (encode_ascii 92 (lit< tt), encode_ascii 45 (lit< tt)) refl)

-- the characters round an escaped hyphen
escape-chars : (text front back : List ℕ) → IsUtf8 text → IsUtf8 front → IsUtf8 back → text ≡ front ++ 92 ∷ 45 ∷ back → chars text ≡ chars front ++ 92 ∷ 45 ∷ chars back
escape-chars text front back u v w e =
    sym (chars_from_encodes (chars front ++ 92 ∷ 45 ∷ chars back) text u
    (escape-bytes (chars front) (chars back) ∙ ap (λ t. t ++ 92 ∷ 45 ∷ encode_utf8_all (chars back)) (encodes-chars front v) ∙ ap (λ t. front ++ 92 ∷ 45 ∷ t) (encodes-chars back w) ∙ sym e))

-- what lacks the bytes of an escaped hyphen lacks its characters
lacks : (text : List ℕ) → IsUtf8 text → ((xs ys : List ℕ) → text ≢ xs ++ 92 ∷ 45 ∷ ys) → HasNoEscape (chars text)
lacks text u none = λ xs ys e. none (encode_utf8_all xs) (encode_utf8_all ys) (sym (encodes-chars text u) ∙ ap encode_utf8_all e ∙ escape-bytes xs ys)

-- no bytes of an escaped hyphen up to the first
first_lacks : (text front rest : List ℕ) (i : ℕ) → text ≡ front ++ rest → length front ≡ i → ((k : ℕ) → k < i → (tail : List ℕ) → drop k text ≢ 92 ∷ 45 ∷ tail) → (xs ys : List ℕ) → front ≢ xs ++ 92 ∷ 45 ∷ ys
first_lacks text front rest i e len none xs ys h =
    none (length xs) (omega (arith, ap length h, length-append xs (92 ∷ 45 ∷ ys))) (ys ++ rest)
    (ap (drop (length xs)) (e ∙ ap (λ v. v ++ rest) h ∙ append_assoc xs (92 ∷ 45 ∷ ys) rest) ∙ drop-append_seam xs (92 ∷ 45 ∷ (ys ++ rest)))

at_first : (text front back : List ℕ) (i j : ℕ) → IsUtf8 text → front ≡ take i text → back ≡ drop j text → length front ≡ i → ((k : ℕ) → k < i → (tail : List ℕ) → drop k text ≢ 92 ∷ 45 ∷ tail) → HasTextAt (92 ∷ 45 ∷ []) text i j → escaped_split (chars text) ≡ chars front ∷ escaped_split (chars back)
at_first text front back i j u f b len none has =
    let v : IsUtf8 back = rw (b, has.ends) (IsUtf8-drop text (i + 2) u has.after) in
    let whole : text ≡ front ++ 92 ∷ 45 ∷ back = sym (take-append-drop i text) ∙ ap (λ l. l ++ drop i text) (sym f) ∙ ap (λ l. front ++ l) (has.split ∙ ap (λ l. 92 ∷ 45 ∷ l) (sym b)) in
    let rest : IsUtf8 (92 ∷ 45 ∷ back) = (92 ∷ 45 ∷ v.0, (v.1.0, escape-bytes [] v.0 ∙ ap (λ l. 92 ∷ 45 ∷ l) v.1.1)) in
    let w : IsUtf8 front = rw f (IsUtf8-take text i u (rw (← len) (IsCharBoundary-at_seam text front (92 ∷ 45 ∷ back) whole rest))) in
    rw (escape-chars text front back u w v whole) (escaped_split-at (chars front) (chars back) (lacks front w (first_lacks text front (92 ∷ 45 ∷ back) i whole len none)))

-- what `split_once` gives at an escaped hyphen
pub escaped_split-first : (text : List ℕ) (r : Option (Bor (List ℕ) × Bor (List ℕ))) → IsUtf8 text → MatchOption r (FindsText (92 ∷ 45 ∷ []) text None) (λ x. SplitsAroundMatch (FindsText (92 ∷ 45 ∷ [])) text x.0.now x.1.now) → MatchOption r (escaped_split (chars text) ≡ chars text ∷ []) (λ cut. escaped_split (chars text) ≡ chars cut.0.now ∷ escaped_split (chars cut.1.now))
escaped_split-first text None u none =
    escaped_split-none (chars text) (lacks text u (λ xs ys e. none (length xs) (omega (arith, ap length e, length-append xs (92 ∷ 45 ∷ ys))) ys (ap (drop (length xs)) e ∙ drop-append_seam xs (92 ∷ 45 ∷ ys))))
escaped_split-first text (Some cut) u at = at_first text cut.0.now cut.1.now at.0 at.1 u at.3 at.4 at.6 at.2.0 at.2.1
