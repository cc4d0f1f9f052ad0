-- What elements answer that are asked as they come.
use Rattle.std.proofs.Common.{◌≡◌, IsTrue, ℕ, ◌==◌, Bool, true, false, cond, List, [], ◌∷◌, ◌++◌, Option, None, Some, length, map, refl, sym, ap, ◌∙◌, subst}
use Rattle.std.specs.Prelude.{filter}
use Rattle.std.specs.List.{AllByRecursion, AllZip}
use Rattle.std.proofs.lemmas.Bool.{and_parts, true≢false}
use Rattle.std.proofs.lemmas.List.{length-map, take_all}
use Rattle.hayagriva.specs.Holds.{holds}
use Rattle.hayagriva.specs.Library.{key_of}
use Rattle.hayagriva.specs.Query.{AreHits, IsHit, hit_entry}
use Rattle.hayagriva.specs.Syntax.{Syntax}
use Rattle.hayagriva.specs.declared.query.Hit.{Hit}
use Rattle.haya_asked.proofs.AskedLemmas.{nothing_in}
use Rattle.haya_asked.specs.Asked.{AreAsked, AreLeft, at_most, keeps_repeats, passes}
use Rattle.haya_asked.specs.declared.questions.Questions.{Questions}
use Rattle.haya_asked.specs.declared.questions.Repeats.{Repeats}
use Rattle.haya_asked.specs.declared.questions.Repeats.TheVariants.{Alone, Dropped, Kept}
use Rattle.haya_questions.proofs.Sorts.{unsorted}
use Rattle.haya_questions.specs.Order.{hit_order}
use Rattle.haya_questions.specs.Ranked.{IsSortOf}
use Rattle.haya_questions.specs.SortText.{sort_key_view}
use Rattle.haya_questions.specs.Test.{test_view}
use Rattle.haya_source.specs.Elements.{Element, entries_of}
use Rattle.haya_source.specs.Places.{part_for}
use Rattle.haya_source_stream.specs.Answers.{AnswersByElements, keeps_order}
use Rattle.haya_source_stream.specs.Asked.{AreFound, Found, found_parts, passing}
use Rattle.haya_source_stream.specs.Enough.{IsWithin}
use Rattle.haya_source_stream.specs.Kinds.{element_kind}
use Rattle.haya_source_stream.specs.Printed.{last_text, told_text}
use Rattle.haya_source_stream.specs.declared.asking.Shown.TheVariants.{Elements}
use Rattle.haya_source_stream.specs.declared.kind.StreamedKind.{StreamedKind}
use Rattle.haya_source_stream.proofs.Texts.{all_text}

-- the hits of what is found
abbrev pub hits_in : Found → List Hit
hits_in found = map (λ f. f.1) found

-- ---- hits of the entries

found_hits : (s : Syntax) (es : List Element) (found : Found)
    → AllZip (λ e f. (f.0 ≡ e) × IsHit s e.1 f.1) es found
    → AllZip (IsHit s) (map (λ e. e.1) es) (hits_in found)
found_hits s [] [] h = tt
found_hits s [] (f ∷ fs) h = absurd h
found_hits s (e ∷ es) [] h = absurd h
found_hits s (e ∷ es) (f ∷ fs) h = (h.0.1, found_hits s es fs h.1)

entries_held : (s : Syntax) (es : List Element)
    → filter (holds s) (entries_of es) ≡ map (λ e. e.1) (filter (λ e. holds s e.1) es)
entries_held s [] = refl
entries_held s (e ∷ es) = by (holds s e.1) (entries_held s es)
  where
    by : (b : Bool) → filter (holds s) (entries_of es) ≡ map (λ d. d.1) (filter (λ d. holds s d.1) es)
        → cond b (e.1 ∷ filter (holds s) (entries_of es)) (filter (holds s) (entries_of es))
        ≡ map (λ d. d.1) (cond b (e ∷ filter (λ d. holds s d.1) es) (filter (λ d. holds s d.1) es))
    by true h = ap (λ l. e.1 ∷ l) h
    by false h = h

pub are_hits : (s : Syntax) (es : List Element) (found : Found) → AreFound s es found
    → AreHits s (entries_of es) (hits_in found)
are_hits s es found h =
    subst (λ l. AllZip (IsHit s) l (hits_in found)) (sym (entries_held s es))
    (found_hits s (filter (λ e. holds s e.1) es) found h)

pub passing_hits : (questions : Questions) (found : Found)
    → hits_in (passing questions found)
    ≡ filter (passes (map test_view questions.tests.items)) (hits_in found)
passing_hits questions [] = refl
passing_hits questions (f ∷ found) =
    by (passes (map test_view questions.tests.items) f.1)
    (filter (passes (map test_view questions.tests.items)) (hits_in found))
    (passing_hits questions found)
  where
    by : (b : Bool) (some : List Hit) → hits_in (passing questions found) ≡ some
        → hits_in (cond b (f ∷ passing questions found) (passing questions found))
        ≡ cond b (f.1 ∷ some) some
    by true some h = ap (λ l. f.1 ∷ l) h
    by false some h = h

-- ---- those that are asked for

kept_all : (repeats : Repeats) (hits : List Hit) → keeps_repeats repeats ≡ true
    → AreLeft repeats hits hits
kept_all Kept hits h = refl
kept_all (Dropped places) hits h = absurd (true≢false (sym h))
kept_all (Alone places) hits h = absurd (true≢false (sym h))

all_within : (max : Option ℕ) (xs : List Hit) → IsWithin max (length xs) → at_most max xs ≡ xs
all_within None xs within = refl
all_within (Some most) xs within = take_all most xs within

module _ (questions : Questions) (ordered : IsTrue (keeps_order questions)) where
  pub all_asked : (hits asked : List Hit)
      → asked ≡ filter (passes (map test_view questions.tests.items)) hits
      → IsWithin questions.max (length asked) → AreAsked questions hits asked
  all_asked hits asked are within =
      let keys = questions.keys.items in
      let parts = and_parts (length keys == 0) (keeps_repeats questions.repeats) ordered in
      let passed = filter (passes (map test_view questions.tests.items)) hits in
      record {
        sorted = passed;
        left = passed;
        sort = subst (λ ks. IsSortOf (hit_order (map sort_key_view ks)) passed passed)
            (sym (nothing_in keys parts.0)) (unsorted passed);
        repeats = kept_all questions.repeats passed parts.1;
        first = sym (all_within questions.max asked within) ∙ ap (at_most questions.max) are;
      }

-- ---- the elements of hits

-- what holds of all elements holds of those that are found
found_all : (P : Element → Type 0) (s : Syntax) (es : List Element) (found : Found)
    → AllByRecursion P es → AllZip (λ e f. (f.0 ≡ e) × IsHit s e.1 f.1) es found
    → AllByRecursion (λ f. P f.0 × (hit_entry f.1 ≡ f.0.1)) found
found_all P s [] [] all h = tt
found_all P s [] (f ∷ fs) all h = absurd h
found_all P s (e ∷ es) [] all h = absurd h
found_all P s (e ∷ es) (f ∷ fs) all h = (
  (subst P (sym h.0.0) all.0, h.0.1.entry ∙ ap (λ d. d.1) (sym h.0.0)),
  found_all P s es fs all.1 h.1,
)

filtered : {X : Type 0} (P : X → Type 0) (p : X → Bool) (xs : List X) → AllByRecursion P xs
    → AllByRecursion P (filter p xs)
filtered P p [] h = tt
filtered P p (x ∷ xs) h = by (p x) (filtered P p xs h.1)
  where
    by : (b : Bool) → AllByRecursion P (filter p xs)
        → AllByRecursion P (cond b (x ∷ filter p xs) (filter p xs))
    by true k = (h.0, k)
    by false k = k

-- each element of all, where it is that of its key
each_part : (es ds : List Element) → map (λ e. part_for (key_of e.1) es) ds ≡ map (λ e. Some e.0) ds
    → AllByRecursion (λ e. part_for (key_of e.1) es ≡ Some e.0) ds
each_part es [] h = tt
each_part es (d ∷ ds) h =
    let first : part_for (key_of d.1) es ≡ Some d.0 = cc in
    let rest : map (λ e. part_for (key_of e.1) es) ds ≡ map (λ e. Some e.0) ds = cc in
    (first, each_part es ds rest)

zipped : (es : List Element) (found : Found)
    → AllByRecursion (λ f. (part_for (key_of f.0.1) es ≡ Some f.0.0) × (hit_entry f.1 ≡ f.0.1)) found
    → AllZip (λ hit part. part_for (key_of (hit_entry hit)) es ≡ Some part) (hits_in found)
    (found_parts found)
zipped es [] h = tt
zipped es (f ∷ fs) h =
    (ap (λ t. part_for (key_of t) es) h.0.1 ∙ h.0.0, zipped es fs h.1)

pub parts_of_hits : (questions : Questions) (s : Syntax) (es : List Element) (found : Found)
    → map (λ e. part_for (key_of e.1) es) es ≡ map (λ e. Some e.0) es → AreFound s es found
    → AllZip (λ hit part. part_for (key_of (hit_entry hit)) es ≡ Some part)
    (hits_in (passing questions found)) (found_parts (passing questions found))
parts_of_hits questions s es found own are =
    zipped es (passing questions found)
    (filtered (λ f. (part_for (key_of f.0.1) es ≡ Some f.0.0) × (hit_entry f.1 ≡ f.0.1))
    (λ f. passes (map test_view questions.tests.items) f.1) found
    (found_all (λ e. part_for (key_of e.1) es ≡ Some e.0) s (filter (λ e. holds s e.1) es) found
    (filtered (λ e. part_for (key_of e.1) es ≡ Some e.0) (λ e. holds s e.1) es (each_part es es own))
    are))

-- ---- the answer

pub answered : (questions : Questions) (kind : StreamedKind) (s : Syntax) (es : List Element)
    (found : Found)
    → map (λ e. part_for (key_of e.1) es) es ≡ map (λ e. Some e.0) es
    → IsTrue (keeps_order questions) → AreFound s es found
    → IsWithin questions.max (length (passing questions found))
    → AnswersByElements questions (element_kind kind) s es
    (told_text Elements kind 0 (found_parts (passing questions found))
    ++ last_text Elements kind (length (passing questions found)))
    (length (passing questions found))
answered questions kind s es found own ordered are within =
    let asked = passing questions found in
    let parts = found_parts asked in
    let long : length (hits_in asked) ≡ length asked = length-map asked (λ f. f.1) in
    let parts_long : length parts ≡ length asked = length-map asked (λ f. f.0.0) in
    record {
      hits = hits_in found;
      asked = hits_in asked;
      parts = parts;
      picks = are_hits s es found are;
      asks = all_asked questions ordered (hits_in found) (hits_in asked)
          (passing_hits questions found) (subst (IsWithin questions.max) (sym long) within);
      each = parts_of_hits questions s es found own are;
      is =
          ap (λ k. told_text Elements kind 0 parts ++ last_text Elements kind k) (sym parts_long)
          ∙ all_text kind parts;
      counted = long;
    }
