-- Elements that are asked one after another.
use Rattle.std.proofs.Common.{add_assoc, ◌≡◌, ℕ, ◌+◌, ◌<◌, ◌≤◌, ◌==◌, Bool, true, false, cond, List, [], ◌∷◌, ◌++◌, Option, None, Some, length, length-append, map, refl, sym, ap, ◌∙◌, subst, append-nil, arith}
use Rattle.std.specs.Prelude.{MatchBool, filter, not}
use Rattle.std.proofs.lemmas.Bool.{or_parts}
use Rattle.std.proofs.lemmas.Bool.Decides.{nat_tests}
use Rattle.std.proofs.lemmas.List.{length-map, map-append}
use Rattle.std.proofs.lemmas.List.Elements.{filter-append}
use Rattle.std.proofs.lemmas.List.Sums.{sum_by-cons}
use Rattle.std.proofs.lemmas.Slice.Zip.{AllZip-long}
use Rattle.hayagriva.proofs.Parts.{AllZip-append}
use Rattle.hayagriva.specs.Holds.{holds}
use Rattle.hayagriva.specs.Query.{IsHit}
use Rattle.hayagriva.specs.Syntax.{Syntax}
use Rattle.hayagriva.specs.Tree.{Tree}
use Rattle.hayagriva.specs.declared.query.Hit.{Hit}
use Rattle.haya_asked.specs.Asked.{passes}
use Rattle.haya_asked.specs.declared.questions.Questions.{Questions}
use Rattle.haya_json_elements.specs.Elements.{nonempty_lines}
use Rattle.haya_json.proofs.NotesKept.{kept_together}
use Rattle.haya_json.specs.Notes.{all_kept, notes_view}
use Rattle.haya_parts.specs.Answered.{Replies, Run, parts_of as reply_parts, printed_of}
use Rattle.haya_questions.specs.Test.{test_view}
use Rattle.haya_source.specs.Elements.{Element, SayEntries, parts_of}
use Rattle.haya_source_stream.specs.Asked.{AnswersPart, AnswersTurn, AreFound, AsksElements, Found, TellsElements, TellsHit, found_parts, passing}
use Rattle.haya_source_stream.specs.Enough.{IsWithin, has_enough, is_told, reaches}
use Rattle.haya_source_stream.specs.Kinds.{element_kind}
use Rattle.haya_source_stream.specs.Parts.{PartSays, count_of, counted, part_told, parts_told}
use Rattle.haya_source_stream.specs.Printed.{told_text}
use Rattle.haya_source_stream.specs.declared.asker.SourceAsker.{SourceAsker}
use Rattle.haya_source_stream.specs.declared.asking.Asking.{Asking}
use Rattle.haya_source_stream.specs.declared.asking.Shown.{Shown}
use Rattle.haya_source_stream.specs.declared.asking.Shown.TheVariants.{Elements, Nothing, Number}
use Rattle.haya_source_stream.specs.declared.kind.StreamedKind.{StreamedKind}
use Rattle.haya_source_stream.proofs.Texts.{parts_text-append}

-- ---- what is found of elements one after another

pub passing-append : (questions : Questions) (xs ys : Found)
    → passing questions (xs ++ ys) ≡ passing questions xs ++ passing questions ys
passing-append questions xs ys =
    filter-append (λ f. passes (map test_view questions.tests.items) f.1) xs ys

found_parts-append : (xs ys : Found) → found_parts (xs ++ ys) ≡ found_parts xs ++ found_parts ys
found_parts-append xs ys = map-append (λ f. f.0.0) xs ys

found-append : (s : Syntax) (es ds : List Element) (xs ys : Found) → AreFound s es xs
    → AreFound s ds ys → AreFound s (es ++ ds) (xs ++ ys)
found-append s es ds xs ys h k =
    rw (filter-append (λ e. holds s e.1) es ds)
    (AllZip-append (λ e f. (f.0 ≡ e) × IsHit s e.1 f.1) (filter (λ e. holds s e.1) es)
    (filter (λ e. holds s e.1) ds) xs ys h k)

told_text-append : (shown : Shown) (kind : StreamedKind) (n : ℕ) (ps qs : List (List ℕ))
    → told_text shown kind n (ps ++ qs)
    ≡ told_text shown kind n ps ++ told_text shown kind (n + length ps) qs
told_text-append Elements kind n ps qs = parts_text-append kind n ps qs
told_text-append Number kind n ps qs = refl
told_text-append Nothing kind n ps qs = refl

told_none : (shown : Shown) (kind : StreamedKind) (n : ℕ) → [] ≡ told_text shown kind n []
told_none Elements kind n = refl
told_none Number kind n = refl
told_none Nothing kind n = refl

tells-append : (asking : Asking) (n m k : ℕ) (es ds : List Element) (a b : List ℕ)
    → TellsElements asking n m es a → TellsElements asking m k ds b
    → TellsElements asking n k (es ++ ds) (a ++ b)
tells-append asking n m k es ds a b h j =
    let questions = asking.questions.now in
    let here = passing questions h.found in
    let there = passing questions j.found in
    let long = length-append here there in
    let parts_long : length (found_parts here) ≡ length here = length-map here (λ f. f.0.0) in
    let first : m ≡ n + length here = h.count in
    let more : k ≡ m + length there = j.count in
    record {
      found = h.found ++ j.found;
      are = found-append asking.selector es ds h.found j.found h.are j.are;
      prints =
          ap (λ l. l ++ b) h.prints
          ∙ ap (λ l. told_text asking.shown asking.kind n (found_parts here) ++ l) j.prints
          ∙ ap (λ x. told_text asking.shown asking.kind n (found_parts here)
          ++ told_text asking.shown asking.kind x (found_parts there))
          (first ∙ ap (λ x. n + x) (sym parts_long))
          ∙ sym (told_text-append asking.shown asking.kind n (found_parts here) (found_parts there))
          ∙ ap (told_text asking.shown asking.kind n)
          (sym (found_parts-append here there)
          ∙ ap found_parts (sym (passing-append questions h.found j.found)));
      count = rw (passing-append questions h.found j.found, long) (omega arith);
    }

-- ---- no more than are wanted

filter_le : {X : Type 0} (p : X → Bool) (xs : List X) → length (filter p xs) ≤ length xs
filter_le p [] = omega arith
filter_le p (x ∷ xs) =
    let rest = filter_le p xs in
    elim (p x) as (λ c. length (cond c (x ∷ filter p xs) (filter p xs)) ≤ length (x ∷ xs))
    [ true ↦ omega arith | false ↦ omega arith ]

one_passes : (questions : Questions) (s : Syntax) (e : Element) (found : Found)
    → AreFound s (e ∷ []) found → length (passing questions found) ≤ 1
one_passes questions s e found are =
    let same = AllZip-long (λ d f. (f.0 ≡ d) × IsHit s d.1 f.1)
    (filter (λ d. holds s d.1) (e ∷ [])) found are in
    let held = filter_le (λ d. holds s d.1) (e ∷ []) in
    let passed = filter_le (λ f. passes (map test_view questions.tests.items) f.1) found in
    omega arith

within_more : (max : Option ℕ) (n k : ℕ) → reaches max n ≡ false → k ≤ 1 → IsWithin max (n + k)
within_more None n k not one = tt
within_more (Some most) n k not one =
    let less : n < most = grind (arith, nat_tests) in omega arith

-- ---- parts in turn

nonempty : (p : List ℕ) (ps : List (List ℕ)) → (length p == 0) ≡ false
    → nonempty_lines (p ∷ ps) ≡ p ∷ nonempty_lines ps
nonempty p ps h = ap (λ c. cond (not c) (p ∷ nonempty_lines ps) (nonempty_lines ps)) h

empty : (p : List ℕ) (ps : List (List ℕ)) → (length p == 0) ≡ true
    → nonempty_lines (p ∷ ps) ≡ nonempty_lines ps
empty p ps h = ap (λ c. cond (not c) (p ∷ nonempty_lines ps) (nonempty_lines ps)) h

abbrev pub is_done : SourceAsker → Bool
is_done s = has_enough s.asking s.hits

-- the elements of parts that were asked one after another
pub record Ran (s t : SourceAsker) (replies : Replies) : Type 0 where
  pub es : List Element
  pub are : parts_of es ≡ nonempty_lines (reply_parts replies)
  pub each : SayEntries (element_kind s.asking.kind) es
  pub asks : AsksElements s.asking s.hits t.hits es (printed_of replies)
  pub notes : notes_view t.notes
      ≡ all_kept (parts_told s.asking.kind (parts_of es)) (notes_view s.notes)
  pub number_is : t.number ≡ s.number + counted s.asking.kind (reply_parts replies)
  pub same : t.asking ≡ s.asking

none_ran : (s : SourceAsker) → Ran s s []
none_ran s = record {
  es = [];
  are = refl;
  each = tt;
  asks = record {
    tells = record {
      found = [];
      are = tt;
      prints = told_none s.asking.shown s.asking.kind s.hits;
      count = omega arith;
    };
    within = λ within. within;
  };
  notes = refl;
  number_is = omega arith;
  same = refl;
}

-- a part in front of others
module _ (s u t : SourceAsker) (part printed : List ℕ) (replies : Replies)
    (goes_on : is_done s ≡ false) (a : AnswersPart s part printed u) (rest : Ran u t replies) where
  rest_asks : AsksElements s.asking u.hits t.hits rest.es (printed_of replies)
  rest_asks =
      subst (λ x. AsksElements x u.hits t.hits rest.es (printed_of replies)) a.same rest.asks

  rest_notes : notes_view t.notes
      ≡ all_kept (parts_told s.asking.kind (parts_of rest.es)) (notes_view u.notes)
  rest_notes =
      rest.notes
      ∙ ap (λ x. all_kept (parts_told x.kind (parts_of rest.es)) (notes_view u.notes)) a.same

  rest_each : SayEntries (element_kind s.asking.kind) rest.es
  rest_each = subst (λ x. SayEntries (element_kind x.kind) rest.es) a.same rest.each

  numbers : t.number ≡ s.number + counted s.asking.kind (part ∷ reply_parts replies)
  numbers =
      let one = count_of s.asking.kind part in
      let others = counted s.asking.kind (reply_parts replies) in
      let here : u.number ≡ s.number + one = a.number in
      let more : t.number ≡ u.number + others =
      subst (λ x. t.number ≡ u.number + counted x.kind (reply_parts replies)) a.same rest.number_is in
      more ∙ ap (λ n. n + others) here ∙ add_assoc s.number one others
      ∙ ap (λ n. s.number + n) (sym (sum_by-cons (count_of s.asking.kind) part (reply_parts replies)))

  passed_over : (length part == 0) ≡ true
      → (printed ≡ []) × (u.hits ≡ s.hits) × (notes_view u.notes ≡ notes_view s.notes)
      → Ran s t ((part, printed) ∷ replies)
  passed_over h none = record {
    es = rest.es;
    are = rest.are ∙ sym (empty part (reply_parts replies) h);
    each = rest_each;
    asks =
        subst (λ l. AsksElements s.asking s.hits t.hits rest.es (l ++ printed_of replies)) (sym none.0)
        (subst (λ n. AsksElements s.asking n t.hits rest.es (printed_of replies)) none.1 rest_asks);
    notes = rest_notes ∙ ap (all_kept (parts_told s.asking.kind (parts_of rest.es))) none.2;
    number_is = numbers;
    same = rest.same ∙ a.same;
  }

  asked : (length part == 0) ≡ false → (entry : Tree) → PartSays s.asking.kind part entry
      → TellsElements s.asking s.hits u.hits ((part, entry) ∷ []) printed
      → notes_view u.notes ≡ all_kept (part_told s.asking.kind part) (notes_view s.notes)
      → Ran s t ((part, printed) ∷ replies)
  asked h entry says tells keeps =
      let questions = s.asking.questions.now in
      let most = or_parts (is_told s.asking.shown s.hits) (reaches questions.max s.hits) goes_on in
      record {
        es = (part, entry) ∷ rest.es;
        are = ap (λ l. part ∷ l) rest.are ∙ sym (nonempty part (reply_parts replies) h);
        each = (says, rest_each);
        asks = record {
          tells = tells-append s.asking s.hits u.hits t.hits ((part, entry) ∷ []) rest.es printed
              (printed_of replies) tells rest_asks.tells;
          within = λ within.
              rest_asks.within
              (subst (IsWithin questions.max) (sym tells.count)
              (within_more questions.max s.hits (length (passing questions tells.found)) most.1
              (one_passes questions s.asking.selector (part, entry) tells.found tells.are)));
        };
        notes =
            rest_notes ∙ ap (all_kept (parts_told s.asking.kind (parts_of rest.es))) keeps
            ∙ sym (kept_together (part_told s.asking.kind part)
            (parts_told s.asking.kind (parts_of rest.es)) (notes_view s.notes));
        number_is = numbers;
        same = rest.same ∙ a.same;
      }

  part_ran : Ran s t ((part, printed) ∷ replies)
  part_ran = by (length part == 0) refl
    where
      by : (b : Bool) → (length part == 0) ≡ b → Ran s t ((part, printed) ∷ replies)
      by true h = passed_over h (rw h at a.answered)
      by false h =
          let e = rw h at a.answered in
          asked h e.0 e.1 e.2 e.3

pub ran : (replies : Replies) (s t : SourceAsker) → Run AnswersTurn is_done s replies t
    → Ran s t replies
ran [] s t run = rw (← run) (none_ran s)
ran ((part, printed) ∷ replies) s t run =
    part_ran s run.0 t part printed replies run.1.1 run.1.2 (ran replies run.0 t run.2)

-- ---- one element

no_more : (n : ℕ) → n ≡ n + 0
no_more n = omega arith

-- a hit that is told by its element
pub hit_told : (asking : Asking) (before after : ℕ) (part : List ℕ) (entry : Tree) (hit : Hit)
    (old new : List ℕ) → holds asking.selector entry ≡ true → IsHit asking.selector entry hit
    → TellsHit asking before after part hit old new
    → (more : List ℕ) × TellsElements asking before after ((part, entry) ∷ []) more
    × (new ≡ old ++ more)
hit_told asking before after part entry hit old new held is told =
    by (passes (map test_view asking.questions.now.tests.items) hit) refl told
  where
    by : (b : Bool) → passes (map test_view asking.questions.now.tests.items) hit ≡ b
        → MatchBool b
        ((after ≡ before + 1) × (new ≡ old ++ told_text asking.shown asking.kind before (part ∷ [])))
        ((after ≡ before) × (new ≡ old))
        → (more : List ℕ) × TellsElements asking before after ((part, entry) ∷ []) more
        × (new ≡ old ++ more)
    by true h t = (
      told_text asking.shown asking.kind before (part ∷ []),
      record {
        found = ((part, entry), hit) ∷ [];
        are = rw held ((refl, is), tt);
        prints =
            ap (λ b. told_text asking.shown asking.kind before
            (found_parts (cond b (((part, entry), hit) ∷ []) []))) (sym h);
        count = t.0 ∙ ap (λ b. before + length {A = Element × Hit} (cond b (((part, entry), hit) ∷ []) [])) (sym h);
      },
      t.1,
    )
    by false h t = (
      [],
      record {
        found = ((part, entry), hit) ∷ [];
        are = rw held ((refl, is), tt);
        prints =
            told_none asking.shown asking.kind before
            ∙ ap (λ b. told_text asking.shown asking.kind before
            (found_parts (cond b (((part, entry), hit) ∷ []) []))) (sym h);
        count =
            t.0 ∙ no_more before
            ∙ ap (λ b. before + length {A = Element × Hit} (cond b (((part, entry), hit) ∷ []) [])) (sym h);
      },
      t.1 ∙ sym (append-nil old),
    )
