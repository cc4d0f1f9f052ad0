-- Hits that are counted and printed as they come.
use Rattle.std.proofs.Common.{◌≡◌, ◌⊎◌, inl, inr, IsTrue, ℕ, ◌+◌, ◌<◌, ◌≤◌, ◌==◌, Bool, true, false, ◌&&◌, ◌||◌, List, [], ◌∷◌, ◌++◌, Option, length, length-append, take, refl, sym, ap, ◌∙◌, subst, append_assoc, append-nil, arith, IsFalse, true≢false}
use Rattle.haya_command.specs.Form.{is_library}
use Rattle.std.specs.Prelude.{◌↔◌, Err, IfErr, IfOk, MatchBool, None, Ok, OnErr, OnOk, Result, Some, cond, decimal, filter, map, nat_le, nat_lt, string_bytes}
use Rattle.std.specs.List.{concat}
use Rattle.std.specs.Io.KnownBytes.{Appends, Consumes}
use Rattle.std.specs.Str.{chars}
use Rattle.std.specs.Str.Lines.{lines}
use Rattle.std.proofs.lemmas.Bool.{and_parts, or_parts}
use Rattle.std.proofs.lemmas.Bool.Decides.{nat_tests}
use Rattle.std.proofs.lemmas.List.{length-take, take-append-le, take_all}
use Rattle.std.proofs.lemmas.List.Elements.{filter-append}
use Rattle.std.proofs.lemmas.Slice.Zip.{AllZip-long}
use Rattle.hayagriva.proofs.Parts.{AllZip-append, from_entries-distinct}
use Rattle.hayagriva.specs.Library.{AreDistinct, from_entries}
use Rattle.hayagriva.specs.Holds.{holds}
use Rattle.hayagriva.specs.Query.{AreHits, IsHit}
use Rattle.hayagriva.specs.Reading.{TextReads}
use Rattle.hayagriva.specs.Syntax.{Syntax}
use Rattle.hayagriva.specs.Tree.{Tree}
use Rattle.hayagriva.specs.declared.query.Hit.{Hit}
use Rattle.haya_questions.proofs.Sorts.{unsorted}
use Rattle.haya_asked.proofs.AskedLemmas.{nothing_in}
use Rattle.haya_asked.specs.Asked.{AreAsked, AreLeft, at_most, keeps_repeats, passes}
use Rattle.haya_asked.specs.declared.columns.Columns.{Columns}
use Rattle.haya_asked.specs.declared.questions.Repeats.{Repeats}
use Rattle.haya_asked.specs.declared.questions.Repeats.TheVariants.{Alone, Dropped, Kept}
use Rattle.haya_csl.proofs.ItemLists as item_lists
use Rattle.haya_json.proofs.MemberLists as member_lists
use Rattle.haya_json.proofs.NotesKept.{none_of_first}
use Rattle.haya_json.specs.Notes.{NotesView, first_note, kept_of}
use Rattle.haya_hits.specs.Line.{AreLines, IsEscapedLineOf}
use Rattle.haya_lines.specs.Signs.{line_feed}
use Rattle.haya_entry_stream.specs.Listed as list
use Rattle.haya_entry_stream.specs.Listed.{Replies, Run, entries_of, printed_of}
use Rattle.haya_entry_stream.specs.declared.error.ListError.{ListError}
use Rattle.haya_entry_stream.specs.declared.error.ListError.TheVariants.{Entry, Line}
use Rattle.haya_printing.specs.declared.error.LinesError.{LinesError}
use Rattle.haya_questions.specs.Columns.{hit_row}
use Rattle.haya_questions.specs.Order.{hit_order}
use Rattle.haya_questions.specs.Place.{place_view}
use Rattle.haya_questions.specs.Ranked.{IsSortOf}
use Rattle.haya_questions.specs.SortText.{sort_key_view}
use Rattle.haya_questions.specs.Test.{test_view}
use Rattle.haya_line_stream.proofs.Taken.{flat_map-append}
use Rattle.haya_line_stream.specs.Streamed.{IsEndedPart}
use Rattle.haya_line_stream.specs.declared.error.StreamError.{StreamError}
use Rattle.haya_line_stream.specs.declared.error.StreamError.TheVariants as stream
use Rattle.haya_line_stream.specs.declared.error.WriteError.TheVariants as write
use Rattle.haya_command.specs.Printed.{IsJsonLineOf, IsPrintedOf, IsTextOf}
use Rattle.haya_command.specs.AskedLines.{BeginsListIn, IsErrorIn, IsListIn, asked_lines, lines_told}
use Rattle.haya_command.specs.Reading.{Describes, IsReadAs, IsWhole, format_in}
use Rattle.haya_command.specs.Answer.{IsAnswer, IsShown, IsWritten}
use Rattle.haya_command.specs.Picks.{wanted}
use Rattle.haya_command.specs.Streamable.{is_streamable}
use Rattle.haya_command.specs.Streamed.{AreCounted, AsksEntry, AsksFirst, AsksInput, AsksPart, IsStreamError, IsTold, IsToldIn, IsWithin, TellsPart, Why, end_text, has_enough, header_text, passing, reaches, start_text}
use Rattle.haya_command.specs.declared.error.CommandError.{CommandError}
use Rattle.haya_command.specs.declared.error.CommandError.TheVariants as fault
use Rattle.haya_command.specs.declared.error.LibraryError.{LibraryError}
use Rattle.haya_formats.specs.declared.format.Format.{Format}
use Rattle.haya_formats.specs.declared.format.Format.TheVariants as format
use Rattle.haya_command.specs.declared.form.Form.{Form}
use Rattle.haya_command.specs.declared.form.Form.TheVariants.{Hayagriva, JsonLines, Keys, Lines, Yaml}
use Rattle.haya_command.specs.declared.options.Options.{Options}

-- what holds of a value by facts on it
pub if_ok_both : {T E : Type 0} (r : Result T E) (A B P : T → Type 0) (C : Type 0) → IfOk r A → IfOk r B → OnOk r C → ((v : T) → A v → B v → C → P v) → IfOk r P
if_ok_both (Ok v) A B P C a b c all = all v a b c
if_ok_both (Err e) A B P C a b c all = tt

pub if_err_weaker : {T E : Type 0} (r : Result T E) (A P : E → Type 0) → IfErr r A → ((e : E) → A e → P e) → IfErr r P
if_err_weaker (Ok v) A P a all = tt
if_err_weaker (Err e) A P a all = all e a

pub on_err : {T E P : Type 0} (r : Result T E) → P → OnErr r P
on_err (Ok x) p = tt
on_err (Err e) p = p

pub appends_none : (known : Option (List ℕ)) → Appends known known []
appends_none None = tt
appends_none (Some bytes) = sym (append-nil bytes)

concat-append : (xs ys : List (List ℕ)) → concat (xs ++ ys) ≡ concat xs ++ concat ys
concat-append [] ys = refl
concat-append (x ∷ xs) ys = ap (λ l. x ++ l) (concat-append xs ys) ∙ sym (append_assoc x (concat xs) (concat ys))

AreLines-append : {A : Type 0} (R : A → List ℕ → Type 0) (xs ys : List A) (a b : List ℕ) → AreLines R xs a → AreLines R ys b → AreLines R (xs ++ ys) (a ++ b)
AreLines-append R xs ys a b h k = record {
  lines = h.lines ++ k.lines;
  each = AllZip-append R xs ys h.lines k.lines h.each k.each;
  text = rw (h.text, k.text) (sym (concat-append h.lines k.lines));
}

IsTextOf-nil : (strict : Bool) (to : Form) → IsFalse (is_library to) → IsTextOf strict to [] []
IsTextOf-nil strict Keys not = record { lines = []; each = tt; text = refl }
IsTextOf-nil strict Lines not = record { lines = []; each = tt; text = refl }
IsTextOf-nil strict Hayagriva not = absurd (true≢false not)
IsTextOf-nil strict Yaml not = absurd (true≢false not)
IsTextOf-nil strict JsonLines not = record { lines = []; each = tt; text = refl }

IsTextOf-append : (strict : Bool) (to : Form) → IsFalse (is_library to) → (xs ys : List Hit) (a b : List ℕ) → IsTextOf strict to xs a → IsTextOf strict to ys b → IsTextOf strict to (xs ++ ys) (a ++ b)
IsTextOf-append strict Keys not xs ys a b h k = AreLines-append IsEscapedLineOf xs ys a b h k
IsTextOf-append strict Lines not xs ys a b h k = AreLines-append (IsPrintedOf strict) xs ys a b h k
IsTextOf-append strict Hayagriva not xs ys a b h k = absurd (true≢false not)
IsTextOf-append strict Yaml not xs ys a b h k = absurd (true≢false not)
IsTextOf-append strict JsonLines not xs ys a b h k = AreLines-append IsJsonLineOf xs ys a b h k

-- the hits in the form, or their rows
told_in-nil : (options : Options) (columns : Option Columns) → IsFalse (is_library options.to) → IsToldIn options columns [] []
told_in-nil options None not = IsTextOf-nil options.strict options.to not
told_in-nil options (Some columns) not = refl

told_in-append : (options : Options) (columns : Option Columns) → IsFalse (is_library options.to) → (xs ys : List Hit) (a b : List ℕ) → IsToldIn options columns xs a → IsToldIn options columns ys b
    → IsToldIn options columns (xs ++ ys) (a ++ b)
told_in-append options None not xs ys a b h k = IsTextOf-append options.strict options.to not xs ys a b h k
told_in-append options (Some columns) not xs ys a b h k = rw (h, k) (sym (flat_map-append (hit_row columns.table (map place_view columns.places.items)) xs ys))

abbrev Shows : Bool → Bool → (List Hit → List ℕ → Type 0) → List Hit → List ℕ → Type 0
Shows quiet count Told hits text = MatchBool quiet (text ≡ []) (MatchBool count (text ≡ []) (Told hits text))

shows-nil : (quiet count : Bool) (Told : List Hit → List ℕ → Type 0) → Told [] [] → Shows quiet count Told [] []
shows-nil true count Told none = refl
shows-nil false true Told none = refl
shows-nil false false Told none = none

shows-append : (quiet count : Bool) (Told : List Hit → List ℕ → Type 0) (xs ys : List Hit) (a b : List ℕ) → (Told xs a → Told ys b → Told (xs ++ ys) (a ++ b)) → Shows quiet count Told xs a
    → Shows quiet count Told ys b → Shows quiet count Told (xs ++ ys) (a ++ b)
shows-append true count Told xs ys a b both h k = rw (h, k) refl
shows-append false true Told xs ys a b both h k = rw (h, k) refl
shows-append false false Told xs ys a b both h k = both h k

AreHits-append : (s : Syntax) (xs ys : List Tree) (a b : List Hit) → AreHits s xs a → AreHits s ys b → AreHits s (xs ++ ys) (a ++ b)
AreHits-append s xs ys a b h k = rw (filter-append (holds s) xs ys) (AllZip-append (IsHit s) (filter (holds s) xs) (filter (holds s) ys) a b h k)

pub nothing_told : (options : Options) → IsFalse (is_library options.to) → IsTold options [] []
nothing_told options not = shows-nil options.quiet options.count (IsToldIn options options.columns) (told_in-nil options options.columns not)

told-append : (options : Options) → IsFalse (is_library options.to) → (xs ys : List Hit) (a b : List ℕ) → IsTold options xs a → IsTold options ys b → IsTold options (xs ++ ys) (a ++ b)
told-append options not xs ys a b h k =
    shows-append options.quiet options.count (IsToldIn options options.columns) xs ys a b (told_in-append options options.columns not xs ys a b) h k

pub on_ok_both : {T E P Q C : Type 0} (r : Result T E) → (P → Q → C) → OnOk r P → OnOk r Q → OnOk r C
on_ok_both (Ok x) all p q = all p q
on_ok_both (Err e) all p q = tt

-- ---- one entry
pub asked_hit : (options now : Options) (selector next : Syntax) (before after : ℕ) (entry : Tree) (hit : Hit) (printed : List ℕ) → holds selector entry ≡ true → IsHit selector entry hit
    → IsTold options (passing options (hit ∷ [])) printed → after ≡ before + length (passing options (hit ∷ [])) → now ≡ options → next ≡ selector
    → AsksEntry options selector before entry printed now next after
asked_hit options now selector next before after entry hit printed held is told count same_options same_selector =
    record { hits = hit ∷ []; are = rw held (is, tt); told = told; count = count; same_options = same_options; same_selector = same_selector }

pub asked_none : (options : Options) (selector : Syntax) (before : ℕ) (entry : Tree) → IsFalse (is_library options.to) → holds selector entry ≡ false → AsksEntry options selector before entry [] options selector before
asked_none options selector before entry not held =
    record { hits = []; are = rw held tt; told = nothing_told options not; count = omega arith; same_options = refl; same_selector = refl }

-- a hit that fails a test
pub untold : (options : Options) (hit : Hit) (b : Bool) → IsFalse (is_library options.to) → b ≡ false → IsTold options (cond b (hit ∷ []) []) []
untold options hit b not fails = rw fails (nothing_told options not)

-- ---- hits that pass the tests
pub passing-append : (options : Options) (xs ys : List Hit) → passing options (xs ++ ys) ≡ passing options xs ++ passing options ys
passing-append options xs ys = filter-append (passes (map test_view options.questions.tests.items)) xs ys

filter_le : {X : Type 0} (p : X → Bool) (xs : List X) → length (filter p xs) ≤ length xs
filter_le p [] = omega arith
filter_le p (x ∷ xs) =
    let rest = filter_le p xs in
    elim (p x) as (λ c. length (cond c (x ∷ filter p xs) (filter p xs)) ≤ length (x ∷ xs)) [ true ↦ omega arith | false ↦ omega arith ]

-- an entry is one hit at most
one_passes : (options : Options) (s : Syntax) (x : Tree) (hits : List Hit) → AreHits s (x ∷ []) hits → length (passing options hits) ≤ 1
one_passes options s x hits are =
    let same = AllZip-long (IsHit s) (filter (holds s) (x ∷ [])) hits are in
    let held = filter_le (holds s) (x ∷ []) in
    let passed = filter_le (passes (map test_view options.questions.tests.items)) hits in
    omega arith

-- where more are wanted, one more isn't too many
within_more : (max : Option ℕ) (n k : ℕ) → reaches max n ≡ false → k ≤ 1 → IsWithin max (n + k)
within_more None n k not one = tt
within_more (Some most) n k not one = let less : n < most = grind (arith, nat_tests) in omega arith

module _ {S : Type 0} (options : S → Options) (selector : S → Syntax) (hits : S → ℕ) where
  abbrev pub done : S → Bool
  done s = has_enough (options s) (hits s)

  abbrev pub Asks : S → Tree → List ℕ → S → Type 0
  Asks s entry printed t = AsksEntry (options s) (selector s) (hits s) entry printed (options t) (selector t) (hits t)

  -- the hits of entries that were asked one after another
  pub record Counted (s t : S) (replies : Replies) : Type 0 where
    pub are : AreCounted (options s) (selector s) (hits s) (hits t) (entries_of replies) (printed_of replies)
    pub same_options : options t ≡ options s
    pub same_selector : selector t ≡ selector s

  pub counted : (replies : Replies) (s t : S) → IsFalse (is_library (options s).to) → Run Asks done s replies t → Counted s t replies
  counted [] s t not run =
      rw (← run)
      (record {
        are = record { hits = []; are = tt; told = nothing_told (options s) not; count = omega arith; within = λ within. within };
        same_options = refl;
        same_selector = refl;
      })
  counted ((entry, printed) ∷ replies) s t not run =
      let u = run.0 in
      let one = run.1.1 in
      let c = counted replies u t (rw one.same_options not) run.2 in
      let rest : AreCounted (options s) (selector s) (hits u) (hits t) (entries_of replies) (printed_of replies) = rw (one.same_options, one.same_selector) at c.are in
      let max = (options s).questions.max in
      let n : hits u ≡ hits s + length (passing (options s) one.hits) = one.count in
      let m : hits t ≡ hits u + length (passing (options s) rest.hits) = rest.count in
      let most = or_parts ((options s).quiet && nat_lt 0 (hits s)) (reaches max (hits s)) run.1.0 in
      record {
        are = record {
          hits = one.hits ++ rest.hits;
          are = AreHits-append (selector s) (entry ∷ []) (entries_of replies) one.hits rest.hits one.are rest.are;
          told =
              rw (passing-append (options s) one.hits rest.hits)
              (told-append (options s) not (passing (options s) one.hits) (passing (options s) rest.hits) printed (printed_of replies) one.told rest.told);
          count = rw (passing-append (options s) one.hits rest.hits, length-append (passing (options s) one.hits) (passing (options s) rest.hits)) (omega arith);
          within = λ within.
              rest.within
              (subst (IsWithin max) (sym n)
              (within_more max (hits s) (length (passing (options s) one.hits)) most.1 (one_passes (options s) (selector s) entry one.hits one.are)));
        };
        same_options = c.same_options ∙ one.same_options;
        same_selector = c.same_selector ∙ one.same_selector;
      }

  pub options_kept : (s t : S) (replies : Replies) → IsFalse (is_library (options s).to) → Run Asks done s replies t → options t ≡ options s
  options_kept s t replies not run = (counted replies s t not run).same_options

  pub selector_kept : (s t : S) (replies : Replies) → IsFalse (is_library (options s).to) → Run Asks done s replies t → selector t ≡ selector s
  selector_kept s t replies not run = (counted replies s t not run).same_selector

  module _ (s t : S) (not : IsFalse (is_library (options s).to)) (unread left before after : Option (List ℕ)) where
    pub asks_input : (format : Format) (kept : NotesView) (IsList : List ℕ → List Tree → Type 0)
        → ((text : List ℕ) (entries : List Tree) → IsList text entries → IsListIn format text entries × (kept ≡ kept_of (lines_told format (lines (asked_lines format text)))))
        → (IsTrue (options s).strict → first_note kept ≡ None)
        → list.AnswersList IsList Asks done s t unread left before after
        → AsksInput format (options s) (selector s) (hits s) (hits t) kept unread left before after
    asks_input format kept IsList is_list accepted a =
        let l = is_list a.text (entries_of a.replies) a.list in
        let told = lines_told format (lines (asked_lines format a.text)) in
        record {
          text = a.text;
          entries = entries_of a.replies;
          printed = printed_of a.replies;
          read = a.read;
          at_end = a.at_end;
          list = l.0;
          notes = l.1;
          accepted = λ strict. none_of_first told (ap first_note (sym l.1) ∙ accepted strict);
          counted = (counted a.replies s t not a.run).are;
          prints = a.prints;
        }

    pub asks_enough : (format : Format) (Begins : Option (List ℕ) → List ℕ → List Tree → Type 0) → ((text : List ℕ) (entries : List Tree) → Begins left text entries → BeginsListIn format left text entries)
        → list.AnswersEnough Begins Asks done s t unread left before after
        → AsksFirst format (options s) (selector s) (hits s) (hits t) unread left before after
    asks_enough format Begins begins a =
        let c = counted a.replies s t not a.run in
        record {
          text = a.text;
          part = a.part;
          entries = entries_of a.replies;
          printed = printed_of a.replies;
          read = a.read;
          of_text = a.of_text;
          list = begins a.part (entries_of a.replies) a.list;
          counted = c.are;
          enough = rw c.same_options at a.enough;
          prints = a.prints;
        }

    -- the entries that were answered are asked, where it stops for this reason
    pub asks_part : (format : Format) (name : List ℕ) (kept : NotesView) (e : CommandError) (text part : List ℕ) (replies : Replies) (written unwritten : List ℕ) → Consumes unread left text
        → IsEndedPart left text part → BeginsListIn format left part (entries_of replies) → Run Asks done s replies t → printed_of replies ≡ written ++ unwritten
        → Why (options s) format name part unwritten e → TellsPart format part (entries_of replies) kept e → Appends before after written
        → AsksPart format name (options s) (selector s) (hits s) kept unread left before after e
    asks_part format name kept e text part replies written unwritten read of_text begins run parts why tells prints = record {
      text = text;
      part = part;
      entries = entries_of replies;
      after = hits t;
      written = written;
      unwritten = unwritten;
      read = read;
      of_text = of_text;
      list = begins;
      counted = subst (AreCounted (options s) (selector s) (hits s) (hits t) (entries_of replies)) parts (counted replies s t not run).are;
      why = why;
      tells = tells;
      prints = prints;
    }

-- ---- faults

module _ {L : Type 0} (options : Options) (format : Format) (name : List ℕ) (IsFault : List ℕ → L → Type 0) (IsRefusal : LinesError → Type 0) (converts : L → LibraryError → Type 0)
    (is_error : (text : List ℕ) (l : L) (e : LibraryError) → converts l e → IsFault text l → IsErrorIn format text e) where
  -- what the fault of a stream says of the text, the fault of its input does
  pub stream_why : (text unwritten : List ℕ) (sf : StreamError (ListError L LinesError)) (e : CommandError) → (e ≡ fault.OutOfMemory) ⊎ IsStreamError converts name sf e
      → list.Why IsFault IsRefusal text unwritten sf → Why options format name text unwritten e
  stream_why text unwritten sf e (inl memory) why = rw memory tt
  stream_why text unwritten (stream.CannotRead error) e (inr h) why = rw h.2 (h.1, h.3, why)
  stream_why text unwritten stream.NotText e (inr h) why = rw h.2 (h.1, why.0, why.1)
  stream_why text unwritten (stream.Refused (Line l)) e (inr h) why = rw h.4 (h.2, is_error text l h.1 h.3 why.0, why.1)
  stream_why text unwritten (stream.Refused (Entry x)) e (inr h) why = rw h why.1
  stream_why text unwritten (stream.CannotWrite write.Closed) e (inr h) why = rw h tt
  stream_why text unwritten (stream.CannotWrite write.CannotWrite) e (inr h) why = rw h tt
  stream_why text unwritten stream.OutOfMemory e (inr h) why = rw h tt

-- ---- laws
-- what is printed of hits as they come, between what is in front of them and their number, shows them
written_in : (options : Options) (columns : Option Columns) (hits : List Hit) (printed : List ℕ) → IsToldIn options columns hits printed → IsWritten options columns hits ((header_text columns ++ printed) ++ [])
written_in options None hits printed told = rw (append-nil printed) told
written_in options (Some columns) hits printed told = append-nil (header_text (Some columns) ++ printed) ∙ ap (λ rest. header_text (Some columns) ++ rest) told

shown : (quiet count : Bool) (columns : Option Columns) (options : Options) (hits : List Hit) (printed : List ℕ) → Shows quiet count (IsToldIn options columns) hits printed
    → let text = (cond quiet [] (cond count [] (header_text columns)) ++ printed) ++ cond quiet [] (cond count (decimal (length hits) ++ line_feed ∷ []) []) in
    MatchBool quiet (text ≡ []) (MatchBool count (text ≡ decimal (length hits) ++ line_feed ∷ []) (IsWritten options columns hits text))
shown true count columns options hits printed told = rw told refl
shown false true columns options hits printed told = rw told refl
shown false false columns options hits printed told = written_in options columns hits printed told

abbrev pub streamed_text : Options → List ℕ → ℕ → List ℕ
streamed_text options printed n = start_text options ++ printed ++ end_text options n

told_shown : (options : Options) (hits : List Hit) (printed : List ℕ) → IsTold options hits printed → IsShown options hits (streamed_text options printed (length hits))
told_shown options hits printed told = shown options.quiet options.count options.columns options hits printed told

kept_all : (repeats : Repeats) (hits : List Hit) → keeps_repeats repeats ≡ true → AreLeft repeats hits hits
kept_all Kept hits h = refl
kept_all (Dropped places) hits h = absurd (let clash : false ≡ true = h in cc)
kept_all (Alone places) hits h = absurd (let clash : false ≡ true = h in cc)

-- of hits that are neither sorted nor told from others those are asked for that pass, the first of them
streamable_asked : (options : Options) (hits : List Hit) → IsTrue (is_streamable options) → AreAsked options.questions hits (at_most options.questions.max (passing options hits))
streamable_asked options hits streamable =
    let keys = options.questions.keys.items in
    let parts = and_parts (length keys == 0) (keeps_repeats options.questions.repeats) streamable in
    record {
      sorted = passing options hits;
      left = passing options hits;
      sort = subst (λ ks. IsSortOf (hit_order (map sort_key_view ks)) (passing options hits) (passing options hits)) (sym (nothing_in keys parts.0)) (unsorted (passing options hits));
      repeats = kept_all options.questions.repeats (passing options hits) parts.1;
      first = refl;
    }

-- so many are all
all_within : (max : Option ℕ) (xs : List Hit) → IsWithin max (length xs) → at_most max xs ≡ xs
all_within None xs within = refl
all_within (Some most) xs within = take_all most xs within

-- where enough hits are among the first, they are all that are asked for, but in a quiet run, which finds one either way
module _ (quiet : Bool) (xs ys : List Hit) where
  abbrev Enough : Option ℕ → Type 0
  Enough max = ((at_most max (xs ++ ys) ≡ xs) ⊎ (quiet ≡ true)) × ((0 < length xs) ↔ (0 < length (at_most max (xs ++ ys))))

  none_wanted : (b : Bool) → (b || false) ≡ true → b ≡ true
  none_wanted true h = refl
  none_wanted false h = absurd (let clash : false ≡ true = h in cc)

  found_one : (quiet && nat_lt 0 (length xs)) ≡ true → (quiet ≡ true) × (0 < length xs)
  found_one h = let both = and_parts quiet (nat_lt 0 (length xs)) h in (both.0, grind (arith, nat_tests))

  enough_asked : (max : Option ℕ) → IsWithin max (length xs) → IsTrue ((quiet && nat_lt 0 (length xs)) || reaches max (length xs)) → Enough max
  enough_asked None within enough =
      let one = found_one (none_wanted (quiet && nat_lt 0 (length xs)) enough) in
      let some = one.1 in
      let long = length-append xs ys in
      (inr one.0, ((λ h. omega arith), (λ h. some)))
  enough_asked (Some most) within enough = by (nat_le most (length xs)) refl
    where
      by : (b : Bool) → nat_le most (length xs) ≡ b → Enough (Some most)
      by true all =
          let reached : most ≤ length xs = grind (arith, nat_tests) in
          let same : most ≡ length xs = omega arith in
          let first : take most (xs ++ ys) ≡ xs = take-append-le most xs ys reached ∙ take_all most xs within in
          (inl first, rw first ((λ h. h), (λ h. h)))
      by false less =
          let one = found_one (none_wanted (quiet && nat_lt 0 (length xs)) (rw less at enough)) in
          let some = one.1 in
          let long = length-append xs ys in
          let first = length-take most (xs ++ ys) in
          (inr one.0, ((λ h. omega arith), (λ h. some)))

-- the same is shown of other hits, where these are the same or the run is quiet
same_shown : (options : Options) (xs zs : List Hit) (text : List ℕ) → (zs ≡ xs) ⊎ (options.quiet ≡ true) → IsShown options xs text → IsShown options zs text
same_shown options xs zs text (inl same) shows = rw same shows
same_shown options xs zs text (inr quiet) shows = rw quiet (rw quiet at shows)

iff_trans : {A B C : Type 0} → (A ↔ B) → (B ↔ C) → A ↔ C
iff_trans h k = ((λ a. k.0 (h.0 a)), (λ c. h.1 (k.1 c)))

module _ (options : Options) (s : Syntax) (streamable : IsTrue (is_streamable options)) (reads : TextReads (chars (string_bytes options.selector)) s) where
  abbrev Asked : List Hit → List Hit
  Asked hits = at_most options.questions.max (passing options hits)

  answers_as : (entries : List Tree) (hits : List Hit) (text : List ℕ) (found : Bool) → AreHits (wanted options.invert s) entries hits → IsShown options (Asked hits) text → (IsTrue found ↔ (0 < length (Asked hits)))
      → IsAnswer options entries text found
  answers_as entries hits text found are shows some = record {
    selector = s;
    hits = hits;
    asked = Asked hits;
    reads = reads;
    picks = are;
    asks = streamable_asked options hits streamable;
    shows = shows;
    found_one = some;
  }

  -- all entries are asked
  pub all_answered : (entries : List Tree) (hits : List Hit) (printed : List ℕ) (found : Bool) → AreHits (wanted options.invert s) entries hits → IsWithin options.questions.max (length (passing options hits))
      → IsTold options (passing options hits) printed → (IsTrue found ↔ (0 < length (passing options hits))) → IsAnswer options entries (streamed_text options printed (length (passing options hits))) found
  all_answered entries hits printed found are within told some =
      let all = all_within options.questions.max (passing options hits) within in
      answers_as entries hits (streamed_text options printed (length (passing options hits))) found are (rw all (told_shown options (passing options hits) printed told)) (rw all some)

  -- the first entries are, whose hits are enough
  pub first_answered : (entries : List Tree) (hits others : List Hit) (printed : List ℕ) (found : Bool) → AreHits (wanted options.invert s) entries (hits ++ others)
      → IsWithin options.questions.max (length (passing options hits)) → IsTrue (has_enough options (length (passing options hits))) → IsTold options (passing options hits) printed
      → (IsTrue found ↔ (0 < length (passing options hits))) → IsAnswer options entries (streamed_text options printed (length (passing options hits))) found
  first_answered entries hits others printed found are within enough told some =
      let e = enough_asked options.quiet (passing options hits) (passing options others) options.questions.max within enough in
      answers_as entries (hits ++ others) (streamed_text options printed (length (passing options hits))) found are
      (rw (passing-append options hits others)
      (same_shown options (passing options hits) (at_most options.questions.max (passing options hits ++ passing options others)) (streamed_text options printed (length (passing options hits))) e.0
      (told_shown options (passing options hits) printed told)))
      (rw (passing-append options hits others) (iff_trans some e.1))

-- where no key comes again, the entries that a text lists are its library
pub list_read : (options : Options) (text : List ℕ) (entries : List Tree) → (IsTrue options.strict → IsWhole (format_in options text) text) → IsListIn (format_in options text) text entries
    → AreDistinct entries → IsReadAs options text entries
list_read options text entries whole listed distinct = record { describes = by (format_in options text) listed; whole = whole }
  where
    of_list : entries ≡ from_entries entries
    of_list = sym (from_entries-distinct entries distinct)

    by : (f : Format) → IsListIn f text entries → Describes f text entries
    by format.Yaml listed = absurd listed
    by format.Bibtex listed = absurd listed
    by format.Lines listed = record { entries = entries; rows = listed; of_entries = of_list }
    by format.JsonLines listed = record { entries = entries; listed = listed; of_entries = of_list }
    by format.Hayagriva listed = member_lists.library_of_list text entries listed distinct
    by (format.CslJson key) listed = item_lists.library_of_list key text entries listed distinct
