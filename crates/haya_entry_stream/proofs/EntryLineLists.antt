-- The entries of a text of which each line says one, turn by turn.
use Rattle.std.proofs.Common.{◌≡◌, ◌==◌, ℕ, ◌+◌, Bool, true, false, cond, List, [], ◌∷◌, ◌++◌, Option, None, Some, MatchBool, length, length-append, refl, sym, ap, ◌∙◌, append-nil, arith}
use Rattle.std.specs.Str.Lines.{lines}
use Rattle.std.proofs.lemmas.List.{map-append}
use Rattle.hayagriva.specs.Tree.{Tree}
use Rattle.haya_json_elements.specs.Elements.{nonempty_lines}
use Rattle.haya_json_elements.proofs.NonemptyLines.{nonempty_lines-append}
use Rattle.haya_line_stream.proofs.Taken.{folds_on}
use Rattle.haya_line_stream.specs.Answered as stream
use Rattle.haya_line_stream.specs.Streamed as streamed
use Rattle.haya_line_stream.specs.Turns.{turns_in}
use Rattle.haya_line_stream.specs.declared.error.StreamError.{StreamError}
use Rattle.haya_line_stream.specs.declared.error.StreamError.TheVariants.{CannotRead, CannotWrite, NotText, OutOfMemory, Refused}
use Rattle.haya_entry_stream.specs.Listed.{AnswersEnough, AnswersList, AnswersPart}
use Rattle.haya_entry_stream.specs.EntryLines.{AnswersTurn, IsFaultOf, LeavesNext, LeavesReader, ReadsFirst, ReadsLines, RefusesTurn}
use Rattle.haya_entry_stream.specs.declared.error.EntryError.{EntryError}
use Rattle.haya_entry_stream.specs.declared.error.EntryError.TheVariants as fault
use Rattle.haya_entry_stream.specs.declared.error.ListError.{ListError}
use Rattle.haya_entry_stream.specs.declared.error.ListError.TheVariants.{Entry, Line}
use Rattle.haya_entry_stream.proofs.Inputs.{list_all, list_enough, list_part}
use Rattle.haya_entry_stream.proofs.Lists.{Replied, no_reply, one_reply}

nonempty_lines_one : (line : List ℕ) (empty : Bool) → (length line == 0) ≡ empty → nonempty_lines (line ∷ []) ≡ cond empty [] (line ∷ [])
nonempty_lines_one line true is = rw is refl
nonempty_lines_one line false is = rw is refl

module _ {R : Type 0} (says : R → List ℕ → Tree → R → Type 0) (before : List (List ℕ)) (given : List Tree) (r0 r : R) (so_far : ReadsLines says before given r0 r) (line : List ℕ) where
  reads_none : (length line == 0) ≡ true → ReadsLines says (before ++ line ∷ []) (given ++ []) r0 r
  reads_none empty = record {
    parts = so_far.parts;
    of_lines = so_far.of_lines ∙ sym (nonempty_lines-append before (line ∷ []) ∙ ap (λ l. nonempty_lines before ++ l) (nonempty_lines_one line true empty) ∙ append-nil (nonempty_lines before));
    of_entries = so_far.of_entries ∙ sym (append-nil given);
    run = so_far.run;
  }

  -- one line more
  pub reads_one : (length line == 0) ≡ false → (entry : Tree) (q : R) → says r line entry q → ReadsLines says (before ++ line ∷ []) (given ++ entry ∷ []) r0 q
  reads_one some entry q read = record {
    parts = so_far.parts ++ (line, entry) ∷ [];
    of_lines =
        map-append (λ p. p.0) so_far.parts ((line, entry) ∷ []) ∙ ap (λ l. l ++ line ∷ []) so_far.of_lines
        ∙ sym (nonempty_lines-append before (line ∷ []) ∙ ap (λ l. nonempty_lines before ++ l) (nonempty_lines_one line false some));
    of_entries = map-append (λ p. p.1) so_far.parts ((line, entry) ∷ []) ∙ ap (λ l. l ++ entry ∷ []) so_far.of_entries;
    run = folds_on (λ p part next. says p part.0 part.1 next) r0 so_far.parts r ((line, entry) ∷ []) q so_far.run (q, read, refl);
  }

module _ {S A R : Type 0} (number : S → ℕ) (reader : S → R) (state : S → A) (says : R → List ℕ → Tree → R → Type 0) (answers : A → Tree → List ℕ → A → Type 0) (is_done : A → Bool) (r0 : R) where
  -- what a turn prints, and leaves
  abbrev pub Turn : S → Option (List ℕ) → List ℕ → S → Type 0
  Turn s turn printed t = AnswersTurn says answers (number s) (reader s) (state s) turn printed (number t) (reader t) (state t)

  -- lines are taken, from which the entries that were given are read
  record Taken (before : List (List ℕ)) (given : List Tree) (s : S) : Type 0 where
    reads : ReadsLines says before given r0 (reader s)
    count : number s ≡ length before

  none_taken : (s : S) → number s ≡ 0 → r0 ≡ reader s → Taken [] [] s
  none_taken s zero same = record { reads = record { parts = []; of_lines = refl; of_entries = refl; run = same }; count = zero }

  abbrev Whole : List (List ℕ) → List Tree → S → Type 0
  Whole ls given t = ReadsLines says ls given r0 (reader t)

  at_line : (before : List (List ℕ)) (given : List Tree) (s t : S) (line printed : List ℕ) → is_done (state s) ≡ false → Taken before given s → Turn s (Some line) printed t
      → Replied answers is_done (state s) (state t) printed (λ closed. Taken (before ++ line ∷ []) (given ++ closed) t)
  at_line before given s t line printed more taken turn = by (length line == 0) refl turn.1
    where
      one_more : number t ≡ length (before ++ line ∷ [])
      one_more = rw (length-append before (line ∷ [])) (let one = turn.0 in let n = taken.count in omega arith)

      by : (empty : Bool) → (length line == 0) ≡ empty
          → MatchBool empty ((printed ≡ []) × (reader t ≡ reader s) × (state t ≡ state s)) ((entry : Tree) × says (reader s) line entry (reader t) × answers (state s) entry printed (state t))
          → Replied answers is_done (state s) (state t) printed (λ closed. Taken (before ++ line ∷ []) (given ++ closed) t)
      by true empty same =
          no_reply answers is_done (state s) (state t) printed (λ closed. Taken (before ++ line ∷ []) (given ++ closed) t) same.0 same.2
          (record { reads = rw same.1 (reads_none says before given r0 (reader s) taken.reads line empty); count = one_more })
      by false some answer =
          one_reply answers is_done (state s) (state t) answer.0 printed (λ closed. Taken (before ++ line ∷ []) (given ++ closed) t) more answer.2
          (record { reads = reads_one says before given r0 (reader s) taken.reads line some answer.0 (reader t) answer.1; count = one_more })

  at_end : (before : List (List ℕ)) (given : List Tree) (s t : S) (printed : List ℕ) → is_done (state s) ≡ false → Taken before given s → Turn s None printed t
      → Replied answers is_done (state s) (state t) printed (λ closed. Whole before (given ++ closed) t)
  at_end before given s t printed more taken turn =
      no_reply answers is_done (state s) (state t) printed (λ closed. Whole before (given ++ closed) t) turn.0 turn.2
      (rw (turn.1, append-nil given) taken.reads)

  begins : (text : List ℕ) (first more : List (List ℕ)) (given : List Tree) (t : S) → lines text ≡ first ++ more → Taken first given t → ReadsFirst says text given r0 (reader t)
  begins text first more given t parts taken = record { first = first; more = more; parts = parts; reads = taken.reads }

  ends : (text : List ℕ) (given : List Tree) (t : S) → Whole (lines text) given t → ReadsFirst says text given r0 (reader t)
  ends text given t whole = record { first = lines text; more = []; parts = sym (append-nil (lines text)); reads = whole }

  abbrev Asks : S → Option (List ℕ) → List ℕ → S → Type 0
  Asks = stream.Asked (λ s. is_done (state s)) Turn

  module _ (s : S) (zero : number s ≡ 0) (same : r0 ≡ reader s) where
    module _ (t : S) (unread left before after : Option (List ℕ)) where
      pub entries_all : streamed.AnswersAll Asks s t unread left before after
          → AnswersList (λ text given. ReadsLines says (lines text) given r0 (reader t)) answers is_done (state s) (state t) unread left before after
      entries_all =
          list_all state answers is_done Turn Taken Whole at_line at_end s (none_taken s zero same) t unread left before after
          (λ text given. ReadsLines says (lines text) given r0 (reader t)) (λ text given whole. whole)

      pub entries_enough : streamed.AnswersEnough Asks (λ u. is_done (state u)) s t unread left before after
          → AnswersEnough (λ _ text given. ReadsFirst says text given r0 (reader t)) answers is_done (state s) (state t) unread left before after
      entries_enough =
          list_enough state answers is_done Turn Taken Whole at_line at_end s (none_taken s zero same) t unread left before after
          (λ _ text given. ReadsFirst says text given r0 (reader t)) (λ text first more given. begins text first more given t) (λ text given at_end. ends text given t)

    module _ {L E : Type 0} (refuses_line : R → List ℕ → L → Type 0) (leaves : R → List ℕ → L → R → Type 0) (refuses : A → Tree → E → Type 0) (v : S) where
      abbrev Refuses : S → Option (List ℕ) → ListError (EntryError L) E → S → Type 0
      Refuses u turn e w = RefusesTurn says refuses_line leaves refuses (number u + 1) (reader u) (state u) turn e (reader w) (state w)

      line_fault : (text : List ℕ) (first : List (List ℕ)) (line : List ℕ) (more : List (List ℕ)) (given : List Tree) (t : S) (e : EntryError L) → lines text ≡ first ++ line ∷ more
          → Taken first given t → Refuses t (Some line) (Line e) v → IsFaultOf says refuses_line r0 text e
      line_fault text first line more given t fault.TooMany parts taken why =
          rw (parts, length-append first (line ∷ more)) (let count = taken.count in let at = why.0 in omega arith)
      line_fault text first line more given t (fault.Line at e) parts taken why = record {
        first = first;
        line = line;
        more = more;
        entries = given;
        after = reader t;
        parts = parts;
        reads = taken.reads;
        count = why.0.count ∙ ap (λ n. n + 1) taken.count;
        some = why.0.some;
        why = why.0.why;
      }

      end_fault : (text : List ℕ) (t : S) (e : EntryError L) → Refuses t None (Line e) v → IsFaultOf says refuses_line r0 text e
      end_fault text t e why = absurd why.0

      entry_refused : (turn : Option (List ℕ)) (t : S) (e : E) → Refuses t turn (Entry e) v → (entry : Tree) × refuses (state t) entry e
      entry_refused None t e why = absurd why
      entry_refused (Some line) t e why = (why.1, why.3)

      -- how the reader is left in front of the lines whose turns come later
      next_left : (more : List (List ℕ)) (t : S) (unwritten : List ℕ) (fault : StreamError (ListError (EntryError L) E)) → streamed.Why Refuses t (turns_in more) unwritten v fault
          → LeavesNext says leaves (reader t) more (reader v) fault
      next_left more t unwritten (CannotRead e) why = ap reader why.2
      next_left more t unwritten (CannotWrite e) why = tt
      next_left more t unwritten OutOfMemory why = tt
      next_left [] t unwritten NotText why = ap reader why.0.1
      next_left (line ∷ more) t unwritten NotText why = ap reader why.0.1
      next_left [] t unwritten (Refused (Line e)) why = absurd why.0.0
      next_left (line ∷ more) t unwritten (Refused (Line (fault.Line at e))) why = why.0.1
      next_left (line ∷ more) t unwritten (Refused (Line fault.TooMany)) why = why.0.1
      next_left [] t unwritten (Refused (Entry e)) why = absurd why.0
      next_left (line ∷ more) t unwritten (Refused (Entry e)) why = (why.0.0, why.0.1, why.0.2)

      left_begun : (text : List ℕ) (first more : List (List ℕ)) (given : List Tree) (t : S) (unwritten : List ℕ) (fault : StreamError (ListError (EntryError L) E)) → lines text ≡ first ++ more
          → Taken first given t → streamed.Why Refuses t (turns_in more) unwritten v fault → LeavesReader says leaves r0 (reader v) text given fault
      left_begun text first more given t unwritten fault parts taken why =
          record { first = first; more = more; after = reader t; parts = parts; reads = taken.reads; next = next_left more t unwritten fault why }

      none_left : (t : S) (unwritten : List ℕ) (fault : StreamError (ListError (EntryError L) E)) → streamed.Why Refuses t [] unwritten v fault → LeavesNext says leaves (reader t) [] (reader v) fault
      none_left t unwritten (CannotRead e) why = ap reader why.2
      none_left t unwritten (CannotWrite e) why = tt
      none_left t unwritten OutOfMemory why = tt
      none_left t unwritten NotText why = absurd why.0
      none_left t unwritten (Refused e) why = absurd why.0

      left_ended : (text : List ℕ) (given : List Tree) (t : S) (unwritten : List ℕ) (fault : StreamError (ListError (EntryError L) E)) → Whole (lines text) given t
          → streamed.Why Refuses t [] unwritten v fault → LeavesReader says leaves r0 (reader v) text given fault
      left_ended text given t unwritten fault whole why =
          record { first = lines text; more = []; after = reader t; parts = sym (append-nil (lines text)); reads = whole; next = none_left t unwritten fault why }

      pub entries_part : (unread left before after : Option (List ℕ)) (fault : StreamError (ListError (EntryError L) E)) → streamed.AnswersPart Asks Refuses s v unread left before after fault
          → AnswersPart (λ _ text given. (q : R) × ReadsFirst says text given r0 q) (IsFaultOf says refuses_line r0) (LeavesReader says leaves r0 (reader v)) answers is_done refuses (state s) (state v) unread left before after fault
      entries_part =
          list_part state answers is_done Turn Taken Whole at_line at_end s (none_taken s zero same) (λ _ text given. (q : R) × ReadsFirst says text given r0 q)
          (λ left text first more given t parts taken. (reader t, begins text first more given t parts taken)) (λ left text given t at_end whole. (reader t, ends text given t whole))
          (IsFaultOf says refuses_line r0) refuses Refuses v line_fault end_fault entry_refused (λ turn t e why. why.2) (LeavesReader says leaves r0 (reader v)) left_begun left_ended
