-- How the entries of an input are answered.
use Rattle.std.proofs.Common.{◌≡◌, inl, inr, ℕ, Any, Bool, false, List, [], ◌∷◌, ◌++◌, Option, None, Some, length, length-append, sym, ap, ◌∙◌, arith}
use Rattle.std.proofs.Math.Seq.{get_or-append_seam}
use Rattle.std.specs.Io.KnownBytes.{IsAtEnd}
use Rattle.std.specs.Str.{IsUtf8}
use Rattle.std.specs.Str.Lines.{lines}
use Rattle.hayagriva.specs.Tree.{Tree}
use Rattle.haya_line_stream.specs.Answered as stream
use Rattle.haya_line_stream.specs.Streamed as streamed
use Rattle.haya_line_stream.specs.Turns.{turns_in}
use Rattle.haya_line_stream.specs.declared.error.StreamError.{StreamError}
use Rattle.haya_line_stream.specs.declared.error.StreamError.TheVariants.{CannotRead, CannotWrite, NotText, OutOfMemory, Refused}
use Rattle.haya_line_stream.proofs.Ended.{enough_ended, part_ended}
use Rattle.haya_entry_stream.specs.Listed.{AnswersEnough, AnswersList, AnswersPart, IsLeftAs, Why, entries_of}
use Rattle.haya_entry_stream.specs.declared.error.ListError.{ListError}
use Rattle.haya_entry_stream.specs.declared.error.ListError.TheVariants.{Line, Entry}
use Rattle.haya_entry_stream.proofs.Lists.{Asked, Reaches, Replied, go}

some_between : {X : Type 0} (P : X → Type 0) (xs : List X) (y : X) (ys : List X) → P y → Any P (xs ++ y ∷ ys)
some_between P xs y ys holds = (length xs, y, (rw (length-append xs (y ∷ ys)) (omega arith)), get_or-append_seam xs y ys y, holds)

no_turn : (ls : List (List ℕ)) → [] ≡ turns_in ls → ⊥
no_turn [] h = cc
no_turn (l ∷ ls) h = cc

-- the next turn is that of a line
record IsNext (line : List ℕ) (more : List (List ℕ)) : Type 0 where
  rest : List (List ℕ)
  is : more ≡ line ∷ rest

next_line : (line : List ℕ) (later : List (Option (List ℕ))) (more : List (List ℕ)) → Some line ∷ later ≡ turns_in more → IsNext line more
next_line line later [] left = absurd (cc)
next_line line later (l ∷ ls) left = record { rest = ls; is = cc }

module _ {S A : Type 0} (state : S → A) (answers : A → Tree → List ℕ → A → Type 0) (is_done : A → Bool) (Turn : S → Option (List ℕ) → List ℕ → S → Type 0)
    (Taken Whole : List (List ℕ) → List Tree → S → Type 0)
    (at_line : (before : List (List ℕ)) (given : List Tree) (s t : S) (line printed : List ℕ) → is_done (state s) ≡ false → Taken before given s → Turn s (Some line) printed t
    → Replied answers is_done (state s) (state t) printed (λ closed. Taken (before ++ line ∷ []) (given ++ closed) t))
    (at_end : (before : List (List ℕ)) (given : List Tree) (s t : S) (printed : List ℕ) → is_done (state s) ≡ false → Taken before given s → Turn s None printed t
    → Replied answers is_done (state s) (state t) printed (λ closed. Whole before (given ++ closed) t))
    (s : S) (start : Taken [] [] s) where
  abbrev Asks : S → Option (List ℕ) → List ℕ → S → Type 0
  Asks = Asked state answers is_done Turn Taken Whole at_line at_end

  abbrev Reached : List ℕ → List (Option (List ℕ)) → List Tree → S → Type 0
  Reached text later given t = Reaches state answers is_done Turn Taken Whole at_line at_end [] (lines text) later given t

  replied : (text : List ℕ) (later : List (Option (List ℕ))) (t : S) (printed : List ℕ) → stream.Answers Asks text later s t printed
      → Replied answers is_done (state s) (state t) printed (λ given. Reached text later given t)
  replied text later t printed answered =
      rw answered.prints (go state answers is_done Turn Taken Whole at_line at_end answered.parts s t [] (lines text) [] later start answered.all answered.run)

  module _ (t : S) (unread left before after : Option (List ℕ)) where
    pub list_all : (IsList : List ℕ → List Tree → Type 0) → ((text : List ℕ) (given : List Tree) → Whole (lines text) given t → IsList text given)
        → streamed.AnswersAll Asks s t unread left before after → AnswersList IsList answers is_done (state s) (state t) unread left before after
    list_all IsList is_list a =
        let r = replied a.text [] t a.printed a.answers_all in
        record {
          text = a.text;
          replies = r.replies;
          read = a.read;
          at_end = a.at_end;
          list = all r.holds;
          run = r.run;
          prints = rw (← r.prints) a.prints;
        }
      where
        all : {given : List Tree} → Reached a.text [] given t → IsList a.text given
        all (inl b) = absurd (no_turn b.more b.left)
        all {given} (inr e) = is_list a.text given e.whole

    pub list_enough : (BeginsList : Option (List ℕ) → List ℕ → List Tree → Type 0)
        → ((text : List ℕ) (first more : List (List ℕ)) (given : List Tree) → lines text ≡ first ++ more → Taken first given t → BeginsList left text given)
        → ((text : List ℕ) (given : List Tree) → IsAtEnd left → Whole (lines text) given t → BeginsList left text given)
        → streamed.AnswersEnough Asks (λ u. is_done (state u)) s t unread left before after → AnswersEnough BeginsList answers is_done (state s) (state t) unread left before after
    list_enough BeginsList begins ends a =
        let e = enough_ended Asks (λ u. is_done (state u)) s t unread left before after a in
        let r = replied e.0 e.2 t a.printed e.3 in
        record {
          text = a.text;
          part = e.0;
          replies = r.replies;
          read = a.read;
          of_text = e.1;
          list = begun e.0 e.2 e.4 r.holds;
          run = r.run;
          enough = a.enough;
          prints = rw (← r.prints) a.prints;
        }
      where
        begun : (part : List ℕ) (later : List (Option (List ℕ))) → (later ≡ [] → IsAtEnd left) → {given : List Tree} → Reached part later given t → BeginsList left part given
        begun part later at_end {given} (inl b) = begins part b.first b.more given b.parts b.taken
        begun part later at_end {given} (inr e) = ends part given (at_end e.left) e.whole

  module _ {L E : Type 0} (BeginsList : Option (List ℕ) → List ℕ → List Tree → Type 0)
      (begins : (left : Option (List ℕ)) (text : List ℕ) (first more : List (List ℕ)) (given : List Tree) (t : S) → lines text ≡ first ++ more → Taken first given t → BeginsList left text given)
      (ends : (left : Option (List ℕ)) (text : List ℕ) (given : List Tree) (t : S) → IsAtEnd left → Whole (lines text) given t → BeginsList left text given)
      (IsFault : List ℕ → L → Type 0) (refuses : A → Tree → E → Type 0) (Refuses : S → Option (List ℕ) → ListError L E → S → Type 0) (v : S)
      (line_fault : (text : List ℕ) (first : List (List ℕ)) (line : List ℕ) (more : List (List ℕ)) (given : List Tree) (t : S) (e : L) → lines text ≡ first ++ line ∷ more → Taken first given t
      → Refuses t (Some line) (Line e) v → IsFault text e)
      (end_fault : (text : List ℕ) (t : S) (e : L) → Refuses t None (Line e) v → IsFault text e)
      (entry_refused : (turn : Option (List ℕ)) (t : S) (e : E) → Refuses t turn (Entry e) v → (entry : Tree) × refuses (state t) entry e)
      (same_answerer : (turn : Option (List ℕ)) (t : S) (e : L) → Refuses t turn (Line e) v → state v ≡ state t)
      (Leaves : List ℕ → List Tree → StreamError (ListError L E) → Type 0)
      (leaves_begun : (text : List ℕ) (first more : List (List ℕ)) (given : List Tree) (t : S) (unwritten : List ℕ) (fault : StreamError (ListError L E)) → lines text ≡ first ++ more → Taken first given t
      → streamed.Why Refuses t (turns_in more) unwritten v fault → Leaves text given fault)
      (leaves_ended : (text : List ℕ) (given : List Tree) (t : S) (unwritten : List ℕ) (fault : StreamError (ListError L E)) → Whole (lines text) given t
      → streamed.Why Refuses t [] unwritten v fault → Leaves text given fault) where
    abbrev WhyIn : S → List ℕ → List ℕ → StreamError (ListError L E) → Type 0
    WhyIn t text unwritten fault = Why IsFault (λ e. (entry : Tree) × refuses (state t) entry e) text unwritten fault

    begun : (left : Option (List ℕ)) (text : List ℕ) (later : List (Option (List ℕ))) (given : List Tree) (t : S) → (later ≡ [] → IsAtEnd left) → Reached text later given t → BeginsList left text given
    begun left text later given t at_end (inl b) = begins left text b.first b.more given t b.parts b.taken
    begun left text later given t at_end (inr e) = ends left text given t (at_end e.left) e.whole

    -- the line whose turn is next isn't text
    not_text : (text : List ℕ) (turn : Option (List ℕ)) (later : List (Option (List ℕ))) (given : List Tree) (t : S) → Reached text (turn ∷ later) given t → ¬ stream.IsText turn
        → Any (λ line. ¬ IsUtf8 line) (lines text)
    not_text text turn later given t (inr e) why = absurd (let none = e.left in cc)
    not_text text None later given t (inl b) why = absurd (why tt)
    not_text text (Some line) later given t (inl b) why =
        let next = next_line line later b.more b.left in
        rw (b.parts, next.is) (some_between (λ line. ¬ IsUtf8 line) b.first line next.rest why)

    line_refused : (text : List ℕ) (turn : Option (List ℕ)) (later : List (Option (List ℕ))) (given : List Tree) (t : S) (e : L) → Reached text (turn ∷ later) given t → Refuses t turn (Line e) v → IsFault text e
    line_refused text turn later given t e (inr end) why = absurd (let none = end.left in cc)
    line_refused text None later given t e (inl b) why = end_fault text t e why
    line_refused text (Some line) later given t e (inl b) why =
        let next = next_line line later b.more b.left in
        line_fault text b.first line next.rest given t e (b.parts ∙ ap (λ l. b.first ++ l) next.is) b.taken why

    why_part : (text : List ℕ) (later : List (Option (List ℕ))) (t : S) (given : List Tree) (unwritten : List ℕ) (fault : StreamError (ListError L E)) → Reached text later given t
        → streamed.Why Refuses t later unwritten v fault → WhyIn t text unwritten fault
    why_part text later t given unwritten (CannotWrite e) reached why = tt
    why_part text later t given unwritten (CannotRead e) reached why = why.1
    why_part text later t given unwritten OutOfMemory reached why = why
    why_part text [] t given unwritten NotText reached why = absurd why.0
    why_part text [] t given unwritten (Refused e) reached why = absurd why.0
    why_part text (turn ∷ later) t given unwritten NotText reached why = (not_text text turn later given t reached why.0.0, why.1)
    why_part text (turn ∷ later) t given unwritten (Refused (Entry e)) reached why = (entry_refused turn t e why.0, why.1)
    why_part text (turn ∷ later) t given unwritten (Refused (Line e)) reached why = (line_refused text turn later given t e reached why.0, why.1)

    kept : (later : List (Option (List ℕ))) (t : S) (unwritten : List ℕ) (fault : StreamError (ListError L E)) → streamed.Why Refuses t later unwritten v fault → IsLeftAs (state t) (state v) fault
    kept later t unwritten (CannotWrite e) why = tt
    kept later t unwritten (CannotRead e) why = ap state why.2
    kept later t unwritten OutOfMemory why = tt
    kept [] t unwritten NotText why = absurd why.0
    kept [] t unwritten (Refused e) why = absurd why.0
    kept (turn ∷ later) t unwritten NotText why = ap state why.0.1
    kept (turn ∷ later) t unwritten (Refused (Entry e)) why = tt
    kept (turn ∷ later) t unwritten (Refused (Line e)) why = same_answerer turn t e why.0

    left_so : (text : List ℕ) (later : List (Option (List ℕ))) (given : List Tree) (t : S) (unwritten : List ℕ) (fault : StreamError (ListError L E)) → Reached text later given t
        → streamed.Why Refuses t later unwritten v fault → Leaves text given fault
    left_so text later given t unwritten fault (inl b) why = leaves_begun text b.first b.more given t unwritten fault b.parts b.taken (rw b.left at why)
    left_so text later given t unwritten fault (inr e) why = leaves_ended text given t unwritten fault e.whole (rw e.left at why)

    pub list_part : (unread left before after : Option (List ℕ)) (fault : StreamError (ListError L E)) → streamed.AnswersPart Asks Refuses s v unread left before after fault
        → AnswersPart BeginsList IsFault Leaves answers is_done refuses (state s) (state v) unread left before after fault
    list_part unread left before after fault a =
        let p = part_ended Asks Refuses v s unread left before after fault a in
        let w = p.2 in
        let r = replied p.0 w.later w.last (w.written ++ w.unwritten) w.first in
        record {
          text = a.text;
          part = p.0;
          replies = r.replies;
          last = state w.last;
          written = w.written;
          unwritten = w.unwritten;
          read = a.read;
          of_text = p.1;
          list = begun left p.0 w.later (entries_of r.replies) w.last p.3 r.holds;
          run = r.run;
          parts = sym r.prints;
          why = why_part p.0 w.later w.last (entries_of r.replies) w.unwritten fault r.holds w.why;
          answerer = kept w.later w.last w.unwritten fault w.why;
          leaves = left_so p.0 w.later (entries_of r.replies) w.last w.unwritten fault r.holds w.why;
          prints = w.prints;
        }
