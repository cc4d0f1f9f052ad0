-- How the lines of an input are answered and written, as it is read.
use Rattle.std.proofs.Common.{◌≡◌, ◌⊎◌, inl, inr, ℕ, Bool, true, false, ◌≤◌, List, [], ◌∷◌, ◌++◌, Option, Result, Ok, Err, length, arith, refl, sym, ap, ◌∙◌, subst, append-nil, append_assoc}
use Rattle.std.specs.Prelude.{IfErr, OnOk}
use Rattle.std.proofs.KnownBytes.{Appends-nil, Appends-trans, Consumes-kept, Consumes-nil, Consumes-trans}
use Rattle.std.specs.Io.KnownBytes.{Appends, Consumes, IsAtEnd, Keeps}
use Rattle.haya_line_stream.specs.Turns.{HasNoFeed, ended_count, turns}
use Rattle.haya_line_stream.specs.Answered.{Answers, StopsAt, StopsFirst, Takes}
use Rattle.haya_line_stream.specs.Streamed.{AnswersAll, AnswersEnough, AnswersPart, HaveEnded, Moves, Why, Writes}
use Rattle.haya_line_stream.specs.declared.error.StreamError.{StreamError}
use Rattle.haya_line_stream.specs.declared.error.StreamError.TheVariants.{CannotRead, CannotWrite, NotText, OutOfMemory, Refused}
use Rattle.haya_line_stream.proofs.Taken.{StopsEnded, answered_on, few_turns, none_taken, taken_first, taken_on}
use Rattle.haya_line_stream.proofs.Counted.{block_ended, ended_count_none, ended_most, same_count, taken_count}

module _ {S E : Type 0} (answers : S → Option (List ℕ) → List ℕ → S → Type 0) (refuses : S → Option (List ℕ) → E → S → Type 0) (v : S) where
  pub why_first : (t : S) (later : List (Option (List ℕ))) (fault : StreamError E) → StopsFirst refuses t later v fault → Why refuses t later [] v fault
  why_first t [] fault why = absurd why
  why_first t (turn ∷ later) (CannotRead e) why = absurd why
  why_first t (turn ∷ later) (CannotWrite e) why = tt
  why_first t (turn ∷ later) NotText why = (why, refl)
  why_first t (turn ∷ later) (Refused e) why = (why, refl)
  why_first t (turn ∷ later) OutOfMemory why = refl

  module _ (text : List ℕ) (s : S) (before after : Option (List ℕ)) where
    -- what is printed is written
    abbrev pub stop_written : (printed : List ℕ) (fault : StreamError E) → StopsAt answers refuses text s v printed fault → Appends before after printed
        → Writes answers refuses text s v before after fault
    stop_written printed fault stop prints = record {
      later = stop.later;
      last = stop.last;
      written = printed;
      unwritten = [];
      first = rw (append-nil printed) stop.first;
      why = why_first stop.last stop.later fault stop.why;
      prints = prints;
    }

    -- a first part of it is
    abbrev pub part_written : (later : List (Option (List ℕ))) (last : S) (printed first rest : List ℕ) (fault : _) → printed ≡ first ++ rest → Answers answers text later s last printed
        → Appends before after first → Writes answers refuses text s v before after (CannotWrite fault)
    part_written later last printed first rest fault parts answered prints = record {
      later = later;
      last = last;
      written = first;
      unwritten = rest;
      first = subst (Answers answers text later s last) parts answered;
      why = tt;
      prints = prints;
    }

-- each line that is answered, or refused, has ended
abbrev pub WritesEnded : {S E : Type 0} → (S → Option (List ℕ) → List ℕ → S → Type 0) → (S → Option (List ℕ) → E → S → Type 0) → List ℕ → S → S → Option (List ℕ) → Option (List ℕ) → StreamError E → Type 0
WritesEnded answers refuses text s v before after fault = (writes : Writes answers refuses text s v before after fault) × HaveEnded text (length writes.first.parts) fault

-- what is answered of a text, whether it stops or not
pub record Some_answered {S : Type 0} (answers : S → Option (List ℕ) → List ℕ → S → Type 0) (text : List ℕ) (s : S) (printed : List ℕ) : Type 0 where
  pub later : List (Option (List ℕ))
  pub last : S
  pub first : Answers answers text later s last printed

module _ {S E : Type 0} (answers : S → Option (List ℕ) → List ℕ → S → Type 0) (refuses : S → Option (List ℕ) → E → S → Type 0) (text : List ℕ) (s v : S) (old new : List ℕ) (empty : old ≡ []) where
  all_new : (more : List ℕ) → new ≡ old ++ more → more ≡ new
  all_new more is = sym (is ∙ ap (λ l. l ++ more) empty)

  some_first : (later : List (Option (List ℕ))) (t : S) (more : List ℕ) → Answers answers text later s t more → new ≡ old ++ more → Some_answered answers text s new
  some_first later t more first is = record { later = later; last = t; first = subst (Answers answers text later s t) (all_new more is) first }

  -- ---- of what is read to its end
  abbrev Stopped : StreamError E → Type 0
  Stopped fault = (more : List ℕ) × StopsAt answers refuses text s v more fault × (new ≡ old ++ more)

  pub some_ended : (t : S) (P : List (Option (List ℕ)) → Type 0) (r : Result (Unit {0}) (StreamError E)) → OnOk r ((more : List ℕ) × (later : List (Option (List ℕ))) × Answers answers text later s t more × P later × (new ≡ old ++ more))
      → IfErr r Stopped → Some_answered answers text s new
  some_ended t P (Ok done) took stopped = some_first took.1 t took.0 took.2 took.4
  some_ended t P (Err fault) took stopped = some_first stopped.1.later stopped.1.last stopped.0 stopped.1.first stopped.2

  pub stopped_written : (before after : Option (List ℕ)) (r : Result (Unit {0}) (StreamError E)) → IfErr r Stopped → Appends before after new
      → IfErr r (Writes answers refuses text s v before after)
  stopped_written before after (Ok done) stopped prints = tt
  stopped_written before after (Err fault) stopped prints =
      stop_written answers refuses v text s before after new fault (subst (λ p. StopsAt answers refuses text s v p fault) (all_new stopped.0 stopped.2) stopped.1) prints

  -- ---- of what may go on
  abbrev BlockStopped : StreamError E → Type 0
  BlockStopped fault = (more : List ℕ) × (stops : StopsAt answers refuses text s v more fault) × (new ≡ old ++ more) × HaveEnded text (length stops.first.parts) fault

  module _ (before after : Option (List ℕ)) (fault : _) (first rest : List ℕ) (parts : new ≡ first ++ rest) (prints : Appends before after first) where
    part_of : (later : List (Option (List ℕ))) (t : S) (more : List ℕ) (a : Answers answers text later s t more) → new ≡ old ++ more → length a.parts ≤ ended_count text
        → WritesEnded answers refuses text s v before after (CannotWrite fault)
    part_of later t more a is ended =
        let writes = part_written answers refuses v text s before after later t new first rest fault parts (subst (Answers answers text later s t) (all_new more is) a) prints in
        let same = same_count writes.first a in
        (writes, omega arith)

    pub part_ended : (t : S) (P : List ℕ → Type 0) (r : Result (Unit {0}) (StreamError E))
        → OnOk r ((more : List ℕ) × (rest : List ℕ) × Takes answers text rest s t more × P rest × (new ≡ old ++ more)) → IfErr r BlockStopped
        → WritesEnded answers refuses text s v before after (CannotWrite fault)
    part_ended t P (Ok done) took stopped =
        let ended = taken_count took.2 in
        part_of (turns took.1) t took.0 (taken_first answers text took.1 s t took.0 took.2) took.4 (omega arith)
    part_ended t P (Err stop) took stopped =
        part_of stopped.1.later stopped.1.last stopped.0 stopped.1.first stopped.2 (ended_most text (length stopped.1.first.parts) stop stopped.3)

  pub block_written : (before after : Option (List ℕ)) (r : Result (Unit {0}) (StreamError E)) → IfErr r BlockStopped → Appends before after new
      → IfErr r (WritesEnded answers refuses text s v before after)
  block_written before after (Ok done) stopped prints = tt
  block_written before after (Err fault) stopped prints =
      let stop = subst (λ p. StopsEnded answers refuses text s v p fault) (all_new stopped.0 stopped.2) (stopped.1, stopped.3) in
      let writes = stop_written answers refuses v text s before after new fault stop.0 prints in
      (writes, subst (λ n. HaveEnded text n fault) (same_count stop.0.first writes.first) stop.1)

-- what was read is a text, of which lines are answered but for what is held
pub record Reads {S : Type 0} (answers : S → Option (List ℕ) → List ℕ → S → Type 0) (s t : S) (unread left before after : Option (List ℕ)) (held : List ℕ) : Type 0 where
  pub text : List ℕ
  pub printed : List ℕ
  pub read : Consumes unread left text
  pub takes : Takes answers text held s t printed
  pub prints : Appends before after printed

module _ {S : Type 0} (answers : S → Option (List ℕ) → List ℕ → S → Type 0) (is_done : S → Bool) (s t : S) (unread left before after : Option (List ℕ)) where
  kept_enough : (held : List ℕ) → Reads answers s t unread left before after held → is_done t ≡ true → AnswersEnough answers is_done s t unread left before after
  kept_enough held so_far done =
      let taken = taken_count so_far.takes in
      record {
        text = so_far.text;
        later = turns held;
        printed = so_far.printed;
        read = so_far.read;
        first = taken_first answers so_far.text held s t so_far.printed so_far.takes;
        ended = inr (omega arith);
        enough = done;
        prints = so_far.prints;
      }

module _ {S : Type 0} (answers : S → Option (List ℕ) → List ℕ → S → Type 0) where
  pub none_read : (s : S) (unread out : Option (List ℕ)) → Reads answers s s unread unread out out []
  none_read s unread out = record { text = []; printed = []; read = Consumes-nil unread; takes = none_taken answers [] s; prints = Appends-nil out }

  module _ (s t u : S) (unread mid_unread left before mid after : Option (List ℕ)) (held : List ℕ) (so_far : Reads answers s t unread mid_unread before mid held) where
    pub kept_read : Keeps mid_unread left → Reads answers s t unread left before mid held
    kept_read keeps = record {
      text = so_far.text;
      printed = so_far.printed;
      read = Consumes-kept unread mid_unread left so_far.text so_far.read keeps;
      takes = so_far.takes;
      prints = so_far.prints;
    }

    module _ (is_done : S → Bool) (block next : List ℕ) (read : Consumes mid_unread left block) (moves : Moves answers is_done (held ++ block) next t u mid after) where
      -- a block more
      abbrev moved : Reads answers s u unread left before after moves.rest
      moved = record {
        text = so_far.text ++ block;
        printed = so_far.printed ++ moves.printed;
        read = Consumes-trans unread mid_unread left so_far.text block so_far.read read;
        takes = taken_on answers so_far.text held block moves.rest s t u so_far.printed moves.printed so_far.takes moves.takes;
        prints = Appends-trans before mid after so_far.printed moves.printed so_far.prints moves.prints;
      }

      enough : is_done u ≡ true → AnswersEnough answers is_done s u unread left before after
      enough done = kept_enough answers is_done s u unread left before after moves.rest moved done

      pub block_read : AnswersEnough answers is_done s u unread left before after ⊎ (Reads answers s u unread left before after next × HasNoFeed next)
      block_read = by moves.left
        where
          by : (is_done u ≡ true) ⊎ ((moves.rest ≡ next) × HasNoFeed moves.rest)
              → AnswersEnough answers is_done s u unread left before after ⊎ (Reads answers s u unread left before after next × HasNoFeed next)
          by (inl done) = inl (enough done)
          by (inr same) = inr (subst (λ l. Reads answers s u unread left before after l × HasNoFeed l) same.0 (moved, same.1))

    -- the input has come to its end
    module _ (is_done : S → Bool) (more : List ℕ) (read : Consumes mid_unread left []) (at_end : IsAtEnd left) (prints : Appends mid after more) where
      ended : (later : List (Option (List ℕ))) → Answers answers held later t u more → Answers answers so_far.text later s u (so_far.printed ++ more)
      ended later answered = rw append-nil at (answered_on answers so_far.text held [] later s t u so_far.printed more so_far.takes (rw (append-nil held) answered))

      consumed : Consumes unread left so_far.text
      consumed = rw append-nil at (Consumes-trans unread mid_unread left so_far.text [] so_far.read read)

      printed : Appends before after (so_far.printed ++ more)
      printed = Appends-trans before mid after so_far.printed more so_far.prints prints

      pub end_read : (later : List (Option (List ℕ))) → Answers answers held later t u more → (later ≡ []) ⊎ (is_done u ≡ true)
          → AnswersAll answers s u unread left before after ⊎ AnswersEnough answers is_done s u unread left before after
      end_read later answered (inl none) =
          inl (record {
            text = so_far.text;
            printed = so_far.printed ++ more;
            read = consumed;
            at_end = at_end;
            answers_all = ended [] (subst (λ l. Answers answers held l t u more) none answered);
            prints = printed;
          })
      end_read later answered (inr done) =
          inr (record {
            text = so_far.text;
            later = later;
            printed = so_far.printed ++ more;
            read = consumed;
            first = ended later answered;
            ended = inl at_end;
            enough = done;
            prints = printed;
          })

    module _ {E : Type 0} (refuses : S → Option (List ℕ) → E → S → Type 0) (v : S) where
      abbrev writes_on : (block : List ℕ) (fault : StreamError E) → Writes answers refuses (held ++ block) t v mid after fault
          → Writes answers refuses (so_far.text ++ block) s v before after fault
      writes_on block fault part = record {
        later = part.later;
        last = part.last;
        written = so_far.printed ++ part.written;
        unwritten = part.unwritten;
        first =
            rw (append_assoc so_far.printed part.written part.unwritten)
            (answered_on answers so_far.text held block part.later s t part.last so_far.printed (part.written ++ part.unwritten) so_far.takes part.first);
        why = part.why;
        prints = Appends-trans before mid after so_far.printed part.written so_far.prints part.prints;
      }

      pub block_part : (block : List ℕ) (fault : StreamError E) → Consumes mid_unread left block → WritesEnded answers refuses (held ++ block) t v mid after fault
          → AnswersPart answers refuses s v unread left before after fault
      block_part block fault read part = record {
        text = so_far.text ++ block;
        read = Consumes-trans unread mid_unread left so_far.text block so_far.read read;
        writes = writes_on block fault part.0;
        ended = inr
            (block_ended so_far.text held block part.0.later s t part.0.last part.0.last so_far.printed _ _ so_far.takes part.0.first (writes_on block fault part.0).first fault part.1);
      }

      pub end_part : (r : Result (Unit {0}) (StreamError E)) → Consumes mid_unread left [] → IsAtEnd left → IfErr r (Writes answers refuses held t v mid after)
          → IfErr r (AnswersPart answers refuses s v unread left before after)
      end_part (Ok done) read at_end part = tt
      end_part (Err fault) read at_end part = record {
        text = so_far.text ++ [];
        read = Consumes-trans unread mid_unread left so_far.text [] so_far.read read;
        writes = writes_on [] fault (rw append-nil part);
        ended = inl at_end;
      }

      pub read_fails : (error : _) → HasNoFeed held → Keeps mid_unread left → v ≡ t → AnswersPart answers refuses s v unread left before mid (CannotRead error)
      read_fails error none keeps same_state =
          let answered = taken_first answers so_far.text held s t so_far.printed so_far.takes in
          let first : Answers answers so_far.text (turns held) s t (so_far.printed ++ []) = rw (append-nil so_far.printed) answered in
          let same = same_count first answered in
          let taken = taken_count so_far.takes in
          let unfinished = ended_count_none held none in
          record {
            text = so_far.text;
            read = Consumes-kept unread mid_unread left so_far.text so_far.read keeps;
            writes = record {
              later = turns held;
              last = t;
              written = so_far.printed;
              unwritten = [];
              first = first;
              why = (few_turns held none, refl, same_state);
              prints = so_far.prints;
            };
            ended = inr (omega arith);
          }

module _ {S : Type 0} (answers : S → Option (List ℕ) → List ℕ → S → Type 0) (is_done : S → Bool) (s t : S) (unread left before after : Option (List ℕ)) where
  -- where the answerer isn't done, more is read
  pub goes_on : {X : Type 0} → AnswersEnough answers is_done s t unread left before after ⊎ X → is_done t ≡ false → X
  goes_on (inl enough) more = absurd (let wrong = sym enough.enough ∙ more in cc)
  goes_on (inr x) more = x

  pub is_enough : (held : List ℕ) → is_done t ≡ true
      → AnswersEnough answers is_done s t unread left before after ⊎ (Reads answers s t unread left before after held × HasNoFeed held)
      → AnswersEnough answers is_done s t unread left before after
  is_enough held done (inl enough) = enough
  is_enough held done (inr read) = kept_enough answers is_done s t unread left before after held read.0 done
