-- Where the answers to parts stop.
use Rattle.std.proofs.Common.{◌≡◌, ◌⊎◌, inl, inr, ℕ, Bool, true, List, [], ◌++◌, Option, Some, Result, Ok, Err, refl, sym, ap, ◌∙◌, subst, append_assoc, append-nil}
use Rattle.std.specs.Prelude.{IfErr, IfOk, OnErr, OnOk, length}
use Rattle.std.specs.Io.KnownBytes.{Appends, Consumes, IsAtEnd, Keeps}
use Rattle.std.proofs.KnownBytes.{Appends-nil, Appends-trans, Consumes-kept, Consumes-nil, Consumes-trans}
use Rattle.haya_line_stream.specs.Answered.{StopsBefore}
use Rattle.haya_line_stream.specs.declared.error.StreamError.{StreamError}
use Rattle.haya_line_stream.specs.declared.error.WriteError.{WriteError}
use Rattle.haya_line_stream.specs.declared.error.StreamError.TheVariants.{CannotRead, CannotWrite, NotText, OutOfMemory, Refused}
use Rattle.haya_parts.specs.Answered.{AnswersAll, AnswersEnough, AnswersFirst, AnswersPart, AnswersUnwritten, EndsIn, EndsParts, EndsUnwritten, IsUnwritten, IsWriteFault, Moves, MovesOn, Stops, StopsAt, Why, parts_of, printed_of}
use Rattle.haya_parts.specs.Divided.{Begins, Begun, IsRefused}
use Rattle.haya_parts.proofs.Moving.{parts_of-append, printed_of-append, run_on}

-- what an error leaves, by two facts on it
pub if_err_both : {T E : Type 0} (r : Result T E) (A P : E → Type 0) (B : Type 0) → IfErr r A
    → OnErr r B → ((e : E) → A e → B → P e) → IfErr r P
if_err_both (Ok v) A P B a b all = tt
if_err_both (Err e) A P B a b all = all e a b

pub if_err_weaker : {T E : Type 0} (r : Result T E) (A P : E → Type 0) → IfErr r A
    → ((e : E) → A e → P e) → IfErr r P
if_err_weaker (Ok v) A P a all = tt
if_err_weaker (Err e) A P a all = all e a

-- the same parts, by another word
pub all_kept : {S : Type 0} (P Q : List ℕ → List (List ℕ) → Type 0)
    (answers : S → Option (List ℕ) → List ℕ → S → Type 0) (is_done : S → Bool) (s t : S)
    (unread left before after : Option (List ℕ))
    → ((text : List ℕ) (parts : List (List ℕ)) → P text parts → Q text parts)
    → AnswersAll P answers is_done s t unread left before after
    → AnswersAll Q answers is_done s t unread left before after
all_kept P Q answers is_done s t unread left before after same a = record {
  text = a.text;
  replies = a.replies;
  read = a.read;
  at_end = a.at_end;
  are = same a.text (parts_of a.replies) a.are;
  run = a.run;
  prints = a.prints;
}

pub unwritten_kept : {S : Type 0} (P Q : List ℕ → List (List ℕ) → Type 0)
    (answers : S → Option (List ℕ) → List ℕ → S → Type 0) (is_done : S → Bool) (s : S)
    (unread left before after : Option (List ℕ))
    → ((text : List ℕ) (parts : List (List ℕ)) → P text parts → Q text parts)
    → AnswersUnwritten P answers is_done s unread left before after
    → AnswersUnwritten Q answers is_done s unread left before after
unwritten_kept P Q answers is_done s unread left before after same a = record {
  text = a.text;
  replies = a.replies;
  last = a.last;
  written = a.written;
  unwritten = a.unwritten;
  read = a.read;
  at_end = a.at_end;
  are = same a.text (parts_of a.replies) a.are;
  run = a.run;
  parts = a.parts;
  prints = a.prints;
}

module _ {D S E : Type 0} (divides : D → List ℕ → List (List ℕ) → List ℕ → Type 0)
    (are_parts : D → List ℕ → List (List ℕ) → Type 0)
    (answers : S → Option (List ℕ) → List ℕ → S → Type 0)
    (refuses : S → Option (List ℕ) → E → S → Type 0) (is_done : S → Bool) where
  -- what is refused, and why
  pub why_of : (d : D) (rest bytes : List ℕ) (last t : S) (fault : StreamError E)
      → IsRefused divides are_parts d rest bytes → StopsBefore refuses last (Some bytes) t fault
      → Why divides are_parts refuses d rest last t fault
  why_of d rest bytes last t (CannotRead e) r w = absurd w
  why_of d rest bytes last t (CannotWrite e) r w = tt
  why_of d rest bytes last t NotText r w = (bytes, r, w.0, w.1)
  why_of d rest bytes last t (Refused e) r w = (bytes, r, w)
  why_of d rest bytes last t OutOfMemory r w = tt

  -- it stops where nothing more was taken
  pub stops_here : (d e : D) (s last t : S) (held rest printed : List ℕ) (fault : StreamError E)
      → Moves divides answers is_done d e s last held rest printed
      → Why divides are_parts refuses e rest last t fault
      → Stops divides are_parts answers refuses is_done d s t held printed fault
  stops_here d e s last t held rest printed fault moves why =
      record { then = e; rest = rest; last = last; moves = moves; why = why }

  all_of : (printed : List ℕ) (fault : StreamError E) → IsUnwritten [] fault
  all_of printed (CannotRead e) = refl
  all_of printed (CannotWrite e) = tt
  all_of printed NotText = refl
  all_of printed (Refused e) = refl
  all_of printed OutOfMemory = refl

  -- what is printed is written
  pub stop_written : (d : D) (s t : S) (held printed : List ℕ) (before after : Option (List ℕ))
      (fault : StreamError E) → Stops divides are_parts answers refuses is_done d s t held printed fault
      → Appends before after printed
      → StopsAt divides are_parts answers refuses is_done d s t held before after fault
  stop_written d s t held printed before after fault stop prints = record {
    then = stop.then;
    rest = stop.rest;
    last = stop.last;
    written = printed;
    unwritten = [];
    moves = rw (append-nil printed) stop.moves;
    why = stop.why;
    all_written = all_of printed fault;
    prints = prints;
  }

  pub stop_all : (d : D) (s t : S) (held old new : List ℕ) (before after : Option (List ℕ))
      (fault : StreamError E) → old ≡ []
      → ((more : List ℕ)
      × Stops divides are_parts answers refuses is_done d s t held more fault × (new ≡ old ++ more))
      → Appends before after new
      → StopsAt divides are_parts answers refuses is_done d s t held before after fault
  stop_all d s t held old new before after fault empty stop prints =
      stop_written d s t held new before after fault
      (subst (λ p. Stops divides are_parts answers refuses is_done d s t held p fault)
      (sym (stop.2 ∙ ap (λ l. l ++ stop.0) empty)) stop.1) prints

  pub stopped_written : (d : D) (s t : S) (held old new : List ℕ) (before after : Option (List ℕ))
      {T : Type 0} (r : Result T (StreamError E)) → old ≡ []
      → IfErr r (λ fault. (more : List ℕ)
      × Stops divides are_parts answers refuses is_done d s t held more fault × (new ≡ old ++ more))
      → Appends before after new
      → IfErr r (StopsAt divides are_parts answers refuses is_done d s t held before after)
  stopped_written d s t held old new before after (Ok v) empty stop prints = tt
  stopped_written d s t held old new before after (Err fault) empty stop prints =
      stop_all d s t held old new before after fault empty stop prints

  -- a first part of it is
  pub part_written : (d e : D) (s t last : S) (held rest printed first more : List ℕ)
      (before after : Option (List ℕ)) (why : WriteError)
      → Moves divides answers is_done d e s last held rest printed → printed ≡ first ++ more
      → Appends before after first
      → StopsAt divides are_parts answers refuses is_done d s t held before after (CannotWrite why)
  part_written d e s t last held rest printed first more before after why moves parts prints = record {
    then = e;
    rest = rest;
    last = last;
    written = first;
    unwritten = more;
    moves = subst (Moves divides answers is_done d e s last held rest) parts moves;
    why = tt;
    all_written = tt;
    prints = prints;
  }

  module _ (d : D) (s t : S) (held old new first rest : List ℕ) (before after : Option (List ℕ))
      (why : WriteError) (empty : old ≡ []) (parts : new ≡ first ++ rest) (prints : Appends before after first) where
    all_new : (more : List ℕ) → new ≡ old ++ more → more ≡ first ++ rest
    all_new more is = sym (is ∙ ap (λ l. l ++ more) empty) ∙ parts

    stop_unwritten : (fault : StreamError E) → (more : List ℕ)
        × Stops divides are_parts answers refuses is_done d s t held more fault × (new ≡ old ++ more)
        → StopsAt divides are_parts answers refuses is_done d s t held before after (CannotWrite why)
    stop_unwritten fault stop =
        part_written d stop.1.then s t stop.1.last held stop.1.rest stop.0 first rest before after why
        stop.1.moves (all_new stop.0 stop.2) prints

    -- of a block
    pub block_unwritten : (e : D) (r : Result ℕ (StreamError E))
        → IfOk r (λ left. (more : List ℕ) × (left_rest : List ℕ)
        × Moves divides answers is_done d e s t held left_rest more × (length left_rest ≡ left)
        × (new ≡ old ++ more))
        → IfErr r (λ fault. (more : List ℕ)
        × Stops divides are_parts answers refuses is_done d s t held more fault × (new ≡ old ++ more))
        → StopsAt divides are_parts answers refuses is_done d s t held before after (CannotWrite why)
    block_unwritten e (Ok left) ok err =
        part_written d e s t t held ok.1 ok.0 first rest before after why ok.2 (all_new ok.0 ok.4) prints
    block_unwritten e (Err fault) ok err = stop_unwritten fault err

    -- of what is left at the end
    pub rest_unwritten : (r : Result (Unit {0}) (StreamError E))
        → OnOk r ((more : List ℕ) × EndsIn divides are_parts answers is_done d s t held more
        × (new ≡ old ++ more))
        → IfErr r (λ fault. (more : List ℕ)
        × Stops divides are_parts answers refuses is_done d s t held more fault × (new ≡ old ++ more))
        → StopsAt divides are_parts answers refuses is_done d s t held before after (CannotWrite why)
        ⊎ (IsWriteFault {E = E} (CannotWrite why)
        × EndsUnwritten divides are_parts answers is_done d s held before after)
    rest_unwritten (Ok v) ok err =
        inr (
          tt,
          record {
            last = t;
            written = first;
            unwritten = rest;
            ends = subst (EndsIn divides are_parts answers is_done d s t held) (all_new ok.0 ok.2) ok.1;
            prints = prints;
          },
        )
    rest_unwritten (Err fault) ok err = inl (stop_unwritten fault err)

  -- ---- an input

  -- what was read of it is taken, but for what is held
  module _ (d : D) (s : S) (unread before : Option (List ℕ)) where
    pub record Reads (e : D) (t : S) (left after : Option (List ℕ)) (held : List ℕ) : Type 0 where
      pub printed : List ℕ
      pub first : AnswersFirst divides answers is_done e s t unread left held printed
      pub prints : Appends before after printed

    pub none_read : Begins divides d [] [] [] → Reads d s unread before []
    none_read begins = record {
      printed = [];
      first = record {
        taken = [];
        replies = [];
        read = Consumes-nil unread;
        begins = begins;
        run = refl;
        prints = refl;
      };
      prints = Appends-nil before;
    }

    module _ (e : D) (t : S) (mid_left mid : Option (List ℕ)) (held : List ℕ)
        (so_far : Reads e t mid_left mid held) where
      pub begun : Begun divides e held
      begun = (so_far.first.taken, parts_of so_far.first.replies, so_far.first.begins)

      -- the text goes on
      begins_on : (block : List ℕ) → Begins divides e so_far.first.taken
          (parts_of so_far.first.replies) (held ++ block)
      begins_on block = λ more.
          rw (append_assoc held block more) (so_far.first.begins (block ++ more))

      pub begun_on : (block : List ℕ) → Begun divides e (held ++ block)
      begun_on block = (so_far.first.taken, parts_of so_far.first.replies, begins_on block)

      read_on : (left : Option (List ℕ)) (block : List ℕ) → Consumes mid_left left block
          → Consumes unread left (so_far.first.taken ++ (held ++ block))
      read_on left block read =
          rw (← append_assoc so_far.first.taken held block)
          (Consumes-trans unread mid_left left (so_far.first.taken ++ held) block so_far.first.read read)

      pub kept : (left : Option (List ℕ)) → Keeps mid_left left → Reads e t left mid held
      kept left keeps = record {
        printed = so_far.printed;
        first = record {
          taken = so_far.first.taken;
          replies = so_far.first.replies;
          read = Consumes-kept unread mid_left left (so_far.first.taken ++ held) so_far.first.read keeps;
          begins = so_far.first.begins;
          run = so_far.first.run;
          prints = so_far.first.prints;
        };
        prints = so_far.prints;
      }

      -- what follows the parts that are answered
      first_on : (f : D) (u : S) (left : Option (List ℕ)) (block rest more : List ℕ)
          → Consumes mid_left left block
          → Moves divides answers is_done e f t u (held ++ block) rest more
          → AnswersFirst divides answers is_done f s u unread left rest (so_far.printed ++ more)
      first_on f u left block rest more read moves =
          let taken = so_far.first.taken in
          let parts = parts_of so_far.first.replies in record {
            taken = taken ++ moves.front;
            replies = so_far.first.replies ++ moves.replies;
            read =
                subst (Consumes unread left)
                (ap (λ l. taken ++ l) moves.split ∙ sym (append_assoc taken moves.front rest))
                (read_on left block read);
            begins =
                subst (λ ps. Begins divides f (taken ++ moves.front) ps rest)
                (sym (parts_of-append so_far.first.replies moves.replies))
                (moves.takes taken parts (begins_on block));
            run = run_on divides answers is_done s so_far.first.replies t moves.replies u
                so_far.first.run moves.run;
            prints = rw (so_far.first.prints, moves.prints)
                (sym (printed_of-append so_far.first.replies moves.replies));
          }

      pub block_read : (f : D) (u : S) (left after : Option (List ℕ)) (block rest : List ℕ)
          → Consumes mid_left left block
          → MovesOn divides answers is_done e f t u (held ++ block) rest mid after
          → Reads f u left after rest
      block_read f u left after block rest read m = record {
        printed = so_far.printed ++ m.printed;
        first = first_on f u left block rest m.printed read m.moves;
        prints = Appends-trans before mid after so_far.printed m.printed so_far.prints m.prints;
      }

      -- enough is answered
      pub enough : is_done t ≡ true
          → AnswersEnough divides answers is_done e s t unread mid_left before mid
      enough is = record {
        held = held;
        printed = so_far.printed;
        first = so_far.first;
        enough = is;
        prints = so_far.prints;
      }

      -- it stops at a fault
      pub stopped : (u : S) (left after : Option (List ℕ)) (block : List ℕ) (fault : StreamError E)
          → Consumes mid_left left block
          → StopsAt divides are_parts answers refuses is_done e t u (held ++ block) mid after fault
          → AnswersPart divides are_parts answers refuses is_done s u unread left before after fault
      stopped u left after block fault read stop = record {
        divider = stop.then;
        held = stop.rest;
        last = stop.last;
        written = so_far.printed ++ stop.written;
        unwritten = stop.unwritten;
        first =
            rw (append_assoc so_far.printed stop.written stop.unwritten)
            (first_on stop.then stop.last left block stop.rest (stop.written ++ stop.unwritten) read stop.moves);
        why = stop.why;
        all_written = stop.all_written;
        prints = Appends-trans before mid after so_far.printed stop.written so_far.prints stop.prints;
      }

      pub read_fails : (left : Option (List ℕ)) (why : _) → Keeps mid_left left
          → AnswersPart divides are_parts answers refuses is_done s t unread left before mid
          (CannotRead why)
      read_fails left why keeps = record {
        divider = e;
        held = held;
        last = t;
        written = so_far.printed;
        unwritten = [];
        first = record {
          taken = so_far.first.taken;
          replies = so_far.first.replies;
          read = Consumes-kept unread mid_left left (so_far.first.taken ++ held) so_far.first.read keeps;
          begins = so_far.first.begins;
          run = so_far.first.run;
          prints = append-nil so_far.printed ∙ so_far.first.prints;
        };
        why = refl;
        all_written = refl;
        prints = so_far.prints;
      }

      -- the end
      pub ended : (u : S) (left after : Option (List ℕ)) → Consumes mid_left left [] → IsAtEnd left
          → EndsParts divides are_parts answers is_done e t u held mid after
          → AnswersAll (are_parts e) answers is_done s u unread left before after
      ended u left after read at_end m =
          let taken = so_far.first.taken in
          let parts = parts_of so_far.first.replies in record {
            text = taken ++ held;
            replies = so_far.first.replies ++ m.ends.replies;
            read = rw append-nil at (read_on left [] read);
            at_end = at_end;
            are = rw (parts_of-append so_far.first.replies m.ends.replies)
                (m.ends.ends taken parts so_far.first.begins);
            run = run_on divides answers is_done s so_far.first.replies t m.ends.replies u
                so_far.first.run m.ends.run;
            prints =
                subst (Appends before after)
                (ap (λ l. l ++ m.printed) so_far.first.prints
                ∙ ap (λ l. printed_of so_far.first.replies ++ l) m.ends.prints
                ∙ sym (printed_of-append so_far.first.replies m.ends.replies))
                (Appends-trans before mid after so_far.printed m.printed so_far.prints m.prints);
          }

      pub unwritten_end : (left after : Option (List ℕ)) → Consumes mid_left left [] → IsAtEnd left
          → EndsUnwritten divides are_parts answers is_done e t held mid after
          → AnswersUnwritten (are_parts e) answers is_done s unread left before after
      unwritten_end left after read at_end m =
          let taken = so_far.first.taken in
          let parts = parts_of so_far.first.replies in record {
            text = taken ++ held;
            replies = so_far.first.replies ++ m.ends.replies;
            last = m.last;
            written = so_far.printed ++ m.written;
            unwritten = m.unwritten;
            read = rw append-nil at (read_on left [] read);
            at_end = at_end;
            are = rw (parts_of-append so_far.first.replies m.ends.replies)
                (m.ends.ends taken parts so_far.first.begins);
            run = run_on divides answers is_done s so_far.first.replies t m.ends.replies m.last
                so_far.first.run m.ends.run;
            parts = printed_of-append so_far.first.replies m.ends.replies
                ∙ ap (λ l. l ++ printed_of m.ends.replies) (sym so_far.first.prints)
                ∙ ap (λ l. so_far.printed ++ l) (sym m.ends.prints)
                ∙ sym (append_assoc so_far.printed m.written m.unwritten);
            prints = Appends-trans before mid after so_far.printed m.written so_far.prints m.prints;
          }
