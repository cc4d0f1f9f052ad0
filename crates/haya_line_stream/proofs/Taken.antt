-- How the lines of a text are answered, one after another.
use Rattle.std.proofs.Common.{◌≡◌, ℕ, false, List, [], ◌∷◌, ◌++◌, Option, Some, None, Result, Ok, Err, length, take, drop, get_or, ◌<◌, ◌≤◌, ◌+◌, suc, refl, sym, ap, ◌∙◌, subst, append_assoc, append-nil, take-append-drop, arith}
use Rattle.std.specs.List.{flat_map, FoldsTo}
use Rattle.std.specs.Prelude.{◌==◌, cond, map, IfErr, OnErr}
use Rattle.std.specs.Str.{IsUtf8}
use Rattle.std.specs.Str.Lines.{lines, lines_of_parts, strip_carriage_return}
use Rattle.std.proofs.lemmas.Bool.Decides.{nat_tests}
use Rattle.std.proofs.lemmas.List.Elements.{All-append}
use Rattle.std.proofs.Math.Seq.{drop-cons}
use Rattle.std.proofs.lemmas.List.{map-append, nil_from_length}
use Rattle.std.proofs.lemmas.List.Splits.{slice_split_none}
use Rattle.haya_line_stream.specs.Turns.{HasNoFeed, ended_count, turns, turns_in}
use Rattle.haya_line_stream.specs.Answered.{Answers, Parts, Run, IsText, StopsAt, StopsBefore, StopsFirst, Takes, printed_of, turns_of}
use Rattle.haya_line_stream.specs.Streamed.{HaveEnded}
use Rattle.haya_line_stream.specs.declared.error.StreamError.{StreamError}
use Rattle.haya_line_stream.specs.declared.error.StreamError.TheVariants.{CannotRead, CannotWrite, NotText, OutOfMemory, Refused}
use Rattle.haya_line_stream.proofs.Counted.{ended_count_first, lines_feed, taken_count}

pub flat_map-append : {X : Type 0} (f : X → List ℕ) (xs ys : List X) → flat_map f (xs ++ ys) ≡ flat_map f xs ++ flat_map f ys
flat_map-append f [] ys = refl
flat_map-append f (x ∷ xs) ys = ap (λ l. f x ++ l) (flat_map-append f xs ys) ∙ sym (append_assoc (f x) (flat_map f xs) (flat_map f ys))

pub printed_of-append : (ps qs : Parts) → printed_of (ps ++ qs) ≡ printed_of ps ++ printed_of qs
printed_of-append ps qs = flat_map-append (λ p. p.1) ps qs

pub turns_of-append : (ps qs : Parts) → turns_of (ps ++ qs) ≡ turns_of ps ++ turns_of qs
turns_of-append ps qs = map-append (λ p. p.0) ps qs

pub folds_on : {S X : Type 0} (R : S → X → S → Type 0) (s : S) (xs : List X) (t : S) (ys : List X) (u : S) → FoldsTo R s xs t → FoldsTo R t ys u → FoldsTo R s (xs ++ ys) u
folds_on R s [] t ys u p q = subst (λ z. FoldsTo R z ys u) (sym p) q
folds_on R s (x ∷ xs) t ys u p q = (p.0, p.1, folds_on R p.0 xs t ys u p.2 q)

-- ---- where a line ends
-- bytes that end with a line feed are a line
pub line_first : (piece rest : List ℕ) → HasNoFeed piece → lines (piece ++ 10 ∷ rest) ≡ strip_carriage_return piece ∷ lines rest
line_first piece rest none = lines_feed piece rest ∙ ap (λ ps. map strip_carriage_return ps ++ lines rest) (slice_split_none (λ b. b == 10) piece none)

pub turn_first : (piece rest : List ℕ) → HasNoFeed piece → turns (piece ++ 10 ∷ rest) ≡ Some (strip_carriage_return piece) ∷ turns rest
turn_first piece rest none = ap turns_in (line_first piece rest none)

-- bytes at the end are one
pub turn_last : (piece : List ℕ) → HasNoFeed piece → 0 < length piece → turns piece ≡ Some piece ∷ None ∷ []
turn_last [] none some = absurd (omega arith)
turn_last (b ∷ piece) none some =
    let long : (length (b ∷ piece) == 0) ≡ false = grind (arith, nat_tests) in
    ap (λ ps. turns_in (lines_of_parts ps)) (slice_split_none (λ x. x == 10) (b ∷ piece) none) ∙ ap (λ c. turns_in (cond c [] ((b ∷ piece) ∷ []))) long

pub turns_none : turns [] ≡ None ∷ []
turns_none = refl

-- so few turns are left where no line ends
pub few_turns : (piece : List ℕ) → HasNoFeed piece → length (turns piece) ≤ 2
few_turns [] none = omega arith
few_turns (b ∷ piece) none = rw (turn_last (b ∷ piece) none (omega arith)) (omega arith)

-- the next line, which has ended, isn't answered
next_ended : {S E : Type 0} (refuses : S → Option (List ℕ) → E → S → Type 0) (t : S) (v : S) (turn : Option (List ℕ)) (text : List ℕ) (n : ℕ) (fault : StreamError E) → n < ended_count text
    → StopsBefore refuses t turn v fault → HaveEnded text n fault
next_ended refuses t v turn text n (CannotRead e) more why = absurd why
next_ended refuses t v turn text n (CannotWrite e) more why = absurd why
next_ended refuses t v turn text n NotText more why = more
next_ended refuses t v turn text n (Refused e) more why = more
next_ended refuses t v turn text n OutOfMemory more why = omega arith

-- it stops at a line that has ended, or before it
abbrev pub StopsEnded : {S E : Type 0} → (S → Option (List ℕ) → List ℕ → S → Type 0) → (S → Option (List ℕ) → E → S → Type 0) → List ℕ → S → S → List ℕ → StreamError E → Type 0
StopsEnded answers refuses text s v printed fault = (stops : StopsAt answers refuses text s v printed fault) × HaveEnded text (length stops.first.parts) fault

-- ---- turns that are answered
module _ {S : Type 0} (answers : S → Option (List ℕ) → List ℕ → S → Type 0) where
  pub run_on : (s : S) (ps : Parts) (t : S) (qs : Parts) (u : S) → Run answers s ps t → Run answers t qs u → Run answers s (ps ++ qs) u
  run_on s ps t qs u p q = folds_on (λ p part q. IsText part.0 × answers p part.0 part.1 q) s ps t qs u p q

  pub none_taken : (text : List ℕ) (s : S) → Takes answers text text s s []
  none_taken text s = record { parts = []; same = λ more. refl; run = refl; prints = refl }

  pub none_answered : (text : List ℕ) (s : S) → Answers answers text (turns text) s s []
  none_answered text s = record { parts = []; all = refl; run = refl; prints = refl }

  -- a text of which turns are answered
  abbrev pub taken_first : (text rest : List ℕ) (s t : S) (printed : List ℕ) → Takes answers text rest s t printed → Answers answers text (turns rest) s t printed
  taken_first text rest s t printed so_far = record {
    parts = so_far.parts;
    all = ap turns (sym (append-nil text)) ∙ so_far.same [] ∙ ap (λ l. turns_of so_far.parts ++ turns l) (append-nil rest);
    run = so_far.run;
    prints = so_far.prints;
  }

  -- the text went on by a block
  pub taken_on : (text held block rest : List ℕ) (s t u : S) (printed more : List ℕ) → Takes answers text held s t printed → Takes answers (held ++ block) rest t u more
      → Takes answers (text ++ block) rest s u (printed ++ more)
  taken_on text held block rest s t u printed more p q = record {
    parts = p.parts ++ q.parts;
    same = λ later.
        ap turns (append_assoc text block later)
        ∙ p.same (block ++ later)
        ∙ ap (λ l. turns_of p.parts ++ turns l) (sym (append_assoc held block later))
        ∙ ap (λ l. turns_of p.parts ++ l) (q.same later)
        ∙ sym (append_assoc (turns_of p.parts) (turns_of q.parts) (turns (rest ++ later)))
        ∙ ap (λ l. l ++ turns (rest ++ later)) (sym (turns_of-append p.parts q.parts));
    run = run_on s p.parts t q.parts u p.run q.run;
    prints = rw (p.prints, q.prints) (sym (printed_of-append p.parts q.parts));
  }

  -- a first part of what followed the text is answered
  pub answered_on : (text held block : List ℕ) (later : List (Option (List ℕ))) (s t u : S) (printed more : List ℕ) → Takes answers text held s t printed
      → Answers answers (held ++ block) later t u more → Answers answers (text ++ block) later s u (printed ++ more)
  answered_on text held block later s t u printed more p q = record {
    parts = p.parts ++ q.parts;
    all =
        p.same block ∙ ap (λ l. turns_of p.parts ++ l) q.all ∙ sym (append_assoc (turns_of p.parts) (turns_of q.parts) later)
        ∙ ap (λ l. l ++ later) (sym (turns_of-append p.parts q.parts));
    run = run_on s p.parts t q.parts u p.run q.run;
    prints = rw (p.prints, q.prints) (sym (printed_of-append p.parts q.parts));
  }

  -- one turn more
  pub one_more : (text : List ℕ) (turn : Option (List ℕ)) (later : List (Option (List ℕ))) (s t u : S) (printed more : List ℕ) → Answers answers text (turn ∷ later) s t printed
      → IsText turn → answers t turn more u → Answers answers text later s u (printed ++ more)
  one_more text turn later s t u printed more p utf8 answer = record {
    parts = p.parts ++ (turn, more) ∷ [];
    all = p.all ∙ sym (append_assoc (turns_of p.parts) (turn ∷ []) later) ∙ ap (λ l. l ++ later) (sym (turns_of-append p.parts ((turn, more) ∷ [])));
    run = run_on s p.parts t ((turn, more) ∷ []) u p.run (u, (utf8, answer), refl);
    prints = rw p.prints (ap (λ l. printed_of p.parts ++ l) (sym (append-nil more)) ∙ sym (printed_of-append p.parts ((turn, more) ∷ [])));
  }

  -- one line more
  pub line_taken : (text piece rest : List ℕ) (s t u : S) (printed more : List ℕ) → HasNoFeed piece → Takes answers text (piece ++ 10 ∷ rest) s t printed
      → IsUtf8 (strip_carriage_return piece) → answers t (Some (strip_carriage_return piece)) more u → Takes answers text rest s u (printed ++ more)
  line_taken text piece rest s t u printed more none p utf8 answer =
      let turn = Some (strip_carriage_return piece) in
      record {
        parts = p.parts ++ (turn, more) ∷ [];
        same = λ later.
            p.same later
            ∙ ap (λ l. turns_of p.parts ++ turns l) (append_assoc piece (10 ∷ rest) later)
            ∙ ap (λ l. turns_of p.parts ++ l) (turn_first piece (rest ++ later) none)
            ∙ sym (append_assoc (turns_of p.parts) (turn ∷ []) (turns (rest ++ later)))
            ∙ ap (λ l. l ++ turns (rest ++ later)) (sym (turns_of-append p.parts ((turn, more) ∷ [])));
        run = run_on s p.parts t ((turn, more) ∷ []) u p.run (u, (utf8, answer), refl);
        prints = rw p.prints (ap (λ l. printed_of p.parts ++ l) (sym (append-nil more)) ∙ sym (printed_of-append p.parts ((turn, more) ∷ [])));
      }

  -- the next line stops
  pub line_stops : {E : Type 0} (refuses : S → Option (List ℕ) → E → S → Type 0) (text piece rest : List ℕ) (s t v : S) (printed : List ℕ) (fault : StreamError E) → HasNoFeed piece
      → Takes answers text (piece ++ 10 ∷ rest) s t printed → StopsBefore refuses t (Some (strip_carriage_return piece)) v fault → StopsEnded answers refuses text s v printed fault
  line_stops refuses text piece rest s t v printed fault none p why =
      let taken = taken_count p in
      let one = ended_count_first piece rest none in (
        record {
          later = turns (piece ++ 10 ∷ rest);
          last = t;
          first = taken_first text (piece ++ 10 ∷ rest) s t printed p;
          why = rw (turn_first piece rest none) why;
        },
        next_ended refuses t v (Some (strip_carriage_return piece)) text (length p.parts) fault (omega arith) why,
      )

-- ---- a block behind what is held
HasNoFeed-append : (xs ys : List ℕ) → HasNoFeed xs → HasNoFeed ys → HasNoFeed (xs ++ ys)
HasNoFeed-append xs ys first more = All-append (λ b. (b == 10) ≡ false) xs ys first more

pub held_more : (held rest : List ℕ) → HasNoFeed held → HasNoFeed rest → HasNoFeed (held ++ rest)
held_more held rest first more = HasNoFeed-append held rest first more

suc_is : (n : ℕ) → suc n ≡ n + 1
suc_is n = omega arith

cut_at : (rest : List ℕ) (at : ℕ) → at < length rest → get_or rest at 0 ≡ 10 → rest ≡ take at rest ++ 10 ∷ drop (at + 1) rest
cut_at rest at within feed =
    sym (take-append-drop at rest) ∙ ap (λ l. take at rest ++ l) (drop-cons rest at 0 within ∙ ap (λ b. b ∷ drop (suc at) rest) feed ∙ ap (λ k. 10 ∷ drop k rest) (suc_is at))

module _ {S : Type 0} (answers : S → Option (List ℕ) → List ℕ → S → Type 0) (text held rest : List ℕ) (at : ℕ) (s t : S) (printed : List ℕ) (none : HasNoFeed held)
    (within : at < length rest) (feed : get_or rest at 0 ≡ 10) (first : HasNoFeed (take at rest)) (so_far : Takes answers text (held ++ rest) s t printed) where
  cut : Takes answers text ((held ++ take at rest) ++ 10 ∷ drop (at + 1) rest) s t printed
  cut =
      subst (λ l. Takes answers text l s t printed)
      (ap (λ l. held ++ l) (cut_at rest at within feed) ∙ sym (append_assoc held (take at rest) (10 ∷ drop (at + 1) rest)))
      so_far

  -- the next line is answered
  pub block_line : (u : S) (more : List ℕ) → IsUtf8 (strip_carriage_return (held ++ take at rest)) → answers t (Some (strip_carriage_return (held ++ take at rest))) more u
      → Takes answers text (drop (at + 1) rest) s u (printed ++ more)
  block_line u more utf8 answer =
      line_taken answers text (held ++ take at rest) (drop (at + 1) rest) s t u printed more (HasNoFeed-append held (take at rest) none first) cut utf8 answer

  -- the next line stops
  pub block_stops : {E : Type 0} (refuses : S → Option (List ℕ) → E → S → Type 0) (v : S) (fault : StreamError E)
      → StopsBefore refuses t (Some (strip_carriage_return (held ++ take at rest))) v fault → StopsEnded answers refuses text s v printed fault
  block_stops refuses v fault why =
      line_stops answers refuses text (held ++ take at rest) (drop (at + 1) rest) s t v printed fault (HasNoFeed-append held (take at rest) none first) cut why

-- memory is out
memory_first : {S E : Type 0} (refuses : S → Option (List ℕ) → E → S → Type 0) (t v : S) (ls : List (List ℕ)) → StopsFirst refuses t (turns_in ls) v OutOfMemory
memory_first refuses t v [] = tt
memory_first refuses t v (line ∷ ls) = tt

pub memory_stops : {S E : Type 0} (answers : S → Option (List ℕ) → List ℕ → S → Type 0) (refuses : S → Option (List ℕ) → E → S → Type 0) (text rest : List ℕ) (s t v : S) (printed : List ℕ)
    → Takes answers text rest s t printed → StopsEnded answers refuses text s v printed OutOfMemory
memory_stops answers refuses text rest s t v printed so_far =
    let ended = taken_count so_far in
    (record { later = turns rest; last = t; first = taken_first answers text rest s t printed so_far; why = memory_first refuses t v (lines rest) }, omega arith)

-- ---- what is held as the last line, and the end
module _ {S : Type 0} (answers : S → Option (List ℕ) → List ℕ → S → Type 0) (held : List ℕ) (none : HasNoFeed held) (s : S) where
  pub last_line : (t : S) (more : List ℕ) → 0 < length held → IsUtf8 held → answers s (Some held) more t → Answers answers held (None ∷ []) s t more
  last_line t more some utf8 answer =
      one_more answers held (Some held) (None ∷ []) s s t [] more (subst (λ l. Answers answers held l s s []) (turn_last held none some) (none_answered answers held s)) utf8 answer

  pub last_stops : {E : Type 0} (refuses : S → Option (List ℕ) → E → S → Type 0) (v : S) (fault : StreamError E) → 0 < length held → StopsBefore refuses s (Some held) v fault
      → StopsAt answers refuses held s v [] fault
  last_stops refuses v fault some why = record {
    later = turns held;
    last = s;
    first = none_answered answers held s;
    why = rw (turn_last held none some) why;
  }

  pub no_line : length held ≡ 0 → Answers answers held (None ∷ []) s s []
  no_line empty = rw (nil_from_length held empty) (none_answered answers [] s)

end_stops : {S E : Type 0} (answers : S → Option (List ℕ) → List ℕ → S → Type 0) (refuses : S → Option (List ℕ) → E → S → Type 0) (text : List ℕ) (s t v : S) (printed : List ℕ)
    (fault : StreamError E) → Answers answers text (None ∷ []) s t printed → StopsBefore refuses t None v fault → StopsAt answers refuses text s v printed fault
end_stops answers refuses text s t v printed fault so_far why = record { later = None ∷ []; last = t; first = so_far; why = why }

pub end_stopped : {S E : Type 0} (answers : S → Option (List ℕ) → List ℕ → S → Type 0) (refuses : S → Option (List ℕ) → E → S → Type 0) (text : List ℕ) (s t v : S)
    (printed base old new : List ℕ) → Answers answers text (None ∷ []) s t printed → old ≡ base ++ printed → (r : Result (Unit {0}) (StreamError E)) → IfErr r (StopsBefore refuses t None v)
    → OnErr r (new ≡ old) → IfErr r (λ fault. (more : List ℕ) × StopsAt answers refuses text s v more fault × (new ≡ base ++ more))
end_stopped answers refuses text s t v printed base old new so_far was (Ok done) stops kept = tt
end_stopped answers refuses text s t v printed base old new so_far was (Err fault) stops kept =
    (printed, end_stops answers refuses text s t v printed fault so_far stops, kept ∙ was)
