-- What is answered of a text is answered of the part of it whose lines have ended.
use Rattle.std.proofs.Common.{◌≡◌, ◌⊎◌, inl, inr, ℕ, ◌+◌, ◌<◌, ◌≤◌, Bool, true, false, List, [], ◌∷◌, ◌++◌, Option, None, Some, length, length-append, refl, sym, ap, ◌∙◌, append_assoc, append-nil, arith}
use Rattle.std.specs.Prelude.{◌==◌, map}
use Rattle.std.specs.List.{last_or}
use Rattle.std.specs.Io.KnownBytes.{IsAtEnd}
use Rattle.std.proofs.lemmas.Bool.{eqb-true}
use Rattle.std.proofs.lemmas.List.{length-map}
use Rattle.std.proofs.lemmas.List.Elements.{All-cons, All-nil}
use Rattle.haya_line_stream.specs.Turns.{AreWholeLines, HasNoFeed, ended_count, turns}
use Rattle.haya_line_stream.specs.Answered.{Answers, StopsFirst, turns_of}
use Rattle.haya_line_stream.specs.Streamed.{AnswersEnough, AnswersPart, HaveEnded, IsEndedPart, Why, Writes}
use Rattle.haya_line_stream.specs.declared.error.StreamError.{StreamError}
use Rattle.haya_line_stream.specs.declared.error.StreamError.TheVariants.{CannotRead, CannotWrite, NotText, OutOfMemory, Refused}
use Rattle.haya_line_stream.proofs.Counted.{ended_count-append, ended_count_first, ended_count_none, ended_most, lines_before, lines_before_count, turns_feed}

-- ---- a text is cut behind its last line feed
record LastFeed (text : List ℕ) : Type 0 where
  before : List ℕ
  rest : List ℕ
  parts : text ≡ before ++ 10 ∷ rest
  none : HasNoFeed rest

last_feed : (text : List ℕ) → LastFeed text ⊎ HasNoFeed text
last_feed [] = inr (All-nil (λ b. (b == 10) ≡ false))
last_feed (b ∷ bs) = behind (last_feed bs)
  where
    here : (c : Bool) → (b == 10) ≡ c → HasNoFeed bs → LastFeed (b ∷ bs) ⊎ HasNoFeed (b ∷ bs)
    here true feed none = inl (record { before = []; rest = bs; parts = ap (λ x. x ∷ bs) (eqb-true b 10 feed); none = none })
    here false other none = inr (All-cons (λ x. (x == 10) ≡ false) b bs other none)

    behind : LastFeed bs ⊎ HasNoFeed bs → LastFeed (b ∷ bs) ⊎ HasNoFeed (b ∷ bs)
    behind (inl f) = inl (record { before = b ∷ f.before; rest = f.rest; parts = ap (λ l. b ∷ l) f.parts; none = f.none })
    behind (inr none) = here (b == 10) refl none

last_byte : (o : Option ℕ) (xs : List ℕ) (x : ℕ) → last_or o (xs ++ x ∷ []) ≡ Some x
last_byte o [] x = refl
last_byte o (y ∷ xs) x = last_byte (Some y) xs x

-- the whole lines of a text, and the turns of these
record WholeLines (text : List ℕ) : Type 0 where
  part : List ℕ
  rest : List ℕ
  ended : List (Option (List ℕ))
  parts : text ≡ part ++ rest
  whole : AreWholeLines part
  none : HasNoFeed rest
  first : (more : List ℕ) → turns (part ++ more) ≡ ended ++ turns more
  count : length ended ≡ ended_count text

whole_lines : (text : List ℕ) → WholeLines text
whole_lines text = by (last_feed text)
  where
    by : LastFeed text ⊎ HasNoFeed text → WholeLines text
    by (inl f) =
        let before = lines_before_count f.before in
        let turns_before = length-map (lines_before f.before) (λ line. Some line) in
        let both = ap ended_count f.parts ∙ ended_count-append f.before (10 ∷ f.rest) in
        let last = ended_count_first [] f.rest (All-nil (λ b. (b == 10) ≡ false)) in
        let behind = ended_count_none f.rest f.none in
        record {
          part = f.before ++ 10 ∷ [];
          rest = f.rest;
          ended = map (λ line. Some line) (lines_before f.before);
          parts = f.parts ∙ sym (append_assoc f.before (10 ∷ []) f.rest);
          whole = last_byte (Some 10) f.before 10;
          none = f.none;
          first = λ more. ap turns (append_assoc f.before (10 ∷ []) more) ∙ turns_feed f.before more;
          count = omega arith;
        }
    by (inr none) = record {
      part = [];
      rest = text;
      ended = [];
      parts = refl;
      whole = refl;
      none = none;
      first = λ more. refl;
      count = sym (ended_count_none text none);
    }

-- ---- the turns that are answered are of these lines
record Between {X : Type 0} (first later ended others : List X) : Type 0 where
  mid : List X
  is_ended : ended ≡ first ++ mid
  is_later : later ≡ mid ++ others

between : {X : Type 0} (first later ended others : List X) → ended ++ others ≡ first ++ later → length first ≤ length ended → Between first later ended others
between [] later ended others same within = record { mid = ended; is_ended = refl; is_later = sym same }
between (x ∷ first) later [] others same within = absurd (omega arith)
between (x ∷ first) later (y ∷ ended) others same within =
    let here : y ≡ x = cc in
    let rest : ended ++ others ≡ first ++ later = cc in
    let b = between first later ended others rest (omega arith) in
    record { mid = b.mid; is_ended = ap (λ z. z ∷ ended) here ∙ ap (λ l. x ∷ l) b.is_ended; is_later = b.is_later }

module _ {S : Type 0} (answers : S → Option (List ℕ) → List ℕ → S → Type 0) (text : List ℕ) (later : List (Option (List ℕ))) (s t : S) (printed : List ℕ)
    (a : Answers answers text later s t printed) where
  -- some of the lines that have ended come later
  record AnswersEnded : Type 0 where
    part : List ℕ
    of_text : (rest : List ℕ) × (text ≡ part ++ rest) × AreWholeLines part × HasNoFeed rest
    mid : List (Option (List ℕ))
    others : List (Option (List ℕ))
    first : Answers answers part (mid ++ None ∷ []) s t printed
    is_later : later ≡ mid ++ others
    count : length a.parts + length mid ≡ ended_count text

  answers_ended : length a.parts ≤ ended_count text → AnswersEnded
  answers_ended within =
      let w = whole_lines text in
      let count = length-map a.parts (λ p. p.0) in
      let whole_count = w.count in
      let b = between (turns_of a.parts) later w.ended (turns w.rest) (sym (w.first w.rest) ∙ ap turns (sym w.parts) ∙ a.all) (omega arith) in
      let both = ap length b.is_ended ∙ length-append (turns_of a.parts) b.mid in
      record {
        part = w.part;
        of_text = (w.rest, w.parts, w.whole, w.none);
        mid = b.mid;
        others = turns w.rest;
        first = record {
          parts = a.parts;
          all =
              ap turns (sym (append-nil w.part)) ∙ w.first [] ∙ ap (λ l. l ++ None ∷ []) b.is_ended
              ∙ append_assoc (turns_of a.parts) b.mid (None ∷ []);
          run = a.run;
          prints = a.prints;
        };
        is_later = b.is_later;
        count = omega arith;
      }

no_snoc : {X : Type 0} (xs : List X) (x : X) → xs ++ x ∷ [] ≡ [] → ⊥
no_snoc [] x none = cc
no_snoc (y ∷ xs) x none = cc

-- ---- what was read of an input
module _ {S : Type 0} (answers : S → Option (List ℕ) → List ℕ → S → Type 0) where
  -- lines of the part of a text whose lines have ended are answered, and the end only where the
  -- input has ended
  abbrev pub AnswersOfPart : Option (List ℕ) → List ℕ → S → S → List ℕ → Type 0
  AnswersOfPart left text s t printed =
      (part : List ℕ) × IsEndedPart left text part × (later : List (Option (List ℕ))) × Answers answers part later s t printed × (later ≡ [] → IsAtEnd left)

  pub enough_ended : (is_done : S → Bool) (s t : S) (unread left before after : Option (List ℕ)) (a : AnswersEnough answers is_done s t unread left before after)
      → AnswersOfPart left a.text s t a.printed
  enough_ended is_done s t unread left before after a = by a.ended
    where
      by : IsAtEnd left ⊎ (length a.first.parts ≤ ended_count a.text) → AnswersOfPart left a.text s t a.printed
      by (inl at_end) = (a.text, inl (at_end, refl), a.later, a.first, λ none. at_end)
      by (inr within) =
          let e = answers_ended answers a.text a.later s t a.printed a.first within in
          (e.part, inr e.of_text, e.mid ++ None ∷ [], e.first, λ none. absurd (no_snoc e.mid None none))

  module _ {E : Type 0} (refuses : S → Option (List ℕ) → E → S → Type 0) (v : S) where
    stops_first : (t : S) (mid others more : List (Option (List ℕ))) (fault : StreamError E) → 0 < length mid → StopsFirst refuses t (mid ++ others) v fault
        → StopsFirst refuses t (mid ++ more) v fault
    stops_first t [] others more fault some stops = absurd (omega arith)
    stops_first t (turn ∷ mid) others more fault some stops = stops

    -- so many lines are answered, and these have ended but aren't
    why_ended : (t : S) (text : List ℕ) (n : ℕ) (mid others : List (Option (List ℕ))) (unwritten : List ℕ) (fault : StreamError E) → n + length mid ≡ ended_count text
        → HaveEnded text n fault → Why refuses t (mid ++ others) unwritten v fault → Why refuses t (mid ++ None ∷ []) unwritten v fault
    why_ended t text n mid others unwritten (CannotRead e) count ended why = (rw (length-append mid (None ∷ [])) (omega arith), why.1, why.2)
    why_ended t text n mid others unwritten (CannotWrite e) count ended why = tt
    why_ended t text n mid others unwritten NotText count ended why = (stops_first t mid others (None ∷ []) NotText (omega arith) why.0, why.1)
    why_ended t text n mid others unwritten (Refused e) count ended why = (stops_first t mid others (None ∷ []) (Refused e) (omega arith) why.0, why.1)
    why_ended t text n mid others unwritten OutOfMemory count ended why = why

    abbrev pub WritesOfPart : Option (List ℕ) → List ℕ → S → Option (List ℕ) → Option (List ℕ) → StreamError E → Type 0
    WritesOfPart left text s before after fault =
        (part : List ℕ) × IsEndedPart left text part × (writes : Writes answers refuses part s v before after fault) × (writes.later ≡ [] → IsAtEnd left)

    pub part_ended : (s : S) (unread left before after : Option (List ℕ)) (fault : StreamError E) (a : AnswersPart answers refuses s v unread left before after fault)
        → WritesOfPart left a.text s before after fault
    part_ended s unread left before after fault a = by a.ended
      where
        by : IsAtEnd left ⊎ HaveEnded a.text (length a.writes.first.parts) fault → WritesOfPart left a.text s before after fault
        by (inl at_end) = (a.text, inl (at_end, refl), a.writes, λ none. at_end)
        by (inr ended) =
            let w = a.writes in
            let e = answers_ended answers a.text w.later s w.last (w.written ++ w.unwritten) w.first (ended_most a.text (length w.first.parts) fault ended) in (
              e.part,
              inr e.of_text,
              record {
                later = e.mid ++ None ∷ [];
                last = w.last;
                written = w.written;
                unwritten = w.unwritten;
                first = e.first;
                why = why_ended w.last a.text (length w.first.parts) e.mid e.others w.unwritten fault e.count ended (rw (← e.is_later) w.why);
                prints = w.prints;
              },
              λ none. absurd (no_snoc e.mid None none),
            )
