-- The parts of a text, answered one after another.
use Rattle.std.specs.Prelude.{◌≡◌, ℕ, Bool, true, false, List, [], ◌++◌, Option, Some, map}
use Rattle.std.specs.List.{flat_map, FoldsTo}
use Rattle.std.specs.Io.KnownBytes.{Appends, Consumes, IsAtEnd}
use Rattle.std.specs.Str.{IsUtf8}
use Rattle.haya_line_stream.specs.declared.error.StreamError.{StreamError}
use Rattle.haya_line_stream.specs.declared.error.StreamError.TheVariants.{CannotRead, CannotWrite, NotText, OutOfMemory, Refused}
use Rattle.haya_parts.specs.Divided.{Begins, IsRefused}

-- parts, and what is printed of each
abbrev pub Replies : Type 0
Replies = List (List ℕ × List ℕ)

abbrev pub parts_of : Replies → List (List ℕ)
parts_of replies = map (λ p. p.0) replies

abbrev pub printed_of : Replies → List ℕ
printed_of replies = flat_map (λ p. p.1) replies

-- each part is text, and is answered by one who isn't done
abbrev pub Run : {S : Type 0} → (S → Option (List ℕ) → List ℕ → S → Type 0) → (S → Bool) → S
    → Replies → S → Type 0
Run answers is_done s replies t =
    FoldsTo (λ p reply q.
    IsUtf8 reply.0 × (is_done p ≡ false) × answers p (Some reply.0) reply.1 q) s replies t

-- all input that was left is a text, and each of its parts is answered
pub record AnswersAll {S : Type 0} (AreParts : List ℕ → List (List ℕ) → Type 0)
    (answers : S → Option (List ℕ) → List ℕ → S → Type 0) (is_done : S → Bool) (s t : S)
    (unread left before after : Option (List ℕ)) : Type 0 where
  pub text : List ℕ
  pub replies : Replies
  pub read : Consumes unread left text
  pub at_end : IsAtEnd left
  pub are : AreParts text (parts_of replies)
  pub run : Run answers is_done s replies t
  pub prints : Appends before after (printed_of replies)

-- A first part of the input is read, up to some of which it is divided, and the parts of that are
-- answered.
pub record AnswersFirst {D S : Type 0} (divides : D → List ℕ → List (List ℕ) → List ℕ → Type 0)
    (answers : S → Option (List ℕ) → List ℕ → S → Type 0) (is_done : S → Bool) (d : D) (s t : S)
    (unread left : Option (List ℕ)) (held printed : List ℕ) : Type 0 where
  pub taken : List ℕ
  pub replies : Replies
  pub read : Consumes unread left (taken ++ held)
  pub begins : Begins divides d taken (parts_of replies) held
  pub run : Run answers is_done s replies t
  pub prints : printed ≡ printed_of replies

-- the first parts are answered, which are enough
pub record AnswersEnough {D S : Type 0} (divides : D → List ℕ → List (List ℕ) → List ℕ → Type 0)
    (answers : S → Option (List ℕ) → List ℕ → S → Type 0) (is_done : S → Bool) (d : D) (s t : S)
    (unread left before after : Option (List ℕ)) : Type 0 where
  pub held : List ℕ
  pub printed : List ℕ
  pub first : AnswersFirst divides answers is_done d s t unread left held printed
  pub enough : is_done t ≡ true
  pub prints : Appends before after printed

-- What a fault says of what is held behind the parts that are answered, and of what isn't written,
-- where the answerer was `last` and is left as t. Nothing is said where memory is out, or a write
-- fails.
abbrev pub Why : {D S E : Type 0} → (D → List ℕ → List (List ℕ) → List ℕ → Type 0)
    → (D → List ℕ → List (List ℕ) → Type 0) → (S → Option (List ℕ) → E → S → Type 0) → D → List ℕ
    → S → S → StreamError E → Type 0
Why divides are_parts refuses d held last t (CannotRead e) = t ≡ last
Why divides are_parts refuses d held last t NotText =
    (bytes : List ℕ) × IsRefused divides are_parts d held bytes × (¬ IsUtf8 bytes) × (t ≡ last)
Why divides are_parts refuses d held last t (Refused e) =
    (bytes : List ℕ) × IsRefused divides are_parts d held bytes × refuses last (Some bytes) e t
Why divides are_parts refuses d held last t (CannotWrite e) = Unit {0}
Why divides are_parts refuses d held last t OutOfMemory = Unit {0}

-- all that is printed is written, but where a write fails
abbrev pub IsUnwritten : {E : Type 0} → List ℕ → StreamError E → Type 0
IsUnwritten unwritten (CannotWrite e) = Unit {0}
IsUnwritten unwritten _ = unwritten ≡ []

-- a write failed
abbrev pub IsWriteFault : {E : Type 0} → StreamError E → Type 0
IsWriteFault (CannotWrite e) = Unit {0}
IsWriteFault _ = ⊥

-- the first parts are answered, and there it stops: what is printed of them is written
pub record AnswersPart {D S E : Type 0} (divides : D → List ℕ → List (List ℕ) → List ℕ → Type 0)
    (are_parts : D → List ℕ → List (List ℕ) → Type 0)
    (answers : S → Option (List ℕ) → List ℕ → S → Type 0)
    (refuses : S → Option (List ℕ) → E → S → Type 0) (is_done : S → Bool) (s t : S)
    (unread left before after : Option (List ℕ)) (fault : StreamError E) : Type 0 where
  pub divider : D
  pub held : List ℕ
  pub last : S
  pub written : List ℕ
  pub unwritten : List ℕ
  pub first : AnswersFirst divides answers is_done divider s last unread left held
      (written ++ unwritten)
  pub why : Why divides are_parts refuses divider held last t fault
  pub all_written : IsUnwritten unwritten fault
  pub prints : Appends before after written

-- ---- what is held

-- of what is held a first part is taken, with its parts, each of which is answered
pub record Moves {D S : Type 0} (divides : D → List ℕ → List (List ℕ) → List ℕ → Type 0)
    (answers : S → Option (List ℕ) → List ℕ → S → Type 0) (is_done : S → Bool) (d e : D) (s t : S)
    (held rest printed : List ℕ) : Type 0 where
  pub front : List ℕ
  pub replies : Replies
  pub split : held ≡ front ++ rest
  pub takes : (taken : List ℕ) (parts : List (List ℕ)) → Begins divides d taken parts held →
      Begins divides e (taken ++ front) (parts ++ parts_of replies) rest
  pub run : Run answers is_done s replies t
  pub prints : printed ≡ printed_of replies

-- and there it stops
pub record Stops {D S E : Type 0} (divides : D → List ℕ → List (List ℕ) → List ℕ → Type 0)
    (are_parts : D → List ℕ → List (List ℕ) → Type 0)
    (answers : S → Option (List ℕ) → List ℕ → S → Type 0)
    (refuses : S → Option (List ℕ) → E → S → Type 0) (is_done : S → Bool) (d : D) (s t : S)
    (held printed : List ℕ) (fault : StreamError E) : Type 0 where
  pub then : D
  pub rest : List ℕ
  pub last : S
  pub moves : Moves divides answers is_done d then s last held rest printed
  pub why : Why divides are_parts refuses then rest last t fault

-- the same where what is printed is written
pub record MovesOn {D S : Type 0} (divides : D → List ℕ → List (List ℕ) → List ℕ → Type 0)
    (answers : S → Option (List ℕ) → List ℕ → S → Type 0) (is_done : S → Bool) (d e : D) (s t : S)
    (held rest : List ℕ) (before after : Option (List ℕ)) : Type 0 where
  pub printed : List ℕ
  pub moves : Moves divides answers is_done d e s t held rest printed
  pub prints : Appends before after printed

pub record StopsAt {D S E : Type 0} (divides : D → List ℕ → List (List ℕ) → List ℕ → Type 0)
    (are_parts : D → List ℕ → List (List ℕ) → Type 0)
    (answers : S → Option (List ℕ) → List ℕ → S → Type 0)
    (refuses : S → Option (List ℕ) → E → S → Type 0) (is_done : S → Bool) (d : D) (s t : S)
    (held : List ℕ) (before after : Option (List ℕ)) (fault : StreamError E) : Type 0 where
  pub then : D
  pub rest : List ℕ
  pub last : S
  pub written : List ℕ
  pub unwritten : List ℕ
  pub moves : Moves divides answers is_done d then s last held rest (written ++ unwritten)
  pub why : Why divides are_parts refuses then rest last t fault
  pub all_written : IsUnwritten unwritten fault
  pub prints : Appends before after written

-- what is held ends a text: its last part is answered, or there is none
pub record EndsIn {D S : Type 0} (divides : D → List ℕ → List (List ℕ) → List ℕ → Type 0)
    (are_parts : D → List ℕ → List (List ℕ) → Type 0)
    (answers : S → Option (List ℕ) → List ℕ → S → Type 0) (is_done : S → Bool) (d : D) (s t : S)
    (held printed : List ℕ) : Type 0 where
  pub replies : Replies
  pub ends : (taken : List ℕ) (parts : List (List ℕ)) → Begins divides d taken parts held →
      are_parts d (taken ++ held) (parts ++ parts_of replies)
  pub run : Run answers is_done s replies t
  pub prints : printed ≡ printed_of replies

pub record EndsParts {D S : Type 0} (divides : D → List ℕ → List (List ℕ) → List ℕ → Type 0)
    (are_parts : D → List ℕ → List (List ℕ) → Type 0)
    (answers : S → Option (List ℕ) → List ℕ → S → Type 0) (is_done : S → Bool) (d : D) (s t : S)
    (held : List ℕ) (before after : Option (List ℕ)) : Type 0 where
  pub printed : List ℕ
  pub ends : EndsIn divides are_parts answers is_done d s t held printed
  pub prints : Appends before after printed

-- the same where what is printed of it can't be written to its end
pub record EndsUnwritten {D S : Type 0} (divides : D → List ℕ → List (List ℕ) → List ℕ → Type 0)
    (are_parts : D → List ℕ → List (List ℕ) → Type 0)
    (answers : S → Option (List ℕ) → List ℕ → S → Type 0) (is_done : S → Bool) (d : D) (s : S)
    (held : List ℕ) (before after : Option (List ℕ)) : Type 0 where
  pub last : S
  pub written : List ℕ
  pub unwritten : List ℕ
  pub ends : EndsIn divides are_parts answers is_done d s last held (written ++ unwritten)
  pub prints : Appends before after written

-- all parts of an input are answered, and what is printed of them can't be written to its end
pub record AnswersUnwritten {S : Type 0} (AreParts : List ℕ → List (List ℕ) → Type 0)
    (answers : S → Option (List ℕ) → List ℕ → S → Type 0) (is_done : S → Bool) (s : S)
    (unread left before after : Option (List ℕ)) : Type 0 where
  pub text : List ℕ
  pub replies : Replies
  pub last : S
  pub written : List ℕ
  pub unwritten : List ℕ
  pub read : Consumes unread left text
  pub at_end : IsAtEnd left
  pub are : AreParts text (parts_of replies)
  pub run : Run answers is_done s replies last
  pub parts : printed_of replies ≡ written ++ unwritten
  pub prints : Appends before after written
