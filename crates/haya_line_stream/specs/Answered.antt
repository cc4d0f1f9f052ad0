-- What is printed of a text, line by line.
use Rattle.std.specs.Prelude.{◌≡◌, ℕ, Bool, false, List, [], ◌∷◌, ◌++◌, Option, Some, None, map}
use Rattle.std.specs.List.{flat_map, FoldsTo}
use Rattle.std.specs.Str.{IsUtf8}
use Rattle.haya_line_stream.specs.Turns.{turns}
use Rattle.haya_line_stream.specs.declared.error.StreamError.{StreamError}
use Rattle.haya_line_stream.specs.declared.error.StreamError.TheVariants.{CannotRead, CannotWrite, NotText, OutOfMemory, Refused}

-- turns, and what is printed at each
abbrev pub Parts : Type 0
Parts = List (Option (List ℕ) × List ℕ)

abbrev pub turns_of : Parts → List (Option (List ℕ))
turns_of parts = map (λ p. p.0) parts

abbrev pub printed_of : Parts → List ℕ
printed_of parts = flat_map (λ p. p.1) parts

-- a line that is asked is text
abbrev pub IsText : Option (List ℕ) → Type 0
IsText None = Unit {0}
IsText (Some line) = IsUtf8 line

-- a turn is answered by one who isn't done
abbrev pub Asked : {S : Type 0} → (S → Bool) → (S → Option (List ℕ) → List ℕ → S → Type 0)
    → S → Option (List ℕ) → List ℕ → S → Type 0
Asked is_done answers s turn printed t = (is_done s ≡ false) × answers s turn printed t

-- each turn is answered, from a first state to a last one
abbrev pub Run : {S : Type 0} → (S → Option (List ℕ) → List ℕ → S → Type 0) → S → Parts → S → Type 0
Run answers s parts t = FoldsTo (λ p part q. IsText part.0 × answers p part.0 part.1 q) s parts t

-- the first turns of a text are answered by what is printed; others come later
pub record Answers {S : Type 0} (answers : S → Option (List ℕ) → List ℕ → S → Type 0)
    (text : List ℕ) (later : List (Option (List ℕ))) (s t : S) (printed : List ℕ) : Type 0 where
  pub parts : Parts
  pub all : turns text ≡ turns_of parts ++ later
  pub run : Run answers s parts t
  pub prints : printed ≡ printed_of parts

-- however the text goes on, its turns are some, which are answered, and those of the rest
pub record Takes {S : Type 0} (answers : S → Option (List ℕ) → List ℕ → S → Type 0)
    (text rest : List ℕ) (s t : S) (printed : List ℕ) : Type 0 where
  pub parts : Parts
  pub same : (more : List ℕ) → turns (text ++ more) ≡ turns_of parts ++ turns (rest ++ more)
  pub run : Run answers s parts t
  pub prints : printed ≡ printed_of parts

-- Why a turn isn't answered, and the state t that this leaves: one that isn't text isn't asked.
-- Nothing is said of the state where memory is out.
abbrev pub StopsBefore : {S E : Type 0} → (S → Option (List ℕ) → E → S → Type 0) → S
    → Option (List ℕ) → S → StreamError E → Type 0
StopsBefore refuses s turn t (CannotRead e) = ⊥
StopsBefore refuses s turn t NotText = (¬ IsText turn) × (t ≡ s)
StopsBefore refuses s turn t (Refused e) = refuses s turn e t
StopsBefore refuses s turn t (CannotWrite e) = ⊥
StopsBefore refuses s turn t OutOfMemory = Unit {0}

-- the same of the first turn of some
abbrev pub StopsFirst : {S E : Type 0} → (S → Option (List ℕ) → E → S → Type 0) → S
    → List (Option (List ℕ)) → S → StreamError E → Type 0
StopsFirst refuses s [] t fault = ⊥
StopsFirst refuses s (turn ∷ more) t fault = StopsBefore refuses s turn t fault

-- the first turns of a text are answered, and the next one isn't
pub record StopsAt {S E : Type 0} (answers : S → Option (List ℕ) → List ℕ → S → Type 0)
    (refuses : S → Option (List ℕ) → E → S → Type 0) (text : List ℕ) (s t : S)
    (printed : List ℕ) (fault : StreamError E) : Type 0 where
  pub later : List (Option (List ℕ))
  pub last : S
  pub first : Answers answers text later s last printed
  pub why : StopsFirst refuses last later t fault
