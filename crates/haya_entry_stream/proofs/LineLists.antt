-- The entries of a text in lines, turn by turn.
use Rattle.std.proofs.Common.{◌≡◌, inl, inr, ℕ, ◌+◌, Bool, false, List, [], ◌∷◌, ◌++◌, Option, None, Some, Ok, length, length-append, arith}
use Rattle.std.specs.Prelude.{option_to_list}
use Rattle.std.specs.Io.KnownBytes.{IsAtEnd}
use Rattle.std.specs.Str.Lines.{lines}
use Rattle.hayagriva.specs.Tree.{Tree, trees}
use Rattle.haya_line_library.specs.Chain as chain
use Rattle.haya_line_library.specs.Input.{rows_of_all, rows_read}
use Rattle.haya_line_library.specs.Opened.{Opened}
use Rattle.haya_line_library.specs.declared.error.InputError.{InputError}
use Rattle.haya_line_library.proofs.Takings.{Taken-end, Taken-fault, Taken-line, Taken-start}
use Rattle.haya_line_stream.specs.Answered as stream
use Rattle.haya_line_stream.specs.Streamed as streamed
use Rattle.haya_line_stream.specs.declared.error.StreamError.{StreamError}
use Rattle.haya_entry_stream.specs.Listed.{AnswersEnough, AnswersList, AnswersPart}
use Rattle.haya_entry_stream.specs.Lines.{AnswersClosed, AnswersTurn, BeginsList, IsFaultOf, IsListOf, RefusesTurn}
use Rattle.haya_entry_stream.specs.declared.error.ListError.{ListError}
use Rattle.haya_entry_stream.specs.declared.error.ListError.TheVariants.{Line}
use Rattle.haya_entry_stream.proofs.Inputs.{list_all, list_enough, list_part}
use Rattle.haya_entry_stream.proofs.Lists.{Replied, no_reply, one_reply}

module _ {S A : Type 0} (number : S → ℕ) (opened : S → Opened) (state : S → A) (answers : A → Tree → List ℕ → A → Type 0) (is_done : A → Bool) where
  -- what a turn prints, and leaves
  abbrev pub Turn : S → Option (List ℕ) → List ℕ → S → Type 0
  Turn s turn printed t = (number t ≡ number s + 1) × AnswersTurn answers (opened s).chain (state s) turn printed (opened t) (state t)

  -- lines are taken, which closed the entries that were given
  record Taken (before : List (List ℕ)) (given : List Tree) (s : S) : Type 0 where
    taken : chain.Taken before given (opened s).chain
    count : number s ≡ length before

  none_taken : (s : S) → number s ≡ 0 → (opened s).chain ≡ [] → Taken [] [] s
  none_taken s zero none = record { taken = rw none Taken-start; count = zero }

  abbrev Whole : List (List ℕ) → List Tree → S → Type 0
  Whole ls given t = rows_read 1 0 ls ≡ Ok (rows_of_all 0 (trees given))

  closes : (closed : Option Tree) (s t : A) (printed : List ℕ) (P : List Tree → Type 0) → is_done s ≡ false → AnswersClosed answers s closed printed t → P (option_to_list closed)
      → Replied answers is_done s t printed P
  closes None s t printed P more answer holds = no_reply answers is_done s t printed P answer.0 answer.1 holds
  closes (Some entry) s t printed P more answer holds = one_reply answers is_done s t entry printed P more answer holds

  at_line : (before : List (List ℕ)) (given : List Tree) (s t : S) (line printed : List ℕ) → is_done (state s) ≡ false → Taken before given s → Turn s (Some line) printed t
      → Replied answers is_done (state s) (state t) printed (λ closed. Taken (before ++ line ∷ []) (given ++ closed) t)
  at_line before given s t line printed more taken turn =
      closes (opened t).closed (state s) (state t) printed (λ closed. Taken (before ++ line ∷ []) (given ++ closed) t) more turn.1.closed
      (record {
        taken = Taken-line before given (opened s).chain taken.taken line (opened t) turn.1.takes;
        count = rw (length-append before (line ∷ [])) (let one = turn.0 in let n = taken.count in omega arith);
      })

  at_end : (before : List (List ℕ)) (given : List Tree) (s t : S) (printed : List ℕ) → is_done (state s) ≡ false → Taken before given s → Turn s None printed t
      → Replied answers is_done (state s) (state t) printed (λ closed. Whole before (given ++ closed) t)
  at_end before given s t printed more taken turn =
      closes (opened t).closed (state s) (state t) printed (λ closed. Whole before (given ++ closed) t) more turn.1.closed
      (Taken-end before given (opened s).chain taken.taken (opened t) turn.1.takes)

  begins : (left : Option (List ℕ)) (text : List ℕ) (first more : List (List ℕ)) (given : List Tree) (t : S) → lines text ≡ first ++ more → Taken first given t → BeginsList left text given
  begins left text first more given t parts taken = inl (record { first = first; more = more; open_entries = (opened t).chain; parts = parts; taken = taken.taken })

  ends : (left : Option (List ℕ)) (text : List ℕ) (given : List Tree) (t : S) → IsAtEnd left → Whole (lines text) given t → BeginsList left text given
  ends left text given t at_end whole = inr (at_end, whole)

  abbrev Asks : S → Option (List ℕ) → List ℕ → S → Type 0
  Asks = stream.Asked (λ s. is_done (state s)) Turn

  module _ (s : S) (zero : number s ≡ 0) (none : (opened s).chain ≡ []) where
    module _ (t : S) (unread left before after : Option (List ℕ)) where
      pub lines_all : streamed.AnswersAll Asks s t unread left before after → AnswersList IsListOf answers is_done (state s) (state t) unread left before after
      lines_all =
          list_all state answers is_done Turn Taken Whole at_line at_end s (none_taken s zero none) t unread left before after IsListOf (λ text given whole. whole)

      pub lines_enough : streamed.AnswersEnough Asks (λ u. is_done (state u)) s t unread left before after
          → AnswersEnough BeginsList answers is_done (state s) (state t) unread left before after
      lines_enough =
          list_enough state answers is_done Turn Taken Whole at_line at_end s (none_taken s zero none) t unread left before after BeginsList
          (λ text first more given. begins left text first more given t) (λ text given. ends left text given t)

    module _ {E : Type 0} (refuses : A → Tree → E → Type 0) where
      abbrev Refuses : S → Option (List ℕ) → ListError InputError E → S → Type 0
      Refuses u turn e v = RefusesTurn refuses (number u + 1) (opened u).chain (state u) turn e (state v)

      line_fault : (v : S) (text : List ℕ) (first : List (List ℕ)) (line : List ℕ) (more : List (List ℕ)) (given : List Tree) (t : S) (e : InputError) → lines text ≡ first ++ line ∷ more → Taken first given t
          → Refuses t (Some line) (Line e) v → IsFaultOf text e
      line_fault v text first line more given t e parts taken why =
          rw parts (Taken-fault first given (opened t).chain taken.taken line more e (rw (← taken.count) why.0))

      pub lines_part : (v : S) (unread left before after : Option (List ℕ)) (fault : StreamError (ListError InputError E)) → streamed.AnswersPart Asks Refuses s v unread left before after fault
          → AnswersPart BeginsList IsFaultOf (λ _ _ _. Unit {0}) answers is_done refuses (state s) (state v) unread left before after fault
      lines_part v =
          list_part state answers is_done Turn Taken Whole at_line at_end s (none_taken s zero none) BeginsList begins ends IsFaultOf refuses Refuses v (line_fault v)
          (λ text t e why. inl why.0) (λ turn t e why. (why.entry, why.refused)) (λ turn t e why. why.1) (λ _ _ _. Unit {0})
          (λ text first more given t unwritten fault parts taken why. tt) (λ text given t unwritten fault whole why. tt)
