-- The reading of a text, computed from its tokens. A law says that it is the grammar's.
use Rattle.std.specs.Prelude.{ℕ, zero, suc, ◌+◌, ◌*◌, List, [], ◌∷◌, length, fold, Option, Some, None, Result, Ok, Err}
use Rattle.haya_entry.specs.declared.types.EntryType.{EntryType}
use Rattle.haya_entry.specs.EntryType.{in_lower_case}
use Rattle.haya_selectors.specs.declared.token.Sign.TheVariants.{LeftBracket, RightBracket, LeftParen, RightParen, Star, Comma, Chevron, Colon, Pipe, Ampersand, ExclamationMark}
use Rattle.haya_selectors.specs.Cut.{cut}
use Rattle.haya_selectors.specs.Fault.{Fault, MissingValue, MalformedAttribute, MissingComma, UnbalancedParens, UnknownEntryType}
use Rattle.haya_selectors.specs.Grammar.{type_of, Joint, Or, And, in_runs, Form, ValueForm, FactorForm, AttributesForm, BindingForm, TermForm, ExprForm}
use Rattle.haya_selectors.specs.Syntax.{Syntax, Wildcard, Entry, Neg, Binding, Attr, Ancestrage}
use Rattle.haya_selectors.specs.Token.{Token, SignToken, Word}

-- what was read and the tokens behind it, or a fault
pub data Outcome (A : Type 0) : Type 0 where
  Read : A → List Token → Outcome A
  Failed : Fault → Outcome A

abbrev pub Reader : Type 0 → Type 0
Reader A = List Token → Outcome A

-- goes on behind what was read
abbrev pub outcome_and_then : {A B : Type 0} → (A → Reader B) → Outcome A → Outcome B
outcome_and_then next (Read a ts) = next a ts
outcome_and_then next (Failed f) = Failed f

-- the same with what was read changed
abbrev pub outcome_map : {A B : Type 0} → (A → B) → Outcome A → Outcome B
outcome_map f outcome = outcome_and_then (λ a ts. Read (f a) ts) outcome

-- the names of a bracket list, behind its `[` or a `,`
abbrev pub read_names : Reader (List (List ℕ))
read_names (SignToken RightBracket ∷ ts) = Read [] ts
read_names (Word w ∷ SignToken RightBracket ∷ ts) = Read (w ∷ []) ts
read_names (Word w ∷ SignToken Comma ∷ ts) = outcome_map (λ names. w ∷ names) (read_names ts)
read_names (Word w ∷ ts) = Failed MissingComma
read_names ts = Failed MalformedAttribute

abbrev pub read_type : List ℕ → Option EntryType → Reader Syntax
read_type w None ts = Failed (UnknownEntryType (in_lower_case w))
read_type w (Some t) ts = Read (Entry t) ts

abbrev pub read_close : Syntax → Reader Syntax
read_close s (SignToken RightParen ∷ ts) = Read s ts
read_close s ts = Failed UnbalancedParens

abbrev pub read_value : Reader Syntax → Reader Syntax
read_value expr (SignToken LeftParen ∷ ts) = outcome_and_then read_close (expr ts)
read_value expr (SignToken Star ∷ ts) = Read Wildcard ts
read_value expr (Word w ∷ ts) = read_type w (type_of w) ts
read_value expr ts = Failed MissingValue

abbrev pub read_factor : Reader Syntax → Reader Syntax → Reader Syntax
read_factor factor value (SignToken ExclamationMark ∷ ts) = outcome_map Neg (factor ts)
read_factor factor value ts = value ts

abbrev pub read_list : Syntax → Reader Syntax
read_list s (SignToken LeftBracket ∷ ts) = outcome_map (Attr s) (read_names ts)
read_list s ts = Read s ts

abbrev pub read_binding : Reader Syntax → Reader Syntax
read_binding attributes (Word w ∷ SignToken Colon ∷ ts) = outcome_map (Binding w) (attributes ts)
read_binding attributes ts = attributes ts

abbrev pub joint : Token → Option Joint
joint (SignToken Pipe) = Some Or
joint (SignToken Ampersand) = Some And
joint t = None

abbrev pub read_pair : Reader Syntax → Reader (List (Joint × Syntax)) → Option Joint → Token →
    Reader (List (Joint × Syntax))
read_pair binding pairs None t ts = Read [] (t ∷ ts)
read_pair binding pairs (Some j) t ts =
    outcome_and_then (λ s rest. outcome_map (λ ps. (j, s) ∷ ps) (pairs rest)) (binding ts)

abbrev pub read_pairs : Reader Syntax → Reader (List (Joint × Syntax)) →
    Reader (List (Joint × Syntax))
read_pairs binding pairs [] = Read [] []
read_pairs binding pairs (t ∷ ts) = read_pair binding pairs (joint t) t ts

abbrev pub read_terms : Reader Syntax → Reader (List Syntax) → Reader (List Syntax)
read_terms term terms (SignToken Chevron ∷ ts) =
    outcome_and_then (λ s rest. outcome_map (λ ss. s ∷ ss) (terms rest)) (term ts)
read_terms term terms ts = Read [] ts

-- each form by the forms below it, with fuel that never runs out where it is `enough`
abbrev mutual
  pub read : ℕ → Form → Reader Syntax
  read zero form ts = Failed MissingValue
  read (suc n) ValueForm ts = read_value (read n ExprForm) ts
  read (suc n) FactorForm ts = read_factor (read n FactorForm) (read n ValueForm) ts
  read (suc n) AttributesForm ts = outcome_and_then read_list (read n FactorForm ts)
  read (suc n) BindingForm ts = read_binding (read n AttributesForm) ts
  read (suc n) TermForm ts =
      outcome_and_then (λ s rest. outcome_map (in_runs s) (pairs n rest)) (read n BindingForm ts)
  read (suc n) ExprForm ts =
      outcome_and_then (λ s rest. outcome_map (fold Ancestrage s) (terms n rest))
      (read n TermForm ts)

  pub pairs : ℕ → Reader (List (Joint × Syntax))
  pairs zero ts = Failed MissingValue
  pairs (suc n) ts = read_pairs (read n BindingForm) (pairs n) ts

  pub terms : ℕ → Reader (List Syntax)
  terms zero ts = Failed MissingValue
  terms (suc n) ts = read_terms (read n TermForm) (terms n) ts

abbrev pub rank : Form → ℕ
rank ValueForm = 0
rank FactorForm = 1
rank AttributesForm = 2
rank BindingForm = 3
rank TermForm = 4
rank ExprForm = 5

abbrev pub enough : Form → List Token → ℕ
enough form ts = suc (6 * length ts + rank form)

abbrev pub selector_or_fault : Outcome Syntax → Result Syntax Fault
selector_or_fault (Read s rest) = Ok s
selector_or_fault (Failed f) = Err f

-- the selector that the characters read as, whatever follows it, or the fault that they have
unfoldable pub selector_read : List ℕ → Result Syntax Fault
selector_read text =
    let tokens = cut None text in selector_or_fault (read (enough ExprForm tokens) ExprForm tokens)
