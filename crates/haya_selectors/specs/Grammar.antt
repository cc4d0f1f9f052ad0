-- What a list of tokens reads as, and which fault it has.
use Rattle.std.specs.Prelude.{◌≡◌, ℕ, List, [], ◌∷◌, fold, Option, Some, None}
use Rattle.haya_entry.specs.declared.types.EntryType.{EntryType}
use Rattle.haya_entry.specs.EntryType.{in_lower_case, type_read}
use Rattle.haya_selectors.specs.declared.token.Sign.{Sign}
use Rattle.haya_selectors.specs.declared.token.Sign.TheVariants.{LeftBracket, RightBracket, LeftParen, RightParen, Star, Comma, Chevron, Colon, Pipe, Ampersand, ExclamationMark}
use Rattle.haya_selectors.specs.Fault.{Fault, MissingValue, MalformedAttribute, MissingComma, UnbalancedParens, UnknownEntryType}
use Rattle.haya_selectors.specs.Syntax.{Syntax, Wildcard, Entry, Neg, Binding, Attr, Alt, Multi, Ancestrage, syntaxes}
use Rattle.haya_selectors.specs.Token.{Token, SignToken, Word, BeginsNot, BeginsNoWord, BeginsNoName}

-- the type that an identifier names, in upper or lower case
unfoldable pub type_of : List ℕ → Option EntryType
type_of w = type_read (in_lower_case w)

-- neither `(`, `*` nor an identifier stands first
abbrev pub BeginsNoValue : List Token → Type 0
BeginsNoValue ts = BeginsNot LeftParen ts × BeginsNot Star ts × BeginsNoWord ts

-- neither `]` nor an identifier stands first
abbrev pub BeginsNoItem : List Token → Type 0
BeginsNoItem ts = BeginsNot RightBracket ts × BeginsNoWord ts

-- a bracket list, behind its `[` or a `,`: the names that are left, and what follows the `]`
pub data ReadsNames : List Token → List (List ℕ) → List Token → Type 0 where
  closed : {rest : List Token} → ReadsNames (SignToken RightBracket ∷ rest) [] rest
  last_name : {w : List ℕ} {rest : List Token} →
      ReadsNames (Word w ∷ SignToken RightBracket ∷ rest) (w ∷ []) rest
  next_name : {w : List ℕ} {names : List (List ℕ)} {ts rest : List Token} →
      ReadsNames ts names rest → ReadsNames (Word w ∷ SignToken Comma ∷ ts) (w ∷ names) rest

pub data FailsNames : List Token → Fault → Type 0 where
  no_name : {ts : List Token} → BeginsNoItem ts → FailsNames ts MalformedAttribute
  no_comma : {w : List ℕ} {ts : List Token} → BeginsNot RightBracket ts → BeginsNot Comma ts →
      FailsNames (Word w ∷ ts) MissingComma
  later_name : {w : List ℕ} {ts : List Token} {f : Fault} → FailsNames ts f →
      FailsNames (Word w ∷ SignToken Comma ∷ ts) f

-- what stands between two bindings
pub data Joint : Type 0 where
  Or : Joint
  And : Joint

abbrev pub sign : Joint → Sign
sign Or = Pipe
sign And = Ampersand

abbrev pub run_syntax : Joint → List Syntax → Syntax
run_syntax Or members = Alt (syntaxes members)
run_syntax And members = Multi (syntaxes members)

-- signs, each with the binding behind it, as longest runs of one sign
abbrev pub before_runs : Joint → Syntax → List (Joint × List Syntax) → List (Joint × List Syntax)
before_runs j s [] = (j, s ∷ []) ∷ []
before_runs Or s ((Or, members) ∷ rs) = (Or, s ∷ members) ∷ rs
before_runs And s ((And, members) ∷ rs) = (And, s ∷ members) ∷ rs
before_runs j s ((k, members) ∷ rs) = (j, s ∷ []) ∷ (k, members) ∷ rs

abbrev pub runs : List (Joint × Syntax) → List (Joint × List Syntax)
runs [] = []
runs (p ∷ pairs) = before_runs p.0 p.1 (runs pairs)

-- each run makes one selector, whose first member is the selector so far
abbrev pub in_runs : Syntax → List (Joint × Syntax) → Syntax
in_runs first pairs = fold (λ so_far run. run_syntax run.0 (so_far ∷ run.1)) first (runs pairs)

pub data Form : Type 0 where
  ValueForm : Form
  FactorForm : Form
  AttributesForm : Form
  BindingForm : Form
  TermForm : Form
  ExprForm : Form

-- The form reads the front of the tokens as a selector, and leaves the rest.
mutual
  pub data Reads : Form → List Token → Syntax → List Token → Type 0 where
    parens : {ts rest : List Token} {s : Syntax} →
        Reads ExprForm ts s (SignToken RightParen ∷ rest) →
        Reads ValueForm (SignToken LeftParen ∷ ts) s rest
    wildcard : {rest : List Token} → Reads ValueForm (SignToken Star ∷ rest) Wildcard rest
    of_type : {w : List ℕ} {t : EntryType} {rest : List Token} → type_of w ≡ Some t →
        Reads ValueForm (Word w ∷ rest) (Entry t) rest
    negated : {ts rest : List Token} {s : Syntax} → Reads FactorForm ts s rest →
        Reads FactorForm (SignToken ExclamationMark ∷ ts) (Neg s) rest
    plain : {ts rest : List Token} {s : Syntax} → BeginsNot ExclamationMark ts →
        Reads ValueForm ts s rest → Reads FactorForm ts s rest
    no_list : {ts rest : List Token} {s : Syntax} → Reads FactorForm ts s rest →
        BeginsNot LeftBracket rest → Reads AttributesForm ts s rest
    with_names : {ts mid rest : List Token} {s : Syntax} {names : List (List ℕ)} →
        Reads FactorForm ts s (SignToken LeftBracket ∷ mid) → ReadsNames mid names rest →
        Reads AttributesForm ts (Attr s names) rest
    named : {w : List ℕ} {ts rest : List Token} {s : Syntax} → Reads AttributesForm ts s rest →
        Reads BindingForm (Word w ∷ SignToken Colon ∷ ts) (Binding w s) rest
    unnamed : {ts rest : List Token} {s : Syntax} → BeginsNoName ts →
        Reads AttributesForm ts s rest → Reads BindingForm ts s rest
    term : {ts mid rest : List Token} {s : Syntax} {pairs : List (Joint × Syntax)} →
        Reads BindingForm ts s mid → ReadsPairs mid pairs rest →
        Reads TermForm ts (in_runs s pairs) rest
    chain : {ts mid rest : List Token} {s : Syntax} {terms : List Syntax} →
        Reads TermForm ts s mid → ReadsTerms mid terms rest →
        Reads ExprForm ts (fold Ancestrage s terms) rest

  -- any number of signs, each with a binding behind it, and no further sign
  pub data ReadsPairs : List Token → List (Joint × Syntax) → List Token → Type 0 where
    no_pair : {rest : List Token} → BeginsNot Pipe rest → BeginsNot Ampersand rest →
        ReadsPairs rest [] rest
    next_pair :
        {j : Joint} {ts mid rest : List Token} {s : Syntax} {pairs : List (Joint × Syntax)} →
        Reads BindingForm ts s mid → ReadsPairs mid pairs rest
        → ReadsPairs (SignToken (sign j) ∷ ts) ((j, s) ∷ pairs) rest

  -- any number of `>`, each with a term behind it, and no further `>`
  pub data ReadsTerms : List Token → List Syntax → List Token → Type 0 where
    no_term : {rest : List Token} → BeginsNot Chevron rest → ReadsTerms rest [] rest
    next_term : {ts mid rest : List Token} {s : Syntax} {terms : List Syntax} →
        Reads TermForm ts s mid → ReadsTerms mid terms rest →
        ReadsTerms (SignToken Chevron ∷ ts) (s ∷ terms) rest

-- The form fails as its first part that fails, the parts before it having been read.
mutual
  pub data Fails : Form → List Token → Fault → Type 0 where
    no_value : {ts : List Token} → BeginsNoValue ts → Fails ValueForm ts MissingValue
    unknown : {w : List ℕ} {ts : List Token} → type_of w ≡ None →
        Fails ValueForm (Word w ∷ ts) (UnknownEntryType (in_lower_case w))
    in_parens : {ts : List Token} {f : Fault} → Fails ExprForm ts f →
        Fails ValueForm (SignToken LeftParen ∷ ts) f
    unbalanced : {ts rest : List Token} {s : Syntax} → Reads ExprForm ts s rest →
        BeginsNot RightParen rest → Fails ValueForm (SignToken LeftParen ∷ ts) UnbalancedParens
    in_negated : {ts : List Token} {f : Fault} → Fails FactorForm ts f →
        Fails FactorForm (SignToken ExclamationMark ∷ ts) f
    in_plain : {ts : List Token} {f : Fault} → BeginsNot ExclamationMark ts → Fails ValueForm ts f →
        Fails FactorForm ts f
    in_factor : {ts : List Token} {f : Fault} → Fails FactorForm ts f → Fails AttributesForm ts f
    in_names : {ts mid : List Token} {s : Syntax} {f : Fault} →
        Reads FactorForm ts s (SignToken LeftBracket ∷ mid) → FailsNames mid f →
        Fails AttributesForm ts f
    in_named : {w : List ℕ} {ts : List Token} {f : Fault} → Fails AttributesForm ts f →
        Fails BindingForm (Word w ∷ SignToken Colon ∷ ts) f
    in_unnamed : {ts : List Token} {f : Fault} → BeginsNoName ts → Fails AttributesForm ts f →
        Fails BindingForm ts f
    in_binding : {ts : List Token} {f : Fault} → Fails BindingForm ts f → Fails TermForm ts f
    in_pairs : {ts mid : List Token} {s : Syntax} {f : Fault} → Reads BindingForm ts s mid →
        FailsPairs mid f → Fails TermForm ts f
    in_term : {ts : List Token} {f : Fault} → Fails TermForm ts f → Fails ExprForm ts f
    in_terms : {ts mid : List Token} {s : Syntax} {f : Fault} → Reads TermForm ts s mid →
        FailsTerms mid f → Fails ExprForm ts f

  pub data FailsPairs : List Token → Fault → Type 0 where
    in_pair : (j : Joint) {ts : List Token} {f : Fault} → Fails BindingForm ts f →
        FailsPairs (SignToken (sign j) ∷ ts) f
    past_pair : (j : Joint) {ts mid : List Token} {s : Syntax} {f : Fault} →
        Reads BindingForm ts s mid → FailsPairs mid f → FailsPairs (SignToken (sign j) ∷ ts) f

  pub data FailsTerms : List Token → Fault → Type 0 where
    in_next : {ts : List Token} {f : Fault} → Fails TermForm ts f →
        FailsTerms (SignToken Chevron ∷ ts) f
    past_next : {ts mid : List Token} {s : Syntax} {f : Fault} → Reads TermForm ts s mid →
        FailsTerms mid f → FailsTerms (SignToken Chevron ∷ ts) f
