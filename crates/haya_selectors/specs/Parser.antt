-- What the functions of the parser may answer.
use Rattle.std.specs.Prelude.{◌≡◌, ℕ, zero, suc, List, [], ◌∷◌, map, IfSome, Result, Ok, Err, Vec, String, string_bytes}
use Rattle.std.specs.declared.alloc.Global.{Global}
use Rattle.haya_selectors.specs.declared.selector.Selector.{Selector}
use Rattle.haya_selectors.specs.declared.selector.SelectorError.{SelectorError}
use Rattle.haya_selectors.specs.declared.token.Sign.{Sign}
use Rattle.haya_selectors.specs.declared.token.Sign.TheVariants.{ExclamationMark}
use Rattle.haya_selectors.specs.Fault.{Fault, fault}
use Rattle.haya_selectors.specs.Grammar.{Form, BindingForm, Reads, Fails, ReadsNames, FailsNames}
use Rattle.haya_selectors.specs.Syntax.{Syntax, syntax}
use Rattle.haya_selectors.specs.Token.{Token, SignToken, BeginsNot}

-- for a form, between two lists of tokens
abbrev pub Gives : Form → List Token → List Token → Result Selector SelectorError → Type 0
Gives form before after (Ok s) = Reads form before (syntax s) after
Gives form before after (Err e) = IfSome (fault e) (Fails form before)

-- for a bracket list
abbrev pub GivesNames : List Token → List Token →
    Result (Vec (String Global) Global) SelectorError → Type 0
GivesNames before after (Ok names) = ReadsNames before (map string_bytes names.items) after
GivesNames before after (Err e) = IfSome (fault e) (FailsNames before)

-- bindings with one sign between, as many as there are
pub data ReadsRun (sign : Sign) : List Token → List Syntax → List Token → Type 0 where
  run_end : {ts rest : List Token} {s : Syntax} → Reads BindingForm ts s rest →
      BeginsNot sign rest → ReadsRun sign ts (s ∷ []) rest
  run_on : {ts mid rest : List Token} {s : Syntax} {members : List Syntax} →
      Reads BindingForm ts s (SignToken sign ∷ mid) → ReadsRun sign mid members rest →
      ReadsRun sign ts (s ∷ members) rest

pub data FailsRun (sign : Sign) : List Token → Fault → Type 0 where
  in_member : {ts : List Token} {f : Fault} → Fails BindingForm ts f → FailsRun sign ts f
  past_member : {ts mid : List Token} {s : Syntax} {f : Fault} →
      Reads BindingForm ts s (SignToken sign ∷ mid) → FailsRun sign mid f → FailsRun sign ts f

-- for such a run, with the member before its first sign in front
abbrev pub GivesRun : Sign → Syntax → List Token → List Token →
    Result (Vec Selector Global) SelectorError → Type 0
GivesRun sign first before after (Ok members) =
    (others : List Syntax) × (map syntax members.items ≡ first ∷ others) ×
    ReadsRun sign before others after
GivesRun sign first before after (Err e) = IfSome (fault e) (FailsRun sign before)

-- tokens behind so many `!`
abbrev pub after_signs : ℕ → List Token → List Token
after_signs zero ts = ts
after_signs (suc n) ts = after_signs n (SignToken ExclamationMark ∷ ts)
