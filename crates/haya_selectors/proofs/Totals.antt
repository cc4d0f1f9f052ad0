-- Each form has an outcome at each list of tokens: the one that is computed.
use Rattle.std.proofs.Common.{◌≡◌, ◌≤◌, ◌<◌, ◌∷◌, ◌+◌, ◌*◌, [], List, ℕ, suc, zero, length, Option, Some, None, fold, refl, arith}
use Rattle.haya_entry.specs.declared.types.EntryType.{EntryType}
use Rattle.haya_entry.specs.EntryType.{in_lower_case}
use Rattle.haya_selectors.specs.declared.token.Sign.TheVariants.{LeftBracket, RightBracket, LeftParen, RightParen, Star, Comma, Chevron, Colon, Pipe, Ampersand, ExclamationMark}
use Rattle.haya_selectors.specs.Fault.{Fault, MissingValue, MalformedAttribute, MissingComma, UnbalancedParens, UnknownEntryType}
use Rattle.haya_selectors.specs.Grammar.{type_of, ReadsNames, closed, last_name, next_name, FailsNames, no_name, no_comma, later_name, Joint, Or, And, sign, in_runs, Form, ValueForm, FactorForm, AttributesForm, BindingForm, TermForm, ExprForm, Reads, parens, wildcard, of_type, negated, plain, no_list, with_names, named, unnamed, term, chain, ReadsPairs, no_pair, next_pair, ReadsTerms, no_term, next_term, Fails, no_value, unknown, in_parens, unbalanced, in_negated, in_plain, in_factor, in_names, in_named, in_unnamed, in_binding, in_pairs, in_term, in_terms, FailsPairs, in_pair, past_pair, FailsTerms, in_next, past_next}
use Rattle.haya_selectors.specs.Descent.{Outcome, Read, Failed, Reader, outcome_and_then, outcome_map, read_names, read_type, read_close, read_list, read, pairs, terms, rank, enough}
use Rattle.haya_selectors.specs.ReadingLaws.{Has, HasNames}
use Rattle.haya_selectors.specs.Syntax.{Syntax, Wildcard, Entry, Neg, Binding, Attr, Ancestrage}
use Rattle.haya_selectors.specs.Token.{Token, SignToken, Word, Invalid, BeginsNot, BeginsNoName}

-- what a part has is what is computed: something read, of which at most so many tokens are left, or a fault
data Ends {A : Type 0} (R : A → List Token → Type 0) (F : Fault → Type 0) (most : ℕ) : Outcome A → Type 0 where
  ends : (a : A) (rest : List Token) → R a rest → length rest ≤ most → Ends R F most (Read a rest)
  fails : (f : Fault) → F f → Ends R F most (Failed f)

-- the rest of a chain of parts
then_do : {A B : Type 0} {R : A → List Token → Type 0} {S : B → List Token → Type 0} {F G : Fault → Type 0} {m n : ℕ} {o : Outcome A} (next : A → Reader B)
    → Ends R F m o → ((f : Fault) → F f → G f) → ((a : A) (rest : List Token) → R a rest → length rest ≤ m → Ends S G n (next a rest)) → Ends S G n (outcome_and_then next o)
then_do next (ends a rest r l) h k = k a rest r l
then_do next (fails f x) h k = fails f (h f x)

-- the same part under another name
passed : {A : Type 0} {R S : A → List Token → Type 0} {F G : Fault → Type 0} {m : ℕ} {o : Outcome A}
    → Ends R F m o → ((f : Fault) → F f → G f) → ((a : A) (rest : List Token) → R a rest → S a rest) → Ends S G m o
passed (ends a rest r l) h k = ends a rest (k a rest r) l
passed (fails f x) h k = fails f (h f x)

names_end : (ts : List Token) → Ends (ReadsNames ts) (FailsNames ts) (length ts) (read_names ts)
names_end [] = fails MalformedAttribute (no_name (tt, tt))
names_end (SignToken RightBracket ∷ ts) = ends [] ts closed (omega arith)
names_end (Word w ∷ SignToken RightBracket ∷ ts) = ends (w ∷ []) ts last_name (omega arith)
names_end (Word w ∷ SignToken Comma ∷ ts) = then_do _ (names_end ts) (λ f. later_name) (λ ns rest r l. ends (w ∷ ns) rest (next_name r) (omega (arith, l)))
names_end (Word w ∷ []) = fails MissingComma (no_comma tt tt)
names_end (Word w ∷ _) = fails MissingComma (no_comma (λ e. cc) (λ e. cc))
names_end _ = fails MalformedAttribute (no_name (λ e. cc, λ w e. cc))

close_end : {ts : List Token} (s : Syntax) (rest : List Token) → Reads ExprForm ts s rest → length rest ≤ length ts
    → Ends (Reads ValueForm (SignToken LeftParen ∷ ts)) (Fails ValueForm (SignToken LeftParen ∷ ts)) (length (SignToken LeftParen ∷ ts)) (read_close s rest)
close_end s [] r l = fails UnbalancedParens (unbalanced r tt)
close_end s (SignToken RightParen ∷ rest) r l = ends s rest (parens r) (omega (arith, l))
close_end s _ r l = fails UnbalancedParens (unbalanced r (λ e. cc))

named_end : (w : List ℕ) (ts : List Token) (o : Option EntryType) → type_of w ≡ o → Ends (Reads ValueForm (Word w ∷ ts)) (Fails ValueForm (Word w ∷ ts)) (length (Word w ∷ ts)) (read_type w o ts)
named_end w ts None e = fails (UnknownEntryType (in_lower_case w)) (unknown e)
named_end w ts (Some k) e = ends (Entry k) ts (of_type e) (omega arith)

list_end : {ts : List Token} (s : Syntax) (rest : List Token) → Reads FactorForm ts s rest → length rest ≤ length ts → Ends (Reads AttributesForm ts) (Fails AttributesForm ts) (length ts) (read_list s rest)
list_end s [] r l = ends s [] (no_list r tt) l
list_end s (SignToken LeftBracket ∷ mid) r l = then_do _ (names_end mid) (λ f. in_names r) (λ ns rest x k. ends (Attr s ns) rest (with_names r x) (omega (arith, l, k)))
list_end s (t ∷ rest) r l = ends s (t ∷ rest) (no_list r (λ e. cc)) l

pair_end : (j : Joint) {ts : List Token} {o : Outcome Syntax} {later : Reader (List (Joint × Syntax))} → Ends (Reads BindingForm ts) (Fails BindingForm ts) (length ts) o
    → ((mid : List Token) → length mid ≤ length ts → Ends (ReadsPairs mid) (FailsPairs mid) (length mid) (later mid))
    → Ends (ReadsPairs (SignToken (sign j) ∷ ts)) (FailsPairs (SignToken (sign j) ∷ ts)) (length (SignToken (sign j) ∷ ts)) (outcome_and_then (λ s rest. outcome_map (λ ps. (j, s) ∷ ps) (later rest)) o)
pair_end j first others =
    then_do _ first (λ f. in_pair j) (λ s mid r b. then_do _ (others mid b) (λ f. past_pair j r) (λ ps rest x k. ends ((j, s) ∷ ps) rest (next_pair r x) (omega (arith, b, k))))

mutual
  total : (n : ℕ) (form : Form) (ts : List Token) → 6 * length ts + rank form < n → Ends (Reads form ts) (Fails form ts) (length ts) (read n form ts)
  total zero form ts l = absurd (omega (arith, l))
  total (suc n) ValueForm [] l = fails MissingValue (no_value (tt, tt, tt))
  total (suc n) ValueForm (SignToken LeftParen ∷ ts) l = then_do _ (total n ExprForm ts (omega (arith, l))) (λ f. in_parens) (λ s rest r b. close_end s rest r b)
  total (suc n) ValueForm (SignToken Star ∷ ts) l = ends Wildcard ts wildcard (omega arith)
  total (suc n) ValueForm (Word w ∷ ts) l = named_end w ts (type_of w) refl
  total (suc n) ValueForm (Invalid c ∷ ts) l = fails MissingValue (no_value (λ e. cc, λ e. cc, λ w e. cc))
  total (suc n) ValueForm (SignToken _ ∷ ts) l = fails MissingValue (no_value (λ e. cc, λ e. cc, λ w e. cc))
  total (suc n) FactorForm [] l = passed (total n ValueForm [] (omega (arith, l))) (λ f. in_plain tt) (λ s rest. plain tt)
  total (suc n) FactorForm (SignToken ExclamationMark ∷ ts) l =
      then_do _ (total n FactorForm ts (omega (arith, l))) (λ f. in_negated) (λ s rest r b. ends (Neg s) rest (negated r) (omega (arith, b)))
  total (suc n) FactorForm (t ∷ ts) l = let b : BeginsNot ExclamationMark (t ∷ ts) = λ e. cc in
      passed (total n ValueForm (t ∷ ts) (omega (arith, l))) (λ f. in_plain b) (λ s rest. plain b)
  total (suc n) BindingForm (Word w ∷ SignToken Colon ∷ ts) l =
      then_do _ (total n AttributesForm ts (omega (arith, l))) (λ f. in_named) (λ s rest r b. ends (Binding w s) rest (named r) (omega (arith, b)))
  total (suc n) BindingForm ts l = let b : BeginsNoName ts = λ w us e. cc in
      passed (total n AttributesForm ts (omega (arith, l))) (λ f. in_unnamed b) (λ s rest. unnamed b)
  total (suc n) TermForm ts l =
      then_do _ (total n BindingForm ts (omega (arith, l))) (λ f. in_binding) (λ s mid r b.
      then_do _ (total_pairs n mid (omega (arith, l, b))) (λ f. in_pairs r) (λ ps rest x k. ends (in_runs s ps) rest (term r x) (omega (arith, b, k))))
  total (suc n) AttributesForm ts l = then_do _ (total n FactorForm ts (omega (arith, l))) (λ f. in_factor) (λ s rest r b. list_end s rest r b)
  total (suc n) ExprForm ts l =
      then_do _ (total n TermForm ts (omega (arith, l))) (λ f. in_term) (λ s mid r b.
      then_do _ (total_terms n mid (omega (arith, l, b))) (λ f. in_terms r) (λ ss rest x k. ends (fold Ancestrage s ss) rest (chain r x) (omega (arith, b, k))))

  total_pairs : (n : ℕ) (ts : List Token) → 6 * length ts < n → Ends (ReadsPairs ts) (FailsPairs ts) (length ts) (pairs n ts)
  total_pairs zero ts l = absurd (omega (arith, l))
  total_pairs (suc n) [] l = ends [] [] (no_pair tt tt) (omega arith)
  total_pairs (suc n) (SignToken Pipe ∷ ts) l = pair_end Or (total n BindingForm ts (omega (arith, l))) (λ mid b. total_pairs n mid (omega (arith, l, b)))
  total_pairs (suc n) (SignToken Ampersand ∷ ts) l = pair_end And (total n BindingForm ts (omega (arith, l))) (λ mid b. total_pairs n mid (omega (arith, l, b)))
  total_pairs (suc n) (t ∷ ts) l = ends [] (t ∷ ts) (no_pair (λ e. cc) (λ e. cc)) (omega arith)

  total_terms : (n : ℕ) (ts : List Token) → 6 * length ts < n → Ends (ReadsTerms ts) (FailsTerms ts) (length ts) (terms n ts)
  total_terms zero ts l = absurd (omega (arith, l))
  total_terms (suc n) [] l = ends [] [] (no_term tt) (omega arith)
  total_terms (suc n) (SignToken Chevron ∷ ts) l =
      then_do _ (total n TermForm ts (omega (arith, l))) (λ f. in_next) (λ s mid r b.
      then_do _ (total_terms n mid (omega (arith, l, b))) (λ f. past_next r) (λ ss rest x k. ends (s ∷ ss) rest (next_term r x) (omega (arith, b, k))))
  total_terms (suc n) (t ∷ ts) l = ends [] (t ∷ ts) (no_term (λ e. cc)) (omega arith)

as_outcome : {form : Form} {ts : List Token} {m : ℕ} {o : Outcome Syntax} → Ends (Reads form ts) (Fails form ts) m o → Has form ts o
as_outcome (ends s rest r l) = r
as_outcome (fails f x) = x

names_outcome : {ts : List Token} {m : ℕ} {o : Outcome (List (List ℕ))} → Ends (ReadsNames ts) (FailsNames ts) m o → HasNames ts o
names_outcome (ends names rest r l) = r
names_outcome (fails f x) = x

-- what is computed for a bracket list is what it has
pub has_names_read : (ts : List Token) → HasNames ts (read_names ts)
has_names_read ts = names_outcome (names_end ts)

-- what is computed with enough fuel is what the form has
pub has_read : (form : Form) (ts : List Token) → Has form ts (read (enough form ts) form ts)
has_read form ts = as_outcome (total (enough form ts) form ts (omega arith))
