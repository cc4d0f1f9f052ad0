-- What the loops of the parser keep.
use Rattle.std.proofs.Common.{◌≡◌, ◌≤◌, ◌∷◌, ◌++◌, [], List, ℕ, length, Option, Some, None, Result, Ok, Err, IfOk, IfErr, zero, suc, Vec, Global, ◌≢◌, map, fold, sym, subst, refl, ap, ◌∙◌, arith, append_assoc, append-nil}
use Rattle.std.specs.Option.{IfSome}
use Rattle.haya_entry.specs.declared.types.EntryType.{EntryType}
use Rattle.haya_entry.specs.EntryType.{in_lower_case, type_read}
use Rattle.haya_selectors.specs.declared.token.Sign.{Sign}
use Rattle.haya_selectors.specs.declared.token.Sign.TheVariants.{RightBracket, LeftParen, Comma, Chevron, Colon, ExclamationMark}
use Rattle.haya_selectors.specs.declared.selector.Selector.{Selector}
use Rattle.haya_selectors.specs.declared.selector.Selector.TheVariants as variant
use Rattle.haya_selectors.specs.declared.selector.SelectorError.{SelectorError}
use Rattle.haya_selectors.specs.Fault.{Fault, fault, MalformedAttribute, MissingComma, UnknownEntryType}
use Rattle.haya_selectors.specs.Grammar.{type_of, ReadsNames, closed, last_name, next_name, FailsNames, no_name, no_comma, later_name, Joint, Or, And, sign, run_syntax, before_runs, runs, in_runs, ValueForm, FactorForm, AttributesForm, BindingForm, TermForm, ExprForm, Reads, of_type, negated, plain, unnamed, term, chain, ReadsPairs, no_pair, next_pair, ReadsTerms, next_term, Fails, unknown, in_negated, in_plain, in_unnamed, in_pairs, in_terms, FailsPairs, in_pair, past_pair, FailsTerms, past_next}
use Rattle.haya_selectors.specs.Parser.{Gives, after_signs, ReadsRun, run_end, run_on, FailsRun, in_member, past_member}
use Rattle.haya_selectors.specs.Syntax.{Syntax, Neg, Ancestrage, Alt, Multi, negations, syntax, syntaxes}
use Rattle.haya_selectors.specs.Token.{Token, SignToken, Word, BeginsNot, BeginsNoWord, BeginsNoName}
use Rattle.haya_selectors.proofs.Syntaxes.{syntax-entry, syntax-alt, syntax-multi}

-- whatever is read or fails from here on is read or fails from the start
pub record NamesSoFar (start now : List Token) (names : List (List ℕ)) : Type 0 where
  pub reads : (others : List (List ℕ)) (rest : List Token) → ReadsNames now others rest → ReadsNames start (names ++ others) rest
  pub fails : (f : Fault) → FailsNames now f → FailsNames start f
  pub shorter : length now ≤ length start

pub record TermsSoFar (start now : List Token) (left : Syntax) : Type 0 where
  pub reads : (terms : List Syntax) (rest : List Token) → ReadsTerms now terms rest → Reads ExprForm start (fold Ancestrage left terms) rest
  pub fails : (f : Fault) → FailsTerms now f → Fails ExprForm start f

pub record PairsSoFar (start now : List Token) (left : Syntax) : Type 0 where
  pub reads : (pairs : List (Joint × Syntax)) (rest : List Token) → ReadsPairs now pairs rest → Reads TermForm start (in_runs left pairs) rest
  pub fails : (f : Fault) → FailsPairs now f → Fails TermForm start f

pub record RunSoFar (between : Sign) (first : Syntax) (start now : List Token) (members : List Syntax) : Type 0 where
  pub others : List Syntax
  pub are : members ≡ first ∷ others
  pub reads : (ss : List Syntax) (rest : List Token) → ReadsRun between now ss rest → ReadsRun between start (others ++ ss) rest
  pub fails : (f : Fault) → FailsRun between now f → FailsRun between start f
  pub shorter : length now ≤ length start

-- a fault of a part, as one of the whole
pub of_part : {P Q : Fault → Type 0} → ((f : Fault) → P f → Q f) → (o : Option Fault) → IfSome o P → IfSome o Q
of_part h None p = tt
of_part h (Some f) p = h f p

module _ {start now : List Token} {names : List (List ℕ)} (h : NamesSoFar start now names) where
  pub names_closed : {rest : List Token} → now ≡ SignToken RightBracket ∷ rest → ReadsNames start names rest
  names_closed {rest} e = rw append-nil at (h.reads [] rest (rw e closed))

  pub names_none : {now' : List Token} → BeginsNot RightBracket now → now' ≡ now → BeginsNoWord now' → FailsNames start MalformedAttribute
  names_none b e w = h.fails _ (no_name (b, rw e at w))

  pub names_last : {now' mid rest : List Token} {w : List ℕ} → now' ≡ now → now' ≡ Word w ∷ mid → mid ≡ SignToken RightBracket ∷ rest → ReadsNames start (names ++ w ∷ []) rest
  names_last e f g = h.reads _ _ (rw (sym e ∙ f, g) last_name)

  pub names_no_comma : {now' mid mid' : List Token} {w : List ℕ} → now' ≡ now → now' ≡ Word w ∷ mid → BeginsNot RightBracket mid → mid' ≡ mid → BeginsNot Comma mid' → FailsNames start MissingComma
  names_no_comma e f b g k = h.fails _ (rw (sym e ∙ f) (no_comma b (rw g at k)))

  pub names_next : {now' mid mid' rest : List Token} {w : List ℕ} → now' ≡ now → now' ≡ Word w ∷ mid → mid' ≡ mid → mid' ≡ SignToken Comma ∷ rest → NamesSoFar start rest (names ++ w ∷ [])
  names_next {w = w} e f g k = record {
    reads = λ others rest r. rw append_assoc (h.reads (w ∷ others) rest (rw (sym e ∙ f, sym g ∙ k) (next_name r)));
    fails = λ x r. h.fails x (rw (sym e ∙ f, sym g ∙ k) (later_name r));
    shorter = omega (arith, h.shorter, ap length (sym e ∙ f), ap length (sym g ∙ k));
  }

pub terms_from : {start now : List Token} {left : Syntax} → Reads TermForm start left now → TermsSoFar start now left
terms_from r = record { reads = λ terms rest m. chain r m; fails = λ f m. in_terms r m }

pub terms_next : {start now mid after : List Token} {left right : Syntax} → TermsSoFar start now left → now ≡ SignToken Chevron ∷ mid → Reads TermForm mid right after → TermsSoFar start after (Ancestrage left right)
terms_next {right = right} h e r = record {
  reads = λ terms rest m. h.reads (right ∷ terms) rest (rw e (next_term r m));
  fails = λ f m. h.fails f (rw e (past_next r m));
}

-- results of a part, as results of the whole
pub word_value : {ts ts' : List Token} {w : List ℕ} (rest : List Token) (r : Result Selector SelectorError) → ts' ≡ ts → ts' ≡ Word w ∷ rest → Gives ValueForm (Word w ∷ rest) rest r → Gives ValueForm ts rest r
word_value rest r e f h = rw (sym e ∙ f) h

pub leaf_value : {ts ts' : List Token} (rest : List Token) (r : Result Selector SelectorError) → BeginsNot LeftParen ts → ts' ≡ ts → (BeginsNot LeftParen ts' → Gives ValueForm ts' rest r) → Gives ValueForm ts rest r
leaf_value rest r b e h = rw e at (h (rw e b))

pub type_read_at : (w name low : List ℕ) (t : EntryType) (rest : List Token) → name ≡ low → low ≡ in_lower_case w → Some t ≡ type_read name → Reads ValueForm (Word w ∷ rest) (syntax (variant.Entry t)) rest
unfolding type_of
type_read_at w name low t rest e l r = rw (syntax-entry t) (of_type (ap type_read (sym l ∙ sym e) ∙ sym r))

pub type_unknown_at : (w name low : List ℕ) (rest : List Token) → name ≡ low → low ≡ in_lower_case w → None ≡ type_read name → Fails ValueForm (Word w ∷ rest) (UnknownEntryType low)
unfolding type_of
type_unknown_at w name low rest e l r = rw l (unknown (ap type_read (sym l ∙ sym e) ∙ sym r))

-- a value behind signs
signs_read : (n : ℕ) (ts after : List Token) (s : Syntax) → Reads FactorForm ts s after → Reads FactorForm (after_signs n ts) (negations n s) after
signs_read zero ts after s r = r
signs_read (suc n) ts after s r = signs_read n (SignToken ExclamationMark ∷ ts) after (Neg s) (negated r)

signs_fail : (n : ℕ) (ts : List Token) (f : Fault) → Fails FactorForm ts f → Fails FactorForm (after_signs n ts) f
signs_fail zero ts f r = r
signs_fail (suc n) ts f r = signs_fail n (SignToken ExclamationMark ∷ ts) f (in_negated r)

pub value_fails : (n : ℕ) (ts : List Token) (o : Option Fault) → BeginsNot ExclamationMark ts → IfSome o (Fails ValueForm ts) → IfSome o (Fails FactorForm (after_signs n ts))
value_fails n ts o b r = of_part (λ f q. signs_fail n ts f (in_plain b q)) o r

pub value_negated : (n : ℕ) (ts after : List Token) (s : Syntax) (r : Result Selector SelectorError) → BeginsNot ExclamationMark ts → Reads ValueForm ts s after
    → IfOk r (λ t. syntax t ≡ negations n s) → IfErr r (λ e. fault e ≡ None) → Gives FactorForm (after_signs n ts) after r
value_negated n ts after s (Ok t) b q is none = rw is (signs_read n ts after s (plain b q))
value_negated n ts after s (Err x) b q is none = rw none tt

-- tokens that are known by equations
pub factor_at : {start now now' : List Token} (n : ℕ) (after : List Token) (r : Result Selector SelectorError) → start ≡ after_signs n now → now' ≡ now → Gives FactorForm (after_signs n now') after r → Gives FactorForm start after r
factor_at n after r d e h = rw (d, ← e) h

pub value_at : {start mid : List Token} (after : List Token) (r : Result Selector SelectorError) → start ≡ SignToken LeftParen ∷ mid → Gives ValueForm (SignToken LeftParen ∷ mid) after r → Gives ValueForm start after r
value_at after r e h = rw e h

pub binding_at : {start mid : List Token} {w : List ℕ} (after : List Token) (r : Result Selector SelectorError) → start ≡ Word w ∷ SignToken Colon ∷ mid → Gives BindingForm (Word w ∷ SignToken Colon ∷ mid) after r → Gives BindingForm start after r
binding_at after r e h = rw e h

pub binding_attributes : {ts ts' : List Token} (after : List Token) (r : Result Selector SelectorError) → BeginsNoName ts → ts' ≡ ts → Gives AttributesForm ts' after r → Gives BindingForm ts after r
binding_attributes after (Ok s) b e h = unnamed b (rw e at h)
binding_attributes after (Err x) b e h = of_part (λ f. in_unnamed b) _ (rw e at h)

module _ {between : Sign} {first : Syntax} {start now : List Token} {members : List Syntax} (h : RunSoFar between first start now members) where
  pub run_closed : {s : Syntax} {mid mid' : List Token} → Reads BindingForm now s mid → BeginsNot between mid → mid' ≡ mid → (ss : List Syntax) × (members ++ s ∷ [] ≡ first ∷ ss) × ReadsRun between start ss mid'
  run_closed {s = s} r b e = (h.others ++ s ∷ [], ap (λ v. v ++ s ∷ []) h.are, rw e (h.reads (s ∷ []) _ (run_end r b)))

  pub run_next : {s : Syntax} {mid rest : List Token} → Reads BindingForm now s mid → length mid ≤ length now → mid ≡ SignToken between ∷ rest → RunSoFar between first start rest (members ++ s ∷ [])
  run_next {s = s} r l e = record {
    others = h.others ++ s ∷ [];
    are = ap (λ v. v ++ s ∷ []) h.are;
    reads = λ ss rest m. rw append_assoc (h.reads (s ∷ ss) rest (run_on (rw e at r) m));
    fails = λ f m. h.fails f (past_member (rw e at r) m);
    shorter = omega (arith, h.shorter, l, ap length e);
  }

pub pairs_from : {start now : List Token} {left : Syntax} → Reads BindingForm start left now → PairsSoFar start now left
pairs_from r = record { reads = λ pairs rest p. term r p; fails = λ f p. in_pairs r p }

-- a run of one sign, as pairs
abbrev pub pairs_of : Joint → List Syntax → List (Joint × Syntax)
pairs_of j ss = map (λ s. (j, s)) ss

run_pairs : (j : Joint) {ts mid rest : List Token} {ss : List Syntax} {pairs : List (Joint × Syntax)} → ReadsRun (sign j) ts ss mid → ReadsPairs mid pairs rest → ReadsPairs (SignToken (sign j) ∷ ts) (pairs_of j ss ++ pairs) rest
run_pairs j (run_end r b) p = next_pair r p
run_pairs j (run_on r m) p = next_pair r (run_pairs j m p)

run_fails_pairs : (j : Joint) {ts : List Token} {f : Fault} → FailsRun (sign j) ts f → FailsPairs (SignToken (sign j) ∷ ts) f
run_fails_pairs j (in_member r) = in_pair j r
run_fails_pairs j (past_member r m) = past_pair j r (run_fails_pairs j m)

past_run : (j : Joint) {ts mid : List Token} {ss : List Syntax} {f : Fault} → ReadsRun (sign j) ts ss mid → FailsPairs mid f → FailsPairs (SignToken (sign j) ∷ ts) f
past_run j (run_end r b) p = past_pair j r p
past_run j (run_on r m) p = past_pair j r (past_run j m p)

run_stops : {between : Sign} {ts mid : List Token} {ss : List Syntax} → ReadsRun between ts ss mid → BeginsNot between mid
run_stops (run_end r b) = b
run_stops (run_on r m) = run_stops m

abbrev NotFirst : Joint → List (Joint × Syntax) → Type 0
NotFirst j [] = Unit {0}
NotFirst j (p ∷ pairs) = j ≢ p.0

pairs_first : (j : Joint) {mid rest : List Token} {pairs : List (Joint × Syntax)} → ReadsPairs mid pairs rest → BeginsNot (sign j) mid → NotFirst j pairs
pairs_first j (no_pair a b) n = tt
pairs_first j (next_pair r p) n = λ e. n (ap (λ k. SignToken (sign k)) (sym e))

other_run : (j k : Joint) (s : Syntax) (ss : List Syntax) (rs : List (Joint × List Syntax)) → j ≢ k → before_runs j s ((k, ss) ∷ rs) ≡ (j, s ∷ []) ∷ (k, ss) ∷ rs
other_run Or Or s ss rs n = absurd (n refl)
other_run And And s ss rs n = absurd (n refl)
other_run Or And s ss rs n = refl
other_run And Or s ss rs n = refl

same_run : (j : Joint) (s : Syntax) (ss : List Syntax) (rs : List (Joint × List Syntax)) → before_runs j s ((j, ss) ∷ rs) ≡ (j, s ∷ ss) ∷ rs
same_run Or s ss rs = refl
same_run And s ss rs = refl

-- a run in front begins with its sign
front_run : (k : Joint) (t : Syntax) (rs : List (Joint × List Syntax)) → (ss : List Syntax) × (qs : List (Joint × List Syntax)) × (before_runs k t rs ≡ (k, ss) ∷ qs)
front_run k t [] = (t ∷ [], [], refl)
front_run Or t ((Or, ss) ∷ rs) = (t ∷ ss, rs, refl)
front_run And t ((And, ss) ∷ rs) = (t ∷ ss, rs, refl)
front_run Or t ((And, ss) ∷ rs) = (t ∷ [], (And, ss) ∷ rs, refl)
front_run And t ((Or, ss) ∷ rs) = (t ∷ [], (Or, ss) ∷ rs, refl)

last_run : (j : Joint) (s : Syntax) (pairs : List (Joint × Syntax)) → NotFirst j pairs → before_runs j s (runs pairs) ≡ (j, s ∷ []) ∷ runs pairs
last_run Or s [] n = refl
last_run And s [] n = refl
last_run j s (p ∷ pairs) n =
    let f = front_run p.0 p.1 (runs pairs) in rw f.2 (other_run j p.0 s f.0 f.1 n)

pub runs_run : (j : Joint) (s : Syntax) (ss : List Syntax) (pairs : List (Joint × Syntax)) → NotFirst j pairs → runs (pairs_of j (s ∷ ss) ++ pairs) ≡ (j, s ∷ ss) ∷ runs pairs
runs_run j s [] pairs n = last_run j s pairs n
runs_run j s (t ∷ ss) pairs n = ap (before_runs j s) (runs_run j t ss pairs n) ∙ same_run j s (t ∷ ss) (runs pairs)

one_run : (j : Joint) {ts mid : List Token} {ss : List Syntax} → ReadsRun (sign j) ts ss mid → (left : Syntax) (pairs : List (Joint × Syntax)) → NotFirst j pairs → in_runs left (pairs_of j ss ++ pairs) ≡ in_runs (run_syntax j (left ∷ ss)) pairs
one_run j (run_end {s = s} r b) left pairs n = ap (fold (λ so_far run. run_syntax run.0 (so_far ∷ run.1)) left) (runs_run j s [] pairs n)
one_run j (run_on {s = s} {members = ss} r m) left pairs n = ap (fold (λ so_far run. run_syntax run.0 (so_far ∷ run.1)) left) (runs_run j s ss pairs n)

module _ (j : Joint) {start now ts : List Token} {left : Syntax} (h : PairsSoFar start now left) (e : now ≡ SignToken (sign j) ∷ ts) where
  pub pairs_next : {mid : List Token} {ss : List Syntax} → ReadsRun (sign j) ts ss mid → PairsSoFar start mid (run_syntax j (left ∷ ss))
  pairs_next {ss = ss} r = record {
    reads = λ pairs rest p. rw (← one_run j r left pairs (pairs_first j p (run_stops r))) (h.reads (pairs_of j ss ++ pairs) rest (rw e (run_pairs j r p)));
    fails = λ f p. h.fails f (rw e (past_run j r p));
  }

  pub run_fails : {f : Fault} → FailsRun (sign j) ts f → Fails TermForm start f
  run_fails r = h.fails _ (rw e (run_fails_pairs j r))

-- the run that was read is a selector's members
pub alt_next : {start mid : List Token} {left : Syntax} {ss : List Syntax} (v : Vec Selector Global) → map syntax v.items ≡ left ∷ ss → PairsSoFar start mid (run_syntax Or (left ∷ ss)) → PairsSoFar start mid (syntax (variant.Alt v))
alt_next {start} {mid} v e n = subst (λ x. PairsSoFar start mid x) (sym (syntax-alt v ∙ ap (λ l. Alt (syntaxes l)) e)) n

pub multi_next : {start mid : List Token} {left : Syntax} {ss : List Syntax} (v : Vec Selector Global) → map syntax v.items ≡ left ∷ ss → PairsSoFar start mid (run_syntax And (left ∷ ss)) → PairsSoFar start mid (syntax (variant.Multi v))
multi_next {start} {mid} v e n = subst (λ x. PairsSoFar start mid x) (sym (syntax-multi v ∙ ap (λ l. Multi (syntaxes l)) e)) n
