-- What a form has, a selector or a fault, is what is computed from some fuel on: so there is one at most.
use Rattle.std.proofs.Common.{◌≡◌, ◌≤◌, ◌∷◌, ◌+◌, [], List, ℕ, suc, zero, Some, sym, refl, ap, ◌∙◌, arith}
use Rattle.haya_selectors.specs.declared.token.Sign.TheVariants.{LeftBracket, RightBracket, LeftParen, RightParen, Star, Comma, Chevron, Colon, Pipe, Ampersand, ExclamationMark}
use Rattle.haya_selectors.specs.Fault.{Fault, MissingValue, MalformedAttribute, MissingComma, UnbalancedParens}
use Rattle.haya_selectors.specs.Grammar.{ReadsNames, closed, last_name, next_name, FailsNames, no_name, no_comma, later_name, Joint, Or, And, sign, Form, ValueForm, FactorForm, AttributesForm, BindingForm, TermForm, ExprForm, Reads, parens, wildcard, of_type, negated, plain, no_list, with_names, named, unnamed, term, chain, ReadsPairs, no_pair, next_pair, ReadsTerms, no_term, next_term, Fails, no_value, unknown, in_parens, unbalanced, in_negated, in_plain, in_factor, in_names, in_named, in_unnamed, in_binding, in_pairs, in_term, in_terms, FailsPairs, in_pair, past_pair, FailsTerms, in_next, past_next}
use Rattle.haya_selectors.specs.Descent.{Outcome, Read, Failed, Reader, outcome_and_then, outcome_map, read_names, read_type, read_close, read_value, read_factor, read_list, read_binding, read_pair, read_pairs, read_terms, read, pairs, terms}
use Rattle.haya_selectors.specs.ReadingLaws.{Has}
use Rattle.haya_selectors.specs.Syntax.{Syntax, Attr}
use Rattle.haya_selectors.specs.Token.{Token, SignToken, Word, BeginsNot, BeginsNoWord, BeginsNoName}

pub names_run : {ts rest : List Token} {ns : List (List ℕ)} → ReadsNames ts ns rest → read_names ts ≡ Read ns rest
names_run closed = refl
names_run last_name = refl
names_run (next_name {w = w} r) = ap (outcome_map (λ ns. w ∷ ns)) (names_run r)

no_name_run : (ts : List Token) → BeginsNot RightBracket ts → BeginsNoWord ts → read_names ts ≡ Failed MalformedAttribute
no_name_run [] b w = refl
no_name_run (SignToken RightBracket ∷ ts) b w = absurd (b refl)
no_name_run (Word v ∷ ts) b w = absurd (w v refl)
no_name_run _ b w = refl

no_comma_run : (w : List ℕ) (ts : List Token) → BeginsNot RightBracket ts → BeginsNot Comma ts → read_names (Word w ∷ ts) ≡ Failed MissingComma
no_comma_run w [] b k = refl
no_comma_run w (SignToken RightBracket ∷ ts) b k = absurd (b refl)
no_comma_run w (SignToken Comma ∷ ts) b k = absurd (k refl)
no_comma_run w _ b k = refl

pub names_fail : {ts : List Token} {f : Fault} → FailsNames ts f → read_names ts ≡ Failed f
names_fail (no_name {ts = ts} b) = no_name_run ts b.0 b.1
names_fail (no_comma {w = w} {ts = ts} b k) = no_comma_run w ts b k
names_fail (later_name {w = w} r) = ap (outcome_map (λ ns. w ∷ ns)) (names_fail r)

-- steps at tokens that begin otherwise
no_value_run : (e : Reader Syntax) (ts : List Token) → BeginsNot LeftParen ts → BeginsNot Star ts → BeginsNoWord ts → read_value e ts ≡ Failed MissingValue
no_value_run e [] b s w = refl
no_value_run e (SignToken LeftParen ∷ ts) b s w = absurd (b refl)
no_value_run e (SignToken Star ∷ ts) b s w = absurd (s refl)
no_value_run e (Word v ∷ ts) b s w = absurd (w v refl)
no_value_run e _ b s w = refl

not_closed : (s : Syntax) (ts : List Token) → BeginsNot RightParen ts → read_close s ts ≡ Failed UnbalancedParens
not_closed s [] b = refl
not_closed s (SignToken RightParen ∷ ts) b = absurd (b refl)
not_closed s _ b = refl

read_no_list : (s : Syntax) (ts : List Token) → BeginsNot LeftBracket ts → read_list s ts ≡ Read s ts
read_no_list s [] b = refl
read_no_list s (SignToken LeftBracket ∷ ts) b = absurd (b refl)
read_no_list s _ b = refl

no_terms : (e : Reader Syntax) (m : Reader (List Syntax)) (ts : List Token) → BeginsNot Chevron ts → read_terms e m ts ≡ Read [] ts
no_terms e m [] b = refl
no_terms e m (SignToken Chevron ∷ ts) b = absurd (b refl)
no_terms e m _ b = refl

no_not : (f v : Reader Syntax) (ts : List Token) → BeginsNot ExclamationMark ts → read_factor f v ts ≡ v ts
no_not f v [] b = refl
no_not f v (SignToken ExclamationMark ∷ ts) b = absurd (b refl)
no_not f v _ b = refl

no_binding : (a : Reader Syntax) (ts : List Token) → BeginsNoName ts → read_binding a ts ≡ a ts
no_binding a [] b = refl
no_binding a (Word w ∷ SignToken Colon ∷ ts) b = absurd (b w ts refl)
no_binding a _ b = refl

no_pairs : (b : Reader Syntax) (p : Reader (List (Joint × Syntax))) (ts : List Token) → BeginsNot Pipe ts → BeginsNot Ampersand ts → read_pairs b p ts ≡ Read [] ts
no_pairs b p [] o a = refl
no_pairs b p (SignToken Pipe ∷ ts) o a = absurd (o refl)
no_pairs b p (SignToken Ampersand ∷ ts) o a = absurd (a refl)
no_pairs b p _ o a = refl

at_sign : (b : Reader Syntax) (p : Reader (List (Joint × Syntax))) (j : Joint) (ts : List Token) → read_pairs b p (SignToken (sign j) ∷ ts) ≡ read_pair b p (Some j) (SignToken (sign j)) ts
at_sign b p Or ts = refl
at_sign b p And ts = refl

-- from some fuel on the reader gives x
record Settles {A : Type 0} (r : ℕ → Outcome A) (x : Outcome A) : Type 0 where
  from : ℕ
  gives : (n : ℕ) → from ≤ n → r n ≡ x

at_once : {A : Type 0} {r : ℕ → Outcome A} {x : Outcome A} → ((n : ℕ) → r n ≡ x) → Settles r x
at_once h = record { from = 0; gives = λ n l. h n }

along : {A : Type 0} {r q : ℕ → Outcome A} {x : Outcome A} → ((n : ℕ) → r n ≡ q n) → Settles q x → Settles r x
along h s = record { from = s.from; gives = λ n l. h n ∙ s.gives n l }

later : {A : Type 0} {r : ℕ → Outcome A} {x : Outcome A} → Settles (λ n. r (suc n)) x → Settles r x
later {A} {r} {x} s = record { from = suc s.from; gives = go }
  where
    go : (n : ℕ) → suc s.from ≤ n → r n ≡ x
    go zero l = absurd (omega (arith, l))
    go (suc n) l = s.gives n (omega (arith, l))

after : {A B : Type 0} {r : ℕ → Outcome A} {a : A} {ts : List Token} {x : Outcome B} (k : ℕ → A → List Token → Outcome B) → Settles r (Read a ts) → Settles (λ n. k n a ts) x → Settles (λ n. outcome_and_then (k n) (r n)) x
after k s t = record { from = s.from + t.from; gives = λ n l. ap (outcome_and_then (k n)) (s.gives n (omega (arith, l))) ∙ t.gives n (omega (arith, l)) }

at_fault : {A B : Type 0} {r : ℕ → Outcome A} {f : Fault} (k : ℕ → A → List Token → Outcome B) → Settles r (Failed f) → Settles (λ n. outcome_and_then (k n) (r n)) (Failed f)
at_fault k s = record { from = s.from; gives = λ n l. ap (outcome_and_then (k n)) (s.gives n l) }

same : {A : Type 0} {r : ℕ → Outcome A} {x y : Outcome A} → Settles r x → Settles r y → x ≡ y
same s t = sym (s.gives (s.from + t.from) (omega arith)) ∙ t.gives (s.from + t.from) (omega arith)

mutual
  reads_run : {form : Form} {ts rest : List Token} {s : Syntax} → Reads form ts s rest → Settles (λ n. read n form ts) (Read s rest)
  reads_run (parens r) = later (after _ (reads_run r) (at_once (λ n. refl)))
  reads_run wildcard = later (at_once (λ n. refl))
  reads_run (of_type {w = w} {rest = rest} e) = later (at_once (λ n. ap (λ k. read_type w k rest) e))
  reads_run (negated r) = later (after _ (reads_run r) (at_once (λ n. refl)))
  reads_run (plain {ts = ts} b r) = later (along (λ n. no_not (read n FactorForm) (read n ValueForm) ts b) (reads_run r))
  reads_run (no_list {rest = rest} {s = s} r b) = later (after _ (reads_run r) (at_once (λ n. read_no_list s rest b)))
  reads_run (with_names {s = s} r m) = later (after _ (reads_run r) (at_once (λ n. ap (outcome_map (Attr s)) (names_run m))))
  reads_run (named r) = later (after _ (reads_run r) (at_once (λ n. refl)))
  reads_run (unnamed {ts = ts} b r) = later (along (λ n. no_binding (read n AttributesForm) ts b) (reads_run r))
  reads_run (term r p) = later (after _ (reads_run r) (after _ (pairs_run p) (at_once (λ n. refl))))
  reads_run (chain r m) = later (after _ (reads_run r) (after _ (terms_run m) (at_once (λ n. refl))))

  pairs_run : {ts rest : List Token} {ps : List (Joint × Syntax)} → ReadsPairs ts ps rest → Settles (λ n. pairs n ts) (Read ps rest)
  pairs_run (no_pair {rest = rest} o a) = later (at_once (λ n. no_pairs (read n BindingForm) (pairs n) rest o a))
  pairs_run (next_pair {j = j} {ts = ts} r p) = later (along (λ n. at_sign (read n BindingForm) (pairs n) j ts) (after _ (reads_run r) (after _ (pairs_run p) (at_once (λ n. refl)))))

  terms_run : {ts rest : List Token} {ss : List Syntax} → ReadsTerms ts ss rest → Settles (λ n. terms n ts) (Read ss rest)
  terms_run (no_term {rest = rest} b) = later (at_once (λ n. no_terms (read n TermForm) (terms n) rest b))
  terms_run (next_term r m) = later (after _ (reads_run r) (after _ (terms_run m) (at_once (λ n. refl))))

mutual
  fails_run : {form : Form} {ts : List Token} {f : Fault} → Fails form ts f → Settles (λ n. read n form ts) (Failed f)
  fails_run (no_value {ts = ts} b) = later (at_once (λ n. no_value_run (read n ExprForm) ts b.0 b.1 b.2))
  fails_run (unknown {w = w} {ts = ts} e) = later (at_once (λ n. ap (λ k. read_type w k ts) e))
  fails_run (in_parens r) = later (at_fault _ (fails_run r))
  fails_run (unbalanced {rest = rest} {s = s} r b) = later (after _ (reads_run r) (at_once (λ n. not_closed s rest b)))
  fails_run (in_negated r) = later (at_fault _ (fails_run r))
  fails_run (in_plain {ts = ts} b r) = later (along (λ n. no_not (read n FactorForm) (read n ValueForm) ts b) (fails_run r))
  fails_run (in_factor r) = later (at_fault _ (fails_run r))
  fails_run (in_names {s = s} r m) = later (after _ (reads_run r) (at_once (λ n. ap (outcome_map (Attr s)) (names_fail m))))
  fails_run (in_named r) = later (at_fault _ (fails_run r))
  fails_run (in_unnamed {ts = ts} b r) = later (along (λ n. no_binding (read n AttributesForm) ts b) (fails_run r))
  fails_run (in_binding r) = later (at_fault _ (fails_run r))
  fails_run (in_pairs r p) = later (after _ (reads_run r) (at_fault _ (fails_pairs_run p)))
  fails_run (in_term r) = later (at_fault _ (fails_run r))
  fails_run (in_terms r m) = later (after _ (reads_run r) (at_fault _ (fails_terms_run m)))

  fails_pairs_run : {ts : List Token} {f : Fault} → FailsPairs ts f → Settles (λ n. pairs n ts) (Failed f)
  fails_pairs_run (in_pair j {ts = ts} r) = later (along (λ n. at_sign (read n BindingForm) (pairs n) j ts) (at_fault _ (fails_run r)))
  fails_pairs_run (past_pair j {ts = ts} r p) = later (along (λ n. at_sign (read n BindingForm) (pairs n) j ts) (after _ (reads_run r) (at_fault _ (fails_pairs_run p))))

  fails_terms_run : {ts : List Token} {f : Fault} → FailsTerms ts f → Settles (λ n. terms n ts) (Failed f)
  fails_terms_run (in_next r) = later (at_fault _ (fails_run r))
  fails_terms_run (past_next r m) = later (after _ (reads_run r) (at_fault _ (fails_terms_run m)))

has_run : {form : Form} {ts : List Token} (o : Outcome Syntax) → Has form ts o → Settles (λ n. read n form ts) o
has_run (Read s rest) h = reads_run h
has_run (Failed f) h = fails_run h

-- at most one outcome
pub same_outcome : (form : Form) (ts : List Token) (o p : Outcome Syntax) → Has form ts o → Has form ts p → o ≡ p
same_outcome form ts o p h k = same (has_run o h) (has_run p k)
