-- What is spelled is read again.
use Rattle.std.proofs.Common.{◌≡◌, ◌∷◌, ◌++◌, [], List, ℕ, Some, true, false, fold, refl, ap, ◌∙◌, subst}
use Rattle.std.specs.List.{list_all}
use Rattle.haya_text.proofs.Tells.{and-both}
use Rattle.haya_entry.specs.declared.types.EntryType.{EntryType}
use Rattle.haya_entry.specs.declared.types.EntryType.TheVariants.{Article}
use Rattle.haya_entry.specs.EntryType.{in_lower_case, type_name}
use Rattle.haya_selectors.specs.declared.token.Sign.{Sign}
use Rattle.haya_selectors.specs.declared.token.Sign.TheVariants.{LeftBracket, RightParen, Chevron, Colon, Pipe, Ampersand, ExclamationMark}
use Rattle.haya_selectors.specs.Grammar.{type_of, ValueForm, FactorForm, BindingForm, TermForm, ExprForm, Joint, Or, And, sign, run_syntax, in_runs, ReadsNames, closed, last_name, next_name, Reads, parens, wildcard, of_type, negated, plain, no_list, with_names, named, unnamed, term, chain, ReadsPairs, no_pair, next_pair, no_term, next_term}
use Rattle.haya_selectors.specs.Spelling.{tokens_of_names, tokens_of, tokens_of_members, tokens_of_others, AtLeastTwo, IsSpellable, AreSpellable, text_of, ReadAgain}
use Rattle.haya_selectors.specs.Syntax.{Syntax, Syntaxes, Wildcard, Entry, Neg, Binding, Attr, Alt, Multi, Ancestrage, none, more, syntaxes}
use Rattle.haya_selectors.specs.Token.{Token, SignToken, Word, BeginsNot, BeginsNoName, in_word, is_word, sign_char, EndsBefore, AreTokens, no_token, next_token}
use Rattle.haya_selectors.proofs.Parsing.{pairs_of, runs_run}

-- nothing that goes on with a form stands first
abbrev pub IsEnd : List Token → Type 0
IsEnd ts = BeginsNot Colon ts × BeginsNot LeftBracket ts × BeginsNot Pipe ts × BeginsNot Ampersand ts × BeginsNot Chevron ts

pub from_binding : {ts rest : List Token} {s : Syntax} → Reads BindingForm ts s rest → IsEnd rest → Reads ExprForm ts s rest
from_binding r e = chain (term r (no_pair e.2 e.3)) (no_term e.4)

pub from_factor : {ts rest : List Token} {s : Syntax} → Reads FactorForm ts s rest → BeginsNoName ts → BeginsNot LeftBracket rest → Reads BindingForm ts s rest
from_factor r n b = unnamed n (no_list r b)

pub paren_ends : (rest : List Token) → IsEnd (SignToken RightParen ∷ rest)
paren_ends rest = (λ e. cc, λ e. cc, λ e. cc, λ e. cc, λ e. cc)

no_bang : (s : Syntax) (rest : List Token) → BeginsNot ExclamationMark (tokens_of s rest)
no_bang Wildcard rest = λ e. cc
no_bang _ rest = λ e. cc

no_name : (s : Syntax) (rest : List Token) → BeginsNot Colon rest → BeginsNoName (tokens_of s rest)
no_name Wildcard rest b = λ w us e. cc
no_name (Entry t) rest b = λ w us e. let f : rest ≡ SignToken Colon ∷ us = cc in (rw f at b) refl
no_name _ rest b = λ w us e. cc

type_again : (t : EntryType) → type_of (in_lower_case (type_name t)) ≡ Some t
unfolding type_of
type_again Article = refl
type_again _ = refl

names_again : (ns : List (List ℕ)) (rest : List Token) → ReadsNames (tokens_of_names ns rest) ns rest
names_again [] rest = closed
names_again (n ∷ []) rest = last_name
names_again (n ∷ m ∷ ns) rest = next_name (names_again (m ∷ ns) rest)

abbrev as_list : Syntaxes → List Syntax
as_list none = []
as_list (more s ss) = s ∷ as_list ss

syntaxes-list : (ss : Syntaxes) → syntaxes (as_list ss) ≡ ss
syntaxes-list none = refl
syntaxes-list (more s ss) = ap (more s) (syntaxes-list ss)

-- others begin with their sign, or end
not_colon : (j : Joint) (ss : Syntaxes) (rest : List Token) → BeginsNot Colon rest → BeginsNot Colon (tokens_of_others (sign j) ss rest)
not_colon j none rest b = b
not_colon Or (more s ss) rest b = λ e. cc
not_colon And (more s ss) rest b = λ e. cc

not_bracket : (j : Joint) (ss : Syntaxes) (rest : List Token) → BeginsNot LeftBracket rest → BeginsNot LeftBracket (tokens_of_others (sign j) ss rest)
not_bracket j none rest b = b
not_bracket Or (more s ss) rest b = λ e. cc
not_bracket And (more s ss) rest b = λ e. cc

-- the tree of a run of all members
whole_run : (j : Joint) (s t : Syntax) (ss : Syntaxes) → in_runs s (pairs_of j (t ∷ as_list ss) ++ []) ≡ run_syntax j (s ∷ t ∷ as_list ss)
whole_run j s t ss = ap (fold (λ so_far run. run_syntax run.0 (so_far ∷ run.1)) s) (runs_run j t (as_list ss) [] tt)

abbrev join : Joint → Syntaxes → Syntax
join Or ss = Alt ss
join And ss = Multi ss

join-list : (j : Joint) (ss : Syntaxes) → run_syntax j (as_list ss) ≡ join j ss
join-list Or ss = ap Alt (syntaxes-list ss)
join-list And ss = ap Multi (syntaxes-list ss)

mutual
  value_again : (s : Syntax) → IsSpellable s → (rest : List Token) → Reads ValueForm (tokens_of s rest) s rest
  value_again Wildcard h rest = wildcard
  value_again (Entry t) h rest = of_type (type_again t)
  value_again (Neg s) h rest = parens (from_binding (from_factor (negated (plain (no_bang s _) (value_again s h _))) (λ w us e. cc) (λ e. cc)) (paren_ends rest))
  value_again (Binding n s) h rest = parens (from_binding (named (no_list (plain (no_bang s _) (value_again s h.1 _)) (λ e. cc))) (paren_ends rest))
  value_again (Attr s names) h rest =
      parens (from_binding (unnamed (no_name s _ (λ e. cc)) (with_names (plain (no_bang s _) (value_again s h.1 _)) (names_again names _))) (paren_ends rest))
  value_again (Alt ss) h rest = parens (run_again Or ss h.0 h.1 rest)
  value_again (Multi ss) h rest = parens (run_again And ss h.0 h.1 rest)
  value_again (Ancestrage l r) h rest =
      parens (chain
      (term (from_factor (plain (no_bang l _) (value_again l h.0 _)) (no_name l _ (λ e. cc)) (λ e. cc)) (no_pair (λ e. cc) (λ e. cc)))
      (next_term (term (from_factor (plain (no_bang r _) (value_again r h.1 _)) (no_name r _ (λ e. cc)) (λ e. cc)) (no_pair (λ e. cc) (λ e. cc))) (no_term (λ e. cc))))

  run_again : (j : Joint) (ss : Syntaxes) → AtLeastTwo ss → AreSpellable ss → (rest : List Token) → Reads ExprForm (tokens_of_members (sign j) ss (SignToken RightParen ∷ rest)) (join j ss) (SignToken RightParen ∷ rest)
  run_again j none two h rest = absurd two
  run_again j (more s none) two h rest = absurd two
  run_again j (more s (more t ss)) two h rest =
      let e = whole_run j s t ss ∙ join-list j (more s (more t ss)) in
      let end : List Token = SignToken RightParen ∷ rest in
      let colon : BeginsNot Colon (tokens_of_others (sign j) (more t ss) end) = not_colon j (more t ss) end (λ e. cc) in
      let bracket : BeginsNot LeftBracket (tokens_of_others (sign j) (more t ss) end) = not_bracket j (more t ss) end (λ e. cc) in
      let first : Reads BindingForm (tokens_of_members (sign j) (more s (more t ss)) end) s (tokens_of_others (sign j) (more t ss) end) =
      from_factor (plain (no_bang s _) (value_again s h.0 _)) (no_name s _ colon) bracket in
      let run : Reads TermForm (tokens_of_members (sign j) (more s (more t ss)) end) (in_runs s (pairs_of j (t ∷ as_list ss) ++ [])) end = term first (others_again j (more t ss) h.1 rest) in
      chain (subst (λ x. Reads TermForm (tokens_of_members (sign j) (more s (more t ss)) (SignToken RightParen ∷ rest)) x (SignToken RightParen ∷ rest)) e run) (no_term (λ e. cc))

  others_again : (j : Joint) (ss : Syntaxes) → AreSpellable ss → (rest : List Token) → ReadsPairs (tokens_of_others (sign j) ss (SignToken RightParen ∷ rest)) (pairs_of j (as_list ss) ++ []) (SignToken RightParen ∷ rest)
  others_again j none h rest = no_pair (λ e. cc) (λ e. cc)
  others_again j (more s ss) h rest =
      let end : List Token = SignToken RightParen ∷ rest in
      let colon : BeginsNot Colon (tokens_of_others (sign j) ss end) = not_colon j ss end (λ e. cc) in
      let bracket : BeginsNot LeftBracket (tokens_of_others (sign j) ss end) = not_bracket j ss end (λ e. cc) in
      next_pair (from_factor (plain (no_bang s _) (value_again s h.0 _)) (no_name s _ colon) bracket) (others_again j ss h.1 rest)

reads_again : (s : Syntax) → IsSpellable s → Reads ExprForm (tokens_of s []) s []
reads_again s h = from_binding (from_factor (plain (no_bang s []) (value_again s h [])) (no_name s [] tt) tt) (tt, tt, tt, tt, tt)

-- tokens with nothing between are cut apart again
abbrev AreApart : List Token → Type 0
AreApart ts = AreTokens ts (text_of ts)

-- what begins with a sign ends an identifier
data BeginsSign : List Token → Type 0 where
  nothing : BeginsSign []
  a_sign : {s : Sign} {ts : List Token} → BeginsSign (SignToken s ∷ ts)

sign-ends : (s : Sign) → in_word (sign_char s) ≡ false
sign-ends LeftBracket = refl
sign-ends _ = refl

sign_ends : (w : List ℕ) {ts : List Token} → BeginsSign ts → EndsBefore (Word w) (text_of ts)
sign_ends w nothing = tt
sign_ends w (a_sign {s = s}) = sign-ends s

word_apart : (w : List ℕ) {ts : List Token} → is_word w ≡ true → BeginsSign ts → AreApart ts → AreApart (Word w ∷ ts)
word_apart w h b a = next_token [] refl h (sign_ends w b) a

mark_apart : {s : Sign} {ts : List Token} → AreApart ts → AreApart (SignToken s ∷ ts)
mark_apart a = next_token [] refl tt tt a

type_word : (t : EntryType) → is_word (in_lower_case (type_name t)) ≡ true
type_word Article = refl
type_word _ = refl

names_apart : (ns : List (List ℕ)) → list_all is_word ns ≡ true → {rest : List Token} → AreApart rest → AreApart (tokens_of_names ns rest)
names_apart [] h a = mark_apart a
names_apart (n ∷ []) h a = word_apart n (and-both (is_word n) true h).0 a_sign (mark_apart a)
names_apart (n ∷ m ∷ ns) h a =
    let both = and-both (is_word n) (list_all is_word (m ∷ ns)) h in word_apart n both.0 a_sign (mark_apart (names_apart (m ∷ ns) both.1 a))

others_sign : (j : Sign) (ss : Syntaxes) {rest : List Token} → BeginsSign rest → BeginsSign (tokens_of_others j ss rest)
others_sign j none b = b
others_sign j (more s ss) b = a_sign

mutual
  apart : (s : Syntax) → IsSpellable s → {rest : List Token} → BeginsSign rest → AreApart rest → AreApart (tokens_of s rest)
  apart Wildcard h b a = mark_apart a
  apart (Entry t) h b a = word_apart (in_lower_case (type_name t)) (type_word t) b a
  apart (Neg s) h b a = mark_apart (mark_apart (apart s h a_sign (mark_apart a)))
  apart (Binding n s) h b a = mark_apart (word_apart n h.0 a_sign (mark_apart (apart s h.1 a_sign (mark_apart a))))
  apart (Attr s names) h b a = mark_apart (apart s h.1 a_sign (mark_apart (names_apart names h.0 (mark_apart a))))
  apart (Alt ss) h b a = mark_apart (first_apart Pipe ss h.1 a_sign (mark_apart a))
  apart (Multi ss) h b a = mark_apart (first_apart Ampersand ss h.1 a_sign (mark_apart a))
  apart (Ancestrage l r) h b a = mark_apart (apart l h.0 a_sign (mark_apart (apart r h.1 a_sign (mark_apart a))))

  first_apart : (j : Sign) (ss : Syntaxes) → AreSpellable ss → {rest : List Token} → BeginsSign rest → AreApart rest → AreApart (tokens_of_members j ss rest)
  first_apart j none h b a = a
  first_apart j (more s ss) h b a = apart s h.0 (others_sign j ss b) (others_apart j ss h.1 b a)

  others_apart : (j : Sign) (ss : Syntaxes) → AreSpellable ss → {rest : List Token} → BeginsSign rest → AreApart rest → AreApart (tokens_of_others j ss rest)
  others_apart j none h b a = a
  others_apart j (more s ss) h b a = mark_apart (apart s h.0 (others_sign j ss b) (others_apart j ss h.1 b a))

pub read_again : ReadAgain
read_again s h = (record { tokens = tokens_of s []; rest = []; cut = apart s h nothing (no_token [] refl); reads = reads_again s h }, refl)
