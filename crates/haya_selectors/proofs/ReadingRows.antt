-- Worked rows of the definitions on reading.
use Rattle.std.proofs.Common.{◌≡◌, ◌≢◌, [], ◌∷◌, Some, None, fold, codes, refl, arith}
use Rattle.haya_entry.specs.declared.types.EntryType.TheVariants.{Book, Blog, Web}
use Rattle.haya_selectors.specs.declared.token.Sign.{Sign}
use Rattle.haya_selectors.specs.declared.token.Sign.TheVariants.{LeftBracket, RightBracket, LeftParen, RightParen, Star, Comma, Chevron, Colon, Pipe}
use Rattle.haya_selectors.specs.Fault.{MissingValue, MalformedAttribute, MissingComma, UnbalancedParens, UnknownEntryType}
use Rattle.haya_selectors.specs.Grammar.{type_of, ReadsNames, closed, next_name, FailsNames, no_name, no_comma, Or, And, in_runs, ValueForm, BindingForm, ExprForm, of_type, plain, term, no_pair, Fails, no_value, unknown, unbalanced, in_plain, in_factor, in_named, in_unnamed, in_binding, in_term, in_terms, in_next}
use Rattle.haya_selectors.specs.Reading.{TextReads, TextFails}
use Rattle.haya_selectors.specs.Syntax.{Entry, Ancestrage, Alt, Multi, syntaxes}
use Rattle.haya_selectors.specs.Token.{SignToken, Word, Invalid, sign_char, AreTokens, no_token, next_token}
use Rattle.haya_selectors.specs.Cut.{cut}
use Rattle.haya_selectors.proofs.OneCut.{only_cut}
use Rattle.haya_selectors.proofs.Again.{from_binding, from_factor}

-- `g5:(Blog | Misc)`
bound_group : AreTokens (Word (codes "g5") ∷ SignToken Colon ∷ SignToken LeftParen ∷ Word (codes "Blog") ∷ SignToken Pipe ∷ Word (codes "Misc") ∷ SignToken RightParen ∷ []) (codes "g5:(Blog | Misc)")
bound_group =
    next_token [] refl refl refl (next_token [] refl tt tt (next_token [] refl tt tt (next_token [] refl refl refl (next_token (codes " ") refl tt tt
    (next_token (codes " ") refl refl refl (next_token [] refl tt tt (no_token [] refl)))))))

-- an identifier is cut no earlier than it ends
no_earlier_cut : AreTokens (Word (codes "bo") ∷ Word (codes "ok") ∷ []) (codes "book") → ⊥
unfolding cut
no_earlier_cut a = let e : Word (codes "bo") ∷ Word (codes "ok") ∷ [] ≡ Word (codes "book") ∷ [] = only_cut a in cc

-- the digit U+0663 goes on with no identifier
other_digit : AreTokens (Word (codes "book") ∷ Invalid 0x663 ∷ []) (98 ∷ 111 ∷ 111 ∷ 107 ∷ 0x663 ∷ [])
other_digit = next_token [] refl refl refl (next_token [] refl (refl, refl, no_sign) tt (no_token [] refl))
  where
    no_sign : (s : Sign) → 0x663 ≢ sign_char s
    no_sign LeftBracket = λ e. omega arith
    no_sign _ = λ e. omega arith

-- types are named in upper and lower case
upper_case : type_of (codes "BOOK") ≡ Some Book
unfolding type_of
upper_case = refl

book : type_of (codes "book") ≡ Some Book
unfolding type_of
book = refl

no_type : type_of (codes "A") ≡ None
unfolding type_of
no_type = refl

-- `book web` is the selector `book`
book_web : TextReads (codes "book web") (Entry Book)
book_web = record {
  tokens = Word (codes "book") ∷ Word (codes "web") ∷ [];
  rest = Word (codes "web") ∷ [];
  cut = next_token [] refl refl refl (next_token (codes " ") refl refl tt (no_token [] refl));
  reads = from_binding (from_factor (plain (λ e. cc) (of_type book)) (λ w us e. cc) (λ e. cc)) (λ e. cc, λ e. cc, λ e. cc, λ e. cc, λ e. cc);
}

-- `book[date,]` and `book[]` have lists of one and no name
comma_at_end : ReadsNames (Word (codes "date") ∷ SignToken Comma ∷ SignToken RightBracket ∷ []) (codes "date" ∷ []) []
comma_at_end = next_name closed

no_names : ReadsNames (SignToken RightBracket ∷ []) [] []
no_names = closed

-- `book[*]` and `book[date url]`
star_in_list : FailsNames (SignToken Star ∷ SignToken RightBracket ∷ []) MalformedAttribute
star_in_list = no_name (λ e. cc, λ w e. cc)

two_names : FailsNames (Word (codes "date") ∷ Word (codes "url") ∷ SignToken RightBracket ∷ []) MissingComma
two_names = no_comma (λ e. cc) (λ e. cc)

-- runs of `|` and `&`
book_or_web_and_blog : in_runs (Entry Book) ((Or, Entry Web) ∷ (And, Entry Blog) ∷ []) ≡ Multi (syntaxes (Alt (syntaxes (Entry Book ∷ Entry Web ∷ [])) ∷ Entry Blog ∷ []))
book_or_web_and_blog = refl

-- `>` from the left
two_chevrons : fold Ancestrage (Entry Book) (Entry Web ∷ Entry Blog ∷ []) ≡ Ancestrage (Ancestrage (Entry Book) (Entry Web)) (Entry Blog)
two_chevrons = refl

no_text : TextFails [] MissingValue
no_text = record { tokens = []; cut = no_token [] refl; fails = in_term (in_binding (in_unnamed (λ w us e. cc) (in_factor (in_plain tt (no_value (tt, tt, tt)))))) }

-- `A`
unknown_type : TextFails (codes "A") (UnknownEntryType (codes "a"))
unknown_type = record {
  tokens = Word (codes "A") ∷ [];
  cut = next_token [] refl refl tt (no_token [] refl);
  fails = in_term (in_binding (in_unnamed (λ w us e. cc) (in_factor (in_plain (λ e. cc) (unknown no_type)))));
}

-- `book:` is no `book` with a rest
name_alone : Fails BindingForm (Word (codes "book") ∷ SignToken Colon ∷ []) MissingValue
name_alone = in_named (in_factor (in_plain tt (no_value (tt, tt, tt))))

-- `(book`
not_closed : Fails ValueForm (SignToken LeftParen ∷ Word (codes "book") ∷ []) UnbalancedParens
not_closed = unbalanced (from_binding (from_factor (plain (λ e. cc) (of_type book)) (λ w us e. cc) tt) (tt, tt, tt, tt, tt)) tt

-- `book >`
no_parent : Fails ExprForm (Word (codes "book") ∷ SignToken Chevron ∷ []) MissingValue
no_parent =
    in_terms (term (from_factor (plain (λ e. cc) (of_type book)) (λ w us e. cc) (λ e. cc)) (no_pair (λ e. cc) (λ e. cc)))
    (in_next (in_binding (in_unnamed (λ w us e. cc) (in_factor (in_plain tt (no_value (tt, tt, tt)))))))
