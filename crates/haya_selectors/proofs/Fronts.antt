-- What a form reads of the front of some tokens it reads of that front before others, too.
use Rattle.std.proofs.Common.{◌≡◌, ◌∷◌, ◌++◌, [], List, ℕ, sym, refl, ap, ◌∙◌, append_assoc, append-nil}
use Rattle.haya_selectors.specs.declared.token.Sign.{Sign}
use Rattle.haya_selectors.specs.declared.token.Sign.TheVariants.{LeftBracket, RightBracket, LeftParen, RightParen, Star, Comma, Chevron, Colon, Pipe, Ampersand, ExclamationMark}
use Rattle.haya_selectors.specs.Grammar.{ReadsNames, closed, last_name, next_name, Joint, sign, Form, Reads, parens, wildcard, of_type, negated, plain, no_list, with_names, named, unnamed, term, chain, ReadsPairs, no_pair, next_pair, ReadsTerms, no_term, next_term}
use Rattle.haya_selectors.specs.Syntax.{Syntax}
use Rattle.haya_selectors.specs.Token.{Token, SignToken, Word, BeginsNot, BeginsNoName}

-- the others begin with no sign that the first don't begin with
abbrev BeginsNoOther : List Token → List Token → Type 0
BeginsNoOther ts us = (s : Sign) → BeginsNot s ts → BeginsNot s us

-- the form reads some first tokens, behind which others may follow
pub record ReadsFront (form : Form) (ts : List Token) (s : Syntax) (rest : List Token) : Type 0 where
  pub first : Token
  pub others : List Token
  pub are : ts ≡ first ∷ others ++ rest
  pub reads : (tail : List Token) → BeginsNoOther rest tail → Reads form (first ∷ others ++ tail) s tail

record NamesFront (ts : List Token) (names : List (List ℕ)) (rest : List Token) : Type 0 where
  front : List Token
  are : ts ≡ front ++ rest
  reads : (tail : List Token) → ReadsNames (front ++ tail) names tail

record PairsFront (ts : List Token) (ps : List (Joint × Syntax)) (rest : List Token) : Type 0 where
  front : List Token
  are : ts ≡ front ++ rest
  reads : (tail : List Token) → BeginsNoOther rest tail → ReadsPairs (front ++ tail) ps tail

record TermsFront (ts : List Token) (ss : List Syntax) (rest : List Token) : Type 0 where
  front : List Token
  are : ts ≡ front ++ rest
  reads : (tail : List Token) → BeginsNoOther rest tail → ReadsTerms (front ++ tail) ss tail

names_front : {ts rest : List Token} {ns : List (List ℕ)} → ReadsNames ts ns rest → NamesFront ts ns rest
names_front closed = record { front = SignToken RightBracket ∷ []; are = refl; reads = λ tail. closed }
names_front (last_name {w = w}) = record { front = Word w ∷ SignToken RightBracket ∷ []; are = refl; reads = λ tail. last_name }
names_front (next_name {w = w} r) =
    let f = names_front r in record {
      front = Word w ∷ SignToken Comma ∷ f.front;
      are = ap (λ us. Word w ∷ SignToken Comma ∷ us) f.are;
      reads = λ tail. next_name (f.reads tail);
    }

-- behind a front they begin as it does, or as they did
behind_front : (ts front rest tail : List Token) → ts ≡ front ++ rest → BeginsNoOther rest tail → BeginsNoOther ts (front ++ tail)
behind_front ts [] rest tail e h = rw e h
behind_front ts (t ∷ front) rest tail e h = rw e (λ s b. b)

no_colon : (t : Token) (rest : List Token) (w : List ℕ) → t ≡ Word w → BeginsNoName (t ∷ rest) → BeginsNot Colon rest
no_colon t [] w e b = tt
no_colon t (u ∷ us) w e b = λ k. b w us (cc)

still_no_name : (t : Token) (others rest tail : List Token) → BeginsNoOther rest tail → BeginsNoName (t ∷ others ++ rest) → BeginsNoName (t ∷ others ++ tail)
still_no_name t [] rest tail h b w us e =
    let first : t ≡ Word w = cc in
    let second : tail ≡ SignToken Colon ∷ us = cc in
    (rw second at (h Colon (no_colon t rest w first b))) refl
still_no_name t (u ∷ others) rest tail h b w us e = b w (others ++ rest) (let first : t ≡ Word w = cc in let second : u ≡ SignToken Colon = cc in cc)

mutual
  pub reads_front : {form : Form} {ts rest : List Token} {s : Syntax} → Reads form ts s rest → ReadsFront form ts s rest
  reads_front (parens {rest = rest} r) =
      let f = reads_front r in record {
        first = SignToken LeftParen;
        others = f.first ∷ f.others ++ SignToken RightParen ∷ [];
        are = ap (λ us. SignToken LeftParen ∷ us) (f.are ∙ sym (append_assoc (f.first ∷ f.others) (SignToken RightParen ∷ []) rest));
        reads = λ tail h. rw append_assoc (parens (f.reads (SignToken RightParen ∷ tail) (λ s b. b)));
      }
  reads_front wildcard = record { first = SignToken Star; others = []; are = refl; reads = λ tail h. wildcard }
  reads_front (of_type {w = w} e) = record { first = Word w; others = []; are = refl; reads = λ tail h. of_type e }
  reads_front (negated r) =
      let f = reads_front r in record {
        first = SignToken ExclamationMark;
        others = f.first ∷ f.others;
        are = ap (λ us. SignToken ExclamationMark ∷ us) f.are;
        reads = λ tail h. negated (f.reads tail h);
      }
  reads_front (plain b r) =
      let f = reads_front r in record {
        first = f.first;
        others = f.others;
        are = f.are;
        reads = λ tail h. plain (rw f.are at b) (f.reads tail h);
      }
  reads_front (no_list r b) =
      let f = reads_front r in record {
        first = f.first;
        others = f.others;
        are = f.are;
        reads = λ tail h. no_list (f.reads tail h) (h LeftBracket b);
      }
  reads_front (with_names {rest = rest} r m) =
      let f = reads_front r in
      let ns = names_front m in record {
        first = f.first;
        others = f.others ++ SignToken LeftBracket ∷ ns.front;
        are = f.are ∙ ap (λ us. f.first ∷ f.others ++ SignToken LeftBracket ∷ us) ns.are ∙ sym (append_assoc (f.first ∷ f.others) (SignToken LeftBracket ∷ ns.front) rest);
        reads = λ tail h. rw append_assoc (with_names (f.reads (SignToken LeftBracket ∷ ns.front ++ tail) (λ s b. b)) (ns.reads tail));
      }
  reads_front (named {w = w} r) =
      let f = reads_front r in record {
        first = Word w;
        others = SignToken Colon ∷ f.first ∷ f.others;
        are = ap (λ us. Word w ∷ SignToken Colon ∷ us) f.are;
        reads = λ tail h. named (f.reads tail h);
      }
  reads_front (unnamed {rest = rest} b r) =
      let f = reads_front r in record {
        first = f.first;
        others = f.others;
        are = f.are;
        reads = λ tail h. unnamed (still_no_name f.first f.others rest tail h (rw f.are at b)) (f.reads tail h);
      }
  reads_front (term {rest = rest} r p) =
      let f = reads_front r in
      let ps = pairs_front p in record {
        first = f.first;
        others = f.others ++ ps.front;
        are = f.are ∙ ap (λ us. f.first ∷ f.others ++ us) ps.are ∙ sym (append_assoc (f.first ∷ f.others) ps.front rest);
        reads = λ tail h. rw append_assoc (term (f.reads (ps.front ++ tail) (behind_front _ ps.front rest tail ps.are h)) (ps.reads tail h));
      }
  reads_front (chain {rest = rest} r m) =
      let f = reads_front r in
      let ts = terms_front m in record {
        first = f.first;
        others = f.others ++ ts.front;
        are = f.are ∙ ap (λ us. f.first ∷ f.others ++ us) ts.are ∙ sym (append_assoc (f.first ∷ f.others) ts.front rest);
        reads = λ tail h. rw append_assoc (chain (f.reads (ts.front ++ tail) (behind_front _ ts.front rest tail ts.are h)) (ts.reads tail h));
      }

  pairs_front : {ts rest : List Token} {ps : List (Joint × Syntax)} → ReadsPairs ts ps rest → PairsFront ts ps rest
  pairs_front (no_pair o a) = record { front = []; are = refl; reads = λ tail h. no_pair (h Pipe o) (h Ampersand a) }
  pairs_front (next_pair {j = j} {rest = rest} r p) =
      let f = reads_front r in
      let ps = pairs_front p in record {
        front = SignToken (sign j) ∷ f.first ∷ f.others ++ ps.front;
        are = ap (λ us. SignToken (sign j) ∷ us) (f.are ∙ ap (λ us. f.first ∷ f.others ++ us) ps.are ∙ sym (append_assoc (f.first ∷ f.others) ps.front rest));
        reads = λ tail h. rw append_assoc (next_pair (f.reads (ps.front ++ tail) (behind_front _ ps.front rest tail ps.are h)) (ps.reads tail h));
      }

  terms_front : {ts rest : List Token} {ss : List Syntax} → ReadsTerms ts ss rest → TermsFront ts ss rest
  terms_front (no_term b) = record { front = []; are = refl; reads = λ tail h. no_term (h Chevron b) }
  terms_front (next_term {rest = rest} r m) =
      let f = reads_front r in
      let ts = terms_front m in record {
        front = SignToken Chevron ∷ f.first ∷ f.others ++ ts.front;
        are = ap (λ us. SignToken Chevron ∷ us) (f.are ∙ ap (λ us. f.first ∷ f.others ++ us) ts.are ∙ sym (append_assoc (f.first ∷ f.others) ts.front rest));
        reads = λ tail h. rw append_assoc (next_term (f.reads (ts.front ++ tail) (behind_front _ ts.front rest tail ts.are h)) (ts.reads tail h));
      }

nothing_less : (ts : List Token) → BeginsNoOther ts []
nothing_less ts s b = tt

-- what is read of a front is read of it alone
pub record ReadsAlone (form : Form) (ts : List Token) (s : Syntax) (rest : List Token) : Type 0 where
  pub first : Token
  pub others : List Token
  pub are : ts ≡ first ∷ others ++ rest
  pub alone : Reads form (first ∷ others) s []

pub reads_alone : {form : Form} {ts rest : List Token} {s : Syntax} → Reads form ts s rest → ReadsAlone form ts s rest
reads_alone {rest = rest} r =
    let f = reads_front r in record {
      first = f.first;
      others = f.others;
      are = f.are;
      alone = rw append-nil at (f.reads [] (nothing_less rest));
    }
