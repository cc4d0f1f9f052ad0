-- A code for selectors by value. A proof tells the values of a query apart by it.
use Rattle.std.specs.Prelude.{◌≡◌, ℕ, List}
use Rattle.std.specs.Coded.{Coded, codes}
use Rattle.std.proofs.Common.{refl}
use base.Stored.{Gv, gnil, gnum, gcons}
use Rattle.haya_entry.specs.declared.types.EntryType.{EntryType}
use Rattle.haya_selectors.specs.Syntax.{Syntax, Wildcard, Entry, Neg, Binding, Attr, Alt, Multi, Ancestrage, Syntaxes, none, more}

type_coded : Coded EntryType
type_coded = hlevel codes

name_coded : Coded (List ℕ)
name_coded = hlevel codes

names_coded : Coded (List (List ℕ))
names_coded = hlevel codes

mutual
  -- each form has a number of its own
  pub syntax_code : Syntax → Gv
  syntax_code Wildcard = gcons (gnum 0) gnil
  syntax_code (Entry t) = gcons (gnum 1) (type_coded.code t)
  syntax_code (Neg s) = gcons (gnum 2) (syntax_code s)
  syntax_code (Binding n s) = gcons (gnum 3) (gcons (name_coded.code n) (syntax_code s))
  syntax_code (Attr s names) = gcons (gnum 4) (gcons (syntax_code s) (names_coded.code names))
  syntax_code (Alt ss) = gcons (gnum 5) (syntaxes_code ss)
  syntax_code (Multi ss) = gcons (gnum 6) (syntaxes_code ss)
  syntax_code (Ancestrage l r) = gcons (gnum 7) (gcons (syntax_code l) (syntax_code r))

  pub syntaxes_code : Syntaxes → Gv
  syntaxes_code none = gnil
  syntaxes_code (more s ss) = gcons (syntax_code s) (syntaxes_code ss)

mutual
  unfolding syntax_code syntaxes_code

  pub syntax_inj : (s t : Syntax) → syntax_code s ≡ syntax_code t → s ≡ t
  syntax_inj Wildcard Wildcard e = refl
  syntax_inj (Entry k) (Entry l) e = let same : k ≡ l = type_coded.inj k l (cc) in cc
  syntax_inj (Neg s) (Neg t) e = let same : s ≡ t = syntax_inj s t (cc) in cc
  syntax_inj (Binding n s) (Binding m t) e =
      let same_name : n ≡ m = name_coded.inj n m (cc) in
      let same : s ≡ t = syntax_inj s t (cc) in cc
  syntax_inj (Attr s ns) (Attr t ms) e =
      let same : s ≡ t = syntax_inj s t (cc) in
      let same_names : ns ≡ ms = names_coded.inj ns ms (cc) in cc
  syntax_inj (Alt ss) (Alt ts) e = let same : ss ≡ ts = syntaxes_inj ss ts (cc) in cc
  syntax_inj (Multi ss) (Multi ts) e = let same : ss ≡ ts = syntaxes_inj ss ts (cc) in cc
  syntax_inj (Ancestrage s t) (Ancestrage u v) e =
      let same_left : s ≡ u = syntax_inj s u (cc) in
      let same_right : t ≡ v = syntax_inj t v (cc) in cc
  syntax_inj _ _ e = cc

  pub syntaxes_inj : (ss ts : Syntaxes) → syntaxes_code ss ≡ syntaxes_code ts → ss ≡ ts
  syntaxes_inj none none e = refl
  syntaxes_inj none (more t ts) e = cc
  syntaxes_inj (more s ss) none e = cc
  syntaxes_inj (more s ss) (more t ts) e =
      let same_first : s ≡ t = syntax_inj s t (cc) in
      let same_rest : ss ≡ ts = syntaxes_inj ss ts (cc) in cc

abbrev pub syntax_coded : Coded Syntax
syntax_coded = record { code = syntax_code; inj = syntax_inj }
