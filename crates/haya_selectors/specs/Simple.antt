-- Selectors whose answer is a truth value alone: they bind no name, and no list of candidates is
-- kept for them.
use Rattle.std.specs.Prelude.{Bool, true, false, ◌&&◌}
use Rattle.haya_selectors.specs.Syntax.{Syntax, Wildcard, Entry, Neg, Binding, Attr, Alt, Multi, Ancestrage, Syntaxes, none, more}

-- whether the candidates of the selector are all parents, one of them or none
abbrev pub has_plain_candidates : Syntax → Bool
has_plain_candidates Wildcard = true
has_plain_candidates (Entry t) = true
has_plain_candidates (Neg s) = true
has_plain_candidates (Ancestrage l r) = true
has_plain_candidates s = false

abbrev mutual
  pub is_simple : Syntax → Bool
  is_simple Wildcard = true
  is_simple (Entry t) = true
  is_simple (Neg s) = is_simple s
  is_simple (Binding n s) = false
  is_simple (Attr s names) = has_plain_candidates s && is_simple s
  is_simple (Alt ss) = all_simple ss
  is_simple (Multi ss) = false
  is_simple (Ancestrage l r) = is_simple l && is_simple r

  pub all_simple : Syntaxes → Bool
  all_simple none = true
  all_simple (more s ss) = is_simple s && all_simple ss
