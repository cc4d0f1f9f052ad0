-- The laws of parents used for selectors written out.
use Rattle.std.proofs.Common.{◌≡◌, Bool, true, false, [], ◌∷◌, refl}
use Rattle.std.specs.Prelude.{not, ◌||◌, ◌&&◌, codes}
use Rattle.std.specs.List.{list_any}
use Rattle.haya_entry.specs.declared.types.EntryType.TheVariants.{Article, Blog, Periodical, Web}
use Rattle.haya_entry.specs.Names.{is_of_type, has_all}
use Rattle.haya_entry.specs.Tree.{Tree, parents}
use Rattle.haya_selectors.specs.Holds.{holds}
use Rattle.haya_selectors.specs.Syntax.{Syntax, Wildcard, Entry, Neg, Binding, Attr, Alt, Multi, Ancestrage, Syntaxes, none, more}
use Rattle.haya_selectors.proofs.ParentSides.{holds_at_some_parent, holds_at_no_parent, names_change_no_answer}

-- `periodical | w:*[doi]`
abbrev periodical_or_doi : Syntax
periodical_or_doi = Alt (more (Entry Periodical) (more (Binding (codes "w") (Attr Wildcard (codes "doi" ∷ []))) none))

abbrev is_periodical_or_has_doi : Tree → Bool
is_periodical_or_has_doi p = is_of_type Periodical p || (has_all (codes "doi" ∷ []) p || false)

-- `article > (periodical | w:*[doi])` holds at the articles with such a parent
some_parent : (x : Tree) → holds (Ancestrage (Entry Article) periodical_or_doi) x ≡ (is_of_type Article x && list_any is_periodical_or_has_doi (parents x))
some_parent x = holds_at_some_parent (Entry Article) periodical_or_doi x refl

-- `article > !(periodical | w:*[doi])` at those with none
no_parent : (x : Tree) → holds (Ancestrage (Entry Article) (Neg periodical_or_doi)) x ≡ (is_of_type Article x && not (list_any is_periodical_or_has_doi (parents x)))
no_parent x = holds_at_no_parent (Entry Article) periodical_or_doi x refl

-- `* > (periodical > !web)`: any selector may stand around the second `>`
abbrev outside_webs : Syntax
outside_webs = Ancestrage (Entry Periodical) (Neg (Entry Web))

some_chain : (x : Tree) → holds (Ancestrage Wildcard outside_webs) x ≡ (true && list_any (holds outside_webs) (parents x))
some_chain x = holds_at_some_parent Wildcard outside_webs x refl

-- `a:* > (p:periodical & b:blog)[doi]` has a name inside a bracket list, `a:* > (p:periodical & b:blog)` has none
abbrev members : Syntaxes
members = more (Entry Periodical) (more (Entry Blog) none)

names_erased : (x : Tree) →
    holds (Ancestrage Wildcard (Multi members)) x
    ≡ holds (Ancestrage (Binding (codes "a") Wildcard) (Multi (more (Binding (codes "p") (Entry Periodical)) (more (Binding (codes "b") (Entry Blog)) none)))) x
names_erased x = names_change_no_answer (Ancestrage (Binding (codes "a") Wildcard) (Multi (more (Binding (codes "p") (Entry Periodical)) (more (Binding (codes "b") (Entry Blog)) none)))) x refl
