-- Worked rows of the definitions, over trees written out.
use Rattle.std.proofs.Common.{◌≡◌, ℕ, Bool, true, false, List, [], ◌∷◌, Option, Some, None, refl}
use Rattle.std.specs.Prelude.{◌&&◌, codes, find}
use Rattle.std.specs.List.{list_any}
use Rattle.std.specs.Option.{option_map_or}
use Rattle.haya_entry.specs.declared.types.EntryType.{EntryType}
use Rattle.haya_entry.specs.declared.types.EntryType.TheVariants.{Article, Blog, Book, Periodical, Web}
use Rattle.haya_entry.specs.Names.{is_of_type}
use Rattle.haya_entry.specs.Tree.{Tree, new_entry, parents, with_fields, with_parents}
use Rattle.haya_selectors.specs.Binds.{binds, bound_to, last_of}
use Rattle.haya_selectors.specs.Calls.{calls}
use Rattle.haya_selectors.specs.Holds.{holds, candidates}
use Rattle.haya_selectors.specs.InWords.{candidate_entries, choices, named_entry, picks}
use Rattle.haya_selectors.specs.Syntax.{Syntax, Syntaxes, Wildcard, Entry, Neg, Binding, Attr, Alt, Multi, Ancestrage, none, more}

-- an entry of a type, with a language, with parents
abbrev plain : EntryType → Tree
plain t = new_entry [] t

abbrev in_language : EntryType → Tree
in_language t = with_fields (λ f. record f { language = Some [] }) (plain t)

abbrev below : List Tree → EntryType → Tree
below ps t = with_parents ps (plain t)

abbrev language : List (List ℕ)
language = codes "language" ∷ []

-- `* > i:*[language]`, parents a blog without, a web with: `i` is the web
abbrev first_with : Syntax
first_with = Ancestrage Wildcard (Binding (codes "i") (Attr Wildcard language))

first_url_parent : bound_to first_with (below (plain Blog ∷ in_language Web ∷ []) Article) (codes "i") ≡ Some (in_language Web)
first_url_parent = refl

first_url_parent_path : last_of (codes "i") (binds first_with (below (plain Blog ∷ in_language Web ∷ []) Article)) ≡ Some (1 ∷ [])
first_url_parent_path = refl

first_url_parent_calls : calls first_with (below (plain Blog ∷ in_language Web ∷ []) Article) ≡ 5
first_url_parent_calls = refl

-- `* > book[language]`, parents a book without, a book with: only the first book is asked
dated_parent : holds (Ancestrage Wildcard (Attr (Entry Book) language)) (below (plain Book ∷ in_language Book ∷ []) Article) ≡ false
dated_parent = refl

-- `* > !blog`, no parents
negation_without_parents : holds (Ancestrage Wildcard (Neg (Entry Blog))) (plain Article) ≡ true
negation_without_parents = refl

-- `a:* > a:*`: with one parent `a` is that one, with none it doesn't hold
abbrev rebound : Syntax
rebound = Ancestrage (Binding (codes "a") Wildcard) (Binding (codes "a") Wildcard)

rebound_name : last_of (codes "a") (binds rebound (below (plain Blog ∷ []) Article)) ≡ Some (0 ∷ [])
rebound_name = refl

rebound_nothing : holds rebound (plain Article) ≡ false
rebound_nothing = refl

-- `(!book)[language]`
abbrev no_book_with : Syntax
no_book_with = Attr (Neg (Entry Book)) language

negated_attribute : holds no_book_with (in_language Article) ≡ true
negated_attribute = refl

negated_attribute_without : holds no_book_with (plain Article) ≡ false
negated_attribute_without = refl

negated_attribute_book : holds no_book_with (in_language Book) ≡ false
negated_attribute_book = refl

-- `* & article` over an article and a book: `*` leaves the article to the other member
abbrev any_and_article : Syntaxes
any_and_article = more Wildcard (more (Entry Article) none)

abbrev article_and_book : List Tree
article_and_book = plain Article ∷ plain Book ∷ []

any_and_article_places : candidates (Multi any_and_article) article_and_book ≡ Some (1 ∷ 0 ∷ [])
any_and_article_places = refl

any_and_article_entries : candidate_entries (Multi any_and_article) article_and_book ≡ Some (plain Book ∷ plain Article ∷ [])
any_and_article_entries = refl

any_and_article_calls : calls (Ancestrage Wildcard (Multi any_and_article)) (below article_and_book Book) ≡ 7
any_and_article_calls = refl

-- the least of two ways for the others
first_of_two_ways : candidates (Multi (more Wildcard any_and_article)) (plain Article ∷ plain Book ∷ plain Blog ∷ []) ≡ Some (1 ∷ 2 ∷ 0 ∷ [])
first_of_two_ways = refl

-- `(article | book) & article & book` over an article, a book and an article
three_members : candidates (Multi (more (Alt (more (Entry Article) (more (Entry Book) none))) (more (Entry Article) (more (Entry Book) none)))) (plain Article ∷ plain Book ∷ plain Article ∷ []) ≡ Some (0 ∷ 2 ∷ 1 ∷ [])
three_members = refl

two_articles : candidates (Multi (more (Entry Article) (more (Entry Article) none))) article_and_book ≡ None
two_articles = refl

-- `x:* & x:*` over two parents: `x` is the second
abbrev named_twice : Syntax
named_twice = Ancestrage Wildcard (Multi (more (Binding (codes "x") Wildcard) (more (Binding (codes "x") Wildcard) none)))

second_is_named : bound_to named_twice (below article_and_book Book) (codes "x") ≡ Some (plain Book)
second_is_named = refl

second_is_named_in_words : named_entry named_twice (codes "x") (below article_and_book Book) ≡ Some (plain Book)
second_is_named_in_words = refl

-- `* > (p:* & q:article)`, in words for any entry
abbrev two_named : Syntax
two_named = Ancestrage Wildcard (Multi (more (Binding (codes "p") Wildcard) (more (Binding (codes "q") (Entry Article)) none)))

abbrev any_beside_article : Tree → Option (Tree × List Tree)
any_beside_article x = find (λ c. list_any (is_of_type Article) c.1) (choices (parents x))

two_named_picked : (x : Tree) → picks two_named x ≡ list_any (λ c. list_any (is_of_type Article) c.1) (choices (parents x))
two_named_picked x = refl

first_named : (x : Tree) → named_entry two_named (codes "p") x ≡ option_map_or (λ c. Some c.0) (any_beside_article x) None
first_named x = refl

second_named : (x : Tree) → named_entry two_named (codes "q") x ≡ option_map_or (λ c. find (is_of_type Article) c.1) (any_beside_article x) None
second_named x = refl

-- `* > (p:* & q:article & book)`
abbrev three_named : Syntax
three_named = Ancestrage Wildcard (Multi (more (Binding (codes "p") Wildcard) (more (Binding (codes "q") (Entry Article)) (more (Entry Book) none))))

abbrev is_article_beside_book : Tree × List Tree → Bool
is_article_beside_book d = is_of_type Article d.0 && list_any (is_of_type Book) d.1

three_named_picked : (x : Tree) → picks three_named x ≡ list_any (λ c. list_any is_article_beside_book (choices c.1)) (choices (parents x))
three_named_picked x = refl

second_of_three : (x : Tree) → named_entry three_named (codes "q") x
    ≡ option_map_or (λ c. option_map_or (λ d. Some d.0) (find is_article_beside_book (choices c.1)) None) (find (λ c. list_any is_article_beside_book (choices c.1)) (choices (parents x))) None
second_of_three x = refl

-- a name of the left side stays as it is, whatever the members are
named_before : (x : Tree) → named_entry (Ancestrage (Binding (codes "a") Wildcard) (Multi any_and_article)) (codes "a") x ≡ Some x
named_before x = refl

-- `(article > periodical) > web`
abbrev chain : Syntax
chain = Ancestrage (Ancestrage (Entry Article) (Entry Periodical)) (Entry Web)

grandparent_chain : holds chain (below (plain Periodical ∷ plain Web ∷ []) Article) ≡ true
grandparent_chain = refl

grandparent_above : holds chain (below (below (plain Web ∷ []) Periodical ∷ []) Article) ≡ false
grandparent_above = refl

no_alternative : (x : Tree) → holds (Alt none) x ≡ false
no_alternative x = refl

no_alternative_on : (xs : List Tree) → candidates (Alt none) xs ≡ None
no_alternative_on xs = refl

nobody_together : (xs : List Tree) → candidates (Multi none) xs ≡ Some []
nobody_together xs = refl
