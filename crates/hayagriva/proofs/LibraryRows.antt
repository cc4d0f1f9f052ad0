-- The words of a library, at worked rows.
use Rattle.std.proofs.Common.{◌≡◌, [], ◌∷◌, Some, None, refl}
use Rattle.std.specs.List.{IsDistinct}
use Rattle.std.specs.Prelude.{codes}
use Rattle.haya_entry.specs.Tree.{Tree, new_entry}
use Rattle.haya_entry.specs.declared.types.EntryType.TheVariants.{Blog, Book, Web}
use Rattle.hayagriva.specs.Library.{get, from_entries, push, remove}
use Rattle.hayagriva.specs.Parts.{AreApart}
use Rattle.hayagriva.proofs.Parts.{apart-distinct_keys}

abbrev blog_a : Tree
blog_a = new_entry (codes "a") Blog

abbrev book_a : Tree
book_a = new_entry (codes "a") Book

abbrev web_b : Tree
web_b = new_entry (codes "b") Web

-- a known key keeps its place, and has the new entry
pushes : from_entries (blog_a ∷ web_b ∷ book_a ∷ []) ≡ book_a ∷ web_b ∷ []
pushes = refl

new_key : push web_b (book_a ∷ []) ≡ book_a ∷ web_b ∷ []
new_key = refl

closed_up : remove (codes "a") (book_a ∷ web_b ∷ []) ≡ web_b ∷ []
closed_up = refl

look_up : get (codes "b") (book_a ∷ web_b ∷ []) ≡ Some web_b
look_up = refl

no_key : get (codes "c") (book_a ∷ web_b ∷ []) ≡ None
no_key = refl

apart : AreApart (blog_a ∷ []) (web_b ∷ [])
unfolding IsDistinct
apart = apart-distinct_keys (blog_a ∷ []) (web_b ∷ []) ((refl, tt), (tt, tt))

not_apart : AreApart (blog_a ∷ web_b ∷ []) (book_a ∷ []) → ⊥
not_apart h = let both = h (codes "a") in cc
