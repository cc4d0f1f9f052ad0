-- Nodes that are marked.
use Rattle.std.proofs.Common.{◌≡◌, ◌<◌, ◌≤◌, ℕ, zero, suc, ◌+◌, Bool, true, false, List, [], ◌∷◌, ◌++◌, length, map, get_or, take, refl, sym, ap, ◌∙◌, arith}
use Rattle.std.specs.Prelude.{◌&&◌, if◌then◌else◌}
use Rattle.std.specs.List.{list_all}
use Rattle.std.proofs.lemmas.List.{get_or_append_left, length-append, length-map, length-take, map-append, take-append-le, take_more}
use Rattle.haya_selectors.specs.declared.node.Node.{Node}
use Rattle.haya_selectors.specs.Compiled.{above, all_fit, name_of, node_syntaxes, syntax_in}
use Rattle.haya_selectors.specs.Marks.{AreMarked}
use Rattle.haya_selectors.specs.Simple.{all_simple, is_simple}
use Rattle.haya_selectors.specs.Syntax.{Syntax, Wildcard, Ancestrage, chained, syntaxes}
use Rattle.haya_selectors.proofs.Chains.{is_simple-chained}
use Rattle.haya_selectors.proofs.NodeLists.{length-node_syntaxes, names_keep, push_is}

at_map_take : (f : Syntax → Bool) (all : List Syntax) (n i : ℕ) → i < length (map f (take n all)) → get_or (map f (take n all)) i false ≡ f (get_or all i Wildcard)
at_map_take f all zero i h = absurd (omega arith)
at_map_take f [] (suc n) i h = absurd (omega arith)
at_map_take f (s ∷ all) (suc n) zero h = refl
at_map_take f (s ∷ all) (suc n) (suc i) h = at_map_take f all n i (omega arith)

module _ (names : List (List ℕ)) (nodes : List Node) (marks : List Bool) (h : AreMarked names nodes marks) where
  abbrev all : List Syntax
  all = node_syntaxes names nodes

  pub marks_fit : length marks ≤ length nodes
  marks_fit = omega (arith, ap length h, length-map (take (length marks) all) is_simple, length-take (length marks) all, length-node_syntaxes names nodes)

  pub marked_at : (i : ℕ) → i < length marks → get_or marks i false ≡ is_simple (syntax_in all i)
  marked_at i l = ap (λ ms. get_or ms i false) h ∙ at_map_take is_simple all (length marks) i (omega (arith, ap length h))

  pub marked_more : (b : Bool) → length marks < length nodes → b ≡ is_simple (syntax_in all (length marks)) → AreMarked names nodes (marks ++ b ∷ [])
  marked_more b l e =
      let more : take (length marks + 1) all ≡ take (length marks) all ++ get_or all (length marks) Wildcard ∷ [] = take_more all (length marks) Wildcard (omega (arith, length-node_syntaxes names nodes)) in
      rw (length-append marks (b ∷ []), more, map-append, ← h, e) refl

  pub marked_push : (node : Node) → AreMarked names (nodes ++ node ∷ []) marks
  marked_push node =
      h ∙ ap (map is_simple) (sym (ap (take (length marks)) (push_is names nodes node) ∙ take-append-le (length marks) all _ (omega (arith, marks_fit, length-node_syntaxes names nodes))))

  -- the same where it may not be added
  pub marked_push_if : (node : Node) (b : Bool) → AreMarked names (if b then nodes ++ node ∷ [] else nodes) marks
  marked_push_if node true = marked_push node
  marked_push_if node false = h

  pub marked_members : (numbers : List ℕ) → above numbers ≤ length marks → list_all (λ n. get_or marks n false) numbers ≡ all_simple (syntaxes (map (syntax_in all) numbers))
  marked_members [] l = refl
  marked_members (n ∷ ns) l = rw (marked_at n (omega arith), marked_members ns (omega arith)) refl

  -- a chain, by the marks of its parts
  pub marked_chain : (l r : ℕ) (rs : List ℕ) → l < length marks → above rs ≤ length marks → r < length marks
      → is_simple (Ancestrage (chained (syntax_in all l) (map (syntax_in all) rs)) (syntax_in all r)) ≡ ((get_or marks l false && list_all (λ n. get_or marks n false) rs) && get_or marks r false)
  marked_chain l r rs h k i = rw (is_simple-chained (syntax_in all l) (map (syntax_in all) rs), marked_at l h, marked_members rs k, marked_at r i) refl

-- a name more changes no mark
pub marked_names_if : {X : Type 0} (name : X → List ℕ) (xs : List X) (x : X) (b : Bool) (nodes : List Node) (marks : List Bool) → all_fit (length xs) 0 nodes ≡ true
    → AreMarked (map name xs) nodes marks → AreMarked (map name (if b then xs ++ x ∷ [] else xs)) nodes marks
marked_names_if name xs x false nodes marks fit h = h
marked_names_if name xs x true nodes marks fit h =
    let others = map name (xs ++ x ∷ []) in
    let same : (slot : ℕ) → slot < length xs → name_of (map name xs) slot ≡ name_of others slot =
    λ slot l. sym (ap (λ names. name_of names slot) (map-append name xs (x ∷ [])) ∙ get_or_append_left (map name xs) (name x ∷ []) [] slot (omega (arith, length-map xs name))) in
    h ∙ ap (λ all. map is_simple (take (length marks) all)) (names_keep (map name xs) others (length xs) same nodes fit)
