-- How nodes grow.
use Rattle.std.proofs.Common.{◌≡◌, ◌<◌, ◌≤◌, ℕ, List, [], ◌∷◌, ◌++◌, Result, Ok, Err, map, refl, sym, ap, ◌∙◌, arith}
use Rattle.std.specs.Prelude.{IfOk}
use Rattle.haya_selectors.specs.declared.nodes.Nodes.{Nodes}
use Rattle.haya_selectors.specs.Compiled.{above}
use Rattle.std.proofs.lemmas.List.{map-append}
use Rattle.haya_selectors.specs.Nodes.{Adds, Keeps, chain_at, node_count, syntax_at}
use Rattle.haya_selectors.specs.Syntax.{Syntax, Ancestrage, chained}
use Rattle.haya_selectors.proofs.Chains.{chained_push}
use Rattle.haya_selectors.proofs.NodeLists.{map_same}

pub keeps_same : (a : Nodes) → Keeps a a
keeps_same a = record { count = omega arith; slots = omega arith; names = λ slot h. refl; syntaxes = λ i h. refl }

pub keeps_then : (a b c : Nodes) → Keeps a b → Keeps b c → Keeps a c
keeps_then a b c h k = record {
  count = omega (arith, h.count, k.count);
  slots = omega (arith, h.slots, k.slots);
  names = λ slot l. k.names slot (omega (arith, l, h.slots)) ∙ h.names slot l;
  syntaxes = λ i l. k.syntaxes i (omega (arith, l, h.count)) ∙ h.syntaxes i l;
}

-- a node that is added behind others
pub then_adds : {E : Type 0} (r : Result ℕ E) (a b c : Nodes) (s t : Syntax) → Keeps a b → s ≡ t → IfOk r (Adds b c s) → IfOk r (Adds a c t)
then_adds (Ok i) a b c s t k e h = record { keeps = keeps_then a b c k h.keeps; inside = h.inside; stands = h.stands ∙ e }
then_adds (Err e) a b c s t k q h = tt

-- nodes that were there stand for the same
pub keeps_all : (a b : Nodes) (ns : List ℕ) → Keeps a b → above ns ≤ node_count a → map (syntax_at b) ns ≡ map (syntax_at a) ns
keeps_all a b ns k h = map_same (syntax_at b) (syntax_at a) ns (node_count a) h k.syntaxes

-- a chain grows by a node that was added
pub chain_added : (a b : Nodes) (first : ℕ) (others news : List ℕ) (n : ℕ) → Keeps a b → first < node_count a → above others ≤ node_count a → news ≡ others ++ n ∷ []
    → chain_at b first news ≡ Ancestrage (chain_at a first others) (syntax_at b n)
chain_added a b first others news n k h l e =
    ap (λ ns. chained (syntax_at b first) (map (syntax_at b) ns)) e
    ∙ ap (chained (syntax_at b first)) (map-append (syntax_at b) others (n ∷ []))
    ∙ chained_push (syntax_at b first) (map (syntax_at b) others) (syntax_at b n)
    ∙ (λ i. Ancestrage (chained (k.syntaxes first h i) (keeps_all a b others k l i)) (syntax_at b n))

-- the node of a chain
pub chain_node : (a : Nodes) (first : ℕ) (others left : List ℕ) (last : ℕ) → others ≡ left ++ last ∷ []
    → Ancestrage (chained (syntax_at a first) (map (syntax_at a) left)) (syntax_at a last) ≡ chain_at a first others
chain_node a first others left last e = sym (
    ap (λ ns. chained (syntax_at a first) (map (syntax_at a) ns)) e
    ∙ ap (chained (syntax_at a first)) (map-append (syntax_at a) left (last ∷ []))
    ∙ chained_push (syntax_at a first) (map (syntax_at a) left) (syntax_at a last)
    )
