-- How much a search has to do.
use Rattle.std.proofs.Common.{◌≡◌, ℕ, zero, suc, ◌+◌, ◌<◌, cond, List, [], ◌∷◌, length, set, arith, refl, ap, ◌∙◌, inl, inr}
use Rattle.std.proofs.lemmas.Bool.{cases_lt, le-leb, lt-leb}
use Rattle.haya_bibtex_inherited.specs.Graphs.{Graph, targets}
use Rattle.haya_bibtex_inherited.specs.Search.{node_work, nodes_work, place_at, settled_place}
use Rattle.haya_bibtex_inherited.specs.declared.search.Place.{Place}
use Rattle.haya_bibtex_inherited.specs.declared.search.Place.TheVariants.{New, Open, Ranked}

-- a new node that is opened
pub nodes_work-open : (g : Graph) (ps : List Place) (v i : ℕ) → length ps ≡ length g → v < length ps → place_at ps v ≡ New
    → nodes_work g (set ps v (Open i)) + (length (targets g v) + 1) ≡ nodes_work g ps
nodes_work-open [] ps v i l h new = absurd (omega arith)
nodes_work-open (ws ∷ g) [] v i l h new = absurd (omega arith)
nodes_work-open (ws ∷ g) (q ∷ ps) zero i l h new =
    let b : node_work q (length ws + 1) ≡ length ws + 1 = ap (λ x. node_work x (length ws + 1)) new in
    omega (arith, b)
nodes_work-open (ws ∷ g) (q ∷ ps) (suc v) i l h new =
    let more = nodes_work-open g ps v i (omega arith) (omega arith) new in
    omega (arith, more)

settled_work : (s r n : ℕ) (p : Place) → node_work (settled_place s r p) n ≡ node_work p n
settled_work s r n New = refl
settled_work s r n (Open i) = elim (cases_lt i s) [
  | inl l ↦ ap (λ b. node_work (cond b (Ranked r) (Open i)) n) (lt-leb s i l)
  | inr l ↦ ap (λ b. node_work (cond b (Ranked r) (Open i)) n) (le-leb s i l)
]
settled_work s r n (Ranked q) = refl

nodes_work-same : (g : Graph) (ps ps' : List Place) → length ps' ≡ length ps → ((v n : ℕ) → node_work (place_at ps' v) n ≡ node_work (place_at ps v) n)
    → nodes_work g ps' ≡ nodes_work g ps
nodes_work-same [] ps ps' l same = refl
nodes_work-same (ws ∷ g) [] [] l same = refl
nodes_work-same (ws ∷ g) [] (q ∷ ps') l same = absurd (omega arith)
nodes_work-same (ws ∷ g) (p ∷ ps) [] l same = absurd (omega arith)
nodes_work-same (ws ∷ g) (p ∷ ps) (q ∷ ps') l same =
    let here : node_work q (length ws + 1) ≡ node_work p (length ws + 1) = same 0 (length ws + 1) in
    let more = nodes_work-same g ps ps' (omega arith) (λ v n. same (suc v) n) in
    omega (arith, here, more)

-- nodes that are left
pub nodes_work-leave : (g : Graph) (ps ps' : List Place) (s r : ℕ) → length ps' ≡ length ps → ((v : ℕ) → place_at ps' v ≡ settled_place s r (place_at ps v))
    → nodes_work g ps' ≡ nodes_work g ps
nodes_work-leave g ps ps' s r l is = nodes_work-same g ps ps' l (λ v n. ap (λ p. node_work p n) (is v) ∙ settled_work s r n (place_at ps v))
