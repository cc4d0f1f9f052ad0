-- Lists of nodes, and what their nodes stand for.
use Rattle.std.proofs.Common.{◌≡◌, ◌<◌, ◌≤◌, ℕ, zero, suc, ◌+◌, Bool, true, false, List, [], ◌∷◌, ◌++◌, length, map, get_or, take, drop, drop-cons, add-one, refl, sym, ap, ◌∙◌, arith}
use Rattle.std.specs.Prelude.{◌&&◌, if◌then◌else◌, nat_le, nat_lt}
use Rattle.std.specs.List.{fold}
use Rattle.haya_text.proofs.Tells.{and-both}
use Rattle.std.proofs.lemmas.Bool.Decides.{nat_tests}
use Rattle.std.proofs.lemmas.List.{length-append, get_or_append_left, map-append, take_more}
use Rattle.std.proofs.lemmas.List.Sums.{fold-append}
use Rattle.std.proofs.Math.Seq.{get_or-append_seam}
use Rattle.haya_selectors.specs.declared.node.Node.{Node}
use Rattle.haya_selectors.specs.declared.node.Node.TheVariants as variant
use Rattle.haya_selectors.specs.Compiled.{node_syntax, name_of, syntax_in, with_node, node_syntaxes, above, fits, all_fit}
use Rattle.haya_selectors.specs.Syntax.{Syntax, Wildcard, Neg, Binding, Attr, Alt, Multi, Ancestrage, chained, more, negations, syntaxes}

-- one item more
pub map_more : {X Y : Type 0} (f : X → Y) (xs : List X) (i : ℕ) (x : X) → i < length xs → x ≡ get_or xs i x → map f (take (i + 1) xs) ≡ map f (take i xs) ++ f x ∷ []
map_more f xs i x h e = ap (map f) (take_more xs i x h ∙ ap (λ y. take i xs ++ y ∷ []) (sym e)) ∙ map-append f (take i xs) (x ∷ [])

pub above_at : (ns : List ℕ) (i : ℕ) → i < length ns → get_or ns i 0 < above ns
above_at [] i h = absurd (omega arith)
above_at (m ∷ ns) zero h = omega arith
above_at (m ∷ ns) (suc i) h = let later = above_at ns i (omega arith) in omega (arith, later)

-- one member after another
pub left_more : (f : ℕ → Syntax) (ns : List ℕ) (i : ℕ) → i < length ns
    → syntaxes (map f (drop i ns)) ≡ more (f (get_or ns i 0)) (syntaxes (map f (drop (i + 1) ns)))
left_more f ns i h = rw (drop-cons ns i 0 h, add-one) refl

pub above_push : (ns : List ℕ) (n most : ℕ) → above ns ≤ most → n < most → above (ns ++ n ∷ []) ≤ most
above_push [] n most h k = omega arith
above_push (m ∷ ns) n most h k = let later = above_push ns n most (omega arith) k in omega (arith, later)

pub above_pop : (ns : List ℕ) (n most : ℕ) → above (ns ++ n ∷ []) ≤ most → (above ns ≤ most) × (n < most)
above_pop [] n most h = (omega arith, omega arith)
above_pop (m ∷ ns) n most h = let later = above_pop ns n most (omega arith) in (omega (arith, later.0), later.1)

pub map_same : {X : Type 0} (f g : ℕ → X) (ns : List ℕ) (most : ℕ) → above ns ≤ most → ((n : ℕ) → n < most → f n ≡ g n) → map f ns ≡ map g ns
map_same f g [] most h each = refl
map_same f g (n ∷ ns) most h each = let here = each n (omega arith) in let later = map_same f g ns most (omega arith) each in λ i. here i ∷ later i

-- nodes whose children stand for the same, and whose slots have the same names, stand for the same
module _ (name other : ℕ → List ℕ) (f g : ℕ → Syntax) (slots number : ℕ) (names : (slot : ℕ) → slot < slots → name slot ≡ other slot)
    (each : (n : ℕ) → n < number → f n ≡ g n) where
  pub same_syntax : (node : Node) → fits slots number node ≡ true → node_syntax name f node ≡ node_syntax other g node
  same_syntax variant.Wildcard h = refl
  same_syntax (variant.Entry t) h = refl
  same_syntax (variant.Neg s others) h = ap (λ t. Neg (negations others t)) (each s (grind (arith, nat_tests)))
  same_syntax (variant.Binding n s) h =
      let two = and-both (nat_lt n slots) (nat_lt s number) h in
      let a = names n (grind (arith, nat_tests, two.0)) in
      let b = each s (grind (arith, nat_tests, two.1)) in
      λ i. Binding (a i) (b i)
  same_syntax (variant.Attr s ns) h = ap (λ t. Attr t ns) (each s (grind (arith, nat_tests)))
  same_syntax (variant.Alt ss) h = ap (λ ts. Alt (syntaxes ts)) (map_same f g ss.items number (grind (arith, nat_tests)) each)
  same_syntax (variant.Multi ss) h = ap (λ ts. Multi (syntaxes ts)) (map_same f g ss.items number (grind (arith, nat_tests)) each)
  same_syntax (variant.Ancestrage l rs r) h =
      let two = and-both (nat_le (above rs.items) number) (nat_lt l number && nat_lt r number) h in
      let ends = and-both (nat_lt l number) (nat_lt r number) two.1 in
      let a = each l (grind (arith, nat_tests, ends.0)) in
      let b = each r (grind (arith, nat_tests, ends.1)) in
      let c = map_same f g rs.items number (grind (arith, nat_tests, two.0)) each in
      λ i. Ancestrage (chained (a i) (c i)) (b i)

-- ---- nodes that fit
pub fits_at : (slots start : ℕ) (nodes : List Node) (i : ℕ) (node : Node) → all_fit slots start nodes ≡ true → i < length nodes → node ≡ get_or nodes i node
    → fits slots (start + i) node ≡ true
fits_at slots start [] i node h l e = absurd (omega arith)
fits_at slots start (n ∷ nodes) zero node h l e = let here : start + 0 ≡ start = omega arith in rw (here, e) (and-both (fits slots start n) (all_fit slots (suc start) nodes) h).0
fits_at slots start (n ∷ nodes) (suc i) node h l e =
    let next : start + suc i ≡ suc start + i = omega arith in
    rw next (fits_at slots (suc start) nodes i node (and-both (fits slots start n) (all_fit slots (suc start) nodes) h).1 (omega arith) e)

pub fit_push : (slots start : ℕ) (nodes : List Node) (node : Node) → all_fit slots start nodes ≡ true → fits slots (start + length nodes) node ≡ true
    → all_fit slots start (nodes ++ node ∷ []) ≡ true
fit_push slots start [] node h k = let here : start + 0 ≡ start = omega arith in let it = rw here at k in rw it refl
fit_push slots start (n ∷ nodes) node h k =
    let two = and-both (fits slots start n) (all_fit slots (suc start) nodes) h in
    let next : start + suc (length nodes) ≡ suc start + length nodes = omega arith in
    rw (two.0, fit_push slots (suc start) nodes node two.1 (rw next at k)) refl

-- the same where it may not be added
pub fit_push_if : (slots : ℕ) (nodes : List Node) (node : Node) (b : Bool) → all_fit slots 0 nodes ≡ true → fits slots (length nodes) node ≡ true
    → all_fit slots 0 (if b then nodes ++ node ∷ [] else nodes) ≡ true
fit_push_if slots nodes node true h k = let here : length nodes ≡ 0 + length nodes = omega arith in fit_push slots 0 nodes node h (rw here at k)
fit_push_if slots nodes node false h k = h

more_slots : (slots others number : ℕ) (node : Node) → slots ≤ others → fits slots number node ≡ true → fits others number node ≡ true
more_slots slots others number (variant.Binding n s) l h =
    let two = and-both (nat_lt n slots) (nat_lt s number) h in
    let here : nat_lt n others ≡ true = grind (arith, nat_tests, two.0) in
    rw (here, two.1) refl
more_slots slots others number variant.Wildcard l h = h
more_slots slots others number (variant.Entry t) l h = h
more_slots slots others number (variant.Neg s n) l h = h
more_slots slots others number (variant.Attr s ns) l h = h
more_slots slots others number (variant.Alt ss) l h = h
more_slots slots others number (variant.Multi ss) l h = h
more_slots slots others number (variant.Ancestrage m rs r) l h = h

pub all_more_slots : (slots others start : ℕ) (nodes : List Node) → slots ≤ others → all_fit slots start nodes ≡ true → all_fit others start nodes ≡ true
all_more_slots slots others start [] l h = refl
all_more_slots slots others start (n ∷ nodes) l h =
    let two = and-both (fits slots start n) (all_fit slots (suc start) nodes) h in
    rw (more_slots slots others start n l two.0, all_more_slots slots others (suc start) nodes l two.1) refl

-- ---- what nodes stand for
module _ (names : List (List ℕ)) where
  -- from what is known of the nodes before
  abbrev known_after : List Syntax → List Node → List Syntax
  known_after known nodes = fold (with_node names) known nodes

  length-known : (known : List Syntax) (nodes : List Node) → length (known_after known nodes) ≡ length known + length nodes
  length-known known [] = omega arith
  length-known known (n ∷ nodes) =
      let next = node_syntax (name_of names) (syntax_in known) n in
      omega (arith, length-known (known ++ next ∷ []) nodes, length-append known (next ∷ []))

  stays_known : (known : List Syntax) (nodes : List Node) (i : ℕ) → i < length known → syntax_in (known_after known nodes) i ≡ syntax_in known i
  stays_known known [] i h = refl
  stays_known known (n ∷ nodes) i h =
      let next = node_syntax (name_of names) (syntax_in known) n in
      stays_known (known ++ next ∷ []) nodes i (omega (arith, length-append known (next ∷ []))) ∙ get_or_append_left known (next ∷ []) Wildcard i h

  stands_from : (slots : ℕ) (known : List Syntax) (nodes : List Node) (i : ℕ) (node : Node) → i < length nodes → node ≡ get_or nodes i node
      → fits slots (length known + i) node ≡ true
      → syntax_in (known_after known nodes) (length known + i) ≡ node_syntax (name_of names) (syntax_in (known_after known nodes)) node
  stands_from slots known [] i node l e h = absurd (omega arith)
  stands_from slots known (n ∷ nodes) zero node l e h =
      let next = node_syntax (name_of names) (syntax_in known) n in
      let here : length known + 0 ≡ length known = omega arith in
      let later = stays_known (known ++ next ∷ []) nodes (length known) (omega (arith, length-append known (next ∷ []))) in
      let same = same_syntax (name_of names) (name_of names) (syntax_in known) (syntax_in (known_after known (n ∷ nodes))) slots (length known) (λ s k. refl)
      (λ i k. sym (stays_known known (n ∷ nodes) i k)) n (rw (here, e) at h) in
      rw (here, e) (later ∙ get_or-append_seam known next [] Wildcard ∙ same)
  stands_from slots known (n ∷ nodes) (suc i) node l e h =
      let next = node_syntax (name_of names) (syntax_in known) n in
      let there : length known + suc i ≡ length (known ++ next ∷ []) + i = omega (arith, length-append known (next ∷ [])) in
      rw there (stands_from slots (known ++ next ∷ []) nodes i node (omega arith) e (rw there at h))

  pub length-node_syntaxes : (nodes : List Node) → length (node_syntaxes names nodes) ≡ length nodes
  unfolding node_syntaxes
  length-node_syntaxes nodes = length-known [] nodes ∙ omega arith

  pub node_stands : (slots : ℕ) (nodes : List Node) (i : ℕ) (node : Node) → all_fit slots 0 nodes ≡ true → i < length nodes → node ≡ get_or nodes i node
      → syntax_in (node_syntaxes names nodes) i ≡ node_syntax (name_of names) (syntax_in (node_syntaxes names nodes)) node
  unfolding node_syntaxes
  node_stands slots nodes i node h l e =
      let here : 0 + i ≡ i = omega arith in
      sym (ap (syntax_in (known_after [] nodes)) here) ∙ stands_from slots [] nodes i node l e (fits_at slots 0 nodes i node h l e)

  pub push_is : (nodes : List Node) (node : Node)
      → node_syntaxes names (nodes ++ node ∷ []) ≡ node_syntaxes names nodes ++ node_syntax (name_of names) (syntax_in (node_syntaxes names nodes)) node ∷ []
  unfolding node_syntaxes
  push_is nodes node = fold-append (with_node names) [] nodes (node ∷ [])

  pub push_keeps : (nodes news : List Node) (node : Node) → news ≡ nodes ++ node ∷ [] → (i : ℕ) → i < length nodes
      → syntax_in (node_syntaxes names news) i ≡ syntax_in (node_syntaxes names nodes) i
  push_keeps nodes news node e i h =
      rw (e, push_is nodes node) (get_or_append_left (node_syntaxes names nodes) _ Wildcard i (omega (arith, length-node_syntaxes nodes)))

  pub push_stands : (nodes news : List Node) (node : Node) → news ≡ nodes ++ node ∷ []
      → syntax_in (node_syntaxes names news) (length nodes) ≡ node_syntax (name_of names) (syntax_in (node_syntaxes names nodes)) node
  push_stands nodes news node e =
      rw (e, push_is nodes node, ← length-node_syntaxes nodes) (get_or-append_seam (node_syntaxes names nodes) _ [] Wildcard)

-- more names change nothing
module _ (names others : List (List ℕ)) (slots : ℕ) (same : (slot : ℕ) → slot < slots → name_of names slot ≡ name_of others slot) where
  renamed : (known : List Syntax) (nodes : List Node) → all_fit slots (length known) nodes ≡ true
      → fold (with_node names) known nodes ≡ fold (with_node others) known nodes
  renamed known [] h = refl
  renamed known (n ∷ nodes) h =
      let two = and-both (fits slots (length known) n) (all_fit slots (suc (length known)) nodes) h in
      let next = node_syntax (name_of names) (syntax_in known) n in
      let here : next ≡ node_syntax (name_of others) (syntax_in known) n =
      same_syntax (name_of names) (name_of others) (syntax_in known) (syntax_in known) slots (length known) same (λ i k. refl) n two.0 in
      let there : suc (length known) ≡ length (known ++ next ∷ []) = omega (arith, length-append known (next ∷ [])) in
      renamed (known ++ next ∷ []) nodes (rw there at two.1) ∙ ap (λ s. fold (with_node others) (known ++ s ∷ []) nodes) here

  pub names_keep : (nodes : List Node) → all_fit slots 0 nodes ≡ true → node_syntaxes names nodes ≡ node_syntaxes others nodes
  unfolding node_syntaxes
  names_keep nodes h = renamed [] nodes h
