-- What is said of an entry and of its ancestors.
use Rattle.std.proofs.Common.{◌≡◌, ℕ, zero, suc, ◌+◌, ◌*◌, ◌<◌, get_or, length, arith, List, [], ◌∷◌, ◌++◌, Some, None, Option, map, refl, sym, ap, ◌∙◌, subst, append_assoc, append-nil}
use Rattle.std.specs.Prelude.{IfSome, MatchOption, Vec, option_to_list}
use Rattle.std.specs.declared.alloc.Global.{Global}
use Rattle.haya_entry.specs.Tree.{Tree, Trees, fields, new_entry, node, no_trees, one_more, trees, tree_list, parents, size, sizes}
use Rattle.haya_printing.specs.declared.left_out.LeftOut.{LeftOut}
use Rattle.haya_printing.specs.declared.left_out.Part.{Part}
use Rattle.haya_printing.specs.declared.left_out.Part.TheVariants.{Key, Parents}
use Rattle.haya_printing.specs.LeftOut.{Alone, AreAllPrintable, AreLinesOf, AreSaidOf, But, IsPrintable, IsSaidOf, Named, Names, NoLine, NoMore, NoParents, Over, Said, SaysFields, SaysPart, SaysParts, SetsOver, Unsaid, named, named_part, parts_of}
use Rattle.haya_line_library.specs.Input.{Describes}
use Rattle.haya_printing.specs.Printed.{entry_text}

-- ---- all is said
mutual
  pub all_said : (t : Tree) → IsSaidOf t (Some t) []
  all_said (node f ps) = But f f ps ps [] [] [] refl (each_said ps) refl

  each_said : (ts : Trees) → AreSaidOf ts ts []
  each_said no_trees = NoMore
  each_said (one_more t ts) = Said t t ts ts [] [] [] (all_said t) (each_said ts) refl

-- ---- parents behind others
behind : Trees → Trees → Trees
behind no_trees us = us
behind (one_more t ts) us = one_more t (behind ts us)

trees-append : (ts us : List Tree) → trees (ts ++ us) ≡ behind (trees ts) (trees us)
unfolding behind
trees-append [] us = refl
trees-append (t ∷ ts) us = ap (one_more t) (trees-append ts us)

behind-none : (ts : Trees) → behind ts no_trees ≡ ts
unfolding behind
behind-none no_trees = refl
behind-none (one_more t ts) = ap (one_more t) (behind-none ts)

said_behind : {ts us : Trees} {a : Named} → AreSaidOf ts us a → (vs ws : Trees) (b : Named) → AreSaidOf vs ws b → AreSaidOf (behind ts vs) (behind us ws) (a ++ b)
unfolding behind
said_behind NoMore vs ws b h = h
said_behind (Said t u ts us here rest all one more is) vs ws b h =
    Said t u (behind ts vs) (behind us ws) here (rest ++ b) (all ++ b) one (said_behind more vs ws b h) (ap (λ l. l ++ b) is ∙ append_assoc here rest b)
said_behind (Unsaid t ts us here rest all one more is) vs ws b h =
    Unsaid t (behind ts vs) (behind us ws) here (rest ++ b) (all ++ b) one (said_behind more vs ws b h) (ap (λ l. l ++ b) is ∙ append_assoc here rest b)

-- ---- what functions say
names_then : (old mid new : Vec LeftOut Global) (first second : Named) → Names old mid first → Names mid new second → Names old new (first ++ second)
names_then old mid new first second one two = two ∙ ap (λ l. l ++ second) one ∙ append_assoc (named old) first second

pub names_push : (old mid new : Vec LeftOut Global) (first : Named) (one : List ℕ × Part) → Names old mid first → Names mid new (one ∷ []) → Names old new (first ++ one ∷ [])
names_push old mid new first one before now = names_then old mid new first (one ∷ []) before now

pub no_line_said : (old new : Vec LeftOut Global) (t : Tree) (key : List ℕ) → key ≡ (fields t).key → (¬ IsPrintable (new_entry (fields t).key (fields t).entry_type))
    → Names old new ((key, Key) ∷ []) → SaysPart old new t None
no_line_said old new (node f ps) key same none names = record {
  more = (f.key, Key) ∷ [];
  names = names ∙ ap (λ k. named old ++ (k, Key) ∷ []) same;
  said = NoLine f ps none;
  printable = tt;
}

trees-tree_list : (ts : Trees) → trees (tree_list ts) ≡ ts
trees-tree_list no_trees = refl
trees-tree_list (one_more t ts) = ap (one_more t) (trees-tree_list ts)

-- an entry over what is said of its parents
pub over_said : (o a b c : Vec LeftOut Global) (t part whole : Tree) (ts : List Tree) (qs : Trees) (key : List ℕ) → ts ≡ parents t → key ≡ (fields t).key → SaysFields o a t part → SaysParts a b (trees ts) qs
    → SetsOver b c key (fields part) qs whole → SaysPart o c t (Some whole)
over_said o a b c (node f ps) part whole ts qs key under same its above over = by (subst (λ k. SetsOver b c k (fields part) qs whole) same over)
  where
    said_above : AreSaidOf ps qs above.more
    said_above = subst (λ us. AreSaidOf us qs above.more) (ap trees under ∙ trees-tree_list ps) above.said

    told : Names o b (parts_of f.key its.parts ++ above.more)
    told = names_then o a b (parts_of f.key its.parts) above.more its.names above.names

    by : SetsOver b c f.key (fields part) qs whole → SaysPart o c (node f ps) (Some whole)
    by (Over whole is printable names) = record {
      more = parts_of f.key its.parts ++ above.more;
      names = names ∙ append-nil (named b) ∙ told;
      said = subst (λ w. IsSaidOf (node f ps) (Some w) (parts_of f.key its.parts ++ above.more)) (sym is) (But f (fields part) ps qs its.parts above.more _ its.leaves said_above refl);
      printable = printable;
    }
    by (Alone whole is printable other names) = record {
      more = parts_of f.key its.parts ++ above.more ++ (f.key, Parents) ∷ [];
      names = names_then o b c (parts_of f.key its.parts ++ above.more) ((f.key, Parents) ∷ []) told names;
      said =
          subst (λ w. IsSaidOf (node f ps) (Some w) (parts_of f.key its.parts ++ above.more ++ (f.key, Parents) ∷ [])) (sym is)
          (NoParents f (fields part) ps qs its.parts above.more _ its.leaves said_above above.printable other refl);
      printable = printable;
    }

-- no parents yet
pub none_said : (o : Vec LeftOut Global) (us : List Tree) → us ≡ [] → SaysParts o o no_trees (trees us)
none_said o us none = rw none (record { more = []; names = sym (append-nil (named o)); said = NoMore; printable = tt })

printable_behind : (us : List Tree) (u : Tree) → AreAllPrintable (trees us) → IsPrintable u → AreAllPrintable (trees (us ++ u ∷ []))
printable_behind [] u all one = (one, tt)
printable_behind (t ∷ us) u all one = (all.0, printable_behind us u all.1 one)

-- one parent more, of which something is said, or nothing
one_said : (o a b : Vec LeftOut Global) (ts us : List Tree) (t u : Tree) → SaysParts o a (trees ts) (trees us) → SaysPart a b t (Some u) → SaysParts o b (trees (ts ++ t ∷ [])) (trees (us ++ u ∷ []))
one_said o a b ts us t u before now = record {
  more = before.more ++ now.more;
  names = names_then o a b before.more now.more before.names now.names;
  said =
      rw (trees-append ts (t ∷ []), trees-append us (u ∷ []))
      (said_behind before.said (one_more t no_trees) (one_more u no_trees) now.more (Said t u no_trees no_trees now.more [] now.more now.said NoMore (sym (append-nil now.more))));
  printable = printable_behind us u before.printable now.printable;
}

one_unsaid : (o a b : Vec LeftOut Global) (ts us : List Tree) (t : Tree) → SaysParts o a (trees ts) (trees us) → SaysPart a b t None → SaysParts o b (trees (ts ++ t ∷ [])) (trees us)
one_unsaid o a b ts us t before now = record {
  more = before.more ++ now.more;
  names = names_then o a b before.more now.more before.names now.names;
  said =
      rw (trees-append ts (t ∷ []))
      (subst (λ l. AreSaidOf (behind (trees ts) (one_more t no_trees)) l (before.more ++ now.more)) (behind-none (trees us))
      (said_behind before.said (one_more t no_trees) no_trees now.more (Unsaid t no_trees no_trees now.more [] now.more now.said NoMore (sym (append-nil now.more)))));
  printable = before.printable;
}

pub one_more_said : (o a b : Vec LeftOut Global) (ts us vs : List Tree) (t : Tree) (part : Option Tree) → SaysParts o a (trees ts) (trees us) → SaysPart a b t part → vs ≡ us ++ option_to_list part
    → SaysParts o b (trees (ts ++ t ∷ [])) (trees vs)
one_more_said o a b ts us vs t (Some u) before now put = subst (λ l. SaysParts o b (trees (ts ++ t ∷ [])) (trees l)) (sym put) (one_said o a b ts us t u before now)
one_more_said o a b ts us vs t None before now put = subst (λ l. SaysParts o b (trees (ts ++ t ∷ [])) (trees l)) (sym (put ∙ append-nil us)) (one_unsaid o a b ts us t before now)

-- ---- the lines
pub all_lines : (left : Vec LeftOut Global) (t : Tree) (text : List ℕ) → left.items ≡ [] → text ≡ entry_text t → Describes text (t ∷ []) → AreLinesOf t text (named left)
all_lines left t text none is describes = record {
  part = Some t;
  said = subst (IsSaidOf t (Some t)) (sym (ap (map named_part) none)) (all_said t);
  lines = (is, describes);
}

pub lines_said : (none left : Vec LeftOut Global) (t : Tree) (part : Option Tree) (text : List ℕ) → none.items ≡ [] → SaysPart none left t part → MatchOption part (text ≡ []) (λ p. text ≡ entry_text p)
    → AreLinesOf t text (named left)
lines_said none left t part text no_items says is = record {
  part = part;
  said = subst (IsSaidOf t part) (sym (says.names ∙ ap (λ l. map named_part l ++ says.more) no_items)) says.said;
  lines = by part says.printable is;
}
  where
    by : (o : Option Tree) → IfSome o IsPrintable → MatchOption o (text ≡ []) (λ p. text ≡ entry_text p) → MatchOption o (text ≡ []) (λ p. (text ≡ entry_text p) × Describes text (p ∷ []))
    by None printable same = same
    by (Some p) printable same = (same, subst (λ l. Describes l (p ∷ [])) (sym same) printable.describes)

-- ---- how many entries
pub size_above : (t : Tree) (ts : List Tree) → ts ≡ parents t → 2 * sizes (trees ts) + 1 < 2 * size t
size_above (node f ps) ts under = let same : sizes (trees ts) ≡ sizes ps = ap sizes (ap trees under ∙ trees-tree_list ps) in omega (arith, same)

pub size_within : {X : Type 0} (v : X → Tree) (xs : List X) (i : ℕ) (x : X) → i < length xs → x ≡ get_or xs i x → 2 * size (v x) < 2 * sizes (trees (map v xs)) + 1
size_within v [] i x within is = absurd (omega (arith, within))
size_within v (y ∷ xs) zero x within is = let same : size (v x) ≡ size (v y) = ap (λ z. size (v z)) is in omega (arith, same)
size_within v (y ∷ xs) (suc i) x within is = let less = size_within v xs i x (omega (arith, within)) is in omega (arith, less)
