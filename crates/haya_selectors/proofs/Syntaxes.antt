-- The equations of `syntax`, one for each variant.
use Rattle.std.proofs.Common.{◌≡◌, ◌≢◌, false, true, map, refl, subst, sym, ap, ◌∙◌, string_bytes, String, Global, Vec}
use Rattle.std.specs.Prelude.{Box}
use Rattle.haya_entry.specs.declared.types.EntryType.{EntryType}
use Rattle.haya_selectors.specs.declared.selector.Selector.{Selector}
use Rattle.haya_selectors.specs.declared.selector.Selector.TheOpen as open'
use Rattle.haya_selectors.specs.declared.selector.Selector.TheVariants as variant
use Rattle.haya_selectors.specs.declared.selector.Selector.TheViews.{out-Selector, roll-Selector, roll-out-Selector}
use Rattle.haya_selectors.specs.declared.selector.Selector.TheFolds.{map-Selector, fold-roll-Selector}
use Rattle.haya_selectors.specs.Syntax.{Syntax, Wildcard, Entry, Neg, Binding, Attr, Alt, Multi, Ancestrage, Syntaxes, none, more, syntaxes, syntax, syntax_step}
use Rattle.haya_selectors.specs.Side.{is_end, is_over}

rolled : (x : open'.Selector-F Selector) → syntax (roll-Selector x) ≡ syntax_step (map-Selector Selector Syntax syntax x)
rolled = fold-roll-Selector Syntax syntax_step

pub syntax-wildcard : syntax variant.Wildcard ≡ Wildcard
syntax-wildcard = ap syntax (sym variant.rolls-Wildcard) ∙ rolled open'.Wildcard

pub syntax-entry : (t : EntryType) → syntax (variant.Entry t) ≡ Entry t
syntax-entry t = ap syntax (sym (variant.rolls-Entry t)) ∙ rolled (open'.Entry t)

pub syntax-neg : (s : Box Selector Global) → syntax (variant.Neg s) ≡ Neg (syntax s.value)
syntax-neg s = ap syntax (sym (variant.rolls-Neg s)) ∙ rolled (open'.Neg s)

pub syntax-binding : (n : String Global) (s : Box Selector Global) → syntax (variant.Binding n s) ≡ Binding (string_bytes n) (syntax s.value)
syntax-binding n s = ap syntax (sym (variant.rolls-Binding n s)) ∙ rolled (open'.Binding n s)

pub syntax-attr : (s : Box Selector Global) (names : Vec (String Global) Global) → syntax (variant.Attr s names) ≡ Attr (syntax s.value) (map string_bytes names.items)
syntax-attr s names = ap syntax (sym (variant.rolls-Attr s names)) ∙ rolled (open'.Attr s names)

pub syntax-alt : (ss : Vec Selector Global) → syntax (variant.Alt ss) ≡ Alt (syntaxes (map syntax ss.items))
syntax-alt ss = ap syntax (sym (variant.rolls-Alt ss)) ∙ rolled (open'.Alt ss)

pub syntax-multi : (ss : Vec Selector Global) → syntax (variant.Multi ss) ≡ Multi (syntaxes (map syntax ss.items))
syntax-multi ss = ap syntax (sym (variant.rolls-Multi ss)) ∙ rolled (open'.Multi ss)

pub syntax-ancestrage : (l r : Box Selector Global) → syntax (variant.Ancestrage l r) ≡ Ancestrage (syntax l.value) (syntax r.value)
syntax-ancestrage l r = ap syntax (sym (variant.rolls-Ancestrage l r)) ∙ rolled (open'.Ancestrage l r)

-- ---- a selector that has a first part, and is no `>`
over_alt : (ss : Syntaxes) → is_end (Alt ss) ≡ false → is_over (Alt ss) ≡ true
over_alt none h = absurd (cc)
over_alt (more s ss) h = refl

over_multi : (ss : Syntaxes) → is_end (Multi ss) ≡ false → is_over (Multi ss) ≡ true
over_multi none h = absurd (cc)
over_multi (more s ss) h = refl

over_rolled : (x : open'.Selector-F Selector) → is_end (syntax (roll-Selector x)) ≡ false → ((l r : Box Selector Global) → roll-Selector x ≢ variant.Ancestrage l r) → is_over (syntax (roll-Selector x)) ≡ true
over_rolled open'.Wildcard h n = let end = ap is_end (rolled open'.Wildcard) in absurd (cc)
over_rolled (open'.Entry t) h n = let end = ap is_end (rolled (open'.Entry t)) in absurd (cc)
over_rolled (open'.Neg s) h n = ap is_over (rolled (open'.Neg s))
over_rolled (open'.Binding m s) h n = ap is_over (rolled (open'.Binding m s))
over_rolled (open'.Attr s names) h n = ap is_over (rolled (open'.Attr s names))
over_rolled (open'.Alt ss) h n = let e = rolled (open'.Alt ss) in ap is_over e ∙ over_alt _ (sym (ap is_end e) ∙ h)
over_rolled (open'.Multi ss) h n = let e = rolled (open'.Multi ss) in ap is_over e ∙ over_multi _ (sym (ap is_end e) ∙ h)
over_rolled (open'.Ancestrage l r) h n = absurd (n l r (variant.rolls-Ancestrage l r))

pub over : (s : Selector) → is_end (syntax s) ≡ false → ((l r : Box Selector Global) → s ≢ variant.Ancestrage l r) → is_over (syntax s) ≡ true
over s h n =
    let e = roll-out-Selector s in
    subst (λ t. is_over (syntax t) ≡ true) e (over_rolled (out-Selector s) (subst (λ t. is_end (syntax t) ≡ false) (sym e) h) (λ l r k. n l r (sym e ∙ k)))
