-- The initials that are written and those that are left, step by step.
use Rattle.std.proofs.Common.{◌≡◌, ◌⊎◌, inl, inr, ℕ, true, List, [], ◌∷◌, ◌++◌, refl, append-nil, ap, sym, ◌∙◌, append_assoc}
use Rattle.std.proofs.Common.{Bool, Bor, Option, None, Some, String, option_map, string_bytes}
use Rattle.std.specs.Option.{unwrap_or}
use Rattle.std.specs.Str.{trim_end}
use Rattle.unicode_segmentation.specs.Grapheme.{graphemes}
use Rattle.haya_people.specs.declared.initials.Place.{Place}
use Rattle.haya_people.specs.declared.initials.Place.TheVariants.{Apart, Plain, Initial, BehindPlain}
use Rattle.haya_people.specs.declared.initials.Step.{Step}
use Rattle.haya_people.specs.Initials.{Grapheme, Style, style_with, initials, initials_of, is_separator}
use Rattle.haya_people.specs.InitialsLeft.{initials_left, one_more, words_bytes, written_with}
use Rattle.haya_people.specs.Words.{Word, words}

-- what is written, and what is left to write at a place behind which these graphemes stand, make up all
pub record Written (style : Style) (front : List ℕ) (place : Place) (left : List Grapheme) (all : List ℕ) : Type 0 where
  pub parts : front ++ initials_left style place (words is_separator left) ≡ all

pub written_none : (style : Style) (given_name : List ℕ) (left : List Grapheme) → left ≡ graphemes true given_name → Written style [] Apart left (initials_of style given_name)
unfolding initials_of
written_none style given_name left e = record { parts = ap (λ gs. words_bytes style (words is_separator gs)) e }

pub written_next : (style : Style) (front : List ℕ) (place : Place) (g : Grapheme) (left behind : List Grapheme) (all : List ℕ) (step : Step)
    → ((ws : List (Word Grapheme)) → initials_left style place (one_more g ws) ≡ written_with style step ws)
    → left ≡ g ∷ behind → Written style front place left all → Written style (front ++ (step.front.now ++ step.back.now)) step.next behind all
unfolding words
written_next style front place g left behind all step s e w =
    let rest : List ℕ = initials_left style step.next (words is_separator behind) in record {
      parts = append_assoc front (step.front.now ++ step.back.now) rest ∙ ap (λ l. front ++ l) (append_assoc step.front.now step.back.now rest)
          ∙ ap (λ l. front ++ l) (sym (s (words is_separator behind))) ∙ ap (λ gs. front ++ initials_left style place (words is_separator gs)) (sym e) ∙ w.parts;
    }

-- behind an initial the delimiter is the last to be written
pub written_initial : (style : Style) (front : List ℕ) (place : Place) (left : List Grapheme) (all : List ℕ) → left ≡ [] → place ≡ Initial → Written style front place left all → front ++ trim_end style.delimiter ≡ all
unfolding words
written_initial style front place left all e p w = ap (λ q. front ++ initials_left style q []) (sym p) ∙ ap (λ gs. front ++ initials_left style place (words is_separator gs)) (sym e) ∙ w.parts

-- anywhere else all is written
pub written_all : (style : Style) (front : List ℕ) (place : Place) (left : List Grapheme) (all : List ℕ) → left ≡ [] → (place ≡ Apart) ⊎ ((place ≡ Plain) ⊎ (place ≡ BehindPlain)) → Written style front place left all → front ≡ all
unfolding words
written_all style front place left all e p w = sym (append-nil front) ∙ ap (λ l. front ++ l) (sym (done place p)) ∙ ap (λ gs. front ++ initials_left style place (words is_separator gs)) (sym e) ∙ w.parts
  where
    done : (q : Place) → (q ≡ Apart) ⊎ ((q ≡ Plain) ⊎ (q ≡ BehindPlain)) → initials_left style q [] ≡ []
    done Apart h = refl
    done Plain h = refl
    done BehindPlain h = refl
    done Initial (inl h) = cc
    done Initial (inr (inl h)) = cc
    done Initial (inr (inr h)) = cc

delimiter_bytes : (d : Option (Bor (List ℕ))) (e : Bor (List ℕ)) → e.now ≡ [] → (unwrap_or d e).now ≡ unwrap_or (option_map (λ b. b.now) d) []
delimiter_bytes None e n = n
delimiter_bytes (Some b) e n = refl

-- the initials of a given name that is there
pub initials_some : {Z : Type 0} (given_name : Option (String Z)) (s : String Z) (text : List ℕ) (d : Option (Bor (List ℕ))) (e r : Bor (List ℕ)) (h : Bool) → given_name ≡ Some s → text ≡ string_bytes s → r ≡ unwrap_or d e → e.now ≡ []
    → initials_of (record { delimiter = r.now; with_hyphen = h }) text ≡ initials (style_with d h) (option_map string_bytes given_name)
initials_some given_name s text d e r h some is u n =
    ap (λ t. initials_of (record { delimiter = t; with_hyphen = h }) text) (ap (λ (b : Bor (List ℕ)). b.now) u ∙ delimiter_bytes d e n)
    ∙ ap (initials_of (style_with d h)) is
    ∙ ap (λ o. initials (style_with d h) (option_map string_bytes o)) (sym some)

pub initials_none : {Z : Type 0} (given_name : Option (String Z)) (style : Style) → given_name ≡ None → [] ≡ initials style (option_map string_bytes given_name)
initials_none given_name style none = ap (λ o. initials style (option_map string_bytes o)) (sym none)
