-- Options taken apart.
use Rattle.std.proofs.Common.{◌≡◌, ◌&&◌, Bool, true, false, if◌then◌else◌, Option, Some, None, option_map, option_and_then, refl, arith}

pub some_is : {A : Type 0} (x y : A) → Some x ≡ Some y → x ≡ y
some_is x y e = grind (arith, e)

abbrev nothing : (A : Type 0) → Option A
nothing A = None

pub none_is : {A B : Type 0} (y : A) → nothing A ≡ Some y → B
none_is y e = absurd (grind (arith, e))

pub guard : {A : Type 0} (b : Bool) (x : Option A) (y : A) → (if b then x else None) ≡ Some y → (b ≡ true) × (x ≡ Some y)
guard true x y e = (refl, e)
guard false x y e = none_is y e

pub both : (a b : Bool) → (a && b) ≡ true → (a ≡ true) × (b ≡ true)
both true b e = (refl, e)
both false b e = grind (arith, e)

pub one : {A C : Type 0} (f : A → C) (a : Option A) (c : C) → option_map f a ≡ Some c → (x : A) × (a ≡ Some x) × (f x ≡ c)
one f None c e = none_is c e
one f (Some x) c e = (x, refl, some_is (f x) c e)

pub two : {A B C : Type 0} (f : A → B → C) (a : Option A) (b : Option B) (c : C) → option_and_then (λ x. option_map (f x) b) a ≡ Some c
    → (x : A) × (y : B) × (a ≡ Some x) × (b ≡ Some y) × (f x y ≡ c)
two f None b c e = none_is c e
two f (Some x) None c e = none_is c e
two f (Some x) (Some y) c e = (x, y, refl, refl, some_is (f x y) c e)
