-- Functions of conditionals and of options.
use Rattle.std.proofs.Common.{Bor, ◌≡◌, Bool, true, false, cond, Option, None, Some, refl}
use Rattle.std.specs.Prelude.{is_some, option_map}
use Rattle.std.specs.Option.{option_copied}

pub ap-cond : {X Y : Type 0} (f : X → Y) (b : Bool) (x y : X) → f (cond b x y) ≡ cond b (f x) (f y)
ap-cond f true x y = refl
ap-cond f false x y = refl

pub option_map-copied : {X Y : Type 0} (f : X → Y) (o : Option (Bor X)) → option_map (λ x. f x.now) o ≡ option_map f (option_copied o)
option_map-copied f None = refl
option_map-copied f (Some x) = refl

pub option_map-cond : {X Y : Type 0} (h : X → Y) (b : Bool) (x : X) (o : Option X) → option_map h (cond b (Some x) o) ≡ cond b (Some (h x)) (option_map h o)
option_map-cond h b x o = ap-cond (option_map h) b (Some x) o

pub option_map-map : {X Y Z : Type 0} (g : Y → Z) (h : X → Y) (o : Option X) → option_map g (option_map h o) ≡ option_map (λ x. g (h x)) o
option_map-map g h None = refl
option_map-map g h (Some x) = refl

pub is_some-map : {X Y : Type 0} (h : X → Y) (o : Option X) → is_some (option_map h o) ≡ is_some o
is_some-map h None = refl
is_some-map h (Some x) = refl
