-- Options, and lists of what an option holds.
use Rattle.std.proofs.Common.{◌≡◌, refl, arith, Option, Some, None, [], option_to_list, All, AllPairs, length, ◌≤◌, Bool, true, false, if◌then◌else◌, IfSome, not}
use Rattle.std.specs.Option.{option_map, option_or}
use Rattle.std.proofs.lemmas.{List.Elements.All-nil, List.Elements.All-cons, Grind.common_steps}

pub option_or-none : {X : Type 0} (o : Option X) → option_or o None ≡ o
option_or-none o = grind (arith, common_steps)

pub option_map_some : {A B P : Type 0} (f : A → B) (o : Option A) (y : B) → option_map f o ≡ Some y → ((x : A) → o ≡ Some x → f x ≡ y → P) → P
option_map_some f None y is next = absurd (cc)
option_map_some f (Some x) y is next = next x refl (cc)

-- what gives nothing had nothing to give
pub option_map_none : {X Y : Type 0} (f : X → Y) (o : Option X) → option_map f o ≡ None → o ≡ None
option_map_none f o none = grind (arith, common_steps, none)

-- where nothing is given the test fails
pub if_none : {X : Type 0} (b : Bool) (x : X) → (if b then Some x else None) ≡ None → b ≡ false
if_none b x none = grind (arith, common_steps, none)

pub unless_none : {X : Type 0} (b : Bool) (x : X) (rest : Option X) → (if not b then Some x else rest) ≡ None → (b ≡ true) × (rest ≡ None)
unless_none b x rest none = grind (arith, common_steps, none)

pub All-option : {X : Type 0} (P : X → Type 0) (o : Option X) → ((x : X) → o ≡ Some x → P x) → All P (option_to_list o)
All-option P None each = All-nil P
All-option P (Some x) each = All-cons P x [] (each x refl) (All-nil P)

pub IfSome-each : {X : Type 0} (P : X → Type 0) (o : Option X) → ((x : X) → o ≡ Some x → P x) → IfSome o P
IfSome-each P None each = tt
IfSome-each P (Some x) each = each x refl

pub All-IfSome : {X : Type 0} (P : X → Type 0) (o : Option X) → IfSome o P → All P (option_to_list o)
All-IfSome P None holds = All-nil P
All-IfSome P (Some x) holds = All-cons P x [] holds (All-nil P)

pub AllPairs-option : {X : Type 0} (R : X → X → Type 0) (o : Option X) → AllPairs R (option_to_list o)
AllPairs-option R None = λ i j d before within. absurd (omega arith)
AllPairs-option R (Some x) = λ i j d before within. absurd (omega arith)

pub length-option : {X : Type 0} (o : Option X) → length (option_to_list o) ≤ 1
length-option o = grind (arith, common_steps)
