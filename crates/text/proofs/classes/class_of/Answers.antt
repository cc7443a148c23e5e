-- `class_of` meets its contract: each way out is for a run of bytes, or for single bytes, and the rule is computed over each.
use mathlib.Core.List.{List, [], ◌∷◌}
use Prim.Native.Nat.{ℕ}
use native.Mathlib.Omega.{arith}
use Rattle.text_spec.specs.Bytes.{class_of}
use Rattle.text.specs.classes.Runs.{ranged, listed, is_class, class-is}
use Rattle.text.specs.declared.classes.Class.TheVariants.{Blank, Letter, Digit, Markup, Other, Foreign}
use Rattle.text.proofs.classes.class_of.Goals as goal

abbrev markups : List ℕ
markups = 33 ∷ 35 ∷ 38 ∷ 47 ∷ 91 ∷ 93 ∷ 124 ∷ []

abbrev others : List ℕ
others = 34 ∷ 39 ∷ 61 ∷ 64 ∷ 92 ∷ 123 ∷ []

-- the single numbers, the last arm's first
abbrev keys : List (List ℕ)
keys = others ∷ markups ∷ (32 ∷ []) ∷ []

pub returns-in-48-to-57 : goal.returns-in-48-to-57
unfolding class_of
returns-in-48-to-57 c =
    class-is Digit c.args.b (ranged (is_class Digit) keys 47 11 tt (omega arith) (omega arith) c.in-48-to-57.in_default-own.rest)

pub returns-in-65-to-90 : goal.returns-in-65-to-90
unfolding class_of
returns-in-65-to-90 c =
    class-is Letter c.args.b (ranged (is_class Letter) keys 64 27 tt (omega arith) (omega arith) c.in-65-to-90.in_default-own.rest)

pub returns-in-65-to-90-2 : goal.returns-in-65-to-90-2
unfolding class_of
returns-in-65-to-90-2 c =
    class-is Letter c.args.b (ranged (is_class Letter) keys 97 26 tt (omega arith) (omega arith) c.in-65-to-90.in_default-own.rest)

pub returns-in_default : goal.returns-in_default
unfolding class_of
returns-in_default c =
    class-is Foreign c.args.b (ranged (is_class Foreign) keys 0 9 tt (omega arith) (omega arith) c.in_default.in_default-own.rest)

pub returns-in_default-2 : goal.returns-in_default-2
unfolding class_of
returns-in_default-2 c =
    class-is Foreign c.args.b (ranged (is_class Foreign) keys 11 21 tt (omega arith) (omega arith) c.in_default.in_default-own.rest)

pub returns-in_default-3 : goal.returns-in_default-3
unfolding class_of
returns-in_default-3 c =
    class-is Foreign c.args.b (ranged (is_class Foreign) keys 127 129 tt (omega arith) (omega arith) c.in_default.in_default-own.rest)

pub returns-in-33-to-126 : goal.returns-in-33-to-126
unfolding class_of
returns-in-33-to-126 c = class-is Other c.args.b (listed (is_class Other) others c.args.b tt c.in-33-to-126.in-33-to-126-own.keys3)

pub returns-in-33-to-126-2 : goal.returns-in-33-to-126-2
unfolding class_of
returns-in-33-to-126-2 c =
    class-is Other c.args.b (ranged (is_class Other) keys 32 6 tt (omega arith) (omega arith) c.in-33-to-126.in_default-own.rest)

pub returns-in-33-to-126-3 : goal.returns-in-33-to-126-3
unfolding class_of
returns-in-33-to-126-3 c =
    class-is Other c.args.b (ranged (is_class Other) keys 45 2 tt (omega arith) (omega arith) c.in-33-to-126.in_default-own.rest)

pub returns-in-33-to-126-4 : goal.returns-in-33-to-126-4
unfolding class_of
returns-in-33-to-126-4 c =
    class-is Other c.args.b (ranged (is_class Other) keys 91 6 tt (omega arith) (omega arith) c.in-33-to-126.in_default-own.rest)

pub returns-in-33-to-126-5 : goal.returns-in-33-to-126-5
unfolding class_of
returns-in-33-to-126-5 c =
    class-is Other c.args.b (ranged (is_class Other) keys 123 4 tt (omega arith) (omega arith) c.in-33-to-126.in_default-own.rest)

pub returns-in-33 : goal.returns-in-33
unfolding class_of
returns-in-33 c = class-is Markup c.args.b (listed (is_class Markup) markups c.args.b tt c.in-33.in-33-own.keys2)

pub returns-in-33-2 : goal.returns-in-33-2
unfolding class_of
returns-in-33-2 c =
    class-is Markup c.args.b (ranged (is_class Markup) keys 38 7 tt (omega arith) (omega arith) c.in-33.in_default-own.rest)

pub returns-in-33-3 : goal.returns-in-33-3
unfolding class_of
returns-in-33-3 c =
    class-is Markup c.args.b (ranged (is_class Markup) keys 58 6 tt (omega arith) (omega arith) c.in-33.in_default-own.rest)

pub returns-in-9 : goal.returns-in-9
unfolding class_of
returns-in-9 c = class-is Blank c.args.b (listed (is_class Blank) (32 ∷ []) c.args.b tt c.in-9.is)

pub returns-in-9-2 : goal.returns-in-9-2
unfolding class_of
returns-in-9-2 c =
    class-is Blank c.args.b (ranged (is_class Blank) keys 9 2 tt (omega arith) (omega arith) c.in-9.in_default-own.rest)
