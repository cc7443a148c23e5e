-- Relations between names as tables, and the closure of one: one or more steps, by Warshall's method.
use Rattle.std.specs.Prelude.{Bool, cond, ◌&&◌, ◌||◌, List, [], ◌∷◌}
use Rattle.schema_spec.specs.Names.{Name, Names, same_name, has}
use Rattle.text_spec.specs.Lists.{filter_by}

-- a name and those that it is related to
pub record Line : Type 0 where
  pub from : Name
  pub to : Names

abbrev pub Relation : Type 0
Relation = List Line

abbrev pub line_of : Relation → Name → Names
line_of [] a = []
line_of (l ∷ ls) a = cond (same_name a l.from) l.to (line_of ls a)

abbrev pub related : Relation → Name → Name → Bool
related r a b = has b (line_of r a)

-- the table of a test, for the names of the first list against those of the second
abbrev pub table_of : Names → Names → (Name → Name → Bool) → Relation
table_of [] ns f = []
table_of (a ∷ as') ns f = record { from = a; to = filter_by (f a) ns } ∷ table_of as' ns f

-- related directly, or by way of k
abbrev pub through : Relation → Name → Name → Name → Bool
through r k a b = related r a b || (related r a k && related r k b)

-- related by f directly or by way of names of ks
unfoldable pub by_way_of : Names → (Name → Name → Bool) → Names → Relation
by_way_of ns f [] = table_of ns ns f
by_way_of ns f (k ∷ ks) =
    let r = by_way_of ns f ks in
    table_of ns ns (through r k)

-- one or more steps of f, within ns
unfoldable pub closure : Names → (Name → Name → Bool) → Relation
closure ns f = by_way_of ns f ns
