-- Cases of the rules for needed names: for each axis and each rule paths whose needed names a mistake in it changes.
use Rattle.std.specs.Prelude.{true, List, [], ◌∷◌, ◌++◌, map, ◌≡◌, refl, ℕ}
use Prim.Native.String.{String}
use Rattle.inference_spec.specs.Cases.Opened.{computing}
use Rattle.inference_spec.specs.Needed.{needed_before_filter, needed, needed_word}
use Rattle.path_spec.specs.Paths.{LocationPath}
use Rattle.path_spec.specs.Reading.{read_bundle}
use Rattle.schema_spec.specs.Names.{Names, element, has}
use Rattle.schema_spec.specs.Records.{schema_in}
use Rattle.schema_spec.specs.Types.{types_of}
use Rattle.text_spec.specs.Cases.{Case, case, AllHold, answered}
use Rattle.text_spec.specs.Lists.{bytes, any_of}
use Rattle.text_spec.specs.Refusals.{result_or}

-- the paths of a bundle under a schema, from their texts
abbrev pub paths_read : List ℕ → List ℕ → List (LocationPath ℕ)
paths_read schema bundle = result_or [] (read_bundle (schema_in schema) bundle)

-- the names that a bundle needs
abbrev pub names_needed : List ℕ → List ℕ → Names
names_needed schema bundle = needed (types_of (schema_in schema)) (paths_read schema bundle)

-- a schema text and a bundle, and the elements that it needs
pub record Question : Type 0 where
  pub schema : List ℕ
  pub bundle : List ℕ

abbrev pub asked : List ℕ → List ℕ → List ℕ → Case Question Names
asked schema bundle elements = case (record { schema = schema; bundle = bundle }) (map element elements)

-- the elements, in the order in which each of these schemas declares them
abbrev pub r : ℕ
r = 0

abbrev pub x : ℕ
x = 1

abbrev pub y : ℕ
y = 2

abbrev pub a : ℕ
a = 3

abbrev pub q : ℕ
q = 4

-- x and y hold a; a is held by y alone; a chain; x is held by y too; a cycle; y holds another element
abbrev pub schema_x : List ℕ
schema_x = bytes "<!ELEMENT r (x|y)*><!ELEMENT x (a|q)*><!ELEMENT y (a)*><!ELEMENT a EMPTY><!ELEMENT q EMPTY>"

abbrev pub schema_apart : List ℕ
schema_apart = bytes "<!ELEMENT r (x|y)*><!ELEMENT x (q)*><!ELEMENT y (a)*><!ELEMENT a EMPTY><!ELEMENT q EMPTY>"

abbrev pub schema_chain : List ℕ
schema_chain = bytes "<!ELEMENT r (x)*><!ELEMENT x (y)*><!ELEMENT y (a)*><!ELEMENT a EMPTY>"

abbrev pub schema_twice : List ℕ
schema_twice = bytes "<!ELEMENT r (x|y)*><!ELEMENT x (a)*><!ELEMENT y (x)*><!ELEMENT a EMPTY>"

abbrev pub schema_cycle : List ℕ
schema_cycle = bytes "<!ELEMENT r (x)*><!ELEMENT x (y)*><!ELEMENT y (a)*><!ELEMENT a (x)*>"

abbrev pub schema_other : List ℕ
schema_other = bytes "<!ELEMENT r (x|y)*><!ELEMENT x (a|q)*><!ELEMENT y (b)*><!ELEMENT a EMPTY><!ELEMENT q EMPTY><!ELEMENT b EMPTY>"

-- the root holds itself
abbrev pub schema_self : List ℕ
schema_self = bytes "<!ELEMENT r (r|x)*><!ELEMENT x EMPTY>"

-- a schema for which the last filter drops a name: elements r, m, z, y, x, a, q
abbrev pub schema_r : List ℕ
schema_r = bytes "<!ELEMENT r (x|m)*><!ELEMENT m (z)*><!ELEMENT z (y|q)*><!ELEMENT y (a)*><!ELEMENT x (a|q)*><!ELEMENT a EMPTY><!ELEMENT q EMPTY>"

abbrev pub filtered : List ℕ
filtered = bytes "descendant::node()[child::q]/child::a/ancestor::z\n"

-- the elements that a path needs
abbrev pub needs : List ℕ → String → List ℕ → Case Question Names
needs s p elements = asked s (bytes p) elements

pub cases : List (Case Question Names)
cases =
    -- ancestor and ancestor-or-self: "those in K above T"
    needs schema_x "child::x/child::a/ancestor::node()\n" (r ∷ x ∷ a ∷ [])
    ∷ needs schema_x "child::x/child::a/ancestor-or-self::node()\n" (r ∷ x ∷ a ∷ [])
    -- "K is cut again"
    ∷ needs schema_x "child::node()[child::q]/child::a/parent::node()\n" (r ∷ x ∷ a ∷ q ∷ [])
    -- "K' = K with T' added", and no other name
    ∷ needs (bytes "<!ELEMENT r (r|a)*><!ELEMENT a EMPTY><!ELEMENT b (b|a)*>") "descendant-or-self::node()/ancestor::b\n" []
    ∷ needs (bytes "<!ELEMENT r (b)*><!ELEMENT a (b)*><!ELEMENT b (b)*>") "descendant::node()[child::node()]/ancestor-or-self::b/ancestor::a\n" []
    -- "K is cut to T and above T"
    ∷ needs (bytes "<!ELEMENT r (b)*><!ELEMENT a (b|a)*><!ELEMENT b (a|b)*>")
    "descendant-or-self::r/descendant-or-self::r/child::node()[parent::a]/ancestor::a\n" []
    -- self: "T and K stay"; neighbours are the same name; no names between
    ∷ needs schema_x "child::x[self::r]\n" []
    ∷ needs schema_x "child::x/self::x/parent::r\n" (r ∷ x ∷ [])
    ∷ needs schema_x "child::node()/self::x\n" (r ∷ x ∷ [])
    ∷ needs schema_cycle "child::x/self::x\n" (r ∷ x ∷ [])
    -- child: "all that T holds"; K stays, "only those of T' that pass the step's test" are added; no names between
    ∷ needs schema_x "child::x[child::x]\n" []
    ∷ needs schema_x "child::x/child::node()\n" (r ∷ x ∷ a ∷ q ∷ [])
    ∷ needs schema_x "child::x/parent::r\n" (r ∷ x ∷ [])
    ∷ needs schema_twice "child::x/parent::y\n" []
    ∷ needs schema_cycle "child::x/child::y\n" (r ∷ x ∷ y ∷ [])
    -- descendant: "all below T", without T; K stays; neighbours are below; names "below the one and above the next"
    ∷ needs schema_x "self::r[descendant::r]\n" []
    ∷ needs schema_chain "descendant::a\n" (r ∷ x ∷ y ∷ a ∷ [])
    ∷ needs schema_x "child::x/descendant::a/ancestor::r\n" (r ∷ x ∷ a ∷ [])
    ∷ needs schema_x "child::node()/descendant::q\n" (r ∷ x ∷ q ∷ [])
    -- descendant-or-self: "T added to that"
    ∷ needs schema_x "child::x/descendant-or-self::x\n" (r ∷ x ∷ [])
    ∷ needs schema_chain "descendant-or-self::a\n" (r ∷ x ∷ y ∷ a ∷ [])
    ∷ needs schema_x "child::x/descendant-or-self::a/ancestor::r\n" (r ∷ x ∷ a ∷ [])
    ∷ needs schema_x "child::node()/descendant-or-self::q\n" (r ∷ x ∷ q ∷ [])
    -- parent: those "that hold a name of T"; "K' = K within T' and above T'"; neighbours hold; no names between
    ∷ needs schema_chain "child::x/child::y[parent::r]\n" []
    ∷ needs schema_twice "child::x/child::a/parent::x/parent::y\n" []
    ∷ needs schema_twice "child::x/child::a/parent::x/parent::r\n" (r ∷ x ∷ a ∷ [])
    ∷ needs schema_chain "descendant::node()/parent::x\n" (r ∷ x ∷ y ∷ [])
    ∷ needs schema_apart "descendant::node()/parent::x\n" (r ∷ x ∷ q ∷ [])
    ∷ needs schema_cycle "child::x/child::y/parent::x\n" (r ∷ x ∷ y ∷ [])
    -- ancestor: "above T", without T
    ∷ needs schema_x "child::x[ancestor::x]\n" []
    ∷ needs schema_twice "child::x/child::a/ancestor::x/parent::y\n" []
    ∷ needs schema_twice "child::x/child::a/ancestor::x/parent::r\n" (r ∷ x ∷ a ∷ [])
    ∷ needs schema_chain "descendant::a/ancestor::r\n" (r ∷ x ∷ y ∷ a ∷ [])
    ∷ needs schema_apart "descendant::node()/ancestor::x\n" (r ∷ x ∷ q ∷ [])
    ∷ needs schema_cycle "child::x/child::y/ancestor::x\n" (r ∷ x ∷ y ∷ [])
    -- ancestor-or-self: "T added to that"
    ∷ needs schema_x "child::x/ancestor-or-self::x\n" (r ∷ x ∷ [])
    ∷ needs schema_x "child::x/child::a/ancestor-or-self::r\n" (r ∷ x ∷ a ∷ [])
    ∷ needs schema_twice "child::x/child::a/ancestor-or-self::x/parent::y\n" []
    ∷ needs schema_twice "child::x/child::a/ancestor-or-self::x/parent::r\n" (r ∷ x ∷ a ∷ [])
    ∷ needs schema_apart "descendant::node()/ancestor-or-self::x\n" (r ∷ x ∷ q ∷ [])
    ∷ needs schema_cycle "child::x/child::y/ancestor-or-self::x\n" (r ∷ x ∷ y ∷ [])
    -- conditions: "some alternative", in its steps' order, "started from type {A} and K cut to A and above A"
    ∷ needs schema_x "child::x[child::q or child::x]\n" (r ∷ x ∷ q ∷ [])
    ∷ needs schema_x "child::x[child::x or child::q]\n" (r ∷ x ∷ q ∷ [])
    ∷ needs schema_x "child::x[child::a/parent::x]\n" (r ∷ x ∷ a ∷ [])
    ∷ needs schema_x "child::node()[child::a/parent::y]\n" (r ∷ y ∷ a ∷ [])
    -- "for each name on a complete walk that carries a condition, the same for every alternative from it"
    ∷ needs schema_x "child::x[child::node()]\n" (r ∷ x ∷ a ∷ q ∷ [])
    ∷ needs schema_x "child::x[parent::r/child::y]\n" (r ∷ x ∷ y ∷ [])
    ∷ needs schema_x "child::node()[child::a/parent::node()]/child::q\n" (r ∷ x ∷ a ∷ q ∷ [])
    ∷ needs schema_other "child::node()[child::node()]/child::q\n" (r ∷ x ∷ a ∷ q ∷ [])
    -- a sibling axis "counts as parent::node()/child::test", with the context of that parent; the root has a parent only if it holds itself
    ∷ needs schema_x "child::x/following-sibling::y\n" (r ∷ x ∷ y ∷ [])
    ∷ needs schema_x "child::x/preceding-sibling::r\n" []
    ∷ needs schema_x "child::x/child::a/preceding-sibling::node()\n" (r ∷ x ∷ a ∷ q ∷ [])
    ∷ needs schema_x "child::x[preceding-sibling::y]\n" (r ∷ x ∷ y ∷ [])
    ∷ needs schema_x "following-sibling::x\n" []
    ∷ needs schema_self "following-sibling::x\n" (r ∷ x ∷ [])
    -- the condition of a rewritten step stands on its last part: y holds a, r does not; r holds y, y does not
    ∷ needs schema_x "child::x/following-sibling::y[child::a]\n" (r ∷ x ∷ y ∷ a ∷ [])
    ∷ needs schema_x "child::x/preceding-sibling::y[child::y]\n" []
    -- "Following and preceding are first rewritten by way of ancestor-or-self, the sibling axis and descendant-or-self": y is needed as a sibling
    -- of x, which is above q; x itself is stayed at, and so is y; y is between x and a
    ∷ needs schema_x "child::x/child::q/following::a\n" (r ∷ x ∷ y ∷ a ∷ q ∷ [])
    ∷ needs schema_x "child::x/preceding::y\n" (r ∷ x ∷ y ∷ [])
    ∷ needs schema_chain "child::x/following::a\n" (r ∷ x ∷ y ∷ a ∷ [])
    ∷ needs schema_x "child::x[following::y]\n" (r ∷ x ∷ y ∷ [])
    ∷ needs schema_x "preceding::x\n" []
    -- with the condition on the last part: of all names on the way a alone has a parent y
    ∷ needs schema_x "child::y/following::a[parent::y]\n" (r ∷ x ∷ y ∷ a ∷ [])
    ∷ needs schema_x "child::y/preceding::a[parent::y]\n" (r ∷ x ∷ y ∷ a ∷ [])
    -- the last filter drops z, element 2
    ∷ asked schema_r filtered (0 ∷ 4 ∷ 5 ∷ 6 ∷ [])
    -- "A bundle's needed names are the union", after the last filter of each: z stays dropped beside m, element 1
    ∷ asked schema_r (filtered ++ bytes "child::m\n") (0 ∷ 1 ∷ 4 ∷ 5 ∷ 6 ∷ [])
    ∷ []

pub all_hold : AllHold (λ q. names_needed q.schema q.bundle) cases
unfolding computing cases
all_hold = answered cases

-- before the last filter z is needed: it stands on a complete walk
pub z-on-a-walk : any_of (λ p. has (element 2) (needed_before_filter (types_of (schema_in schema_r)) p)) (paths_read schema_r filtered) ≡ true
unfolding computing
z-on-a-walk = refl

-- an element with a text name beside an element that is not needed: bits 0, 2 and 34
abbrev pub schema_text : List ℕ
schema_text = bytes "<!ELEMENT r (x|t)*><!ELEMENT x EMPTY><!ELEMENT t (#PCDATA)>"

pub word_holds : needed_word (types_of (schema_in schema_text)) (paths_read schema_text (bytes "child::t/child::text()\n")) ≡ 17179869189
unfolding computing
word_holds = refl
