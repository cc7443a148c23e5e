-- The states of the schema machine: which is dead, and which spell declarations.
use Rattle.std.specs.Prelude.{true, List, [], ◌∷◌, reverse, ◌≡◌, refl}
use Rattle.std.proofs.Math.Option.{some}
use Rattle.schema_spec.specs.Declarations.{Declaration}
use Rattle.schema_spec.specs.Machine.{State, dead, between, in_keyword, after_keyword, before_name, in_name, before_content, in_empty, after_open, in_pcdata, after_pcdata, expecting, in_use, closed, past, after_content, is_dead, step, ends, schema_machine}
use Rattle.text_laws.specs.Machines.{DeadState}
use Rattle.text_laws.specs.Tests.{never}

is-dead : (q : State) → is_dead q ≡ true → q ≡ dead
is-dead dead e = refl
is-dead (between ds) e = cc
is-dead (in_keyword w o) e = cc
is-dead (after_keyword o) e = cc
is-dead (before_name o) e = cc
is-dead (in_name j n o) e = cc
is-dead (before_content h) e = cc
is-dead (in_empty w h) e = cc
is-dead (after_open h) e = cc
is-dead (in_pcdata w h) e = cc
is-dead (after_pcdata h) e = cc
is-dead (expecting f fs h) e = cc
is-dead (in_use j n f fs h) e = cc
is-dead (closed p fs h) e = cc
is-dead (past p fs h) e = cc
is-dead (after_content c h) e = cc

pub schema-dead : DeadState schema_machine dead
unfolding step
schema-dead = record { dies = refl; only = is-dead; stays = λ k b. refl; silent = refl; begins = refl }

-- a text that spells declarations ends after the last of them
pub ends-between : (q : State) {ds : List Declaration} → ends q ≡ some ds
    → (last : Declaration) × (before : List Declaration) × (q ≡ between (last ∷ before)) × (ds ≡ reverse (last ∷ before))
ends-between (between []) e = never (cc)
ends-between (between (d ∷ es)) e = (d, es, refl, cc)
ends-between dead e = never (cc)
ends-between (in_keyword w o) e = never (cc)
ends-between (after_keyword o) e = never (cc)
ends-between (before_name o) e = never (cc)
ends-between (in_name j n o) e = never (cc)
ends-between (before_content h) e = never (cc)
ends-between (in_empty w h) e = never (cc)
ends-between (after_open h) e = never (cc)
ends-between (in_pcdata w h) e = never (cc)
ends-between (after_pcdata h) e = never (cc)
ends-between (expecting f fs h) e = never (cc)
ends-between (in_use j n f fs h) e = never (cc)
ends-between (closed p fs h) e = never (cc)
ends-between (past p fs h) e = never (cc)
ends-between (after_content c h) e = never (cc)
