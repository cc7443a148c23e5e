-- The place at which the machine stops is the place at which the text departs from the grammar.
use Rattle.std.specs.Prelude.{false, List, [], ◌∷◌, ◌≡◌, refl, ℕ, suc, ◌+◌, length}
use Rattle.std.proofs.Common.{arith}
use Rattle.schema_laws.specs.Machine.{schema-dead}
use Rattle.schema_laws.specs.reading.Complete.{schema-complete, keyword-path}
use Rattle.schema_laws.specs.reading.Runs.{path-final}
use Rattle.schema_laws.specs.reading.Sound.{Invariant, goes-invariant, schema-sound}
use Rattle.schema_laws.specs.reading.Steps.{Spelling, in-element, in-empty, in-pcdata, Due, due-first, due-next, at_name, at-closed, Over, unmarked, at-past, Finished, at-model, at-content, Goes, begin-declaration, keyword-blank, begin-name, name-blank, begin-empty, close-pcdata, begin-use, over-close, finish, Live, dies, goes, live, goes_step}
use Rattle.schema_spec.specs.Conditions.{Grammatical}
use Rattle.schema_spec.specs.Declarations.{Use}
use Rattle.schema_spec.specs.Grammar.{SchemaText}
use Rattle.schema_spec.specs.Machine.{Frame, Opening, Head, State, dead, between, in_keyword, after_keyword, before_name, in_name, before_content, in_empty, after_open, in_pcdata, after_pcdata, expecting, in_use, closed, past, after_content, is_dead, schema_machine, parse}
use Rattle.schema_spec.specs.Models.{Particle, Content}
use Rattle.text_laws.specs.Departures.{Recognises, Completion, completion-after, Completable, parse-departs, departs-parse}
use Rattle.text_laws.specs.Tests.{never}
use Rattle.text_spec.specs.Lists.{bytes}
use Rattle.text_spec.specs.Machines.{departs}
use Rattle.text_spec.specs.Texts.{Departs}

-- Every state that is reached can go on to an end after a declaration.
on : {q r : State} {k b : ℕ} → Goes q k b r → Completion schema_machine r (suc k) → Completion schema_machine q k
on {b} g c = completion-after (b ∷ []) (goes_step g) (omega arith) c

finished-completable : {q : State} {c : Content Use} {h : Head} {k : ℕ} → Finished q c h → Completion schema_machine q k
finished-completable v = on (finish v) (record { rest = []; result = _; ends = refl })

-- each open group is closed
over-completable : {q : State} {p : Particle Use} (fs : List Frame) {h : Head} {k : ℕ} → Over q p fs h → Completion schema_machine q k
over-completable [] v = finished-completable (at-model v)
over-completable (f ∷ fs) v = on (over-close v) (over-completable fs (unmarked at-closed))

due-completable : {q : State} {f : Frame} {fs : List Frame} {h : Head} {k : ℕ} → Due q f fs h → Completion schema_machine q k
due-completable {f} {fs} v = on (begin-use {b = 0x61} v tt) (over-completable (f ∷ fs) (unmarked at_name))

spelling-completable : {q z : State} {c k : ℕ} (w : List ℕ) → Spelling q (c ∷ w) z → Completion schema_machine z (suc (k + length w)) → Completion schema_machine q k
spelling-completable {c = b} {k = k} w s c = completion-after (b ∷ w) (path-final (keyword-path w k s)) (omega arith) c

content-completable : {h : Head} {k : ℕ} → Completion schema_machine (before_content h) k
content-completable = on begin-empty (spelling-completable (bytes "PTY") in-empty (finished-completable at-content))

name-completable : {o : Opening} {k : ℕ} → Completion schema_machine (before_name o) k
name-completable = on (begin-name {b = 0x61} tt) (on (name-blank {b = 0x20} tt) content-completable)

pcdata-completable : {h : Head} {k : ℕ} → Completion schema_machine (after_pcdata h) k
pcdata-completable = on close-pcdata (finished-completable at-content)

keyword-completable : {o : Opening} {k : ℕ} → Completion schema_machine (after_keyword o) k
keyword-completable = on (keyword-blank {b = 0x20} tt) name-completable

completable : (q : State) (k : ℕ) → Invariant q → is_dead q ≡ false → Completion schema_machine q k
completable dead k s l = never (cc)
completable (between ds) k s l = on begin-declaration (spelling-completable (bytes "ELEMENT") in-element keyword-completable)
completable (in_keyword [] o) k s l = absurd s
completable (in_keyword (c ∷ w) o) k s l = spelling-completable w in-element keyword-completable
completable (after_keyword o) k s l = keyword-completable
completable (before_name o) k s l = name-completable
completable (in_name j n o) k s l = on (name-blank {b = 0x20} tt) content-completable
completable (before_content h) k s l = content-completable
completable (in_empty [] h) k s l = absurd s
completable (in_empty (c ∷ w) h) k s l = spelling-completable w in-empty (finished-completable at-content)
completable (after_open h) k s l = due-completable due-first
completable (in_pcdata [] h) k s l = absurd s
completable (in_pcdata (c ∷ w) h) k s l = spelling-completable w in-pcdata pcdata-completable
completable (after_pcdata h) k s l = pcdata-completable
completable (expecting f fs h) k s l = due-completable due-next
completable (in_use j n f fs h) k s l = over-completable (f ∷ fs) (unmarked at_name)
completable (closed p fs h) k s l = over-completable fs (unmarked at-closed)
completable (past p fs h) k s l = over-completable fs at-past
completable (after_content c h) k s l = finished-completable at-content

live-invariant : {q : State} {k b : ℕ} {r : State} → Live q k b r → Invariant q → Invariant r
live-invariant dies s = tt
live-invariant (goes g) s = goes-invariant g s

schema-completable : Completable schema_machine Invariant
schema-completable = record { starts = tt; steps = λ q k b s. live-invariant (live q k b) s; completes = completable }

schema-recognised : Recognises schema_machine SchemaText
unfolding parse
schema-recognised = record { complete = λ text ds m. schema-complete m; sound = schema-sound }

-- Where a text is turned back by the machine it departs from the grammar, ..
pub schema-departs : (text : List ℕ) (k : ℕ) → parse text ≡ departs k → Departs Grammatical text k
unfolding parse
schema-departs = parse-departs schema-dead schema-recognised schema-completable

-- .. and where it departs it is turned back.
pub departs-schema : (text : List ℕ) (k : ℕ) → Departs Grammatical text k → parse text ≡ departs k
unfolding parse
departs-schema = departs-parse schema-dead schema-recognised schema-completable
