-- What a host function has settled before its answer goes out by value: the answer, and what the cells hold, on refusal zeros alone.
use Rattle.std.specs.Prelude.{List, [], ◌≡◌, refl, ℕ, Err, Ok, length}
use Rattle.std.specs.Prelude as rust
use Rattle.std.proofs.Common.{sym, ap, subst, ◌∙◌}
use Rattle.hosts.specs.declared.results.Answered.{Answered}
use Rattle.hosts.specs.results.Exits.{lent_of, refused_by, result_in, result_for, answered_in, Exits, same-exit, refused-exit}
use Rattle.library_spec.specs.Calls.{columns_after}
use Rattle.library_spec.specs.Hosts.{HostAnswer, Lent, result_of}
use Rattle.table_spec.specs.Columns.{Columns, columns_of}
use Rattle.text.specs.declared.refusals.Refusal as program
use Rattle.text.specs.refusals.Refusals.{refusal_in, refusal_as-in, answer_by, reason_in-as}
use Rattle.text_spec.specs.Calls.{cells_after}
use Rattle.text_spec.specs.Cells.{padded}
use Rattle.text_spec.specs.Refusals.{Reason, number_of, Outcome, accepted, refused}

-- ---- definitions
-- the answer of a call whose outcome is o, and the cells
pub record Settled (o : Outcome HostAnswer) (l : Lent) (r : rust.Result Answered program.Refusal) (columns : Columns) (items counts : List ℕ) : Type 0 where
  pub answer : r ≡ answer_by answered_in o
  pub columns-are : columns ≡ columns_after l.columns (λ a. a.rows) o
  pub items-are : items ≡ cells_after l.items (λ a. a.items) o
  pub counts-are : counts ≡ cells_after l.counts (λ a. a.counts) o

-- a call that makes an extract, with its bytes as items and no counts, and one that selects
abbrev pub MakingSettled : (Lent → Outcome HostAnswer) → Columns → List ℕ → rust.Result Answered program.Refusal → Columns → List ℕ → Type 0
MakingSettled call c out r d out' = Settled (call (lent_of c out [])) (lent_of c out []) r d out' []

abbrev pub SelectingSettled : (Lent → Outcome HostAnswer) → Columns → List ℕ → List ℕ → rust.Result Answered program.Refusal → Columns → List ℕ → List ℕ → Type 0
SelectingSettled call c items counts r d items' counts' = Settled (call (lent_of c items counts)) (lent_of c items counts) r d items' counts'

-- ---- laws
pub same-settled : {o p : Outcome HostAnswer} {l : Lent} {r : rust.Result Answered program.Refusal} {columns : Columns} {items counts : List ℕ} → p ≡ o
    → Settled o l r columns items counts → Settled p l r columns items counts
same-settled {l = l} {r = r} {columns = columns} {items = items} {counts = counts} e h = subst (λ (x : Outcome HostAnswer). Settled x l r columns items counts) (sym e) h

pub settled-refused : {o : Outcome HostAnswer} {l : Lent} {columns : Columns} {items counts : List ℕ} (f : program.Refusal) → o ≡ refused (refusal_in f)
    → columns ≡ columns_of l.columns [] → items ≡ padded l.items [] → counts ≡ padded l.counts [] → Settled o l (Err f) columns items counts
unfolding columns_after
settled-refused f e c i n = same-settled e (record { answer = sym (ap Err (refusal_as-in f)); columns-are = c; items-are = i; counts-are = n })

pub settled-accepted : (a : HostAnswer) {l : Lent} {columns : Columns} {items counts : List ℕ} → columns ≡ columns_of l.columns a.rows → items ≡ padded l.items a.items
    → counts ≡ padded l.counts a.counts → Settled (accepted a) l (Ok (answered_in a)) columns items counts
unfolding columns_after
settled-accepted a c i n = record { answer = refl; columns-are = c; items-are = i; counts-are = n }

-- ---- what goes out
result-out : (o : Outcome HostAnswer) → result_in (result_for (answer_by answered_in o)) ≡ result_of o
unfolding result_of
result-out (accepted a) = refl
result-out (refused f) = ap (λ (q : Reason). result_in (refused_by (number_of q) f.place)) (reason_in-as f.reason)

pub settled-out : {o : Outcome HostAnswer} {l : Lent} {r : rust.Result Answered program.Refusal} {columns : Columns} {items counts : List ℕ}
    → Settled o l r columns items counts → Exits o l (result_for r) columns items counts
settled-out {o = o} h =
    record {
      result = ap (λ (x : rust.Result Answered program.Refusal). result_in (result_for x)) h.answer ∙ result-out o;
      columns-are = h.columns-are;
      items-are = h.items-are;
      counts-are = h.counts-are;
    }

-- the same of columns that are read where they were lent
pub settled-kept : {o : Outcome HostAnswer} {l : Lent} {r : rust.Result Answered program.Refusal} {columns : Columns} {items counts : List ℕ}
    → Settled o l r columns items counts → {columns' : Columns} → columns' ≡ columns → Exits o l (result_for r) columns' items counts
settled-kept {o = o} {l = l} {r = r} {items = items} {counts = counts} h p = subst (λ (d : Columns). Exits o l (result_for r) d items counts) (sym p) (settled-out h)

-- a refusal, with every cell cleared
pub refused-out : {o : Outcome HostAnswer} {l : Lent} {columns : Columns} {items counts : List ℕ} (f : program.Refusal) → o ≡ refused (refusal_in f)
    → columns ≡ columns_of l.columns [] → items ≡ padded l.items [] → counts ≡ padded l.counts [] → Exits o l (result_for (Err f)) columns items counts
refused-out f e c i n = same-exit e (refused-exit (refusal_in f) (record { result = refl; columns-are = c; items-are = i; counts-are = n }))
