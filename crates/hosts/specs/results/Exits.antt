-- The outcome of a host function: its result as numbers, and what it leaves in the lent columns and cells.
use Rattle.std.specs.Prelude.{List, [], ◌≡◌, ℕ, Ok, Err, length}
use Rattle.std.specs.Prelude as rust
use Rattle.std.proofs.Common.{sym, ap, subst}
use Rattle.cells.specs.lent.Ends.{Slice, entry_columns, exit_columns}
use Rattle.hosts.specs.declared.results.Answered.{Answered}
use Rattle.hosts.specs.declared.results.HostResult.{HostResult}
use Rattle.library_spec.specs.Calls.{columns_after}
use Rattle.library_spec.specs.Hosts.{HostAnswer, Lent, Result, result_of}
use Rattle.table_spec.specs.Columns.{Columns, columns_of, sizes_of}
use Rattle.text.specs.declared.refusals.Refusal as program
use Rattle.text.specs.refusals.Refusals.{reason_in}
use Rattle.text_spec.specs.Calls.{cells_after}
use Rattle.text_spec.specs.Cells.{padded}
use Rattle.text_spec.specs.Refusals.{Refusal, Outcome, accepted, refused, number_of}

-- ---- definitions
-- a refusal by its number and its place
abbrev pub refused_by : ℕ → ℕ → HostResult
refused_by number place = record { number = number; place = place; rows = 0; items = 0; counts = 0 }

abbrev pub answered_of : ℕ → ℕ → ℕ → HostResult
answered_of rows items counts = record { number = 0; place = 0; rows = rows; items = items; counts = counts }

-- what goes out for an answer
abbrev pub result_for : rust.Result Answered program.Refusal → HostResult
result_for (Ok a) = answered_of a.rows a.items a.counts
result_for (Err f) = refused_by (number_of (reason_in f.reason)) f.place

-- how much an answer answers
abbrev pub answered_in : HostAnswer → Answered
answered_in a = record { rows = length a.rows; items = length a.items; counts = length a.counts }

-- the numbers that the definition speaks of
abbrev pub result_in : HostResult → Result
result_in r = record { number = r.number; place = r.place; rows = r.rows; items = r.items; counts = r.counts }

-- how much is lent
abbrev pub lent_of : Columns → List ℕ → List ℕ → Lent
lent_of c items counts = record { columns = sizes_of c; items = length items; counts = length counts }

-- an outcome goes out so, where so much is lent
pub record Exits (o : Outcome HostAnswer) (l : Lent) (r : HostResult) (columns : Columns) (items counts : List ℕ) : Type 0 where
  pub result : result_in r ≡ result_of o
  pub columns-are : columns ≡ columns_after l.columns (λ a. a.rows) o
  pub items-are : items ≡ cells_after l.items (λ a. a.items) o
  pub counts-are : counts ≡ cells_after l.counts (λ a. a.counts) o

-- the same of lent slices: for a call that makes an extract, with its bytes as items and no counts, and for one that selects
abbrev pub MakingExits : (Lent → Outcome HostAnswer) → HostResult → Slice → Slice → Slice → Slice → Slice → Slice → Slice → Type 0
MakingExits call r numbers names parents starts lengths decoded out =
    let l = lent_of (entry_columns numbers names parents starts lengths decoded) out.entry.now [] in
    Exits (call l) l r (exit_columns numbers names parents starts lengths decoded) out.exit.now []

abbrev pub SelectingExits : (Lent → Outcome HostAnswer) → HostResult → Slice → Slice → Slice → Slice → Slice → Slice → Slice → Slice → Type 0
SelectingExits call r numbers names parents starts lengths decoded items counts =
    let l = lent_of (entry_columns numbers names parents starts lengths decoded) items.entry.now counts.entry.now in
    Exits (call l) l r (exit_columns numbers names parents starts lengths decoded) items.exit.now counts.exit.now

-- a refusal goes out so: every lent cell is 0
pub record RefusedExit (f : Refusal) (l : Lent) (r : HostResult) (columns : Columns) (items counts : List ℕ) : Type 0 where
  pub result : r ≡ refused_by (number_of f.reason) f.place
  pub columns-are : columns ≡ columns_of l.columns []
  pub items-are : items ≡ padded l.items []
  pub counts-are : counts ≡ padded l.counts []

-- ---- laws
pub same-exit : {o p : Outcome HostAnswer} {l : Lent} {r : HostResult} {columns : Columns} {items counts : List ℕ} → p ≡ o → Exits o l r columns items counts → Exits p l r columns items counts
same-exit {l = l} {r = r} {columns = columns} {items = items} {counts = counts} e h = subst (λ (x : Outcome HostAnswer). Exits x l r columns items counts) (sym e) h

pub refused-exit : (f : Refusal) {l : Lent} {r : HostResult} {columns : Columns} {items counts : List ℕ} → RefusedExit f l r columns items counts → Exits (refused f) l r columns items counts
unfolding result_of columns_after
refused-exit f h = record { result = ap result_in h.result; columns-are = h.columns-are; items-are = h.items-are; counts-are = h.counts-are }

pub answered-exit : (a : HostAnswer) {l : Lent} {r : HostResult} {columns : Columns} {items counts : List ℕ} → r ≡ answered_of (length a.rows) (length a.items) (length a.counts)
    → columns ≡ columns_of l.columns a.rows → items ≡ padded l.items a.items → counts ≡ padded l.counts a.counts
    → Exits (accepted a) l r columns items counts
unfolding result_of columns_after
answered-exit a e c i n = record { result = ap result_in e; columns-are = c; items-are = i; counts-are = n }
