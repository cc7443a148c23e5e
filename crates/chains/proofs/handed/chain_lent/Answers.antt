-- `chain_lent` meets its contract: the table and the position, the chain.
use Rattle.std.proofs.Common.{arith, refl, ⊎_elim, ◌≡◌, sym, ◌∙◌, length}
use Rattle.chains.specs.handed.Answers.{MadeFor, refused-1, no_table, no_row, first-asked, chain-pass, chain-answered}
use Rattle.compiled_schema.specs.held_words.Words.{words-held}
use Rattle.library_spec.specs.Records.{LentTable}
use Rattle.schema_laws.specs.Accepted.{schema_in-length}
use Rattle.schema_spec.specs.Records.{schema_in}
use Rattle.schema_spec.specs.Schemas.{Schema}
use Rattle.tables.specs.Handed.{read_table, is_held}
use Rattle.text_laws.specs.Cells.{padded-zeros}
use Rattle.chains.proofs.handed.chain_lent.Goals.{After-is_table, After-first}
use Rattle.chains.proofs.handed.chain_lent.Goals as goal

-- the schema and the table that are handed in, and what their test tells
abbrev schema : After-is_table → Schema
schema c = schema_in c.args.text.now

abbrev given : After-is_table → LentTable
given c = read_table c.args.table.now c.args.count

told : (c : After-is_table) → c.is_table.result ≡ is_held (schema c) (given c)
told c = c.is_table.ensures.held (schema c) (words-held (schema c) (schema_in-length _) _ c.compile-compiled.ensures.held _ c.held_words-words.ensures)

pub returns-then-not-is_table : goal.returns-then-not-is_table
returns-then-not-is_table c =
    let asked = (goal.at.returns-then-not-is_table c).After-is_table in
    let none = ⊎_elim
    (λ e. no_table (schema asked) (given asked) c.args.position (length c.args.out.now) (sym (told asked) ∙ e))
    (λ e. no_row (schema asked) (given asked) c.args.position (length c.args.out.now) (sym (told asked) ∙ e.0) e.1) c.then-not-is_table.either in
    rw c.of.ensures (refused-1 none refl (c.fill.ensures.after (λ y e. e) ∙ sym (padded-zeros _)))

pub first-requires-clause-equal : goal.first-requires-clause-equal
first-requires-clause-equal c =
    let asked = (goal.at.first-requires-clause-equal c).After-is_table in
    (first-asked (schema asked) (given asked) c.args.position 0 (sym (told asked) ∙ c.if-not-is_table.false)).0

pub first-requires-clause-room : goal.first-requires-clause-room
first-requires-clause-room c =
    let asked = (goal.at.first-requires-clause-room c).After-is_table in
    (first-asked (schema asked) (given asked) c.args.position 0 (sym (told asked) ∙ c.if-not-is_table.false)).1

made : (c : After-first) → MadeFor c.args.text.now c.compile-compiled.result.names (read_table c.args.table.now c.args.count) c.of-names.result c.first.result
made c = record { text-is = c.of-names.ensures.text; starts-are = c.of-names.ensures.starts; sizes-are = c.of-names.ensures.sizes; rows-are = c.first.ensures }

pub put_chain-requires : goal.put_chain-requires
put_chain-requires c =
    let asked = (goal.at.put_chain-requires c).After-is_table in
    chain-pass (schema asked) (given asked) c.args.position 0 (sym (told asked) ∙ c.if-not-is_table.false) _ c.requires _ c.compile-compiled.ensures
    (omega (arith, c.if-count-position.false)) (made (goal.at.put_chain-requires c).After-first)

pub returns : goal.returns
returns c =
    let asked = (goal.at.returns c).After-is_table in
    chain-answered (schema asked) (given asked) c.args.position (length c.args.out.now) (sym (told asked) ∙ c.if-not-is_table.false) _ c.requires _ c.compile-compiled.ensures
    (omega (arith, c.if-count-position.false)) (made (goal.at.returns c).After-first) _ _ c.put_chain.ensures
