-- Document 02, R-2: "In an extract a text field carries the decoded characters". Each text of an extract is the text that its node has in the journal, decoded.
use Rattle.std.specs.Prelude.{Bool, true, false, cond, ◌≡◌, refl, ℕ, T}
use mathlib.Core.List.Memᴰ.{head as here}
use mathlib.Core.List.Memᴰ.{tail as there}
use mathlib.Core.List.{List, [], ◌∷◌, ◌++◌, Memᴰ as In}
use Rattle.std.proofs.Common.{sym, subst, ◌∙◌, eqb→eq}
use Rattle.extract_spec.specs.Conditions.{SameTables, no_rows, next_row}
use Rattle.extract_spec.specs.Cut.{kept, renumbered, cut_from, cut}
use Rattle.extract_spec.specs.Fields.{field_of, write_extract, extract_rows}
use Rattle.journal_laws.specs.TreeNodes.{accepted-well-formed, accepted-decoded}
use Rattle.journal_spec.specs.Reading.{read_journal}
use Rattle.projection_laws.specs.Cutting.{cut-well-formed-with}
use Rattle.projection_laws.specs.Moved.{is_copied, rows-copied}
use Rattle.projection_laws.specs.RoundTrip.{extract-same-tables}
use Rattle.schema_spec.specs.Names.{Names}
use Rattle.schema_spec.specs.Schemas.{Schema}
use Rattle.schema_spec.specs.Types.{types_of}
use Rattle.table_laws.specs.Characters.{copied-characters}
use Rattle.table_spec.specs.Nodes.{Node, node_at}
use Rattle.table_spec.specs.Rows.{Row, text_of, characters_of, with_parent}
use Rattle.text_laws.specs.Tests.{and_cases}
use Rattle.text_spec.specs.Lists.{all_of}
use Rattle.text_spec.specs.Refusals.{accepted}
use Rattle.token_spec.specs.Characters.{decode}

-- two tables, each with its text, row by row: the second has the texts of the first, decoded (an element has none)
pub data TextsDecoded (lent lent' : List ℕ) : List Row → List Row → Type 0 where
  no-texts : TextsDecoded lent lent' [] []
  next-text : {q r : Row} {qs rs : List Row} → text_of lent' r ≡ decode (text_of lent q) → TextsDecoded lent lent' qs rs → TextsDecoded lent lent' (q ∷ qs) (r ∷ rs)

-- what holds of each row, whatever its parent, holds of each row of a cut
module _ (P : Row → Type 0) (other-parent : (r : Row) (k : ℕ) → P r → P (with_parent k r)) where
  cut-each : (set : Names) (before : List Node) (rs : List Row) → ((r : Row) → In r rs → P r) → (r : Row) → In r (cut_from set before rs) → P r
  cut-each set before [] h r i = elim i [ ]
  cut-each set before (q ∷ rs) h r i =
      pick (kept set (node_at [] before q)) i (cut-each set (before ++ (node_at [] before q ∷ [])) rs (λ x j. h x (there j)) r)
    where
      rest : List Row
      rest = cut_from set (before ++ (node_at [] before q ∷ [])) rs

      pick : (b : Bool) → In r (cond b (renumbered set before q ∷ rest) rest) → (In r rest → P r) → P r
      pick true (here e) later = subst P (sym e) (other-parent q _ (h q (here refl)))
      pick true (there j) later = later j
      pick false j later = later j

texts-decoded : {lent lent' : List ℕ} {qs rs : List Row} → SameTables lent lent' qs rs → T (all_of is_copied rs) → ((q : Row) → In q qs → characters_of lent q ≡ decode (text_of lent q))
    → TextsDecoded lent lent' qs rs
texts-decoded no_rows t h = no-texts
texts-decoded {lent} {lent'} (next_row {q = q} {r = r} {rs = rs} c w more) t h =
    let u = and_cases (is_copied r) (all_of is_copied rs) t in
    next-text (sym (copied-characters lent' r (eqb→eq r.decoded r.size u.0)) ∙ sym w ∙ h q (here refl)) (texts-decoded more u.1 (λ x i. h x (there i)))

-- The extract of an accepted journal's rows, cut to any set.
pub extract-texts-decoded : (limit : ℕ) (s : Schema) (journal : List ℕ) (rows : List Row) → read_journal limit s journal ≡ accepted rows → (set : Names)
    → TextsDecoded journal (write_extract journal (cut set rows)) (cut set rows) (extract_rows journal (cut set rows))
unfolding cut extract_rows
extract-texts-decoded limit s journal rows e set =
    texts-decoded (extract-same-tables (types_of s) journal (cut set rows) (cut-well-formed-with (types_of s) set journal rows (accepted-well-formed limit s journal rows e)))
    (rows-copied (field_of journal (cut set rows)) 0 (cut set rows))
    (cut-each (λ r. characters_of journal r ≡ decode (text_of journal r)) (λ r k h. h) set [] rows (accepted-decoded limit s journal rows e))
