-- An answer with a table, as a call hands it back: the machine values of its two parts. The verdict is how many rows there are, or a refusal.
use Rattle.std.specs.Prelude.{[], ◌∷◌, ◌≡◌}
use Rattle.std.proofs.Common.{refl, ap, subst}
use denote.Builtin.{usize}
use denote.Laws.{Is}
use denote.Param.Laws.{Laws, Told, of_field, field_told}
use denote.Param.Shared.{copy_shared}
use denote.RattleType.{RattleType}
use denote.Steps.{only}
use denote.Struct.Field.{usize-field}
use denote.Struct.Laws.{usize-laws, usize-copy}
use denote.Struct.Tuple.{Tuple, tuple_lowers}
use mir.Val.{Val, of_list, vstruct}
use Rattle.std.specs.contracts.result.Result as Result
use Rattle.std.proofs.result.Result.TheLaws as Result'
use Rattle.row_structs.specs.contracts.RowColumns as Columns
use Rattle.row_structs.proofs.RowColumns.TheLaws as Columns'
use Rattle.text.specs.contracts.refusals.Refusal as Refusal
use Rattle.text.proofs.refusals.Refusal.TheLaws as Refusal'

-- `Result<usize, Refusal>`, and the pair of it and of columns
abbrev pub Verdict : RattleType
Verdict = Result.the_row usize Refusal.the_row

abbrev pub Table : RattleType
Table = Tuple (Verdict ∷ Columns.the_row ∷ [])

usize_laws : Laws usize
usize_laws = of_field usize-field usize-laws refl (copy_shared usize-field usize-copy)

abbrev verdict_laws : Laws Verdict
verdict_laws = Result'.the_row_laws usize Refusal.the_row usize_laws Refusal'.the_row_laws

abbrev verdict_told : Told Verdict
verdict_told = Result'.the_told usize Refusal.the_row usize_laws Refusal'.the_row_laws (field_told usize-field usize-laws) Refusal'.the_told

pub record Parts (t : Table.Denot) (v : Val) : Type 0 where
  pub verdict-val : Val
  pub columns-val : Val
  pub whole_is : v ≡ vstruct (of_list (verdict-val ∷ columns-val ∷ []))
  pub verdict-is : Is Verdict t.0 (verdict-val ∷ [])
  pub columns-are : Is Columns.the_row t.1 (columns-val ∷ [])

pub parts : (t : Table.Denot) (v : Val) → Is Table t (v ∷ []) → Parts t v
parts t v is =
    record {
      verdict-val = verdict_told.val t.0;
      columns-val = Columns'.the_told.val t.1;
      whole_is = ap only ((tuple_lowers (Verdict ∷ Columns.the_row ∷ []) (verdict_laws, (Columns'.the_row_laws, tt)) (verdict_told, (Columns'.the_told, tt))).val_is t (v ∷ []) is);
      verdict-is = subst (Is Verdict t.0) (verdict_told.tells t.0 is.0.0 is.1.1.0) is.1.1.0;
      columns-are = subst (Is Columns.the_row t.1) (Columns'.the_told.tells t.1 is.0.1.0 is.1.1.1.0) is.1.1.1.0;
    }
