-- Modes and events by numbers: what each number stands for, and what the enums make of it.
use Rattle.std.specs.Prelude.{cond, List, [], ◌∷◌, ◌≡◌, refl, ℕ, zero, suc, ◌-◌, ◌≤◌, eqb, get_or}
use Rattle.std.proofs.Common.{arith}
use Rattle.journal_lexer.specs.declared.entities.EntityRest.{EntityRest}
use Rattle.journal_lexer.specs.declared.state.Event.{Event as CodeEvent}
use Rattle.journal_lexer.specs.declared.state.Event.TheVariants.{Quiet, Starts, Empties, Ends, Runs}
use Rattle.journal_lexer.specs.declared.state.Lex.{Lex}
use Rattle.journal_lexer.specs.declared.state.Mode.{Mode as CodeMode}
use Rattle.journal_lexer.specs.declared.state.Mode.TheVariants.{Between, Blanks, Solid, AfterBracket, AfterBrackets, InEntity, Opened, InName, AfterName, AfterSlash, Ending, InEndName, AfterEndName, Stopped}
use Rattle.journal_lexer.specs.declared.state.Places.{Places}
use Rattle.journal_lexer.specs.state.Relation.{Means, Tells, Meant, Steps}
use Rattle.text.specs.declared.name_words.Name.{Name}
use Rattle.token_spec.specs.Lexer.{Mode, Event, lex}

-- the modes by their numbers
pub data State : Type 0 where
  at_between in_blanks in_solid past_bracket past_brackets at_entity at_opened at_name past_name past_slash at_ending at_end_name past_end_name at_stop no_state : State

abbrev pub state_of : ℕ → State
state_of mode =
    get_or
    (at_between ∷ in_blanks ∷ in_solid ∷ past_bracket ∷ past_brackets ∷ at_entity ∷ at_opened ∷ at_name ∷ past_name ∷ past_slash ∷ at_ending ∷ at_end_name ∷ past_end_name ∷ at_stop ∷ [])
    mode no_state

-- a mode of a number stands for one of the definition's; past the last number none does
abbrev pub MeansState : State → Name → ℕ → EntityRest → Places → Mode → Type 0
MeansState at_between w k x p m = Means Between w k x p m
MeansState in_blanks w k x p m = Means Blanks w k x p m
MeansState in_solid w k x p m = Means Solid w k x p m
MeansState past_bracket w k x p m = Means AfterBracket w k x p m
MeansState past_brackets w k x p m = Means AfterBrackets w k x p m
MeansState at_entity w k x p m = Means InEntity w k x p m
MeansState at_opened w k x p m = Means Opened w k x p m
MeansState at_name w k x p m = Means InName w k x p m
MeansState past_name w k x p m = Means AfterName w k x p m
MeansState past_slash w k x p m = Means AfterSlash w k x p m
MeansState at_ending w k x p m = Means Ending w k x p m
MeansState at_end_name w k x p m = Means InEndName w k x p m
MeansState past_end_name w k x p m = Means AfterEndName w k x p m
MeansState at_stop w k x p m = Means Stopped w k x p m
MeansState no_state w k x p m = ⊥

-- the events by their numbers
pub data Report : Type 0 where
  nothing start_tag empty_tag end_tag whole_run no_report : Report

abbrev pub report_of : ℕ → Report
report_of event = get_or (nothing ∷ start_tag ∷ empty_tag ∷ end_tag ∷ whole_run ∷ []) event no_report

abbrev pub TellsReport : Report → Name → Places → Event → Type 0
TellsReport nothing w p e = Tells Quiet w p e
TellsReport start_tag w p e = Tells Starts w p e
TellsReport empty_tag w p e = Tells Empties w p e
TellsReport end_tag w p e = Tells Ends w p e
TellsReport whole_run w p e = Tells Runs w p e
TellsReport no_report w p e = ⊥

-- ---- the enums: past the last number a mode reads as the last, and an event as a start tag
abbrev pub mode_of : ℕ → CodeMode
mode_of n =
    cond (eqb n 0) Between
    (cond (eqb n 1) Blanks
    (cond (eqb n 2) Solid
    (cond (eqb n 3) AfterBracket
    (cond (eqb n 4) AfterBrackets
    (cond (eqb n 5) InEntity
    (cond (eqb n 6) Opened
    (cond (eqb n 7) InName
    (cond (eqb n 8) AfterName
    (cond (eqb n 9) AfterSlash
    (cond (eqb n 10) Ending
    (cond (eqb n 11) InEndName
    (cond (eqb n 12) AfterEndName Stopped))))))))))))

abbrev pub event_of : ℕ → CodeEvent
event_of n = cond (eqb n 0) Quiet (cond (eqb n 2) Empties (cond (eqb n 3) Ends (cond (eqb n 4) Runs Starts)))

-- what a number stands for, so does its mode
abbrev pub ModeMeans : ℕ → CodeMode → Type 0
ModeMeans n mode = (w : Name) (k : ℕ) (x : EntityRest) (p : Places) (m : Mode) → MeansState (state_of n) w k x p m → Means mode w k x p m

pub mode-means : (n : ℕ) → ModeMeans n (mode_of n)
mode-means zero w k x p m h = h
mode-means (suc zero) w k x p m h = h
mode-means (suc (suc zero)) w k x p m h = h
mode-means (suc (suc (suc zero))) w k x p m h = h
mode-means (suc (suc (suc (suc zero)))) w k x p m h = h
mode-means (suc (suc (suc (suc (suc zero))))) w k x p m h = h
mode-means (suc (suc (suc (suc (suc (suc zero)))))) w k x p m h = h
mode-means (suc (suc (suc (suc (suc (suc (suc zero))))))) w k x p m h = h
mode-means (suc (suc (suc (suc (suc (suc (suc (suc zero)))))))) w k x p m h = h
mode-means (suc (suc (suc (suc (suc (suc (suc (suc (suc zero))))))))) w k x p m h = h
mode-means (suc (suc (suc (suc (suc (suc (suc (suc (suc (suc zero)))))))))) w k x p m h = h
mode-means (suc (suc (suc (suc (suc (suc (suc (suc (suc (suc (suc zero))))))))))) w k x p m h = h
mode-means (suc (suc (suc (suc (suc (suc (suc (suc (suc (suc (suc (suc zero)))))))))))) w k x p m h = h
mode-means (suc (suc (suc (suc (suc (suc (suc (suc (suc (suc (suc (suc (suc zero))))))))))))) w k x p m h = h
mode-means (suc (suc (suc (suc (suc (suc (suc (suc (suc (suc (suc (suc (suc (suc n)))))))))))))) w k x p m h = absurd h

-- what a number tells, so does its event
abbrev pub EventTells : ℕ → CodeEvent → Type 0
EventTells n event = (w : Name) (p : Places) (e : Event) → TellsReport (report_of n) w p e → Tells event w p e

pub event-tells : (n : ℕ) → EventTells n (event_of n)
event-tells zero w p e h = h
event-tells (suc zero) w p e h = h
event-tells (suc (suc zero)) w p e h = h
event-tells (suc (suc (suc zero))) w p e h = h
event-tells (suc (suc (suc (suc zero)))) w p e h = h
event-tells (suc (suc (suc (suc (suc n))))) w p e h = absurd h

-- The contract of a byte function, by the number of its mode.
pub record StepsBy (mode : ℕ) (l : Lex) (p : Places) (b : ℕ) (r : Lex) (q : Places) : Type 0 where
  pub meant : (m : Mode) → MeansState (state_of mode) l.name l.count l.rest p m → Meant l p b r q (lex m l.place b)

pub steps-by-number : {l : Lex} {p : Places} {b : ℕ} {r : Lex} {q : Places} (mode : ℕ) → Steps (mode_of mode) l p b r q → StepsBy mode l p b r q
steps-by-number {l} {p} mode s = record { meant = λ m w. s.meant m (mode-means mode l.name l.count l.rest p m w) }

-- the last mode: no state has a greater number
pub steps-last : {l : Lex} {p : Places} {b : ℕ} {r : Lex} {q : Places} (mode : ℕ) → 13 ≤ mode → StepsBy 13 l p b r q → StepsBy mode l p b r q
steps-last zero h s = absurd (omega arith)
steps-last (suc zero) h s = absurd (omega arith)
steps-last (suc (suc zero)) h s = absurd (omega arith)
steps-last (suc (suc (suc zero))) h s = absurd (omega arith)
steps-last (suc (suc (suc (suc zero)))) h s = absurd (omega arith)
steps-last (suc (suc (suc (suc (suc zero))))) h s = absurd (omega arith)
steps-last (suc (suc (suc (suc (suc (suc zero)))))) h s = absurd (omega arith)
steps-last (suc (suc (suc (suc (suc (suc (suc zero))))))) h s = absurd (omega arith)
steps-last (suc (suc (suc (suc (suc (suc (suc (suc zero)))))))) h s = absurd (omega arith)
steps-last (suc (suc (suc (suc (suc (suc (suc (suc (suc zero))))))))) h s = absurd (omega arith)
steps-last (suc (suc (suc (suc (suc (suc (suc (suc (suc (suc zero)))))))))) h s = absurd (omega arith)
steps-last (suc (suc (suc (suc (suc (suc (suc (suc (suc (suc (suc zero))))))))))) h s = absurd (omega arith)
steps-last (suc (suc (suc (suc (suc (suc (suc (suc (suc (suc (suc (suc zero)))))))))))) h s = absurd (omega arith)
steps-last (suc (suc (suc (suc (suc (suc (suc (suc (suc (suc (suc (suc (suc zero))))))))))))) h s = s
steps-last (suc (suc (suc (suc (suc (suc (suc (suc (suc (suc (suc (suc (suc (suc mode)))))))))))))) h s = record { meant = λ m w. absurd w }
