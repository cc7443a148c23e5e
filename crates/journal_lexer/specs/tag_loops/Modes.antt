-- The modes that loops over tags read in.
use Rattle.std.specs.Prelude.{⊤, ◌≡◌}
use Rattle.std.proofs.Math.Path.{subst}
use Rattle.journal_lexer.specs.declared.state.Mode.{Mode}
use Rattle.journal_lexer.specs.declared.state.Mode.TheVariants.{Between, Blanks, Solid, Opened, InName, Ending, InEndName}
use Rattle.journal_lexer.specs.loop_laws.Advance.{Lasting, only, either}

-- the modes that no loop of their own reads
abbrev pub RareMode : Mode → Type 0
RareMode Between = ⊥
RareMode Blanks = ⊥
RareMode Solid = ⊥
RareMode Opened = ⊥
RareMode m = ⊤

abbrev pub TagMode : Mode → Type 0
TagMode = either (only Opened) (either (only Ending) (either (only InName) (either (only InEndName) RareMode)))

pub rare-lasts : (m : Mode) → RareMode m → Lasting m
rare-lasts m r = record { not_between = λ e. subst RareMode e r; not_opened = λ e. subst RareMode e r }

-- a mode that is not rare
pub rare-not : (mode x : Mode) → RareMode mode → (RareMode x → ⊥) → mode ≡ x → ⊥
rare-not mode x r n e = n (subst RareMode e r)
