-- What may still come of an entity: the states of the automaton of all entities.
use Rattle.std.specs.Prelude.{cond, List, [], ◌∷◌, map, ℕ, eqb, drop}
use Rattle.std.specs.Prelude.{Option, Some, None}
use Rattle.journal_lexer.specs.declared.entities.EntityRest.{EntityRest}
use Rattle.journal_lexer.specs.declared.entities.EntityRest.TheVariants.{All, ThenT, ThenSemicolon, ThenMpOrPos, ThenP, ThenOs, ThenS, ThenUot, ThenOt, Ended}
use Rattle.text_spec.specs.Lists.{bytes}
use Rattle.token_spec.specs.Tokens.{entities}

abbrev pub rests_of : EntityRest → List (List ℕ)
rests_of All = map (drop 1) entities
rests_of ThenT = bytes "t;" ∷ []
rests_of ThenSemicolon = bytes ";" ∷ []
rests_of ThenMpOrPos = bytes "mp;" ∷ bytes "pos;" ∷ []
rests_of ThenP = bytes "p;" ∷ []
rests_of ThenOs = bytes "os;" ∷ []
rests_of ThenS = bytes "s;" ∷ []
rests_of ThenUot = bytes "uot;" ∷ []
rests_of ThenOt = bytes "ot;" ∷ []
rests_of Ended = [] ∷ []

abbrev pub after_ampersand : ℕ → Option EntityRest
after_ampersand b = cond (eqb b 108) (Some ThenT) (cond (eqb b 103) (Some ThenT) (cond (eqb b 97) (Some ThenMpOrPos) (cond (eqb b 113) (Some ThenUot) None)))

abbrev pub after_a : ℕ → Option EntityRest
after_a b = cond (eqb b 109) (Some ThenP) (cond (eqb b 112) (Some ThenOs) None)

abbrev pub only_by : ℕ → ℕ → EntityRest → Option EntityRest
only_by b expected next = cond (eqb b expected) (Some next) None

-- what may still come after one byte more; none where the byte cannot
abbrev pub rest_after : EntityRest → ℕ → Option EntityRest
rest_after All b = after_ampersand b
rest_after ThenT b = only_by b 116 ThenSemicolon
rest_after ThenSemicolon b = only_by b 59 Ended
rest_after ThenMpOrPos b = after_a b
rest_after ThenP b = only_by b 112 ThenSemicolon
rest_after ThenOs b = only_by b 111 ThenS
rest_after ThenS b = only_by b 115 ThenSemicolon
rest_after ThenUot b = only_by b 117 ThenOt
rest_after ThenOt b = only_by b 111 ThenT
rest_after Ended b = None
